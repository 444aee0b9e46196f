mod AgreementExamples
mod ClapCases
mod Ends
mod Offers
mod Requested
mod SeenEnds
mod Together
