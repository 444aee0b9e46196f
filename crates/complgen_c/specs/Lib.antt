pub mod AskedValues
pub mod Listings
pub mod Live
pub mod Outcomes
pub mod Registrations
pub mod Requests
pub mod Scripts
