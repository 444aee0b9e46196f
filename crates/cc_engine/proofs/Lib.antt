mod AskedExamples
mod Asking
mod Begins
mod Completing
mod Examples
mod Laws
mod Offering
mod OneFinishing
mod ValuesInTurn
pub mod Cluster
pub mod Cut
pub mod Exists
pub mod Forms
pub mod WalkExamples
pub mod Way
pub mod Whole
pub mod Ascending
pub mod GatheringExamples
pub mod Filters
pub mod FirstOfIds
pub mod GatheredValues
pub mod Groups
pub mod InTurn
pub mod LastPosition
pub mod FinishingLaws
pub mod LongNames
pub mod Ranks
pub mod Rows
pub mod WordKinds
pub mod Zips
