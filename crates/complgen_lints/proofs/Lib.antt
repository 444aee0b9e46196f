pub mod Left
mod PremiseExamples
pub mod PremisesFound
pub mod Steps
pub mod Taken
pub mod TextsFound
pub mod Walked
