pub mod Outcome
pub mod Page
pub mod Reader
pub mod Roff
pub mod Shown
