pub mod CommandLine
pub mod Plans
pub mod Refusals
