pub mod AllScripts
pub mod Plans
pub mod Refusals
pub mod ScriptEnds
pub mod Scripts
pub mod TreeFiles
pub mod Writing
