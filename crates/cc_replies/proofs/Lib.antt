pub mod BashReadings
pub mod Beginnings
pub mod Characters
mod CobraExamples
pub mod Cutting
mod EntryExamples
pub mod EntryReadings
mod Examples
pub mod FirstLines
pub mod FirstOfValues
pub mod GivenEntries
mod GivenExamples
pub mod InLoops
mod ListExamples
pub mod ListFits
pub mod ListReadings
pub mod ListWidths
mod Named
pub mod PowershellReadings
pub mod ReplyReadings
mod RequestExamples
mod SafeExamples
pub mod SafeReadings
pub mod StoppedLoops
pub mod Widths
