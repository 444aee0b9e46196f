pub mod AllQuotesReading
pub mod BashReadings
pub mod ElvishReadings
mod Examples
pub mod FishReadings
pub mod FixedTexts
pub mod Identifiers
pub mod InLoops
pub mod ListedNames
pub mod Marks
pub mod PlainReadings
pub mod PowershellReadings
pub mod QuotedNames
pub mod Regrouped
pub mod SafeBashReadings
pub mod SafeElvishReadings
mod SafeExamples
pub mod SafeFishReadings
pub mod SafePowershellReadings
pub mod SafeTextReadings
pub mod SafeZshReadings
pub mod Underscored
pub mod ZshReadings
