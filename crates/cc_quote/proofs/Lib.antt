pub mod BashDoubles
pub mod BeforeBlanks
pub mod Blanks
pub mod ByteEscapes
pub mod CharacterReading
pub mod Characters
pub mod Digits
pub mod ElvishCutting
pub mod ElvishWords
mod Examples
pub mod FishCharacters
pub mod FishCutting
pub mod FishEscaped
mod FishExamples
pub mod FishReaders
pub mod FishWords
pub mod PosixCutting
mod PosixExamples
pub mod PosixTokenReading
pub mod PosixWords
pub mod PowershellCutting
pub mod PowershellSearch
pub mod PowershellSigns
pub mod PowershellWords
pub mod SafeNames
pub mod WithinQuotes
pub mod WordReading
mod ZshExamples
pub mod ZshReplies
pub mod ZshWords
