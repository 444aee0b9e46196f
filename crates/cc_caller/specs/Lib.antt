pub mod Branches
pub mod Hashes
pub mod KnownNames
pub mod PlainScript
pub mod Prompt
pub mod QuietScript
pub mod WordList
