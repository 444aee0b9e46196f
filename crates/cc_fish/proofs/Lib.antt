pub mod Conditions
pub mod Examples
pub mod Names
pub mod HeadRead
pub mod RecordWords
pub mod RecordsRead
pub mod ScriptRead
