pub mod PrintedRows
pub mod PrintedNames
