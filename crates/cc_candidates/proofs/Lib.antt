pub mod AddedLast
mod Examples
pub mod Results
mod PathExamples
