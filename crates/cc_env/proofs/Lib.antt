mod AdapterExamples
pub mod Ending
mod Examples
pub mod InMemory
pub mod Replying
pub mod SafeReplying
pub mod Texts
mod AskingExamples
mod AnswerLemmas
mod CompletionExamples
mod CompletionLemmas
mod GivenExamples
mod OwnLemmas
mod WordsRead
