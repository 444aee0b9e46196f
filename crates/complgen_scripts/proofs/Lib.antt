mod FileLemmas
pub mod ScriptLemmas
pub mod WritingLemmas
