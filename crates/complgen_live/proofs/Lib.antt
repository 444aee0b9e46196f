mod AnswerLemmas
mod Examples
mod FileNames
mod Names
mod PlainKnown
mod PreparedLemmas
mod Stems
