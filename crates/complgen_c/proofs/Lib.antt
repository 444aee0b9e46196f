mod AskedLemmas
mod Failures
mod PathSets
mod RegistrationLemmas
mod ReplyLemmas
mod RequestLemmas
mod SameFacts
mod ScriptLemmas
