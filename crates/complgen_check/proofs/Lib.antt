mod CheckLemmas
mod LineLemmas
mod MarkLemmas
mod NoWarnings
mod ObjectLemmas
mod ShownLemmas
mod SoundLemmas
