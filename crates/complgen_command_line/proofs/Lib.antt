mod CommandLineLemmas
mod Examples
mod GivenValues
mod Lines
mod Untaken
