mod Finishing
mod LinesRead
mod Offering
mod OverAnswer
mod PromptAnswer
mod PromptRead
mod PromptReply
