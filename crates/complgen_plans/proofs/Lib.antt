mod FindingLemmas
mod PageLemmas
mod PlanLemmas
mod RegisterLemmas
mod ReplyLemmas
mod WantedExamples
mod WantedLemmas
