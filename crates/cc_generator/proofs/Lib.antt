pub mod DifferentKeys
pub mod Entered
pub mod FromStack
pub mod InOrder
pub mod Numbering
pub mod Numbers
pub mod PlainVisits
pub mod Positions
mod PreorderExamples
pub mod ReadInTurn
pub mod SameVisits
pub mod StepStack
pub mod TableStack
pub mod Trees
pub mod VisitExamples
pub mod VisitedPaths
pub mod VisitedTables
