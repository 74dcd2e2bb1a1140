pub mod TransitionLaws
pub mod WrittenTexts
pub mod Jobs
pub mod StepOutputs
pub mod AnsweredLines
pub mod SessionEnds
pub mod LineJudgments
pub mod LinesHeard
mod Agreements
mod CallsMade
mod Fieldless
