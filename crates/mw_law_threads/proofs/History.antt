-- The proofs that all replies are right in one history. This page only lists its modules.
pub mod AnswerMomentLaws
pub mod ArrivalsInRuns
pub mod HandOuts
pub mod KnownMoments
pub mod SameReplies
pub mod AnswersInOneRunLaws
pub mod OneHistoryLaws
pub mod OwnHandOuts
