-- The one history in which all replies are right. This page only lists its modules.
pub mod AnswerMoments
pub mod OneHistory
pub mod AnswersInOneRun
