-- The proofs of what the laws of all passes say of sessions. This page only lists its modules.
pub mod NoteLaws
pub mod LearnedRuns
pub mod OwnRequestLaws
