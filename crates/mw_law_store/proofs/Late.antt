-- The proofs about marks of a store alone, and about marks that are put in late. This page only lists its modules.
pub mod MarkEffectLaws
pub mod Examples
pub mod ReservedPlaces
pub mod Lines
pub mod RequestsOfMarks
pub mod RequestNumbers
pub mod LateAnswers
