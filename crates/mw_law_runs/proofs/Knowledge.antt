-- The proofs about what a request knows at its point. This page only lists its modules.
pub mod Calls
pub mod Updates
pub mod LiveSlotsOverSteps
pub mod Guards
pub mod LiveSlots
pub mod Reads
pub mod Stability
pub mod StayingFacts
