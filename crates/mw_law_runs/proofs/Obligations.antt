-- The proofs about which request must release a held word or clean a written one. This page only lists its modules.
pub mod Apart
pub mod FileCalls
pub mod StepEffects
pub mod Cleaners
pub mod Cleanups
pub mod StepObligations
pub mod OwnChanges
pub mod LastPins
pub mod RequestObligations
pub mod Owners
pub mod Pins
pub mod RefusedChanges
pub mod Rounds
pub mod StepEffectsByPoint
