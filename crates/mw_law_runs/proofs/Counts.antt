-- The proofs that pins and slots are counted right. This page only lists its modules.
pub mod Balance
pub mod FileCallsKeepCounts
pub mod Effects
pub mod Exact
pub mod GateSteps
pub mod RunsKeepCounts
pub mod Points
pub mod QuietSteps
pub mod ReadBalance
pub mod ReadSteps
pub mod Room
pub mod Shifts
pub mod Startable
pub mod RequestsAndStarts
pub mod Sums
pub mod StepsKeepCounts
