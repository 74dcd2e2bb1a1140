-- The proofs that each move of a request's step (elementary change of the shared words) has its precondition. This page only
-- lists its modules.
pub mod Attempts
pub mod UpdateGuards
pub mod Gates
pub mod ReadGuards
pub mod Memory
pub mod IntentGuards
pub mod Words
