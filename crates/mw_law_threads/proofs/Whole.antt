-- The proofs that changes are whole, and that refused requests make none. This page only lists its modules.
pub mod AskedChanges
pub mod StoresInDoubt
pub mod WholeChangeLaws
pub mod AnsweredRequests
pub mod StoresOfRuns
pub mod RefusedChangeLaws
