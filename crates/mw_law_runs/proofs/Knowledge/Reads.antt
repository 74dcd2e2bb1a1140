-- The proofs about what a request knows after a step that changes no shared word. This page only lists its modules.
pub mod Help
pub mod Inspection
pub mod ByPoint
pub mod Memory
pub mod ReadRequests
pub mod ReleasePhase
pub mod TaskChanges
