-- The proofs about what a request knows after a step that changes a shared word. This page only lists its modules.
pub mod ByPoint
pub mod Acquisition
pub mod Preservation
pub mod Unpins
pub mod Releases
pub mod Drafts
