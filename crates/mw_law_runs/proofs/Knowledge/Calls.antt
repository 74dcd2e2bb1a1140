-- The proofs about what a request needs for a call on its tenant's file, and what it knows after it. This page only lists its
-- modules.
pub mod AfterCalls
pub mod CallGuards
