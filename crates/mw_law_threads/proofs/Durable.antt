-- The proofs that changes are durable. This page only lists its modules.
pub mod AskedRequests
pub mod DurableLaws
pub mod EngineStarts
pub mod FoundChanges
pub mod LockLaws
pub mod Stakes
