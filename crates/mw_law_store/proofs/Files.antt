-- The proofs about `HasFiles`: the shared words agree with each tenant's file, and each change in a file has its own record
-- place there. This page only lists its modules.
pub mod Apart
pub mod ArrivalsAndStarts
pub mod CallFiles
pub mod EnabledEvents
pub mod Filed
pub mod CallsCanBeMade
pub mod MovesKeepFiles
pub mod PlacesBySlot
pub mod Readiness
pub mod Room
pub mod RunsKeepFiles
pub mod StepsLeaveFiles
pub mod Tenants
pub mod TurnFiles
pub mod SuccessfulCalls
