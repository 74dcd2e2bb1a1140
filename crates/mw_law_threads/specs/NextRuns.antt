-- One store alone over a start. This page only lists its modules.
pub mod LaterStores
pub mod FoundAfter
pub mod ServersInTurn
pub mod FoundAfterCrashes
pub mod TablesInTurn
