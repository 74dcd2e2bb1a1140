-- The proofs that one store alone goes on over a start. This page only lists its modules.
pub mod LaterStoreLaws
pub mod StartLaws
pub mod ServersInTurnLaws
pub mod SealCrashes
pub mod FoundAfterCrashLaws
pub mod TablesInTurnLaws
