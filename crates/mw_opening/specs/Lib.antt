pub mod Replaced
pub mod SyncedOpenings
pub mod TenantsAtPath
pub mod FromBelow
pub mod WatchedCalls
