pub mod Sessions
pub mod Pauses
pub mod TimesLeft
pub mod Metered
pub mod FaultLimits
pub mod Leases
pub mod Promises
