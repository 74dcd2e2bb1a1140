pub mod Heads
pub mod Hearing
pub mod Hosts
pub mod Statuses
pub mod Targets
pub mod Calls
pub mod Exchanges
