pub mod Reached
pub mod Readers
pub mod ReadRequests
pub mod Worlds
