pub mod DeviceCalls
pub mod Facts
pub mod FileCalls
pub mod Runs
pub mod Unknown
