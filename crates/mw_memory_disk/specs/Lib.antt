pub mod Crash
pub mod Memory
