pub mod Descriptors
pub mod WorkerCount
