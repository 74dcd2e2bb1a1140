pub mod ListenerCalls
pub mod ServedConnections
pub mod QueueTimes
