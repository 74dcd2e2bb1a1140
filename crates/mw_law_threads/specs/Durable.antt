-- What a crash may leave, and what the next start finds. This page only lists its modules.
pub mod CrashMoments
pub mod Durable
pub mod Locks
pub mod Starts
