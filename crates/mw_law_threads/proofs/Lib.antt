pub mod Moments
pub mod Whole
pub mod History
pub mod Durable
pub mod Sessions
pub mod NextRuns
pub mod AfterReplyLaws
