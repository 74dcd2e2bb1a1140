pub mod Lines
pub mod Stream
pub mod FeedBytes
pub mod Texts
pub mod Given
