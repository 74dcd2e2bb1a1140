pub mod Number
pub mod Grammar
pub mod Limits
pub mod LineReader
pub mod EntryList
pub mod Replies
