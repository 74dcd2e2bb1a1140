pub mod Steps
pub mod Books
pub mod FileCalls
pub mod FromTable
pub mod ReadRounds
pub mod Reasons
