pub mod Rule
pub mod Plays
pub mod Loans
