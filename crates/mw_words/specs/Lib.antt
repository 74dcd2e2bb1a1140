pub mod Change
pub mod Name
pub mod Patterns
