pub mod Observations
pub mod PlacePatterns
pub mod Places
pub mod Program
pub mod Runs
pub mod Shapes
pub mod Steps
