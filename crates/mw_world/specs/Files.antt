pub mod Calls
pub mod Crashes
pub mod FirstPlaces
pub mod Restarts
pub mod Stages
pub mod State
