pub mod Printed
pub mod PlayerSteps
pub mod Replayed
pub mod Positions
pub mod Reasons
pub mod RestartReasons
