pub mod PlayerStepLaws
pub mod Served
pub mod PrintedRuns
pub mod ToldLines
pub mod WrittenText
