mod CallLoops
pub mod Bytes
pub mod PlaceWrites
pub mod Ended
pub mod Free
pub mod Grown
pub mod RollLoop
pub mod Migrated
pub mod Opened
mod OpeningCallLaws
pub mod NewPlaces
pub mod Parts
pub mod Places
pub mod Ran
pub mod Ready
pub mod Recalled
mod Recovered
pub mod Reopened
pub mod RecordWrites
pub mod Rolled
pub mod RollForwardLaws
pub mod Safety
pub mod SettledFiles
pub mod SharedSettles
pub mod TakenCounts
pub mod OneWrite
pub mod OnlyRead
