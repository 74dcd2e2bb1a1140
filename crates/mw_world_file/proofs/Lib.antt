pub mod ApartPlaces
pub mod CalledDisks
pub mod CrashedFiles
pub mod ExactDisks
mod FaultedFiles
pub mod KeptPlaces
pub mod NewFiles
pub mod OldFiles
mod OneEnd
pub mod OpenedFiles
pub mod RestartedFiles
pub mod SealedFiles
pub mod ShutFiles
pub mod SoundBooks
pub mod StoppedFiles
pub mod WorkedFiles
