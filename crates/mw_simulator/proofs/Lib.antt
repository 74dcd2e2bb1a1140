pub mod CallEndLaws
mod CalledDisks
pub mod Arrivals
pub mod Crashes
pub mod WorldAfterStep
pub mod FirstWorlds
pub mod TakenOverMarks
pub mod Frames
mod OneFound
pub mod OneMoreEvent
pub mod CallsAtStop
pub mod InvariantLaws
pub mod Images
pub mod OpenedImages
pub mod Quotas
pub mod Reopened
pub mod Restarted
pub mod ServiceAloneLaws
pub mod RepresentedTenants
pub mod SoundBooks
pub mod StepPartLaws
pub mod Unchanged
