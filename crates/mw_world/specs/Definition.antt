-- The definition of a world (a transition system over whole servers) and of its events. This page only lists its modules.
pub mod Calls
pub mod Cells
pub mod Changes
pub mod Counts
pub mod Extent
pub mod Events
pub mod History
pub mod Logical
pub mod StepLabels
pub mod LabelEffects
pub mod Requests
pub mod Restarts
pub mod State
pub mod Turns
pub mod World
