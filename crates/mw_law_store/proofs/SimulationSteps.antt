-- The proofs that the store alone of each tenant simulates every kind of event. This page only lists its modules.
pub mod Called
pub mod ChangeSteps
pub mod Come
pub mod EndsOfCalls
pub mod Given
pub mod StepsByPoint
pub mod Handed
pub mod StepsWithoutPlace
pub mod Met
pub mod ReservedPlaces
pub mod ReadSteps
pub mod ReadyToSeal
pub mod ReplySteps
pub mod Started
pub mod Turned
pub mod Turns
