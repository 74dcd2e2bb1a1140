-- The moves, the elementary changes of which every step on the shared words is made, and what each keeps. This page only lists its modules.
pub mod Guards
pub mod Laws
pub mod Memory
pub mod Moves
pub mod Rely
pub mod StepMoves
pub mod Steps
pub mod Values
