-- What a request knows at its point, what it needs for its next step, and what is proved of both. This page only lists its
-- modules.
pub mod Calls
pub mod Updates
pub mod Facts
pub mod MoveGuards
pub mod Informed
pub mod OwnKnowledge
pub mod Laws
pub mod LastPins
pub mod Live
pub mod Reads
pub mod Points
pub mod NextState
