-- What each mark does to a store alone, and that a mark may be put in late, at a place reserved for it. This page only lists its modules.
pub mod MarkEffects
pub mod Examples
pub mod LateMarks
pub mod Laws
