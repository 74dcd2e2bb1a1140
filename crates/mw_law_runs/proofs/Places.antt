-- The proofs about which slots, entries and workers a request may name at its point. This page only lists its modules.
pub mod NextPoints
pub mod PlaceInvariant
pub mod There
