-- The claims about worlds: what must hold of every run, and short runs that are computed. This page only lists its modules.
pub mod Examples
pub mod Headline
pub mod Invariant
pub mod BitExactness
pub mod Laws
pub mod Obligations
pub mod Schedules
