-- The moment at which a reply was true. This page only lists its modules.
pub mod Moments
