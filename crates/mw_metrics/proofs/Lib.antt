pub mod Widths
pub mod Buckets
mod CountedFigures
