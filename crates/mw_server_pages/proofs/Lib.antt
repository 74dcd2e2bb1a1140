mod Parts
mod Widths
mod ClientLaws
pub mod GivenPages
