pub mod Damages
pub mod Layout
pub mod LayoutBytes
pub mod Records
pub mod Contents
