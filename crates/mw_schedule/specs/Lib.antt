pub mod Fields
pub mod Forms
pub mod Lines
pub mod Playable
pub mod Steps
