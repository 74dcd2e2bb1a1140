pub mod Claim
pub mod Definition
pub mod Files
pub mod Maps
