pub mod MakesLaws
pub mod Outcomes
mod Repeated
pub mod RunLaws
