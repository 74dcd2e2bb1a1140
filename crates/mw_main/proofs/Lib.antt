pub mod Chains
pub mod GivenValues
