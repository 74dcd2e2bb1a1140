pub mod Exposition
pub mod Names
pub mod Figures
pub mod Counted
pub mod TenantLines
