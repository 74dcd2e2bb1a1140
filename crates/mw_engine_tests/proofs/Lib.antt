pub mod TenantsMayAsk
pub mod Beside
pub mod FilesFitLines
pub mod Fresh
pub mod LastPass
