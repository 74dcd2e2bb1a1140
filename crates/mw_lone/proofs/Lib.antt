pub mod KeptRuns
pub mod Quotas
pub mod SoundStores
