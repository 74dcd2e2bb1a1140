pub mod Determined
mod Fieldless
pub mod Images
mod Left
mod Made
pub mod Plans
pub mod Remembered
pub mod TornBytes
