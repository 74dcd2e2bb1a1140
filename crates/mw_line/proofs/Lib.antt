pub mod Fronts
pub mod Digits
pub mod Numerals
pub mod Entries
pub mod Commands
pub mod Faults
pub mod Printed
pub mod ChangeReader
