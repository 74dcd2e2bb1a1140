-- Passes on what a server's promise names of the crates below.
-- Used by: mw_programs.
pub use Rattle.mw_disk.specs.DeviceCalls.{DeviceCall}
