-- Passes on what a program's promise names of the crates below.
-- Used by: mwserve.
pub use Rattle.mw_disk.specs.Facts.{Facts}
pub use Rattle.mw_session.specs.Talk.{Call}
pub use Rattle.mw_engine.specs.Brand.{Identity}
pub use Rattle.mw_opening.specs.FromBelow.{DeviceCall}
pub use Rattle.mw_opening.specs.declared.file_fault.FileFault.{FileFault}
