-- Passes on what a program's promise names of mw_http.
-- Used by: mw_programs.
pub use Rattle.mw_http.specs.Calls.{AreAnswered, Call}
