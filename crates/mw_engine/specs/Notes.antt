-- Defines which notes of what a pass has seen belong to an engine. Used by: src/notes.rt, mw_service.
use Rattle.std.specs.Prelude.{◌≡◌}
use Rattle.mw_core.specs.FromTable.{Note}
use Rattle.mw_engine.specs.Brand.{Identity}

-- The note is of a pass of the engine's table.
abbrev pub IsNoteOf : Identity → Note → Type 0
IsNoteOf identity note = note.seat.table_id ≡ identity.table
