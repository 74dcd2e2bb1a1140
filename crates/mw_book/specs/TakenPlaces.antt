-- Defines how two places exchange their places in the file: the first then has what the file had for the second.
-- Used by: place_table.rt.
use Rattle.std.specs.Prelude.{ℕ, None, get_or, slice_set}
use Rattle.mw_book.specs.declared.place_table.PlaceTable.{PlaceTable}
use Rattle.mw_book.specs.Representation.{place_in_file}

-- The places `place` and `written` exchanged their places in the file. What was prepared ahead in `place` is so in `written` now, and no
-- change is prepared ahead in `place`.
abbrev pub taken : PlaceTable → ℕ → ℕ → PlaceTable
taken table place written = record {
  file_place = slice_set (slice_set table.file_place place (place_in_file table written)) written (place_in_file table place);
  settled = table.settled;
  ahead_for = slice_set (slice_set table.ahead_for written (get_or table.ahead_for place None)) place None;
}
