-- Defines the number that a whole text is, if it is one. Used by: src/fields.rt.
use Rattle.std.specs.Prelude.{ℕ, ◌==◌, List, length, if◌then◌else◌, Option, Some, None}
use Rattle.mw_line.specs.LineReader.{◌>>=◌, narrow, number_at}

-- the number that is the whole text; above 64 bits it is the greatest of 64 bits
unfoldable pub number : List ℕ → Option ℕ
number text = do
  read ← number_at narrow.value text
  if length read.1 == 0 then Some read.0 else None
