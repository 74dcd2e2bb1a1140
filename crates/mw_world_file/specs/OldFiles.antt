-- Defines the bytes of an old file: one of the first layout (format version 1) that no start of a server has opened yet.
-- Used by: src/unopened.rt.
use Rattle.std.specs.Prelude.{ℕ, ◌-◌, ◌*◌, List, ◌∷◌, ◌++◌, replicate, take}
use Rattle.mw_words.specs.declared.jobs.Entry.{Entry}
use Rattle.mw_record.specs.declared.layout.Layout.TheVariants.{First}
use Rattle.mw_record.specs.declared.layout.TheConstants.{COMMITTED, WORD_SIZE}
use Rattle.mw_record.specs.Layout.{body, header, place_size}
use Rattle.mw_world_file.specs.declared.unopened.TheConstants.{OLD_BODY}

-- The bytes after the commit byte of a place of the first layout with this change: as much of a record's body as the
-- place has room for. If the change has at most OLD_ENTRIES entries, what is cut off is zeros.
abbrev pub old_body : List Entry → List ℕ
old_body change = take OLD_BODY (body change)

-- the bytes of a file in whose first place the record of a change is open: its head, home words that are 0, that place,
-- and zeros for the other places
abbrev pub old_file : ℕ → ℕ → List Entry → List ℕ
old_file words places change =
    header First words places ++ (replicate (WORD_SIZE * words) 0 ++ (COMMITTED ∷ (old_body change ++ replicate (place_size First * (places - 1)) 0)))
