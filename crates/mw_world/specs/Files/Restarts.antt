-- Defines what a start may find of a tenant's file: which words, and whether the change in doubt is among them.
-- Used by: mw_law_store, mw_rule, mw_law_threads, mw_world_file.
use Rattle.std.specs.Prelude.{ℕ, ◌==◌, ◌&&◌, ◌||◌, Bool, true, false, if◌then◌else◌, List, [], ◌∷◌, nat_le, bytes_eq, Option, Some, None}
use Rattle.mw_words.specs.declared.jobs.Entry.{Entry}
use Rattle.mw_words.specs.Change.{put}
use Rattle.mw_look.specs.declared.steps.Call.{Call}
use Rattle.mw_look.specs.declared.steps.Call.TheVariants.{Seal as SealCall}
use Rattle.mw_world.specs.Files.Calls.{is_made}
use Rattle.mw_world.specs.Files.State.{File, file_of, broken}

-- the change in doubt after all stopped: the one that was being sealed, if a device call of the seal was made, else the
-- one from before
abbrev pub doubt_if : Call → List Entry → ℕ → List Entry → List Entry
doubt_if SealCall doubt made entries = if made == 0 then doubt else entries
doubt_if call doubt made entries = doubt

-- a change was sealed to the end of the call, though nobody was told
abbrev pub is_whole_seal : Call → ℕ → ℕ → Bool
is_whole_seal SealCall made calls = nat_le 1 made && (made == calls)
is_whole_seal call made calls = false

-- the change in doubt is found: it has entries, and the words are those from before with it put over them
abbrev pub takes : List ℕ → List Entry → List ℕ → Bool
takes before [] words = false
takes before (entry ∷ entries) words = bytes_eq words (put before (entry ∷ entries))

-- The words may be found. They are those from before with the change in doubt put over them, or, unless that was sealed
-- to the end, those from before.
abbrev pub may_find : Bool → List ℕ → List Entry → List ℕ → Bool
may_find true before doubt words = bytes_eq words (put before doubt)
may_find false before doubt words = bytes_eq words before || takes before doubt words

-- the device call that must fail, if any, is one of the `calls` that are made
abbrev pub may_fail : ℕ → Option ℕ → Bool
may_fail calls None = true
may_fail calls (Some number) = is_made calls number

-- the file after an opening of these words, in which a device call failed or none did
abbrev pub opened_file : List ℕ → Option ℕ → File
opened_file words None = file_of words
opened_file words (Some number) = broken (file_of words) []
