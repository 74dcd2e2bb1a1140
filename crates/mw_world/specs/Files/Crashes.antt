-- Defines which bytes a crash in the middle of a call may leave of a tenant's file.
-- Used by: mw_book, mw_core, mw_law_threads, mw_world_file, mw_simulator.
use Rattle.std.specs.Prelude.{ℕ, ◌≡◌, ◌⊎◌, List, Some}
use Rattle.mw_words.specs.declared.jobs.Entry.{Entry}
use Rattle.mw_words.specs.Change.{put}
use Rattle.mw_record.specs.Damages.{file_words}
use Rattle.mw_look.specs.declared.steps.Call.{Call}
use Rattle.mw_look.specs.declared.steps.Call.TheVariants.{Seal as SealCall}
use Rattle.mw_world.specs.Files.State.{File, entries_at}

-- These bytes are a file of these words, or of these words with this change put over them.
abbrev pub IsFileOfEither : List ℕ → List Entry → List ℕ → Type 0
IsFileOfEither words change image = (file_words image ≡ Some words) ⊎ (file_words image ≡ Some (put words change))

-- the change at stake during a call about a place: the one that a seal seals, else the change in doubt
abbrev pub at_stake : Call → File → ℕ → List Entry
at_stake SealCall file place = entries_at file place
at_stake call file place = file.doubt
