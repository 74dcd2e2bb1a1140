-- Defines when the values in the tenants' files are in range: words, and the entries of changes in the files.
-- Used by: mw_law_store.
use Rattle.std.specs.Prelude.{ℕ, ◌≡◌, true, List}
use Rattle.std.specs.List.{list_all}
use Rattle.mw_words.specs.declared.jobs.Entry.{Entry}
use Rattle.mw_words.specs.declared.limits.TheConstants.{MAX_WORDS}
use Rattle.mw_words.specs.Change.{AreWords, is_in_range}
use Rattle.mw_world.specs.Files.State.{File, entries_at}
use Rattle.mw_world.specs.Definition.State.{State}

-- each of these entries has an address that a tenant may have, and its values are values of a word
abbrev pub AreEntries : List Entry → Type 0
AreEntries entries = list_all (is_in_range MAX_WORDS) entries ≡ true

-- A file fits. Its words are values of words. Each entry of a change in its places, and of the change in doubt, is in range.
pub record FileFits (file : File) : Type 0 where
  pub contents : AreWords file.contents
  pub places : (place : ℕ) → AreEntries (entries_at file place)
  pub doubt : AreEntries file.doubt

-- Each tenant's file fits.
abbrev pub FilesFit : State → Type 0
FilesFit state = (tenant : ℕ) → FileFits (state.tenant_states tenant).file
