-- Defines the first entry of a change whose word doesn't have the expected value: a NO names its address.
-- Used by: changes.rt, loaded_file.rt. A change here changes which address a NO names.
use Rattle.std.specs.Prelude.{◌≡◌, ◌≢◌, ◌<◌, ℕ, List, length, Some, IsTrue, slice_get, take}
use Rattle.mw_words.specs.declared.jobs.Entry.{Entry}
use Rattle.mw_words.specs.Change.{fits, word_at}

-- this is the first of these entries whose word doesn't have the expected value
pub record IsFirstMiss (words : List ℕ) (entries : List Entry) (e : Entry) : Type 0 where
  pub index : ℕ
  pub here : slice_get entries index ≡ Some e
  pub before : IsTrue (fits words (take index entries))
  pub within : e.addr < length words
  pub differs : word_at words e.addr ≢ e.expected
