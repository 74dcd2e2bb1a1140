-- Defines when a store alone is sound: its jobs are well formed, and its change in doubt is of words that are there.
-- Used by: mw_plain, KeptRuns. A clause may be added if each mark keeps it.
use Rattle.std.specs.Prelude.{ℕ, ◌≡◌, List, length, Some, IsTrue}
use Rattle.std.specs.List.{list_all}
use Rattle.std.specs.Ordering.{nat_cmp}
use Rattle.std.specs.FinMap as map
use Rattle.mw_words.specs.declared.jobs.Entry.{Entry}
use Rattle.mw_words.specs.Change.{is_in_range, is_well_formed}
use Rattle.mw_lone.specs.Store.{RequestState}

-- each job that was asked for is well formed, and each entry in doubt is of a word that is there
pub record IsSound (words : List ℕ) (requests : map.FinMap nat_cmp RequestState) (in_doubt : List Entry) : Type 0 where
  pub jobs : (n : ℕ) (r : RequestState) → map.get requests n ≡ Some r → IsTrue (is_well_formed (length words) r.job)
  pub doubts : IsTrue (list_all (is_in_range (length words)) in_doubt)
