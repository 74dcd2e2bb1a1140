-- Defines the states of a file's record places in memory: which are free, what each will write, and which change may be
-- sealed.
-- Used by: laws.rt, new_changes.rt, opening.rt, roll.rt, tenant_file.rt, mw_config, mw_plain, mw_world_file, mw_book, mw_engine,
-- mw_file_tests. A change of MaySeal changes which calls may be made, one of IsStaged what each promises.
use Rattle.std.specs.Prelude.{◌≡◌, ◌≢◌, ℕ, ◌+◌, Bool, true, false, List, [], ◌∷◌, length, Option, Some, None, slice_get, sum_by, if◌then◌else◌}
use Rattle.std.specs.List.{list_all}
use Rattle.mw_file.specs.declared.place_states.PlaceState.{PlaceState}
use Rattle.mw_file.specs.declared.place_states.Stage.{Stage}
use Rattle.mw_file.specs.declared.place_states.Stage.TheVariants.{Free, Prepared, Sealed}
use Rattle.mw_record.specs.Records.{holds}

-- a place at this stage is free
abbrev pub is_free_stage : Stage → Bool
is_free_stage Free = true
is_free_stage Prepared = false
is_free_stage Sealed = false

-- this place is free
abbrev pub is_free : PlaceState → Bool
is_free s = is_free_stage s.stage

-- the lowest free place of these, if the first of them has this number
abbrev pub free_from : ℕ → List PlaceState → Option ℕ
free_from first [] = None
free_from first (s ∷ states) = if is_free s then Some first else free_from (first + 1) states

-- the lowest free place, if some place is free
abbrev pub free_place : List PlaceState → Option ℕ
free_place states = free_from 0 states

-- every place is free
abbrev pub all_free : List PlaceState → Bool
all_free states = list_all is_free states

-- the stage of a place; Free if there is no such place
abbrev pub stage_at : Option PlaceState → Stage
stage_at None = Free
stage_at (Some s) = s.stage

-- what a place writes; nothing if there is no such place
abbrev pub writes_in : Option PlaceState → List (ℕ × ℕ)
writes_in None = []
writes_in (Some s) = s.writes.items

-- how far the change in the place of this number is; Free past the last place
abbrev pub stage_of : List PlaceState → ℕ → Stage
stage_of states place = stage_at (slice_get states place)

-- what the change in the place of this number writes
abbrev pub writes_of_place : List PlaceState → ℕ → List (ℕ × ℕ)
writes_of_place states place = writes_in (slice_get states place)

-- this number for a sealed place, 0 for any other
abbrev pub if_sealed : Stage → ℕ → ℕ
if_sealed Free n = 0
if_sealed Prepared n = 0
if_sealed Sealed n = n

-- how many home words a roll forward writes for a place: its writes, if it is sealed
abbrev pub home_writes_of : PlaceState → ℕ
home_writes_of s = if_sealed s.stage (length s.writes.items)

-- how many commit bytes a roll forward clears for a place: 1, if it is sealed
abbrev pub commit_writes_of : PlaceState → ℕ
commit_writes_of s = if_sealed s.stage 1

-- how many home words a roll forward writes for all places, and how many commit bytes it clears
abbrev pub home_writes : List PlaceState → ℕ
home_writes states = sum_by home_writes_of states

abbrev pub commit_writes : List PlaceState → ℕ
commit_writes states = sum_by commit_writes_of states

-- How many device calls a roll forward makes: one for each home word, a sync, one for each commit byte, a sync.
abbrev pub roll_calls : List PlaceState → ℕ
roll_calls states = (home_writes states + 1) + (commit_writes states + 1)

-- This place is now at this stage, with these writes. All other places are as they were.
pub record IsStaged (old new : List PlaceState) (place : ℕ) (stage : Stage) (writes : List (ℕ × ℕ)) : Type 0 where
  pub count : length new ≡ length old
  pub stage_here : stage_of new place ≡ stage
  pub writes_here : writes_of_place new place ≡ writes
  pub stage_there : (other : ℕ) → other ≢ place → stage_of new other ≡ stage_of old other
  pub writes_there : (other : ℕ) → other ≢ place → writes_of_place new other ≡ writes_of_place old other

-- The file may seal the change in a place: it is prepared, and no sealed place writes to an address that it writes to.
pub record MaySeal (states : List PlaceState) (place : ℕ) : Type 0 where
  pub prepared : stage_of states place ≡ Prepared
  pub apart : (other addr : ℕ) → stage_of states other ≡ Sealed → holds (writes_of_place states place) addr ≡ true → holds (writes_of_place states other) addr ≡ false

-- the stage of a place after all sealed changes were rolled forward: a sealed place is free, any other is as it was
abbrev pub freed : Stage → Stage
freed Free = Free
freed Prepared = Prepared
freed Sealed = Free

-- All places that were sealed are free. All else is as it was.
pub record AreFreed (old new : List PlaceState) : Type 0 where
  pub count : length new ≡ length old
  pub stages : (place : ℕ) → stage_of new place ≡ freed (stage_of old place)
  pub writes : (place : ℕ) → writes_of_place new place ≡ writes_of_place old place

-- This place is sealed, and no other is.
pub record IsOnlySealed (states : List PlaceState) (place : ℕ) : Type 0 where
  pub sealed : stage_of states place ≡ Sealed
  pub others : (other : ℕ) → other ≢ place → stage_of states other ≢ Sealed
