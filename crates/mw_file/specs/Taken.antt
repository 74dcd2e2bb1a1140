-- Defines how many places of a file have a change.
-- Used by: mw_plain, laws.rt. A change here changes the law places_are_counted, by which mw_plain knows that there is room.
use Rattle.std.specs.Prelude.{ℕ, ◌+◌, List, [], ◌∷◌}
use Rattle.mw_file.specs.declared.place_states.PlaceState.{PlaceState}
use Rattle.mw_file.specs.declared.place_states.Stage.{Stage}
use Rattle.mw_file.specs.declared.place_states.Stage.TheVariants.{Free, Prepared, Sealed}

-- 1 for a place that has a change, 0 for a free one
abbrev pub if_taken : Stage → ℕ
if_taken Free = 0
if_taken Prepared = 1
if_taken Sealed = 1

-- how many of these places have a change that was prepared, and neither settled nor canceled since
abbrev pub taken : List PlaceState → ℕ
taken [] = 0
taken (s ∷ states) = if_taken s.stage + taken states
