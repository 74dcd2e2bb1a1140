-- Loop invariants of `recall` (src/opening.rt).
use Rattle.std.proofs.Common.{ℕ, ◌≡◌, ◌≤◌, ◌<◌, length}
use Rattle.mw_record.specs.Damages.{found_places, records_of}
use Rattle.mw_file.specs.declared.place_states.Stage.TheVariants.{Prepared, Sealed}
use Rattle.mw_file.specs.PlaceStates.{stage_of, writes_of_place}
use Rattle.mw_file.specs.RollForward.{kept_of}
use Rattle.mw_file.proofs.opening.recall.Given as goal

-- the places so far have the states that the file's records give
abbrev pub invariant-loop-place : goal.invariant-loop-place
invariant-loop-place l =
    (length l.states ≡ found_places l.image)
    × ((place : ℕ) → place < l.place → kept_of l.states place ≡ records_of l.image place)
    × ((place : ℕ) → place < l.place → stage_of l.states place ≡ Prepared → ⊥)
    × ((place : ℕ) → place < l.place → stage_of l.states place ≡ Sealed → 1 ≤ length (writes_of_place l.states place))
