-- Defines which changes are settled ahead after a call: settled in the file, and not yet by their own slots.
-- Used by: CallOutcome, book.rt, place_table.rt. A change here changes what a call promises of them.
use Rattle.std.specs.Prelude.{◌≡◌, ◌==◌, ◌&&◌, ◌||◌, not, if◌then◌else◌, ℕ, Bool, true, false, List}
use Rattle.mw_look.specs.declared.steps.Call.{Call}
use Rattle.mw_look.specs.declared.steps.Call.TheVariants.{Settle as SettleCall}
use Rattle.mw_file.specs.declared.place_states.PlaceState.{PlaceState}
use Rattle.mw_file.specs.declared.place_states.Stage.{Stage}
use Rattle.mw_file.specs.declared.place_states.Stage.TheVariants.{Free, Prepared, Sealed}
use Rattle.mw_book.specs.declared.answers.Filed.{Filed}
use Rattle.mw_book.specs.declared.answers.Filed.TheVariants.{Made}
use Rattle.mw_book.specs.declared.book.Book.{Book}
use Rattle.mw_book.specs.declared.place_table.PlaceTable.{PlaceTable}
use Rattle.mw_book.specs.OpenFile.{states_in}
use Rattle.mw_book.specs.Representation.{is_settled, place_at, stage_in_file}

-- the stage is sealed
abbrev pub is_sealed_stage : Stage → Bool
is_sealed_stage Free = false
is_sealed_stage Prepared = false
is_sealed_stage Sealed = true

-- The change of a place is settled ahead after the settle of the one in place `own`, if this went well. It was before, and is not in
-- that place; or it was sealed, is not in that place, and the settle made device calls.
abbrev pub ahead_by_settle : List PlaceState → PlaceTable → ℕ → ℕ → Bool
ahead_by_settle states table own place =
    if place == own then false else (is_settled table place || (not (is_settled table own) && is_sealed_stage (stage_in_file states table place)))

module _ {D : Type 0} where
  -- the same after any call for the change of a slot, by its answer: only a settle that went well changes what is settled ahead
  abbrev pub ahead_after : Call → ℕ → Book D → Filed → ℕ → Bool
  ahead_after SettleCall slot old Made place = ahead_by_settle (states_in old.held) old.table (place_at old slot) place
  ahead_after call slot old answer place = is_settled old.table place

  -- after the call just these changes are settled ahead
  abbrev pub SettlesAhead : Call → ℕ → Book D → Book D → Filed → Type 0
  SettlesAhead call slot old new answer = (place : ℕ) → is_settled new.table place ≡ ahead_after call slot old answer place

  -- no change is settled ahead
  abbrev pub HasNoneAhead : Book D → Type 0
  HasNoneAhead book = (place : ℕ) → is_settled book.table place ≡ false
