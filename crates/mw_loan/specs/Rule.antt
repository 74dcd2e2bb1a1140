-- Defines the rule (invariant) of a box: where its value is, by the box's number, and what each thread is to it. A value in
-- the box goes on from what its owner left.
-- Used by: src/rule.rt, src/loan_box.rt.
use Rattle.std.specs.Prelude.{ℕ, zero, suc, ◌≡◌, Bool, true, false, [], ◌∷◌, Option, Some, None}
use mathlib.Core.Option.{some, none}
use lib.ListN.{get_elem?}
use Rattle.atomic_table.specs.Table.{State}
use Rattle.atomic_table.specs.Seated.{TableId}
use Rattle.mw_loan.specs.declared.views.Role.{Role}
use Rattle.mw_loan.specs.declared.views.Role.TheVariants.{Nobody, Owner, Borrower, Opener}
use Rattle.mw_loan.specs.declared.views.Stage.{Stage}
use Rattle.mw_loan.specs.declared.views.Stage.TheVariants.{Empty, Waiting, Borrowed, Returned, Open}
use Rattle.mw_loan.specs.declared.views.View.{View}

-- where the value is, by the box's number
abbrev pub stage_of : ℕ → Stage
stage_of zero = Empty
stage_of (suc zero) = Waiting
stage_of (suc (suc zero)) = Borrowed
stage_of (suc (suc (suc zero))) = Returned
stage_of (suc (suc (suc (suc n)))) = Open

-- an owner has left a value, and has not opened the box again
abbrev pub is_left : Stage → Bool
is_left Empty = false
is_left Waiting = true
is_left Borrowed = true
is_left Returned = true
is_left Open = false

-- whether the value is in the box
abbrev pub is_home : Stage → Bool
is_home Empty = false
is_home Waiting = true
is_home Borrowed = false
is_home Returned = true
is_home Open = false

-- a box has one number and room for one value
pub record IsOneBox (id : TableId) : Type 0 where
  pub one_word : id.words ≡ 1
  pub one_slot : id.slots ≡ 1

module _ {T : Type 0} where
  abbrev pub viewed : Role → Option T → View T
  viewed role left = record { role = role; left = left }

  -- what a thread knows that is nothing to the box
  abbrev pub nobody : View T
  nobody = viewed Nobody None

  -- What one thread knows is true: it is the one owner, and this was left; or the one borrower, of what was left; or the one that has opened
  -- the box. Nothing is said of a thread that is nothing to the box.
  abbrev pub FitsAs : Role → Stage → (owner holder : ℕ) → (left known : Option T) → (by : ℕ) → Type 0
  FitsAs Nobody stage owner holder left known by = Unit {0}
  FitsAs Owner stage owner holder left known by = (by ≡ owner) × (known ≡ left) × (is_left stage ≡ true)
  FitsAs Borrower stage owner holder left known by = (by ≡ holder) × (known ≡ left) × (stage ≡ Borrowed)
  FitsAs Opener stage owner holder left known by = (by ≡ holder) × (stage ≡ Open)

  module _ (lasts : T → T → Type 0) where
    -- the value goes on from what was left
    abbrev pub LastsFrom : Option T → T → Type 0
    LastsFrom None value = ⊥
    LastsFrom (Some left) value = lasts left value

    -- what the slot has at this stage
    abbrev pub HasAt : Stage → Option T → mathlib.Core.Option.Option (Option T) → Type 0
    HasAt Empty left home = home ≡ some None
    HasAt Waiting left home = (value : T) × (home ≡ some (Some value)) × LastsFrom left value
    HasAt Borrowed left home = home ≡ none
    HasAt Returned left home = (value : T) × (home ≡ some (Some value)) × LastsFrom left value
    HasAt Open left home = home ≡ none

    -- the rule
    pub record Holds (state : State (Option T) (View T)) : Type 0 where
      pub number : ℕ
      pub word : state.words ≡ number ∷ []
      pub home : mathlib.Core.Option.Option (Option T)
      pub slot : state.homes ≡ home ∷ []
      pub owner : ℕ
      pub holder : ℕ
      pub left : Option T
      pub has : HasAt (stage_of number) left home
      pub fits : (by : ℕ) (view : View T) → get_elem? state.views by ≡ some view → FitsAs view.role (stage_of number) owner holder left view.left by
