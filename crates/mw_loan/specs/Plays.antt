-- Defines what each step on a box tells: of the step, the seat before, the number found and the seat after.
-- Used by: src/rule.rt, src/loan_box.rt.
use Rattle.std.specs.Prelude.{ℕ, ◌≡◌, ◌≢◌, [], ◌∷◌, Option, Some, None}
use Rattle.atomic_table.specs.Table.{Me, Step}
use Rattle.mw_loan.specs.declared.views.Role.TheVariants.{Owner, Borrower, Opener}
use Rattle.mw_loan.specs.declared.views.View.{View}
use Rattle.mw_loan.specs.Rule.{nobody, viewed}

module _ {T : Type 0} where
  -- a thread that knows nothing and has nothing
  abbrev pub stranger : Me (Option T) (View T)
  stranger = (nobody, [])

  -- one that has opened the box, and holds this content
  abbrev pub opener : Option T → Me (Option T) (View T)
  opener content = (viewed Opener None, (0, content) ∷ [])

  -- one that left this
  abbrev pub owner : T → Me (Option T) (View T)
  owner left = (viewed Owner (Some left), [])

  -- one that borrowed what was left, and holds this content
  abbrev pub borrower : T → Option T → Me (Option T) (View T)
  borrower left content = (viewed Borrower (Some left), (0, content) ∷ [])

  -- A thread that comes knows and has nothing.
  abbrev pub came : Step (Option T) → Me (Option T) (View T) → ℕ → Me (Option T) (View T) → Type 0
  came step before found after = after ≡ stranger

  -- A thread that found the number has opened an empty box.
  abbrev pub opened : Step (Option T) → Me (Option T) (View T) → ℕ → Me (Option T) (View T) → Type 0
  opened step before found after = found ≡ step.first → after ≡ opener None

  -- The opener leaves what it put into the box, and is its owner.
  abbrev pub left_by : Step (Option T) → Me (Option T) (View T) → ℕ → Me (Option T) (View T) → Type 0
  left_by step before found after = (value : T) → before ≡ opener (Some value) → after ≡ owner value

  -- The thread put the slot back, and is nothing to the box.
  abbrev pub put_back : Step (Option T) → Me (Option T) (View T) → ℕ → Me (Option T) (View T) → Type 0
  put_back step before found after = after ≡ stranger

  -- The borrower has the value, which goes on from what was left.
  pub record Borrows (lasts : T → T → Type 0) (after : Me (Option T) (View T)) : Type 0 where
    pub left : T
    pub value : T
    pub is : after ≡ borrower left (Some value)
    pub goes_on : lasts left value

  -- A thread that found the number has borrowed the value.
  abbrev pub borrowed : (T → T → Type 0) → Step (Option T) → Me (Option T) (View T) → ℕ → Me (Option T) (View T) → Type 0
  borrowed lasts step before found after = found ≡ step.first → Borrows lasts after

  -- The owner has opened its box, and has what its value has become.
  pub record Reopens (lasts : T → T → Type 0) (left : T) (after : Me (Option T) (View T)) : Type 0 where
    pub value : T
    pub is : after ≡ opener (Some value)
    pub goes_on : lasts left value

  -- If it found the number, the owner has opened its box. If not, nothing has changed.
  abbrev pub reopened : (T → T → Type 0) → Step (Option T) → Me (Option T) (View T) → ℕ → Me (Option T) (View T) → Type 0
  reopened lasts step before found after = (left : T) → before ≡ owner left → (found ≡ step.first → Reopens lasts left after) × (found ≢ step.first → after ≡ owner left)
