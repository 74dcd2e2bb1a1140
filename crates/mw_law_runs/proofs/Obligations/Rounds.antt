-- Which words of a change a request will still reach in its present round over the change's words.
-- Used by: Cleaners, Cleanups, RefusedChanges.
use Rattle.std.specs.Prelude.{ℕ, suc, ◌≡◌, ◌<◌, ◌≤◌, ◌+◌, ◌==◌, Bool, true, false, if◌then◌else◌, nat_lt, List, [], ◌∷◌, length, is_some, Some}
use Rattle.std.proofs.Common.{refl, sym, ap, ◌∙◌, inl, inr, arith}
use Rattle.std.proofs.lemmas.Bool.{cases_eq}
use Rattle.std.proofs.lemmas.Bool.Decides.{nat_tests}
use Rattle.mw_words.specs.declared.jobs.Entry.{Entry}
use Rattle.mw_actor.specs.declared.points.Sweep.{Sweep}
use Rattle.mw_actor.specs.declared.points.Sweep.TheVariants.{Yes as SweepYes, DoneYes as SweepDoneYes, No as SweepNo, DoneNo as SweepDoneNo}
use Rattle.mw_actor.specs.ActorState.{entry_at}
use Rattle.mw_world.specs.Definition.History.{entry_for}
use Rattle.mw_world.specs.Claim.Obligations.{IsFrom, ComesTo, CleansFrom}

-- the entry of a word is among the entries from the first one on
pub from_first : (entries : List Entry) (address : ℕ) → is_some (entry_for entries address) ≡ true → IsFrom entries 0 address
from_first [] address found = cc
from_first (entry ∷ entries) address found = by_head (entry.addr == address) refl found (λ rest. from_first entries address rest)
  where
    later : IsFrom entries 0 address → IsFrom (entry ∷ entries) 0 address
    later from = record { index = suc from.index; from = omega arith; entry = record { within = omega (arith, from.entry.within); same = from.entry.same } }

    here : (entry.addr == address) ≡ true → IsFrom (entry ∷ entries) 0 address
    here is = record { index = 0; from = omega arith; entry = record { within = omega arith; same = grind (arith, nat_tests, is) } }

    by_head : (b : Bool) → (entry.addr == address) ≡ b → is_some (if b then Some entry else entry_for entries address) ≡ true
        → (is_some (entry_for entries address) ≡ true → IsFrom entries 0 address) → IsFrom (entry ∷ entries) 0 address
    by_head true is found rest = here is
    by_head false is found rest = later (rest found)

-- after an entry of another word
pub from_next : (entries : List Entry) (entry address : ℕ) → ((entry_at entries entry).addr ≡ address → ⊥) → IsFrom entries entry address → IsFrom entries (entry + 1) address
from_next entries entry address apart from = elim (cases_eq from.index entry) [
  | inl e ↦ absurd (apart (ap (λ (n : ℕ). (entry_at entries n).addr) (sym e) ∙ from.entry.same))
  | inr after ↦ record { index = from.index; from = omega (arith, from.from, after); entry = from.entry }
]

-- no entry is after the last one
pub none_from : (entries : List Entry) (entry address : ℕ) → nat_lt (entry + 1) (length entries) ≡ false → IsFrom entries (entry + 1) address → ⊥
none_from entries entry address last from = past (entry + 1) (length entries) from.index last from.from from.entry.within
  where
    past : (n m index : ℕ) → nat_lt n m ≡ false → n ≤ index → index < m → ⊥
    past n m index last from within = grind (arith, nat_tests, last, from, within)

pub comes_next : (sweep : Sweep) (entries : List Entry) (entry address : ℕ) → ((entry_at entries entry).addr ≡ address → ⊥) → ComesTo sweep entries entry address
    → ComesTo sweep entries (entry + 1) address
comes_next SweepYes entries entry address apart comes = comes
comes_next SweepDoneYes entries entry address apart comes = comes
comes_next SweepNo entries entry address apart comes = tt
comes_next (SweepDoneNo index found) entries entry address apart comes = from_next entries entry address apart comes

pub cleans_next : (sweep : Sweep) (entries : List Entry) (entry address : ℕ) → ((entry_at entries entry).addr ≡ address → ⊥) → CleansFrom sweep entries entry address
    → CleansFrom sweep entries (entry + 1) address
cleans_next SweepYes entries entry address apart cleans = tt
cleans_next SweepDoneYes entries entry address apart cleans = from_next entries entry address apart cleans
cleans_next SweepNo entries entry address apart cleans = tt
cleans_next (SweepDoneNo index found) entries entry address apart cleans = tt
