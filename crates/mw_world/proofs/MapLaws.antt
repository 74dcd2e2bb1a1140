-- Lists and maps after one element was written. Used by: mw_world_file, mw_book, mw_law_store, mw_rule, mw_table, mw_core.
use Rattle.std.proofs.Common.{◌≡◌, ◌≢◌, ℕ, ◌<◌, ◌≤◌, List, length, Some, slice_get, slice_set, get_or, sym, ap, ◌∙◌, inl, inr, arith}
use Rattle.std.proofs.lemmas.Bool.{cases_eq, cond-true, cond-false, eq-eqb, ne_eqb}
use Rattle.std.proofs.lemmas.Option.{slice_get_cases, slice_get_read, slice_get_past}
use Rattle.std.proofs.lemmas.List.{get_or-set_same, get_or-set_other, length-set}
use Rattle.mw_world.specs.Maps.{upd}

-- a list after one element was written
pub get_written : {X : Type 0} (xs : List X) (i : ℕ) (x : X) → i < length xs → slice_get (slice_set xs i x) i ≡ Some x
get_written xs i x within = slice_get_read (slice_set xs i x) (length xs) i x (sym (length-set xs i x)) within (sym (get_or-set_same xs i x x within))

pub get_others : {X : Type 0} (xs : List X) (i j : ℕ) (x : X) → j ≢ i → slice_get (slice_set xs i x) j ≡ slice_get xs j
get_others xs i j x apart = elim ((slice_get_cases xs j).1) [
  | inl there ↦
      slice_get_read (slice_set xs i x) (length xs) j there.0 (sym (length-set xs i x)) there.1 (sym (get_or-set_other xs i j x there.0 apart ∙ there.3)) ∙ sym there.2
  | inr past ↦ slice_get_past (slice_set xs i x) j (let e = length-set xs i x in let le = past.0 in omega arith) ∙ sym past.1
]

-- a map that was changed at one place
pub upd_here : {A : Type 0} (f : ℕ → A) (i k : ℕ) (x : A) → k ≡ i → upd f i x k ≡ x
upd_here f i k x same = cond-true _ x (f k) (eq-eqb k i same)

pub upd_there : {A : Type 0} (f : ℕ → A) (i k : ℕ) (x : A) → k ≢ i → upd f i x k ≡ f k
upd_there f i k x apart = cond-false _ x (f k) (ne_eqb k i apart)

-- the numbers after one of them was written
pub set_number : (at : ℕ → ℕ) (numbers : List ℕ) (i n most : ℕ) → most ≤ length numbers → i < most → ((k : ℕ) → k < most → at k ≡ get_or numbers k 0)
    → (k : ℕ) → k < most → upd at i n k ≡ get_or (slice_set numbers i n) k 0
set_number at numbers i n most long within same k lt = elim (cases_eq k i) [
  | inl here ↦ upd_here at i k n here ∙ sym (ap (λ j. get_or (slice_set numbers i n) j 0) here ∙ get_or-set_same numbers i n 0 (omega (arith, long, within)))
  | inr apart ↦ upd_there at i k n apart ∙ same k lt ∙ sym (get_or-set_other numbers i k n 0 apart)
]
