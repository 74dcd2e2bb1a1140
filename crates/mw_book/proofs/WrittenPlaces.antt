-- The lowest place in which a change is prepared ahead has just its writes. After one more place was looked at, the search
-- goes on alike.
-- Used by: are_writes_of, PlaceTable::written_place, Book::take_written.
use Rattle.std.proofs.Common.{◌≡◌, ◌≢◌, ℕ, zero, suc, ◌+◌, ◌-◌, ◌==◌, ◌<◌, ◌≤◌, ◌&&◌, Bool, true, false, List, [], ◌∷◌, length, Option, Some, None, is_some, get_or, refl, sym, ap, ◌∙◌, inl, inr, arith}
use Rattle.std.proofs.lemmas.Bool.{and_parts, cases_Bool, cond-true, cond-false, eqb-true}
use Rattle.mw_words.specs.declared.jobs.Entry.{Entry}
use Rattle.mw_record.specs.Layout.{pairs_of}
use Rattle.mw_record.specs.Records.{Pairs}
use Rattle.mw_file.specs.declared.place_states.PlaceState.{PlaceState}
use Rattle.mw_book.specs.declared.place_table.PlaceTable.{PlaceTable}
use Rattle.mw_book.specs.PreparedAhead.{are_writes_of, is_for, is_written, written_from}
use Rattle.mw_book.specs.Representation.{is_prepared_ahead, writes_in_file}

-- writes that are not as many as the entries are not theirs
pub unlike : (writes : Pairs) (entries : List Entry) → length writes ≢ length entries → are_writes_of writes entries ≡ false
unlike [] [] apart = absurd (apart refl)
unlike [] (e ∷ entries) apart = refl
unlike (w ∷ writes) [] apart = refl
unlike (w ∷ writes) (e ∷ entries) apart =
    ap (λ b. (w.0 == e.addr) && (w.1 == e.new) && b) (unlike writes entries (λ same. apart (ap suc same))) ∙ and_false ((w.0 == e.addr) && (w.1 == e.new)) where
      and_false : (b : Bool) → (b && false) ≡ false
      and_false true = refl
      and_false false = refl

-- the test says what it is to say
pub writes_are : (writes : Pairs) (entries : List Entry) → are_writes_of writes entries ≡ true → writes ≡ pairs_of entries
writes_are [] [] are = refl
writes_are [] (e ∷ entries) are = absurd (let x : false ≡ true = are in cc)
writes_are (w ∷ writes) [] are = absurd (let x : false ≡ true = are in cc)
writes_are (w ∷ writes) (e ∷ entries) are =
    let two = and_parts ((w.0 == e.addr) && (w.1 == e.new)) (are_writes_of writes entries) are in
    let one = and_parts (w.0 == e.addr) (w.1 == e.new) two.0 in
    let addr : w.0 ≡ e.addr = eqb-true w.0 e.addr one.0 in
    let value : w.1 ≡ e.new = eqb-true w.1 e.new one.1 in
    let rest = writes_are writes entries two.1 in
    λ i. (addr i, value i) ∷ rest i

ahead_for : (found : Option ℕ) (slot : ℕ) → is_for found slot ≡ true → is_some found ≡ true
ahead_for None slot is = absurd (let e : false ≡ true = is in cc)
ahead_for (Some other) slot is = refl

-- a place that has the record has a change that is prepared ahead, with these writes
pub written_ahead : (states : List PlaceState) (table : PlaceTable) (slot : ℕ) (entries : List Entry) (place : ℕ) → is_written states table slot entries place ≡ true → is_prepared_ahead table place ≡ true
written_ahead states table slot entries place is =
    ahead_for (get_or table.ahead_for place None) slot (and_parts (is_for (get_or table.ahead_for place None) slot) (are_writes_of (writes_in_file states table place) entries) is).0

pub written_writes : (states : List PlaceState) (table : PlaceTable) (slot : ℕ) (entries : List Entry) (place : ℕ) → is_written states table slot entries place ≡ true → writes_in_file states table place ≡ pairs_of entries
written_writes states table slot entries place is =
    writes_are (writes_in_file states table place) entries (and_parts (is_for (get_or table.ahead_for place None) slot) (are_writes_of (writes_in_file states table place) entries) is).1

module _ (states : List PlaceState) (table : PlaceTable) (slot : ℕ) (entries : List Entry) where
  -- the lowest such place is one
  pub written_there : (first left : ℕ) → written_from states table slot entries first left < first + left → is_written states table slot entries (written_from states table slot entries first left) ≡ true
  written_there first zero lt = absurd (let e : ⊥ = omega (arith, lt) in e)
  written_there first (suc left) lt = elim (cases_Bool (is_written states table slot entries first)) [
    | inl is ↦
        let at : written_from states table slot entries first (suc left) ≡ first =
        cond-true (is_written states table slot entries first) first (written_from states table slot entries (first + 1) left) is in
        ap (is_written states table slot entries) at ∙ is
    | inr isnt ↦
        let at : written_from states table slot entries first (suc left) ≡ written_from states table slot entries (first + 1) left =
        cond-false (is_written states table slot entries first) first (written_from states table slot entries (first + 1) left) isnt in
        ap (is_written states table slot entries) at ∙ written_there (first + 1) left (omega (arith, at, lt))
  ]

  -- one more place was looked at, and is none
  pub written_more : (first places : ℕ) → first < places → is_written states table slot entries first ≡ false
      → written_from states table slot entries (first + 1) (places - (first + 1)) ≡ written_from states table slot entries first (places - first)
  written_more first places lt isnt =
      let next : places - first ≡ suc (places - (first + 1)) = omega (arith, lt) in
      sym (ap (written_from states table slot entries first) next ∙ cond-false (is_written states table slot entries first) first (written_from states table slot entries (first + 1) (places - (first + 1))) isnt)

  -- where no place has it the search comes to the end
  pub written_none : (first left : ℕ) → ((place : ℕ) → is_written states table slot entries place ≡ false) → written_from states table slot entries first left ≡ first + left
  written_none first zero none = omega arith
  written_none first (suc left) none =
      cond-false (is_written states table slot entries first) first (written_from states table slot entries (first + 1) left) (none first)
      ∙ (let rest = written_none (first + 1) left none in omega (arith, rest))

  -- where some place has it the search finds one
  pub written_found : (first left place : ℕ) → first ≤ place → place < first + left → is_written states table slot entries place ≡ true → written_from states table slot entries first left < first + left
  written_found first zero place le lt is = absurd (let e : ⊥ = omega (arith, le, lt) in e)
  written_found first (suc left) place le lt is = elim (cases_Bool (is_written states table slot entries first)) [
    | inl here ↦
        let at : written_from states table slot entries first (suc left) ≡ first =
        cond-true (is_written states table slot entries first) first (written_from states table slot entries (first + 1) left) here in
        omega (arith, at)
    | inr isnt ↦
        let at : written_from states table slot entries first (suc left) ≡ written_from states table slot entries (first + 1) left =
        cond-false (is_written states table slot entries first) first (written_from states table slot entries (first + 1) left) isnt in
        let next : first ≢ place = λ same. let e : true ≡ false = sym is ∙ ap (is_written states table slot entries) (sym same) ∙ isnt in cc in
        let rest = written_found (first + 1) left place (omega (arith, le, next)) (omega (arith, lt)) is in
        omega (arith, at, rest)
  ]

  -- the search ends at the last place at the latest
  pub written_last : (first left : ℕ) → written_from states table slot entries first left ≤ first + left
  written_last first zero = omega arith
  written_last first (suc left) = elim (cases_Bool (is_written states table slot entries first)) [
    | inl here ↦
        let at : written_from states table slot entries first (suc left) ≡ first =
        cond-true (is_written states table slot entries first) first (written_from states table slot entries (first + 1) left) here in
        omega (arith, at)
    | inr isnt ↦
        let at : written_from states table slot entries first (suc left) ≡ written_from states table slot entries (first + 1) left =
        cond-false (is_written states table slot entries first) first (written_from states table slot entries (first + 1) left) isnt in
        let rest = written_last (first + 1) left in
        omega (arith, at, rest)
  ]
