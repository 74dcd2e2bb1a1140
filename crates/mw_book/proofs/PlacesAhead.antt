-- A settle that makes device calls settles each other sealed change ahead. After it, and after the settle of such a change,
-- all places still match.
-- Used by: Book::settle.
use Rattle.std.proofs.Common.{◌≡◌, ◌≢◌, ℕ, ◌<◌, ◌≤◌, ◌||◌, ◌&&◌, not, Bool, true, false, List, length, Option, Some, None, slice_set, refl, sym, ap, ◌∙◌, inl, inr, arith}
use Rattle.std.proofs.lemmas.Bool.{cases_eq, cases_lt, cond-true, cond-false, eq-eqb, ne_eqb}
use Rattle.std.proofs.lemmas.List.{get_or_past, get_or-set_same, get_or-set_other}
use Rattle.std.proofs.lemmas.Option.{slice_get_past}
use Rattle.std.proofs.Math.ListN.{get_or-eq_default}
use Rattle.mw_words.specs.declared.limits.TheConstants.{MAX_PLACES}
use Rattle.mw_record.specs.Layout.{pairs_of}
use Rattle.mw_record.specs.Records.{Pairs}
use Rattle.mw_file.specs.declared.place_states.PlaceState.{PlaceState}
use Rattle.mw_file.specs.declared.place_states.Stage.{Stage}
use Rattle.mw_file.specs.declared.place_states.Stage.TheVariants.{Free as FreeStage, Prepared as PreparedStage, Sealed as SealedStage}
use Rattle.mw_file.specs.declared.tenant_file.TenantFile.{TenantFile}
use Rattle.mw_file.specs.PlaceStates.{is_free_stage, stage_at, stage_of, writes_of_place, freed}
use Rattle.mw_world.specs.Files.Stages.{stage_told}
use Rattle.mw_world.specs.Files.State.{Place, Empty, Prepared, Sealed, is_empty, is_sealed, entries_in}
use Rattle.mw_world.specs.Maps.{upd}
use Rattle.mw_world.proofs.MapLaws.{upd_here, upd_there}
use Rattle.mw_book.specs.declared.place_table.PlaceTable.{PlaceTable}
use Rattle.mw_book.specs.FilePlaces.{flag_of, IsPermutation}
use Rattle.mw_book.specs.SettledAhead.{is_sealed_stage, ahead_by_settle}
use Rattle.mw_book.specs.OpenFile.{states_in}
use Rattle.mw_book.specs.Permits.{MaySettle}
use Rattle.mw_book.specs.Representation.{ArePlaced, ArePlacedBy, is_prepared_ahead, is_settled, place_in_file, stage_held, stage_in_file}
use Rattle.mw_book.proofs.FilePlaces.{low_place}

-- a place for which nothing was done ahead has the stage in the file that the world's place says
pub held_plain : (flag ahead : Bool) (p : Place) → flag ≡ false → ahead ≡ false → stage_held flag ahead p ≡ stage_told p
held_plain flag ahead p plain own = ap (λ b. stage_held b ahead p) plain ∙ ap (λ b. stage_held false b p) own

-- the change of a place that is not free in the file is not settled ahead
busy_plain : (flag ahead : Bool) (p : Place) → is_free_stage (stage_held flag ahead p) ≡ false → flag ≡ false
busy_plain true ahead p busy = absurd (let e : true ≡ false = busy in cc)
busy_plain false ahead p busy = refl

-- a sealed stage is what the world's place says, and nothing was done ahead there
pub told_sealed : (flag ahead : Bool) (p : Place) → stage_held flag ahead p ≡ SealedStage → stage_told p ≡ SealedStage
told_sealed true ahead p is = absurd (let e : FreeStage ≡ SealedStage = is in cc)
told_sealed false true p is = absurd (let e : PreparedStage ≡ SealedStage = is in cc)
told_sealed false false p is = is

pub sealed_own : (flag ahead : Bool) (p : Place) → stage_held flag ahead p ≡ SealedStage → ahead ≡ false
sealed_own true ahead p is = absurd (let e : FreeStage ≡ SealedStage = is in cc)
sealed_own false true p is = absurd (let e : PreparedStage ≡ SealedStage = is in cc)
sealed_own false false p is = refl

pub busy_sealed : (p : Place) → is_sealed p ≡ true → is_empty p ≡ false
busy_sealed Empty is = absurd (let e : false ≡ true = is in cc)
busy_sealed (Prepared entries) is = refl
busy_sealed (Sealed entries) is = refl

pub told_empty : (p : Place) → is_empty p ≡ true → stage_told p ≡ FreeStage
told_empty Empty is = refl
told_empty (Prepared entries) is = absurd (let e : false ≡ true = is in cc)
told_empty (Sealed entries) is = absurd (let e : false ≡ true = is in cc)

pub open_empty : (p : Place) → is_empty p ≡ true → is_sealed p ≡ false
open_empty Empty is = refl
open_empty (Prepared entries) is = absurd (let e : false ≡ true = is in cc)
open_empty (Sealed entries) is = absurd (let e : false ≡ true = is in cc)

module _ (states : List PlaceState) (table : PlaceTable) (places : ℕ) (at : ℕ → Place) (placed : ArePlaced states table places at) where
  -- the change of a place that is not free in the file is not settled ahead
  pub plain_busy : (place : ℕ) → is_free_stage (stage_in_file states table place) ≡ false → is_settled table place ≡ false
  plain_busy place busy = elim (cases_lt place places) [
    | inl lt ↦ busy_plain (is_settled table place) (is_prepared_ahead table place) (at place) (sym (ap is_free_stage (placed.stages place lt)) ∙ busy)
    | inr past ↦ placed.further_not_ahead place past
  ]

  -- a change that isn't sealed is not settled ahead
  pub plain_open : (place : ℕ) → place < places → is_sealed (at place) ≡ false → is_settled table place ≡ false
  plain_open place lt isnt = by (is_settled table place) refl where
    by : (flag : Bool) → is_settled table place ≡ flag → flag ≡ false
    by true is = absurd (let e : true ≡ false = sym (placed.ahead place lt is) ∙ isnt in cc)
    by false is = refl

  -- in a place that has a change none is prepared ahead
  pub own_busy : (place : ℕ) → place < places → is_empty (at place) ≡ false → is_prepared_ahead table place ≡ false
  own_busy place lt isnt = by (is_prepared_ahead table place) refl where
    by : (flag : Bool) → is_prepared_ahead table place ≡ flag → flag ≡ false
    by true is = absurd (let e : true ≡ false = sym (placed.empty_ahead place lt is) ∙ isnt in cc)
    by false is = refl

pub or_false : (b : Bool) → (b || false) ≡ b
or_false true = refl
or_false false = refl

-- a place past those that a file and a book may have is free
pub past_free_in : (states : List PlaceState) (table : PlaceTable) (place : ℕ) → length table.file_place ≤ place → length states ≤ place → stage_in_file states table place ≡ FreeStage
past_free_in states table place long few = ap (stage_of states) (get_or_past table.file_place place place long) ∙ ap stage_at (slice_get_past states place few)

-- whether the change of the settled place itself, and that of any other place, is settled ahead afterwards
by_settle_here : (states : List PlaceState) (table : PlaceTable) (own k : ℕ) → k ≡ own → ahead_by_settle states table own k ≡ false
by_settle_here states table own k here =
    cond-true _ false (is_settled table k || (not (is_settled table own) && is_sealed_stage (stage_in_file states table k))) (eq-eqb k own here)

pub by_settle_there : (states : List PlaceState) (table : PlaceTable) (own k : ℕ) (flag : Bool) → is_settled table own ≡ flag → k ≢ own
    → ahead_by_settle states table own k ≡ (is_settled table k || (not flag && is_sealed_stage (stage_in_file states table k)))
by_settle_there states table own k flag is apart =
    cond-false _ false (is_settled table k || (not (is_settled table own) && is_sealed_stage (stage_in_file states table k))) (ne_eqb k own apart)
    ∙ ap (λ b. is_settled table k || (not b && is_sealed_stage (stage_in_file states table k))) is

-- the flag of a place in a list in which it was cleared
taken_away : (flags : List Bool) (own k : ℕ) → own < length flags → k ≡ own → flag_of (slice_set flags own false) k ≡ false
taken_away flags own k within here = ap (flag_of (slice_set flags own false)) here ∙ get_or-set_same flags own false false within

-- the flags after the settle of a change that was settled ahead
pub let_go_ahead : (states : List PlaceState) (table : PlaceTable) (own : ℕ) → own < length table.settled → is_settled table own ≡ true
    → (k : ℕ) → flag_of (slice_set table.settled own false) k ≡ ahead_by_settle states table own k
let_go_ahead states table own within is k = elim (cases_eq k own) [
  | inl here ↦ taken_away table.settled own k within here ∙ sym (by_settle_here states table own k here)
  | inr apart ↦ get_or-set_other table.settled own k false false apart ∙ sym (or_false (is_settled table k)) ∙ sym (by_settle_there states table own k true is apart)
]

-- the flags after a settle that makes device calls
pub rolled_ahead : (states : List PlaceState) (table : PlaceTable) (more : List Bool) (own : ℕ) → own < length more → is_settled table own ≡ false
    → ((k : ℕ) → flag_of more k ≡ (is_settled table k || is_sealed_stage (stage_in_file states table k)))
    → (k : ℕ) → flag_of (slice_set more own false) k ≡ ahead_by_settle states table own k
rolled_ahead states table more own within plain all k = elim (cases_eq k own) [
  | inl here ↦ taken_away more own k within here ∙ sym (by_settle_here states table own k here)
  | inr apart ↦ get_or-set_other more own k false false apart ∙ all k ∙ sym (by_settle_there states table own k false plain apart)
]

-- A settle that makes device calls frees each sealed place of the file, and its change is then settled ahead.
freed_held : (flag ahead : Bool) (p : Place) → freed (stage_held flag ahead p) ≡ stage_held (flag || is_sealed_stage (stage_held flag ahead p)) ahead p
freed_held true ahead p = refl
freed_held false true p = refl
freed_held false false Empty = refl
freed_held false false (Prepared entries) = refl
freed_held false false (Sealed entries) = refl

ahead_held : (flag ahead : Bool) (p : Place) → (flag ≡ true → is_sealed p ≡ true) → (flag || is_sealed_stage (stage_held flag ahead p)) ≡ true → is_sealed p ≡ true
ahead_held true ahead p settled is = settled refl
ahead_held false true p settled is = absurd (let e : false ≡ true = is in cc)
ahead_held false false Empty settled is = absurd (let e : false ≡ true = is in cc)
ahead_held false false (Prepared entries) settled is = absurd (let e : false ≡ true = is in cc)
ahead_held false false (Sealed entries) settled is = refl

module _ (old : List PlaceState) (stage : ℕ → Stage) (written : ℕ → Pairs) (table : PlaceTable) (flags : List Bool) (places own : ℕ) (at : ℕ → Place) (placed : ArePlaced old table places at) (sealed : stage_in_file old table own ≡ SealedStage)
    (plain : is_settled table own ≡ false) (now : (k : ℕ) → flag_of flags k ≡ ahead_by_settle old table own k) (free : (k : ℕ) → stage k ≡ freed (stage_of old k)) (same : (k : ℕ) → written k ≡ writes_of_place old k) (permuted : IsPermutation table.file_place places) where
  past_free : (k : ℕ) → places ≤ k → stage_in_file old table k ≡ FreeStage
  past_free k le = ap (stage_of old) (permuted.past k le) ∙ placed.further k le

  flag_here : (k : ℕ) → k ≡ own → flag_of flags k ≡ false
  flag_here k here = now k ∙ by_settle_here old table own k here

  flag_there : (k : ℕ) → k ≢ own → flag_of flags k ≡ (is_settled table k || is_sealed_stage (stage_in_file old table k))
  flag_there k apart = now k ∙ by_settle_there old table own k false plain apart

  held_there : (k : ℕ) → k < places → k ≢ own → flag_of flags k ≡ (is_settled table k || is_sealed_stage (stage_held (is_settled table k) (is_prepared_ahead table k) (at k)))
  held_there k lt apart = flag_there k apart ∙ ap (λ s. is_settled table k || is_sealed_stage s) (placed.stages k lt)

  own_here : (k : ℕ) → k < places → k ≡ own → is_prepared_ahead table k ≡ false
  own_here k lt here = sealed_own (is_settled table k) (is_prepared_ahead table k) (at k) (sym (placed.stages k lt) ∙ ap (stage_in_file old table) here ∙ sealed)

  -- all sealed changes were settled in the file
  pub placed_rolled : ArePlacedBy stage written (record table { settled = flags }) places (upd at own Empty)
  placed_rolled = record {
    stages = λ k lt. elim (cases_eq k own) [
      | inl here ↦
          ap (λ j. stage (place_in_file table j)) here ∙ free (place_in_file table own) ∙ ap freed sealed ∙ sym (ap stage_told (upd_here at own k Empty here))
          ∙ sym (held_plain (flag_of flags k) (is_prepared_ahead table k) (upd at own Empty k) (flag_here k here) (own_here k lt here))
      | inr apart ↦
          free (place_in_file table k) ∙ ap freed (placed.stages k lt) ∙ freed_held (is_settled table k) (is_prepared_ahead table k) (at k)
          ∙ ap (λ b. stage_held b (is_prepared_ahead table k) (at k)) (sym (held_there k lt apart))
          ∙ sym (ap (stage_held (flag_of flags k) (is_prepared_ahead table k)) (upd_there at own k Empty apart))
    ];
    ahead = λ k lt is. elim (cases_eq k own) [
      | inl here ↦ absurd (let e : false ≡ true = sym (flag_here k here) ∙ is in cc)
      | inr apart ↦ ap is_sealed (upd_there at own k Empty apart) ∙ ahead_held (is_settled table k) (is_prepared_ahead table k) (at k) (placed.ahead k lt) (sym (held_there k lt apart) ∙ is)
    ];
    empty_ahead = λ k lt is. elim (cases_eq k own) [
      | inl here ↦ absurd (let e : false ≡ true = sym (own_here k lt here) ∙ is in cc)
      | inr apart ↦ ap is_empty (upd_there at own k Empty apart) ∙ placed.empty_ahead k lt is
    ];
    further = λ k le. free k ∙ ap freed (placed.further k le);
    further_not_ahead = λ k le. elim (cases_eq k own) [
      | inl here ↦ flag_here k here
      | inr apart ↦ flag_there k apart ∙ ap (λ b. b || is_sealed_stage (stage_in_file old table k)) (placed.further_not_ahead k le) ∙ ap is_sealed_stage (past_free k le)
    ];
    further_none_ahead = placed.further_none_ahead;
    writes = λ k lt busy. elim (cases_eq k own) [
      | inl here ↦ absurd (let e : true ≡ false = sym (ap is_empty (upd_here at own k Empty here)) ∙ busy in cc)
      | inr apart ↦
          let kept = upd_there at own k Empty apart in
          same (place_in_file table k) ∙ placed.writes k lt (sym (ap is_empty kept) ∙ busy) ∙ sym (ap (λ q. pairs_of (entries_in q)) kept)
    ];
  }

-- a change that was settled ahead was settled by its own slot
pub placed_let_go : (states : List PlaceState) (table : PlaceTable) (flags : List Bool) (places own : ℕ) (at : ℕ → Place) → ArePlaced states table places at → is_settled table own ≡ true
    → ((k : ℕ) → flag_of flags k ≡ ahead_by_settle states table own k) → ArePlaced states (record table { settled = flags }) places (upd at own Empty)
placed_let_go states table flags places own at placed is now = record {
  stages = λ k lt. elim (cases_eq k own) [
    | inl here ↦
        placed.stages k lt ∙ ap (λ b. stage_held b (is_prepared_ahead table k) (at k)) (ap (is_settled table) here ∙ is) ∙ sym (ap stage_told (upd_here at own k Empty here))
        ∙ sym (held_plain (flag_of flags k) (is_prepared_ahead table k) (upd at own Empty k) (gone k here) (own_here k lt here))
    | inr apart ↦
        placed.stages k lt ∙ ap (λ b. stage_held b (is_prepared_ahead table k) (at k)) (sym (kept k apart))
        ∙ sym (ap (stage_held (flag_of flags k) (is_prepared_ahead table k)) (upd_there at own k Empty apart))
  ];
  ahead = λ k lt flag. elim (cases_eq k own) [
    | inl here ↦ absurd (let e : false ≡ true = sym (gone k here) ∙ flag in cc)
    | inr apart ↦ ap is_sealed (upd_there at own k Empty apart) ∙ placed.ahead k lt (sym (kept k apart) ∙ flag)
  ];
  empty_ahead = λ k lt flag. elim (cases_eq k own) [
    | inl here ↦ absurd (let e : false ≡ true = sym (own_here k lt here) ∙ flag in cc)
    | inr apart ↦ ap is_empty (upd_there at own k Empty apart) ∙ placed.empty_ahead k lt flag
  ];
  further = placed.further;
  further_not_ahead = λ k le. elim (cases_eq k own) [
    | inl here ↦ gone k here
    | inr apart ↦ kept k apart ∙ placed.further_not_ahead k le
  ];
  further_none_ahead = placed.further_none_ahead;
  writes = λ k lt busy. elim (cases_eq k own) [
    | inl here ↦ absurd (let e : true ≡ false = sym (ap is_empty (upd_here at own k Empty here)) ∙ busy in cc)
    | inr apart ↦
        let same = upd_there at own k Empty apart in
        placed.writes k lt (sym (ap is_empty same) ∙ busy) ∙ sym (ap (λ q. pairs_of (entries_in q)) same)
  ];
}
  where
    gone : (k : ℕ) → k ≡ own → flag_of flags k ≡ false
    gone k here = now k ∙ by_settle_here states table own k here

    kept : (k : ℕ) → k ≢ own → flag_of flags k ≡ is_settled table k
    kept k apart = now k ∙ by_settle_there states table own k true is apart ∙ or_false (is_settled table k)

    own_here : (k : ℕ) → k < places → k ≡ own → is_prepared_ahead table k ≡ false
    own_here k lt here = own_busy states table places at placed k lt (busy_sealed (at k) (placed.ahead k lt (ap (is_settled table) here ∙ is)))

-- a place that may be settled is one of those that a book may have
ahead_within : (flags : List Bool) (k : ℕ) → flag_of flags k ≡ true → k < length flags
ahead_within flags k is = elim (cases_lt k (length flags)) [
  | inl lt ↦ lt
  | inr past ↦ absurd (let e : false ≡ true = sym (get_or-eq_default flags false past) ∙ is in cc)
]

sealed_within : (states : List PlaceState) (k : ℕ) → stage_of states k ≡ SealedStage → k < length states
sealed_within states k is = elim (cases_lt k (length states)) [
  | inl lt ↦ lt
  | inr past ↦ absurd (let e : FreeStage ≡ SealedStage = sym (ap stage_at (slice_get_past states k past)) ∙ is in cc)
]

few_states : {D : Type 0} (held : Option (TenantFile D)) → length (states_in held) ≤ MAX_PLACES
few_states None = omega arith
few_states (Some file) = file.few

pub settles_within : {D : Type 0} (held : Option (TenantFile D)) (table : PlaceTable) (place : ℕ) → length table.settled ≡ MAX_PLACES → length table.file_place ≡ MAX_PLACES → MaySettle (states_in held) table place
    → place < MAX_PLACES
settles_within held table place long wide may = by (is_settled table place) refl where
  by : (flag : Bool) → is_settled table place ≡ flag → place < MAX_PLACES
  by true is = let lt = ahead_within table.settled place is in omega (arith, lt, long)
  by false is =
      let few = few_states held in
      let lt = sealed_within (states_in held) (place_in_file table place) (may is) in
      let low = low_place table.file_place MAX_PLACES place (omega (arith, wide)) (omega (arith, lt, few)) in
      omega (arith, low, wide)
