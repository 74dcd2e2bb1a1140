-- What is true of the places of a file after several changes were prepared together, perhaps beside a seal or a settle.
-- Used by: set_prepared, prepare_at, seal, seal_with, settle_all, one_sealed_place_settles_alone.
use Rattle.std.proofs.Common.{◌≡◌, ◌≢◌, ◌⊎◌, ℕ, ◌<◌, ◌+◌, ◌==◌, List, [], ◌∷◌, ◌++◌, length, drop, slice_set, get_or, take, refl, sym, ap, ◌∙◌, inl, inr, arith, subst, Some, All, IsTrue}
use Rattle.std.specs.List.{Contains, AllPairs}
use Rattle.std.proofs.lemmas.Bool.{cases_eq, eq-eqb, ne_eqb, cond-true, cond-false}
use Rattle.std.proofs.lemmas.List.{get_or-take, get_or_default, take_more, length-take-le}
use Rattle.std.proofs.lemmas.List.Elements.{All-nil, All-cons, All-push, All-pop, All-contains, Contains-append_right}
use Rattle.mw_words.specs.Change.{is_change}
use Rattle.mw_disk.specs.Facts.{Facts}
use Rattle.mw_record.specs.Layout.{pairs_of}
use Rattle.mw_record.specs.Contents.{HasSecond}
use Rattle.mw_file.specs.declared.new_changes.NewChange.{NewChange}
use Rattle.mw_file.specs.declared.place_states.PlaceState.{PlaceState}
use Rattle.mw_file.specs.declared.place_states.Stage.TheVariants.{Free, Prepared, Sealed}
use Rattle.mw_file.specs.PlaceStates.{stage_of, writes_of_place, IsStaged, AreFreed}
use Rattle.mw_file.specs.Stores.{IsWritten, IsDurable}
use Rattle.mw_file.specs.NewChanges.{MayPrepare, IsNoPlaceOf, ArePrepared, IsSealedWith, AreSettledWith, IsDurableWith}
use Rattle.mw_file.proofs.Bytes.{placed_as}
use Rattle.mw_file.proofs.Places.{staged}

-- a place is that of one of the changes, or of none
pub places_cases : (changes : List NewChange) (place : ℕ) → ((c : NewChange) × Contains changes c × (c.place.0 ≡ place)) ⊎ IsNoPlaceOf changes place
places_cases [] place = inr (All-nil (λ c. c.place.0 ≢ place))
places_cases (c ∷ cs) place = elim (cases_eq c.place.0 place) [
  | inl e ↦ inl (c, (0, omega arith, refl), e)
  | inr ne ↦ elim (places_cases cs place) [
    | inl there ↦ inl (there.0, Contains-append_right (c ∷ []) cs there.0 there.1, there.2)
    | inr none ↦ inr (All-cons (λ d. d.place.0 ≢ place) c cs ne none)
  ]
]

-- ---- no change, or one

-- no change may always be prepared
pub may_prepare_none : (words : ℕ) (states : List PlaceState) → MayPrepare words states []
may_prepare_none words states = record {
  there = All-nil (λ c. c.place.0 < length states);
  free = All-nil (λ c. stage_of states c.place.0 ≡ Free);
  apart = λ i j d low high. absurd (omega (arith, high));
  formed = All-nil (λ c. IsTrue (is_change words c.entries.items));
}

-- one change may be prepared, if its place is the file's and free
pub may_prepare_one : (words : ℕ) (states : List PlaceState) (c : NewChange) → c.place.0 < length states → stage_of states c.place.0 ≡ Free → IsTrue (is_change words c.entries.items)
    → MayPrepare words states (c ∷ [])
may_prepare_one words states c there free formed = record {
  there = All-cons (λ d. d.place.0 < length states) c [] there (All-nil (λ d. d.place.0 < length states));
  free = All-cons (λ d. stage_of states d.place.0 ≡ Free) c [] free (All-nil (λ d. stage_of states d.place.0 ≡ Free));
  apart = λ i j d low high. absurd (omega (arith, low, high));
  formed = All-cons (λ d. IsTrue (is_change words d.entries.items)) c [] formed (All-nil (λ d. IsTrue (is_change words d.entries.items)));
}

-- with none prepared ahead, a settle of all frees the sealed places and no more
pub freed_alone : (old new : List PlaceState) → AreSettledWith old new [] → AreFreed old new
freed_alone old new are = record {
  count = are.count;
  stages = λ place. are.stage_there place (All-nil (λ c. c.place.0 ≢ place));
  writes = λ place. are.writes_there place (All-nil (λ c. c.place.0 ≢ place));
}

-- with none prepared ahead, a seal changes its own place alone
pub sealed_alone : (old new : List PlaceState) (place : ℕ) → IsSealedWith old new place [] → IsStaged old new place Sealed (writes_of_place old place)
sealed_alone old new place are = record {
  count = are.count;
  stage_here = are.stage_there place (All-nil (λ c. c.place.0 ≢ place)) ∙ cond-true (place == place) Sealed (stage_of old place) (eq-eqb place place refl);
  writes_here = are.writes_there place (All-nil (λ c. c.place.0 ≢ place));
  stage_there = λ other ne. are.stage_there other (All-nil (λ c. c.place.0 ≢ other)) ∙ cond-false (other == place) Sealed (stage_of old other) (ne_eqb other place ne);
  writes_there = λ other ne. are.writes_there other (All-nil (λ c. c.place.0 ≢ other));
}

-- one change alone is prepared in its place
pub prepared_alone : (old new : List PlaceState) (c : NewChange) → ArePrepared old new (c ∷ []) → IsStaged old new c.place.0 Prepared (pairs_of c.entries.items)
prepared_alone old new c are = record {
  count = are.count;
  stage_here = are.stage_here 0 c (omega arith);
  writes_here = are.writes_here 0 c (omega arith);
  stage_there = λ other ne. are.stage_there other (All-cons (λ d. d.place.0 ≢ other) c [] (λ e. ne (sym e)) (All-nil (λ d. d.place.0 ≢ other)));
  writes_there = λ other ne. are.writes_there other (All-cons (λ d. d.place.0 ≢ other) c [] (λ e. ne (sym e)) (All-nil (λ d. d.place.0 ≢ other)));
}

-- ---- after a seal or a settle

pub sealed_with : (old mid new : List PlaceState) (place : ℕ) (ahead : List NewChange) → IsStaged old mid place Sealed (writes_of_place old place) → ArePrepared mid new ahead
    → IsSealedWith old new place ahead
sealed_with old mid new place ahead staged are = record {
  count = are.count ∙ staged.count;
  stage_here = are.stage_here;
  writes_here = are.writes_here;
  stage_there = λ other none. elim (cases_eq other place) [
    | inl e ↦
        are.stage_there other none ∙ ap (stage_of mid) e ∙ staged.stage_here
        ∙ sym (cond-true (other == place) Sealed (stage_of old other) (eq-eqb other place e))
    | inr ne ↦
        are.stage_there other none ∙ staged.stage_there other ne
        ∙ sym (cond-false (other == place) Sealed (stage_of old other) (ne_eqb other place ne))
  ];
  writes_there = λ other none. elim (cases_eq other place) [
    | inl e ↦ are.writes_there other none ∙ ap (writes_of_place mid) e ∙ staged.writes_here ∙ ap (writes_of_place old) (sym e)
    | inr ne ↦ are.writes_there other none ∙ staged.writes_there other ne
  ];
}

pub settled_with : (old mid new : List PlaceState) (ahead : List NewChange) → AreFreed old mid → ArePrepared mid new ahead → AreSettledWith old new ahead
settled_with old mid new ahead freed are = record {
  count = are.count ∙ freed.count;
  stage_here = are.stage_here;
  writes_here = are.writes_here;
  stage_there = λ place none. are.stage_there place none ∙ freed.stages place;
  writes_there = λ place none. are.writes_there place none ∙ freed.writes place;
}

-- ---- the loop that sets the states

pub prepared_none : (old : List PlaceState) → ArePrepared old old []
prepared_none old = record {
  count = refl;
  stage_here = All-nil (λ c. stage_of old c.place.0 ≡ Prepared);
  writes_here = All-nil (λ c. writes_of_place old c.place.0 ≡ pairs_of c.entries.items);
  stage_there = λ place none. refl;
  writes_there = λ place none. refl;
}

-- one change more was prepared
pub prepared_more : (old now : List PlaceState) (done : List NewChange) (c : NewChange) (s : PlaceState) → ArePrepared old now done → All (λ d. d.place.0 ≢ c.place.0) done
    → c.place.0 < length old → s.stage ≡ Prepared → s.writes.items ≡ pairs_of c.entries.items → ArePrepared old (slice_set now c.place.0 s) (done ++ c ∷ [])
prepared_more old now done c s so_far apart lt stage writes =
    let place : ℕ = c.place.0 in
    let next : List PlaceState = slice_set now place s in
    let step : IsStaged now next place s.stage s.writes.items = staged now place s (omega (arith, lt, so_far.count)) in
    record {
      count = step.count ∙ so_far.count;
      stage_here = All-push (λ d. stage_of next d.place.0 ≡ Prepared) done c
          (λ j d l. step.stage_there (get_or done j d).place.0 (apart j d l) ∙ so_far.stage_here j d l) (step.stage_here ∙ stage);
      writes_here = All-push (λ d. writes_of_place next d.place.0 ≡ pairs_of d.entries.items) done c
          (λ j d l. step.writes_there (get_or done j d).place.0 (apart j d l) ∙ so_far.writes_here j d l) (step.writes_here ∙ writes);
      stage_there = λ other none.
          let parts = All-pop (λ d. d.place.0 ≢ other) (done ++ c ∷ []) done (Some c) refl none in
          step.stage_there other (λ e. parts.1 (sym e)) ∙ so_far.stage_there other parts.0;
      writes_there = λ other none.
          let parts = All-pop (λ d. d.place.0 ≢ other) (done ++ c ∷ []) done (Some c) refl none in
          step.writes_there other (λ e. parts.1 (sym e)) ∙ so_far.writes_there other parts.0;
    }

-- the change of this number has another place than those before it
pub apart_before : (changes : List NewChange) (k : ℕ) (c : NewChange) → AllPairs (λ a b. a.place.0 ≢ b.place.0) changes → k < length changes → c ≡ get_or changes k c
    → All (λ d. d.place.0 ≢ c.place.0) (take k changes)
apart_before changes k c apart lt is j d l =
    let low : j < k = omega (arith, l, lt, length-take-le k changes (omega (arith, lt))) in
    let earlier : get_or (take k changes) j c ≡ get_or changes j c = get_or-take k changes j c low in
    let same : get_or (take k changes) j d ≡ get_or (take k changes) j c = get_or_default (take k changes) j d c l in
    λ e. apart j k c low lt (ap (λ (x : NewChange). x.place.0) (sym earlier ∙ sym same) ∙ e ∙ ap (λ (x : NewChange). x.place.0) is)

-- the next change was prepared
pub prepared_next : (old now : List PlaceState) (changes : List NewChange) (k : ℕ) (c : NewChange) (s : PlaceState) → ArePrepared old now (take k changes)
    → AllPairs (λ a b. a.place.0 ≢ b.place.0) changes → All (λ a. a.place.0 < length old) changes → k < length changes → c ≡ get_or changes k c
    → s.stage ≡ Prepared → s.writes.items ≡ pairs_of c.entries.items → ArePrepared old (slice_set now c.place.0 s) (take (k + 1) changes)
prepared_next old now changes k c s so_far apart there lt is stage writes =
    let low : c.place.0 < length old = subst (λ (x : NewChange). x.place.0 < length old) (sym is) (there k c lt) in
    let more : take (k + 1) changes ≡ take k changes ++ c ∷ [] = take_more changes k c lt ∙ ap (λ (x : NewChange). take k changes ++ x ∷ []) (sym is) in
    subst (λ (l : List NewChange). ArePrepared old (slice_set now c.place.0 s) l) (sym more)
    (prepared_more old now (take k changes) c s so_far (apart_before changes k c apart lt is) low stage writes)

-- ---- the bytes

-- If the records of the changes are in their places, these places may be called prepared.
pub durable_with : (f : Facts) (at words : ℕ) (contents : List ℕ) (states next : List PlaceState) (changes : List NewChange) → IsDurableWith f at words contents states changes
    → ArePrepared states next changes → IsDurable f at words contents next
durable_with f at words contents states next changes was are =
    let part : List ℕ = drop at f.reads in
    record {
      rest = was.durable.rest;
      stores = record {
        has = subst (λ (n : ℕ). HasSecond at words n contents f.reads) (sym are.count) was.durable.stores.has;
        placed = λ place lt. elim (places_cases changes place) [
          | inl found ↦
              let c : NewChange = found.0 in
              placed_as part words place (stage_of next place) Prepared (writes_of_place next place) (pairs_of c.entries.items)
              (ap (stage_of next) (sym found.2) ∙ All-contains (λ d. stage_of next d.place.0 ≡ Prepared) changes c are.stage_here found.1)
              (ap (writes_of_place next) (sym found.2) ∙ All-contains (λ d. writes_of_place next d.place.0 ≡ pairs_of d.entries.items) changes c are.writes_here found.1)
              (subst (λ (p : ℕ). IsWritten part words p (pairs_of c.entries.items)) found.2
              (All-contains (λ d. IsWritten part words d.place.0 (pairs_of d.entries.items)) changes c was.written found.1))
          | inr none ↦
              placed_as part words place (stage_of next place) (stage_of states place) (writes_of_place next place) (writes_of_place states place)
              (are.stage_there place none) (are.writes_there place none) (was.durable.stores.placed place (omega (arith, lt, are.count)))
        ];
      };
    }
