-- After a settle of all sealed changes, the file's bytes match states in which their places are free, and a prepared place
-- has its record.
-- Used by: free_sealed, one_sealed_place_settles_alone, mw_book.
use Rattle.std.proofs.Common.{◌≡◌, ◌≢◌, ◌⊎◌, ℕ, zero, suc, ◌+◌, ◌-◌, ◌<◌, ◌≤◌, List, [], ◌∷◌, ◌++◌, length, map, drop, Some, None, IsTrue, slice_index, slice_get, slice_set, get_or, sum_by, refl, sym, ap, ◌∙◌, inl, inr, arith, subst, append_assoc}
use Rattle.std.proofs.lemmas.Bool.{cases_eq, cases_lt}
use Rattle.std.proofs.lemmas.List.{append-nil}
use Rattle.std.proofs.lemmas.List.Sums.{sum_by-cons}
use Rattle.std.proofs.lemmas.Option.{slice_get-get_or, slice_get_past}
use Rattle.mw_disk.specs.DeviceCalls.{DeviceCall, Sync}
use Rattle.mw_disk.specs.Facts.{Facts}
use Rattle.mw_disk.specs.Runs.{SameBut}
use Rattle.mw_record.specs.declared.layout.Layout.TheVariants.{Second}
use Rattle.mw_record.specs.Layout.{place_at}
use Rattle.mw_record.specs.Records.{Pairs, record_at}
use Rattle.mw_record.proofs.TestsBelow.{few_entries}
use Rattle.mw_record.specs.Contents.{HasWords, HasSecond}
use Rattle.mw_file.specs.declared.place_states.PlaceState.{PlaceState}
use Rattle.mw_file.specs.declared.place_states.Stage.{Stage}
use Rattle.mw_file.specs.declared.place_states.Stage.TheVariants.{Free, Prepared, Sealed}
use Rattle.mw_file.specs.PlaceStates.{stage_of, stage_at, writes_in, writes_of_place, if_sealed, home_writes_of, commit_writes_of, roll_calls, freed, IsStaged, AreFreed, IsOnlySealed}
use Rattle.mw_file.specs.DeviceCalls.{commit_at, home_call, home_calls, clear_call, clear_calls, if_sealed_calls, roll_device_calls, settle_calls}
use Rattle.mw_file.specs.Stores.{PlacedAs, IsWritten, Stores, IsStored, IsDurable}
use Rattle.mw_file.specs.RollForward.{InHomes, AtCommits, HasSealed, CanRoll, IsRolled}
use Rattle.mw_file.proofs.Parts.{PartStores, part_stores, part_same}
use Rattle.mw_file.proofs.Bytes.{placed_as, placed_same, written_same}
use Rattle.mw_file.proofs.Places.{staged}
use Rattle.mw_file.proofs.RollForwardLaws.{Tells, sealed_or_not, rolled_others, rolled_shut}
use Rattle.mw_file.proofs.SettledFiles.{tells_all}

-- ---- the states: the sealed places are set free, one after the other

-- The sealed places below n are free. All else is as it was.
pub record IsFreedBelow (n : ℕ) (old now : List PlaceState) : Type 0 where
  pub count : length now ≡ length old
  pub below : (place : ℕ) → place < n → stage_of now place ≡ freed (stage_of old place)
  pub others : (place : ℕ) → n ≤ place → stage_of now place ≡ stage_of old place
  pub writes : (place : ℕ) → writes_of_place now place ≡ writes_of_place old place

pub freed_none : (old : List PlaceState) → IsFreedBelow 0 old old
freed_none old = record {
  count = refl;
  below = λ place lt. absurd (omega (arith, lt));
  others = λ place le. refl;
  writes = λ place. refl;
}

-- the next place has the stage after the settle, and its writes
pub freed_next : (n : ℕ) (old now : List PlaceState) (s : PlaceState) (t : Stage) → IsFreedBelow n old now → n < length old → t ≡ freed (get_or now n s).stage
    → IsFreedBelow (n + 1) old (slice_set now n (record { stage = t; writes = (get_or now n s).writes }))
freed_next n old now s t so_far lt is =
    let within : n < length now = omega (arith, lt, so_far.count) in
    let next : PlaceState = record { stage = t; writes = (get_or now n s).writes } in
    let item : slice_get now n ≡ Some (get_or now n s) = slice_get-get_or now n s within in
    let step : IsStaged now (slice_set now n next) n t next.writes.items = staged now n next within in
    let here : t ≡ freed (stage_of old n) = is ∙ ap (λ o. freed (stage_at o)) (sym item) ∙ ap freed (so_far.others n (omega arith)) in
    record {
      count = step.count ∙ so_far.count;
      below = λ place low. elim (cases_eq place n) [
        | inl e ↦ ap (stage_of (slice_set now n next)) e ∙ step.stage_here ∙ here ∙ ap (λ p. freed (stage_of old p)) (sym e)
        | inr ne ↦ step.stage_there place ne ∙ so_far.below place (omega (arith, low, ne))
      ];
      others = λ place high. step.stage_there place (λ e. omega (arith, high, e)) ∙ so_far.others place (omega (arith, high));
      writes = λ place. elim (cases_eq place n) [
        | inl e ↦ ap (writes_of_place (slice_set now n next)) e ∙ step.writes_here ∙ sym (ap writes_in item) ∙ so_far.writes n ∙ ap (writes_of_place old) (sym e)
        | inr ne ↦ step.writes_there place ne ∙ so_far.writes place
      ];
    }

pub freed_all : (n : ℕ) (old now : List PlaceState) → IsFreedBelow n old now → length old ≤ n → AreFreed old now
freed_all n old now so_far le = record {
  count = so_far.count;
  stages = λ place. elim (cases_lt place n) [
    | inl low ↦ so_far.below place low
    | inr high ↦
        let none : stage_of old place ≡ Free = ap stage_at (slice_get_past old place (omega (arith, high, le))) in
        so_far.others place high ∙ none ∙ ap freed (sym none)
  ];
  writes = so_far.writes;
}

-- ---- the bytes

-- a sealed place that was closed is free
freed_placed : (c : List ℕ) (words place : ℕ) (s : Stage) (w : Pairs) → s ≡ Sealed → record_at Second c words place ≡ None → PlacedAs c words place (freed s) w
freed_placed c words place s w is closed = placed_as c words place (freed s) Free w w (ap freed is) refl closed

-- any other place is what it was
kept_stage : (s : Stage) → (s ≡ Sealed → ⊥) → freed s ≡ s
kept_stage Free other = refl
kept_stage Prepared other = refl
kept_stage Sealed other = absurd (other refl)

-- All sealed places were rolled forward: the bytes match the new states.
pub freed_done : (b c : List ℕ) (words : ℕ) (contents : List ℕ) (states new : List PlaceState) → PartStores b words contents states
    → SameBut (λ k. InHomes states k ⊎ AtCommits words 0 states k) b c
    → ((i : ℕ) → i < length states → stage_of states i ≡ Sealed → slice_index c (place_at Second words (0 + i)) ≡ 0)
    → HasWords Second words (length states) contents c → AreFreed states new → PartStores c words contents new
freed_done b c words contents states new was same shut has are =
    let tells : Tells b words 0 states = tells_all b words contents states was in
    let inside : 0 + length states ≤ length states = omega arith in
    record {
      has = subst (λ (n : ℕ). HasWords Second words n contents c) (sym are.count) has;
      placed = λ place lt.
          let within : place < length states = omega (arith, lt, are.count) in
          let s : Stage = stage_of states place in
          let w : Pairs = writes_of_place states place in
          let at : stage_of states (place - 0) ≡ s = ap (stage_of states) (let e : place - 0 ≡ place = omega arith in e) in
          placed_as c words place (stage_of new place) (freed s) (writes_of_place new place) w (are.stages place) (are.writes place)
          (elim (sealed_or_not s) [
            | inl sealed ↦ freed_placed c words place s w sealed (elim (rolled_shut b words (length states) 0 states contents was.has inside tells c same shut place within) [
              | inl none ↦ absurd (none (omega arith) (omega (arith, within)) (at ∙ sealed))
              | inr closed ↦ closed
            ])
            | inr other ↦ placed_as c words place (freed s) s w w (kept_stage s other) refl
                (placed_same b c words place s w
                (rolled_others b words (length states) 0 states contents was.has inside tells c same place (λ low high is. other (sym at ∙ is)))
                (λ ps is. few_entries Second words ps (was.has.stands.formed place ps within is)) (was.placed place within))
          ]);
    }

module _ (old : Facts) (at words : ℕ) (contents : List ℕ) (states : List PlaceState) (stored : IsStored old at words contents states) where
  -- a file's bytes have the records of its sealed places
  has_sealed : (image : List ℕ) → Stores image at words contents states → HasSealed at words (length states) 0 states contents image
  has_sealed image is = record { has = is.has; recorded = (tells_all (drop at image) words contents states (part_stores image at words contents states is)).recorded }

  pub settle_all_can : IsTrue old.honest → CanRoll old at words (length states) 0 states contents
  settle_all_can honest = record {
    honest = honest;
    within = omega arith;
    read = has_sealed old.reads stored.stores;
    left = λ image left. has_sealed image (stored.left image left);
  }

  pub settle_all_durable : (new : Facts) (next : List PlaceState) → HasSecond at words (length states) contents new.reads → IsRolled at words 0 states old new → AreFreed states next
      → IsDurable new at words contents next
  settle_all_durable new next has rolled are = record {
    rest = rolled.rest;
    stores = record {
      has = subst (λ (n : ℕ). HasSecond at words n contents new.reads) (sym are.count) has;
      placed = (freed_done (drop at old.reads) (drop at new.reads) words contents states next (part_stores old.reads at words contents states stored.stores)
          (part_same at _ old.reads new.reads rolled.same) rolled.shut has.part are).placed;
    };
  }

  -- the record of a place that is free stays
  pub settle_all_others : (new : Facts) (place : ℕ) (writes : Pairs) → IsRolled at words 0 states old new → place < length states → stage_of states place ≡ Free
      → IsWritten (drop at old.reads) words place writes → IsWritten (drop at new.reads) words place writes
  settle_all_others new place writes rolled lt free written =
      let was = part_stores old.reads at words contents states stored.stores in
      written_same (drop at old.reads) (drop at new.reads) words place writes
      (rolled_others (drop at old.reads) words (length states) 0 states contents was.has (omega arith) (tells_all (drop at old.reads) words contents states was) (drop at new.reads)
      (part_same at _ old.reads new.reads rolled.same) place
      (λ low high is. let e : Free ≡ Sealed = sym free ∙ ap (stage_of states) (let z : place ≡ place - 0 = omega arith in z) ∙ is in absurd (cc))) written

-- ---- just one place is sealed

-- what is said of the other places of a list is said of its rest
only_rest : (s : PlaceState) (states : List PlaceState) (place : ℕ) → IsOnlySealed (s ∷ states) (suc place) → IsOnlySealed states place
only_rest s states place only = record {
  sealed = only.sealed;
  others = λ other ne. only.others (suc other) (λ e. ne (omega (arith, e)));
}

no_calls : (t : Stage) (calls : List DeviceCall) → t ≢ Sealed → if_sealed_calls t calls ≡ []
no_calls Free calls other = refl
no_calls Prepared calls other = refl
no_calls Sealed calls other = absurd (other refl)

no_number : (t : Stage) (n : ℕ) → t ≢ Sealed → if_sealed t n ≡ 0
no_number Free n other = refl
no_number Prepared n other = refl
no_number Sealed n other = absurd (other refl)

homes_none : (at : ℕ) (states : List PlaceState) → ((place : ℕ) → stage_of states place ≢ Sealed) → home_calls at states ≡ []
homes_none at [] none = refl
homes_none at (s ∷ states) none =
    ap (λ (l : List DeviceCall). l ++ home_calls at states) (no_calls s.stage (map (home_call at) s.writes.items) (none 0)) ∙ homes_none at states (λ place. none (suc place))

clears_none : (at words first : ℕ) (states : List PlaceState) → ((place : ℕ) → stage_of states place ≢ Sealed) → clear_calls at words first states ≡ []
clears_none at words first [] none = refl
clears_none at words first (s ∷ states) none =
    ap (λ (l : List DeviceCall). l ++ clear_calls at words (first + 1) states) (no_calls s.stage (clear_call (commit_at at words first) ∷ []) (none 0))
    ∙ clears_none at words (first + 1) states (λ place. none (suc place))

-- a number of each place, if it is sealed
abbrev if_counted : (Pairs → ℕ) → PlaceState → ℕ
if_counted g s = if_sealed s.stage (g s.writes.items)

sums_none : (g : Pairs → ℕ) (states : List PlaceState) → ((place : ℕ) → stage_of states place ≢ Sealed) → sum_by (if_counted g) states ≡ 0
sums_none g [] none = refl
sums_none g (s ∷ states) none =
    let first : if_counted g s ≡ 0 = no_number s.stage (g s.writes.items) (none 0) in
    omega (arith, sum_by-cons (if_counted g) s states, first, sums_none g states (λ place. none (suc place)))

-- after the only one no place is sealed
rest_none : (s : PlaceState) (states : List PlaceState) → IsOnlySealed (s ∷ states) 0 → (place : ℕ) → stage_of states place ≢ Sealed
rest_none s states only place = only.others (suc place) (λ e. omega (arith, e))

first_other : (s : PlaceState) (states : List PlaceState) (place : ℕ) → IsOnlySealed (s ∷ states) (suc place) → s.stage ≢ Sealed
first_other s states place only = only.others 0 (λ e. omega (arith, e))

homes_one : (at : ℕ) (states : List PlaceState) (place : ℕ) → IsOnlySealed states place → home_calls at states ≡ map (home_call at) (writes_of_place states place)
homes_one at [] place only = absurd (let e : Free ≡ Sealed = only.sealed in cc)
homes_one at (s ∷ states) zero only =
    let homes : List DeviceCall = map (home_call at) s.writes.items in
    ap (λ (t : Stage). if_sealed_calls t homes ++ home_calls at states) only.sealed ∙ ap (λ (l : List DeviceCall). homes ++ l) (homes_none at states (rest_none s states only)) ∙ append-nil homes
homes_one at (s ∷ states) (suc place) only =
    ap (λ (l : List DeviceCall). l ++ home_calls at states) (no_calls s.stage (map (home_call at) s.writes.items) (first_other s states place only))
    ∙ homes_one at states place (only_rest s states place only)

clears_one : (at words first : ℕ) (states : List PlaceState) (place : ℕ) → IsOnlySealed states place → clear_calls at words first states ≡ clear_call (commit_at at words (first + place)) ∷ []
clears_one at words first [] place only = absurd (let e : Free ≡ Sealed = only.sealed in cc)
clears_one at words first (s ∷ states) zero only =
    let clear : List DeviceCall = clear_call (commit_at at words first) ∷ [] in
    ap (λ (t : Stage). if_sealed_calls t clear ++ clear_calls at words (first + 1) states) only.sealed
    ∙ ap (λ (l : List DeviceCall). clear ++ l) (clears_none at words (first + 1) states (rest_none s states only))
    ∙ ap (λ (n : ℕ). clear_call (commit_at at words n) ∷ []) (let e : first ≡ first + 0 = omega arith in e)
clears_one at words first (s ∷ states) (suc place) only =
    ap (λ (l : List DeviceCall). l ++ clear_calls at words (first + 1) states) (no_calls s.stage (clear_call (commit_at at words first) ∷ []) (first_other s states place only))
    ∙ clears_one at words (first + 1) states place (only_rest s states place only)
    ∙ ap (λ (n : ℕ). clear_call (commit_at at words n) ∷ []) (let e : first + 1 + place ≡ first + suc place = omega arith in e)

sums_one : (g : Pairs → ℕ) (states : List PlaceState) (place : ℕ) → IsOnlySealed states place → sum_by (if_counted g) states ≡ g (writes_of_place states place)
sums_one g [] place only = absurd (let e : Free ≡ Sealed = only.sealed in cc)
sums_one g (s ∷ states) zero only =
    let first : if_counted g s ≡ g s.writes.items = ap (λ (t : Stage). if_sealed t (g s.writes.items)) only.sealed in
    omega (arith, sum_by-cons (if_counted g) s states, first, sums_none g states (rest_none s states only))
sums_one g (s ∷ states) (suc place) only =
    let first : if_counted g s ≡ 0 = no_number s.stage (g s.writes.items) (first_other s states place only) in
    omega (arith, sum_by-cons (if_counted g) s states, first, sums_one g states place (only_rest s states place only))

-- it is free after a settle of all, and all else is as it was
pub freed_one : (old new : List PlaceState) (place : ℕ) → IsOnlySealed old place → AreFreed old new → IsStaged old new place Free (writes_of_place old place)
freed_one old new place only are = record {
  count = are.count;
  stage_here = are.stages place ∙ ap freed only.sealed;
  writes_here = are.writes place;
  stage_there = λ other ne. are.stages other ∙ kept_stage (stage_of old other) (only.others other ne);
  writes_there = λ other ne. are.writes other;
}

-- the device calls are those of a settle of that place
pub one_calls : (at words : ℕ) (states : List PlaceState) (place : ℕ) → IsOnlySealed states place → roll_device_calls at words 0 states ≡ settle_calls at words place (writes_of_place states place)
one_calls at words states place only =
    let homes : List DeviceCall = map (home_call at) (writes_of_place states place) in
    ap (λ (l : List DeviceCall). (l ++ Sync ∷ []) ++ (clear_calls at words 0 states ++ Sync ∷ [])) (homes_one at states place only)
    ∙ ap (λ (l : List DeviceCall). (homes ++ Sync ∷ []) ++ (l ++ Sync ∷ [])) (clears_one at words 0 states place only)
    ∙ append_assoc homes (Sync ∷ []) (clear_call (commit_at at words (0 + place)) ∷ Sync ∷ [])
    ∙ ap (λ (n : ℕ). homes ++ Sync ∷ clear_call (commit_at at words n) ∷ Sync ∷ []) (let e : 0 + place ≡ place = omega arith in e)

pub one_count : (states : List PlaceState) (place : ℕ) → IsOnlySealed states place → roll_calls states ≡ length (writes_of_place states place) + 3
one_count states place only =
    let homes : sum_by home_writes_of states ≡ length (writes_of_place states place) = sums_one length states place only in
    let commits : sum_by commit_writes_of states ≡ 1 = sums_one (λ w. 1) states place only in
    omega (arith, homes, commits)
