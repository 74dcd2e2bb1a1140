-- Which waiting changes are chosen: one more of them is looked at, and is left out, or gets the highest free place.
-- Used by: Chosen::add, choose.
use Rattle.std.proofs.Common.{◌≡◌, ◌≢◌, ℕ, zero, suc, ◌+◌, ◌-◌, ◌==◌, ◌<◌, ◌≤◌, ◌&&◌, ◌||◌, not, Bool, true, false, List, [], ◌∷◌, ◌++◌, length, take, min, drop, Option, Some, None, is_some, get_or, slice_set, nat_lt, nat_le, refl, sym, ap, subst, ◌∙◌, inl, inr, arith}
use Rattle.std.specs.List.{filter}
use Rattle.std.proofs.lemmas.Bool.{cases_eq, cases_lt, cond-true, cond-false, eq-eqb, le-leb, leb-true, le-ltb, lt-ltb, ne_eqb, or_cases, or_left, or_right}
use Rattle.std.proofs.lemmas.List.{append-nil, append_assoc, drop_more, get_or-set_same, get_or-set_other, length-append}
use Rattle.std.proofs.lemmas.List.Folds.{list_any-append}
use Rattle.mw_words.specs.Change.{is_change}
use Rattle.mw_words.specs.declared.jobs.Entry.{Entry}
use Rattle.mw_record.specs.Layout.{pairs_of}
use Rattle.mw_file.specs.declared.new_changes.NewChange.{NewChange}
use Rattle.mw_file.specs.declared.place_states.PlaceState.{PlaceState}
use Rattle.mw_file.specs.PlaceStates.{writes_of_place}
use Rattle.mw_book.specs.declared.place_table.PlaceTable.{PlaceTable}
use Rattle.mw_book.specs.declared.waiting.Waiting.{Waiting}
use Rattle.mw_book.specs.declared.waiting.TheConstants.{MOST_AHEAD}
use Rattle.mw_book.specs.ChosenPlaces.{AreAhead, IsThere, IsUnderWay, free_within, is_new_for}
use Rattle.mw_book.specs.Permits.{is_left, is_vacant}
use Rattle.mw_book.specs.PreparedAhead.{are_writes_of, is_for, is_written, written_place}
use Rattle.mw_book.specs.RecordsAhead.{first_ready, is_among, is_free, is_one, is_ready}
use Rattle.mw_book.specs.Representation.{is_prepared_ahead, is_settled, place_in_file, stage_in_file, writes_in_file}
use Rattle.mw_book.proofs.ChosenPlaces.{front_of, last_of}
use Rattle.mw_book.proofs.CountedPlaces.{count_highest, count_none, count_same}
use Rattle.mw_book.proofs.WrittenPlaces.{written_ahead, written_last}

-- the search that finds no record ends at the number of places
pub found_none : (states : List PlaceState) (table : PlaceTable) (places slot : ℕ) (entries : List Entry)
    → (written_place states table slot entries places == places) ≡ not (nat_lt (written_place states table slot entries places) places)
found_none states table places slot entries =
    let last = written_last states table slot entries 0 places in
    elim (cases_lt (written_place states table slot entries places) places) [
      | inl lt ↦ ne_eqb (written_place states table slot entries places) places (λ is. omega (arith, is, lt)) ∙ sym (ap not (lt-ltb (written_place states table slot entries places) places lt))
      | inr le ↦ by (written_place states table slot entries places) (omega (arith, last, le))
    ] where
      by : (n : ℕ) → n ≡ places → (n == places) ≡ not (nat_lt n places)
      by n is = eq-eqb n places is ∙ sym (ap not (le-ltb n places (omega (arith, is))))

-- a change is ready if it is new and well formed
pub ready_is : (words : ℕ) (states : List PlaceState) (table : PlaceTable) (places slot : ℕ) (w : Waiting) → is_ready words states table places slot w ≡ (is_new_for states table places slot w.slot w.entries.items && is_change words w.entries.items)
ready_is words states table places slot w = ap (λ b. not (w.slot == slot) && b && is_change words w.entries.items) (sym (found_none states table places w.slot w.entries.items))

-- the slot of a change that is prepared ahead makes it so
told_some : (found : Option ℕ) (slot : ℕ) → found ≡ Some slot → is_some found ≡ true
told_some found slot is = ap is_some is

module _ (words : ℕ) (states : List PlaceState) (table : PlaceTable) (places low slot : ℕ) (all : List Waiting) (next : PlaceTable) (changes : List NewChange) (top : ℕ) (w : Waiting) (rest : List Waiting)
    (under : IsUnderWay words states table places low slot all next changes top (w ∷ rest)) where
  abbrev ready : Waiting → Bool
  ready = is_ready words states table places slot

  abbrev room : ℕ
  room = min (MOST_AHEAD - length changes) (free_within states next low top)

  -- a change that isn't ready is left out
  pub left_out : ready w ≡ false → IsUnderWay words states table places low slot all next changes top rest
  left_out isnt = record {
    written = under.written;
    are = under.are;
    most = under.most;
    in_all = sym (ap (λ ws. under.written ++ take room ws) (cond-false (ready w) (w ∷ filter ready rest) (filter ready rest) isnt)) ∙ under.in_all;
  }

  -- no more are chosen if there is no room
  pub no_room : room ≡ 0 → IsUnderWay words states table places low slot all next changes top rest
  no_room none = record {
    written = under.written;
    are = under.are;
    most = under.most;
    in_all = ap (λ n. under.written ++ take n (filter ready rest)) none ∙ sym (ap (λ n. under.written ++ take n (filter ready (w ∷ rest))) none) ∙ under.in_all;
  }

  pub none_free : ((k : ℕ) → low ≤ k → k < top → is_free states next k ≡ false) → IsUnderWay words states table places low slot all next changes top rest
  none_free none = no_room (let zero_free = count_none (λ k. nat_le low k && is_free states next k) top (λ k lt. elim (cases_lt k low) [
    | inl less ↦ ap (λ b. b && is_free states next k) (gt_leb k less)
    | inr le ↦ ap (λ b. b && is_free states next k) (le-leb low k le) ∙ none k le lt
  ]) in omega (arith, zero_free)) where
    gt_leb : (k : ℕ) → k < low → nat_le low k ≡ false
    gt_leb k less = by (nat_le low k) refl where
      by : (b : Bool) → nat_le low k ≡ b → b ≡ false
      by false is = refl
      by true is = absurd (let e = leb-true low k is in let bad : ⊥ = omega (arith, e, less) in bad)

  -- a ready change gets the highest free place
  module _ (place : ℕ) (c : NewChange) (le : low ≤ place) (lt : place < top) (few : length changes < MOST_AHEAD) (vacant : is_vacant states next place ≡ true) (off : is_prepared_ahead next place ≡ false)
      (highest : (k : ℕ) → place < k → k < top → is_free states next k ≡ false) (within : place < length next.ahead_for) (at : c.place.0 ≡ place_in_file next place) (same : c.entries.items ≡ w.entries.items) (is : ready w ≡ true) where
    abbrev after : PlaceTable
    after = record next { ahead_for = slice_set next.ahead_for place (Some w.slot) }

    told_here : get_or after.ahead_for place None ≡ Some w.slot
    told_here = get_or-set_same next.ahead_for place (Some w.slot) None within

    told_there : (k : ℕ) → k ≢ place → get_or after.ahead_for k None ≡ get_or next.ahead_for k None
    told_there k apart = get_or-set_other next.ahead_for place k (Some w.slot) None apart

    -- in the place that was chosen it was not so before
    off_before : is_prepared_ahead table place ≡ false
    off_before = by (is_prepared_ahead table place) refl where
      by : (flag : Bool) → is_prepared_ahead table place ≡ flag → flag ≡ false
      by false is_off = refl
      by true is_on = absurd (let e : true ≡ false = sym (ap is_some (under.are.kept place is_on) ∙ is_on) ∙ off in cc)

    written_here : (new : List PlaceState) → writes_of_place new c.place.0 ≡ pairs_of c.entries.items → (s : ℕ) (es : List Entry) → is_written new after s es place ≡ is_one s es w
    written_here new writes s es =
        ap (λ found. is_for found s && are_writes_of (writes_in_file new after place) es) told_here
        ∙ ap (λ ws. (w.slot == s) && are_writes_of ws es) (ap (writes_of_place new) (sym at) ∙ writes ∙ ap pairs_of same)

    written_there : (new : List PlaceState) (s : ℕ) (es : List Entry) (k : ℕ) → k ≢ place → is_written new after s es k ≡ is_written new next s es k
    written_there new s es k apart = ap (λ found. is_for found s && are_writes_of (writes_in_file new next k) es) (told_there k apart)

    one_among : (s : ℕ) (es : List Entry) → is_among (under.written ++ w ∷ []) s es ≡ (is_among under.written s es || (is_one s es w || false))
    one_among s es = list_any-append (is_one s es) under.written (w ∷ [])

    pub one_ahead : AreAhead table (record next { ahead_for = slice_set next.ahead_for place (Some w.slot) }) places (changes ++ c ∷ []) (under.written ++ w ∷ [])
    one_ahead = record {
      many =
          let these : length (changes ++ c ∷ []) ≡ length changes + 1 = length-append changes (c ∷ []) in
          let those : length (under.written ++ w ∷ []) ≡ length under.written + 1 = length-append under.written (w ∷ []) in
          let many = under.are.many in
          omega (arith, these, those, many);
      kept = λ k is_on. told_there k (λ here. let e : true ≡ false = sym is_on ∙ ap (is_prepared_ahead table) here ∙ off_before in cc) ∙ under.are.kept k is_on;
      each = λ new writes s es among. elim (or_cases (is_among under.written s es) (is_one s es w || false) (sym (one_among s es) ∙ among)) [
        | inl before ↦
            let one : IsThere table next new places s es = under.are.each new (front_of (λ d. writes_of_place new d.place.0 ≡ pairs_of d.entries.items) changes c writes) s es before in
            record {
              place = one.place;
              low = one.low;
              was = one.was;
              now = written_there new s es one.place (λ here. let e : true ≡ false = sym (written_ahead new next s es one.place one.now) ∙ ap (is_prepared_ahead next) here ∙ off in cc) ∙ one.now;
            }
        | inr this ↦ record {
          place = place;
          low = (let most = under.most in omega (arith, most, lt));
          was = off_before;
          now = written_here new (last_of (λ d. writes_of_place new d.place.0 ≡ pairs_of d.entries.items) changes c writes) s es ∙ sym (or_nothing (is_one s es w)) ∙ this;
        }
      ];
      only = λ new writes k low_k was s es has. one_among s es ∙ elim (cases_eq k place) [
        | inl here ↦
            or_right (is_among under.written s es) (is_one s es w || false)
            (or_nothing (is_one s es w) ∙ sym (written_here new (last_of (λ d. writes_of_place new d.place.0 ≡ pairs_of d.entries.items) changes c writes) s es) ∙ sym (ap (is_written new after s es) here) ∙ has)
        | inr apart ↦
            or_left (is_among under.written s es) (is_one s es w || false)
            (under.are.only new (front_of (λ d. writes_of_place new d.place.0 ≡ pairs_of d.entries.items) changes c writes) k low_k was s es (sym (written_there new s es k apart) ∙ has))
      ];
    } where
      or_nothing : (b : Bool) → (b || false) ≡ b
      or_nothing true = refl
      or_nothing false = refl

    -- the places that are free below this one are as before
    free_below : (k : ℕ) → k < place → is_free states after k ≡ is_free states next k
    free_below k less =
        let kept : is_prepared_ahead after k ≡ is_prepared_ahead next k = ap is_some (told_there k (λ here. omega (arith, here, less))) in
        ap (λ b. (is_left b (stage_in_file states next k) && not (is_settled next k)) && not b) kept

    free_here : (nat_le low place && is_free states next place) ≡ true
    free_here = ap (λ b. b && (is_vacant states next place && not (is_prepared_ahead next place))) (le-leb low place le) ∙ ap (λ b. b && not (is_prepared_ahead next place)) vacant ∙ ap not off

    one_less : free_within states next low top ≡ free_within states after low place + 1
    one_less =
        count_highest (λ k. nat_le low k && is_free states next k) top place lt free_here
        (λ k more less. ap (λ b. nat_le low k && b) (highest k more less) ∙ and_nothing (nat_le low k))
        ∙ ap (λ n. n + 1) (sym (count_same (λ k. nat_le low k && is_free states after k) (λ k. nat_le low k && is_free states next k) place (λ k less. ap (λ b. nat_le low k && b) (free_below k less)))) where
          and_nothing : (b : Bool) → (b && false) ≡ false
          and_nothing true = refl
          and_nothing false = refl

    abbrev room_after : ℕ
    room_after = min (MOST_AHEAD - length (changes ++ c ∷ [])) (free_within states after low place)

    room_is : room ≡ suc room_after
    room_is =
        let these : length (changes ++ c ∷ []) ≡ length changes + 1 = length-append changes (c ∷ []) in
        let less = one_less in
        omega (arith, these, less, few)

    pub one_chosen : IsUnderWay words states table places low slot all (record next { ahead_for = slice_set next.ahead_for place (Some w.slot) }) (changes ++ c ∷ []) place rest
    one_chosen = record {
      written = under.written ++ w ∷ [];
      are = one_ahead;
      most = (let most = under.most in omega (arith, most, lt));
      in_all =
          append_assoc under.written (w ∷ []) (take room_after (filter ready rest))
          ∙ sym (ap (λ n. under.written ++ take n (w ∷ filter ready rest)) room_is)
          ∙ sym (ap (λ ws. under.written ++ take room ws) (cond-true (ready w) (w ∷ filter ready rest) (filter ready rest) is)) ∙ under.in_all;
    }

-- before any change is looked at, and after all are
pub none_yet : (words : ℕ) (states : List PlaceState) (table : PlaceTable) (places low slot : ℕ) (waiting : List Waiting)
    → IsUnderWay words states table places low slot (first_ready words states table places slot (free_within states table low places) waiting) table [] places waiting
none_yet words states table places low slot waiting = record {
  written = [];
  are = record {
    many = refl;
    kept = λ k is. refl;
    each = λ new writes s es among. absurd (let e : false ≡ true = among in cc);
    only = λ new writes k lt was s es has. absurd (let e : true ≡ false = sym (written_ahead new table s es k has) ∙ was in cc);
  };
  most = omega arith;
  in_all = refl;
}

pub all_chosen : (words : ℕ) (states : List PlaceState) (table : PlaceTable) (places low slot : ℕ) (all : List Waiting) (next : PlaceTable) (changes : List NewChange) (top : ℕ)
    → IsUnderWay words states table places low slot all next changes top [] → AreAhead table next places changes all
all_chosen words states table places low slot all next changes top under =
    subst (AreAhead table next places changes) (sym (append-nil under.written) ∙ sym (ap (λ ws. under.written ++ ws) (nothing (min (MOST_AHEAD - length changes) (free_within states next low top)))) ∙ under.in_all) under.are where
      nothing : (n : ℕ) → take n (filter (is_ready words states table places slot) []) ≡ []
      nothing zero = refl
      nothing (suc n) = refl

module _ (words : ℕ) (states : List PlaceState) (table : PlaceTable) (places low slot : ℕ) (all : List Waiting) (next : PlaceTable) (changes : List NewChange) (top : ℕ) where
  -- the next change is the first of those that are left
  pub next_of : (waiting : List Waiting) (i : ℕ) (w : Waiting) → i < length waiting → w ≡ get_or waiting i w → IsUnderWay words states table places low slot all next changes top (drop i waiting)
      → IsUnderWay words states table places low slot all next changes top (w ∷ drop (i + 1) waiting)
  next_of waiting i w lt is under = subst (IsUnderWay words states table places low slot all next changes top) (drop_more waiting i w lt ∙ ap (λ (x : Waiting). x ∷ drop (i + 1) waiting) (sym is)) under

  -- a change of this slot, or one that is prepared ahead, is left out
  pub old_passes : (w : Waiting) (rest : List Waiting) → IsUnderWay words states table places low slot all next changes top (w ∷ rest) → is_new_for states table places slot w.slot w.entries.items ≡ false
      → IsUnderWay words states table places low slot all next changes top rest
  old_passes w rest under old =
      left_out words states table places low slot all next changes top w rest under (ready_is words states table places slot w ∙ ap (λ b. b && is_change words w.entries.items) old)

  -- no more than MOST_AHEAD are chosen
  pub full_passes : (w : Waiting) (rest : List Waiting) → IsUnderWay words states table places low slot all next changes top (w ∷ rest) → MOST_AHEAD ≤ length changes
      → IsUnderWay words states table places low slot all next changes top rest
  full_passes w rest under full = no_room words states table places low slot all next changes top w rest under (omega (arith, full))
