-- A waiting change that gets the next free place can be prepared along with those chosen before it. Used by: Chosen::add.
use Rattle.std.proofs.Common.{◌≡◌, ◌≢◌, ℕ, ◌+◌, ◌<◌, ◌≤◌, ◌&&◌, not, Bool, true, false, List, [], ◌∷◌, ◌++◌, length, Some, None, is_some, slice_set, All, IsTrue, refl, sym, ap, subst, ◌∙◌, inl, inr, arith}
use Rattle.std.proofs.Math.ListN.{get_or-append}
use Rattle.std.proofs.Math.Seq.{get_or-append_seam}
use Rattle.std.proofs.lemmas.Bool.{cases_eq}
use Rattle.std.proofs.lemmas.List.{get_or-set_same, get_or-set_other, length-append}
use Rattle.std.proofs.lemmas.List.Elements.{All-nil, All-push}
use Rattle.std.proofs.lemmas.List.Quantifiers.{all_pairs_push}
use Rattle.mw_words.specs.Change.{is_change}
use Rattle.mw_file.specs.declared.new_changes.NewChange.{NewChange}
use Rattle.mw_file.specs.declared.place_states.PlaceState.{PlaceState}
use Rattle.mw_file.specs.declared.place_states.Stage.TheVariants.{Free, Prepared}
use Rattle.mw_file.specs.NewChanges.{MayPrepare, IsNoPlaceOf}
use Rattle.mw_file.specs.PlaceStates.{stage_of}
use Rattle.mw_book.specs.declared.place_table.PlaceTable.{PlaceTable}
use Rattle.mw_book.specs.ChosenPlaces.{AreChosen, IsChosen}
use Rattle.mw_book.specs.FilePlaces.{flag_of, place_in, IsPermutation}
use Rattle.mw_book.specs.Permits.{is_left, is_vacant}
use Rattle.mw_book.specs.Representation.{is_prepared_ahead, is_settled, place_in_file, stage_in_file}
use Rattle.mw_book.proofs.FoundPlaces.{free_of}

-- one more change may be prepared, in a free place that is none of the others'
pub may_one_more : (words : ℕ) (states : List PlaceState) (changes : List NewChange) (c : NewChange) → MayPrepare words states changes → c.place.0 < length states → stage_of states c.place.0 ≡ Free
    → IsNoPlaceOf changes c.place.0 → IsTrue (is_change words c.entries.items) → MayPrepare words states (changes ++ c ∷ [])
may_one_more words states changes c may there free none formed = record {
  there = All-push (λ d. d.place.0 < length states) changes c may.there there;
  free = All-push (λ d. stage_of states d.place.0 ≡ Free) changes c may.free free;
  apart = all_pairs_push (λ d e. d.place.0 ≢ e.place.0) changes c may.apart none;
  formed = All-push (λ d. IsTrue (is_change words d.entries.items)) changes c may.formed formed;
}

-- what holds of the last change, and of those before it
pub last_of : (P : NewChange → Type 0) (changes : List NewChange) (c : NewChange) → All P (changes ++ c ∷ []) → P c
last_of P changes c all =
    let more : length (changes ++ c ∷ []) ≡ length changes + 1 = length-append changes (c ∷ []) in
    subst P (get_or-append_seam changes c [] c) (all (length changes) c (omega (arith, more)))

pub front_of : (P : NewChange → Type 0) (changes : List NewChange) (c : NewChange) → All P (changes ++ c ∷ []) → All P changes
front_of P changes c all k d lt =
    let more : length (changes ++ c ∷ []) ≡ length changes + 1 = length-append changes (c ∷ []) in
    subst P (get_or-append changes (c ∷ []) d k lt) (all k d (omega (arith, more, lt)))

-- no change may always be prepared
may_none : (words : ℕ) (states : List PlaceState) → MayPrepare words states []
may_none words states = record {
  there = All-nil (λ c. c.place.0 < length states);
  free = All-nil (λ c. stage_of states c.place.0 ≡ Free);
  apart = λ i j d low high. absurd (let e : ⊥ = omega (arith, high) in e);
  formed = All-nil (λ c. IsTrue (is_change words c.entries.items));
}

module _ (words : ℕ) (states : List PlaceState) (table : PlaceTable) (places low : ℕ) where
  -- before any is chosen
  pub none_chosen : AreChosen words states table places low table [] places
  none_chosen = record {
    may = may_none words states;
    most = omega arith;
    same_places = refl;
    same_settled = refl;
    chosen = λ k lt off on. absurd (let e : true ≡ false = sym on ∙ off in cc);
    kept = λ k is. is;
    past = λ k le. refl;
    others = λ number same. All-nil (λ c. c.place.0 ≢ number);
  }

  -- One more place was chosen, for one more change.
  module _ (there : places ≤ length states) (permuted : IsPermutation table.file_place places) (next : PlaceTable) (changes : List NewChange) (top : ℕ) (are : AreChosen words states table places low next changes top)
      (place slot : ℕ) (c : NewChange) (le : low ≤ place) (lt : place < top) (vacant : is_vacant states next place ≡ true) (off : is_prepared_ahead next place ≡ false) (within : place < length next.ahead_for)
      (at : c.place.0 ≡ place_in_file next place) (formed : IsTrue (is_change words c.entries.items)) where
    abbrev after : PlaceTable
    after = record next { ahead_for = slice_set next.ahead_for place (Some slot) }

    used : place < places
    used = let most = are.most in omega (arith, most, lt)

    number_is : c.place.0 ≡ place_in_file table place
    number_is = at ∙ ap (λ t. place_in t place) are.same_places

    off_table : is_prepared_ahead table place ≡ false
    off_table = by (is_prepared_ahead table place) refl where
      by : (flag : Bool) → is_prepared_ahead table place ≡ flag → flag ≡ false
      by false is = refl
      by true is = absurd (let e : true ≡ false = sym (are.kept place is) ∙ off in cc)

    vacant_table : is_vacant states table place ≡ true
    vacant_table =
        ap (λ b. is_left b (stage_in_file states table place) && not (is_settled table place)) (off_table ∙ sym off)
        ∙ ap (λ t. is_left (is_prepared_ahead next place) (stage_of states (place_in t place)) && not (is_settled table place)) (sym are.same_places)
        ∙ ap (λ flags. is_left (is_prepared_ahead next place) (stage_in_file states next place) && not (flag_of flags place)) (sym are.same_settled) ∙ vacant

    on : is_prepared_ahead after place ≡ true
    on = ap is_some (get_or-set_same next.ahead_for place (Some slot) None within)

    as_before : (k : ℕ) → k ≢ place → is_prepared_ahead after k ≡ is_prepared_ahead next k
    as_before k apart = ap is_some (get_or-set_other next.ahead_for place k (Some slot) None apart)

    none_there : IsNoPlaceOf changes c.place.0
    none_there = are.others c.place.0 (λ k less same.
        let is : k ≡ place = permuted.apart k place less used (same ∙ number_is) in
        ap (is_prepared_ahead next) is ∙ off ∙ sym (ap (is_prepared_ahead table) is ∙ off_table))

    pub one_more : AreChosen words states table places low (record next { ahead_for = slice_set next.ahead_for place (Some slot) }) (changes ++ c ∷ []) place
    one_more = record {
      may = may_one_more words states changes c are.may (let less = permuted.within place used in omega (arith, number_is, less, there)) (ap (stage_of states) number_is ∙ free_of states table place vacant_table off_table)
          none_there formed;
      most = omega (arith, used);
      same_places = are.same_places;
      same_settled = are.same_settled;
      chosen = λ k less was now. elim (cases_eq k place) [
        | inl here ↦ record {
          vacant = ap (is_vacant states table) here ∙ vacant_table;
          high = omega (arith, here, le);
          looked = omega (arith, here);
          here = λ new all. ap (λ j. stage_of new (place_in_file table j)) here ∙ ap (stage_of new) (sym number_is) ∙ last_of (λ d. stage_of new d.place.0 ≡ Prepared) changes c all;
        }
        | inr apart ↦
            let one : IsChosen states table changes low top k = are.chosen k less was (sym (as_before k apart) ∙ now) in
            record {
              vacant = one.vacant;
              high = one.high;
              looked = (let looked = one.looked in omega (arith, looked, lt));
              here = λ new all. one.here new (front_of (λ d. stage_of new d.place.0 ≡ Prepared) changes c all);
            }
      ];
      kept = λ k is. elim (cases_eq k place) [
        | inl here ↦ ap (is_prepared_ahead after) here ∙ on
        | inr apart ↦ as_before k apart ∙ are.kept k is
      ];
      past = λ k more. as_before k (λ same. omega (arith, same, used, more)) ∙ are.past k more;
      others = λ number same.
          All-push (λ d. d.place.0 ≢ number) changes c
          (are.others number (λ k less is. elim (cases_eq k place) [
            | inl here ↦ ap (is_prepared_ahead next) here ∙ off ∙ sym (ap (is_prepared_ahead table) here ∙ off_table)
            | inr apart ↦ sym (as_before k apart) ∙ same k less is
          ]))
          (λ is. let e : true ≡ false = sym on ∙ same place used (sym number_is ∙ is) ∙ off_table in cc);
    }
