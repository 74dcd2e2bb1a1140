-- If a call also prepares chosen changes in free places, all places match, as they would after the call alone.
-- Used by: FiledCalls, MovedRecords, write_down.
use Rattle.std.proofs.Common.{◌≡◌, ◌≢◌, ◌⊎◌, ℕ, ◌<◌, ◌≤◌, ◌==◌, ◌||◌, Bool, true, false, List, [], ◌∷◌, ◌++◌, length, Option, if◌then◌else◌, IsTrue, refl, sym, ap, subst, ◌∙◌, inl, inr, arith}
use Rattle.std.proofs.lemmas.Bool.{cases_eq, cond-true, cond-false, eq-eqb, ne_eqb}
use Rattle.mw_words.specs.Change.{is_change}
use Rattle.mw_record.specs.Records.{Pairs}
use Rattle.mw_record.specs.Layout.{pairs_of}
use Rattle.mw_file.specs.declared.new_changes.NewChange.{NewChange}
use Rattle.mw_file.specs.declared.place_states.PlaceState.{PlaceState}
use Rattle.mw_file.specs.declared.place_states.Stage.{Stage}
use Rattle.mw_file.specs.declared.place_states.Stage.TheVariants.{Free, Prepared, Sealed}
use Rattle.mw_file.specs.NewChanges.{AreSettledWith, MayPrepare}
use Rattle.mw_file.specs.PlaceStates.{stage_of, writes_of_place, freed}
use Rattle.mw_world.specs.Files.Stages.{stage_told}
use Rattle.mw_world.specs.Files.State.{Place, Prepared as PreparedPlace, Sealed as SealedPlace, Empty, is_empty, entries_in}
use Rattle.mw_world.specs.Maps.{upd}
use Rattle.mw_book.specs.declared.place_table.PlaceTable.{PlaceTable}
use Rattle.mw_book.specs.ChosenPlaces.{AreChosen, IsChosen}
use Rattle.mw_book.specs.FilePlaces.{flag_of, IsPermutation}
use Rattle.mw_book.specs.Representation.{ArePlaced, ArePlacedBy, is_prepared_ahead, is_settled, place_in_file, stage_held, stage_in_file}
use Rattle.mw_book.specs.SettledAhead.{ahead_by_settle, is_sealed_stage}
use Rattle.mw_book.proofs.ChosenPlaces.{may_one_more}
use Rattle.mw_book.proofs.FoundPlaces.{free_of, plain_of}
use Rattle.mw_book.proofs.PlacesAhead.{by_settle_there, placed_rolled}
use Rattle.mw_book.proofs.StagedPlaces.{placed_on}

-- the same table with these slots of changes that are prepared ahead
abbrev with_ahead : PlaceTable → List (Option ℕ) → PlaceTable
with_ahead table aheads = record table { ahead_for = aheads }

-- a place in which no change was prepared ahead, and one is now
pub record IsFresh (table next : PlaceTable) (k : ℕ) : Type 0 where
  pub was : is_prepared_ahead table k ≡ false
  pub now : is_prepared_ahead next k ≡ true

pub fresh_or_same : (table next : PlaceTable) (k : ℕ) → (is_prepared_ahead table k ≡ true → is_prepared_ahead next k ≡ true) → (is_prepared_ahead next k ≡ is_prepared_ahead table k) ⊎ IsFresh table next k
fresh_or_same table next k kept = by (is_prepared_ahead table k) (is_prepared_ahead next k) refl refl where
  by : (was now : Bool) → is_prepared_ahead table k ≡ was → is_prepared_ahead next k ≡ now → (is_prepared_ahead next k ≡ is_prepared_ahead table k) ⊎ IsFresh table next k
  by true now is so = inl (kept is ∙ sym is)
  by false true is so = inr (record { was = is; now = so })
  by false false is so = inl (so ∙ sym is)

-- what the call alone leaves of such a place, and what it has in the end
pub record IsLeft (stage : ℕ → Stage) (new : List PlaceState) (table : PlaceTable) (k : ℕ) : Type 0 where
  pub free : stage (place_in_file table k) ≡ Free
  pub plain : is_settled table k ≡ false
  pub prepared : stage_of new (place_in_file table k) ≡ Prepared

held_fresh : (flag ahead : Bool) (p : Place) → flag ≡ false → ahead ≡ true → stage_held flag ahead p ≡ Prepared
held_fresh flag ahead p plain on = ap (λ b. stage_held b ahead p) plain ∙ ap (λ b. stage_held false b p) on

pub empty_told : (p : Place) → stage_held false false p ≡ Free → is_empty p ≡ true
empty_told Empty is = refl
empty_told (PreparedPlace entries) is = absurd (let e : Prepared ≡ Free = is in cc)
empty_told (SealedPlace entries) is = absurd (let e : Sealed ≡ Free = is in cc)

module _ (stage : ℕ → Stage) (written : ℕ → Pairs) (new : List PlaceState) (table : PlaceTable) (aheads : List (Option ℕ)) (places : ℕ) (at : ℕ → Place) (permuted : IsPermutation table.file_place places)
    (based : ArePlacedBy stage written table places at)
    (kept : (k : ℕ) → is_prepared_ahead table k ≡ true → is_prepared_ahead (with_ahead table aheads) k ≡ true)
    (past : (k : ℕ) → places ≤ k → is_prepared_ahead (with_ahead table aheads) k ≡ is_prepared_ahead table k)
    (left : (k : ℕ) → k < places → IsFresh table (with_ahead table aheads) k → IsLeft stage new table k)
    (others : (n : ℕ) → ((k : ℕ) → k < places → place_in_file table k ≡ n → is_prepared_ahead (with_ahead table aheads) k ≡ is_prepared_ahead table k)
    → (stage_of new n ≡ stage n) × (writes_of_place new n ≡ written n)) where
  abbrev next : PlaceTable
  next = with_ahead table aheads

  others_at : (k : ℕ) → k < places → is_prepared_ahead next k ≡ is_prepared_ahead table k → (stage_of new (place_in_file table k) ≡ stage (place_in_file table k)) × (writes_of_place new (place_in_file table k) ≡ written (place_in_file table k))
  others_at k lt same = others (place_in_file table k) (λ j less is.
      let here : j ≡ k = permuted.apart j k less lt is in
      ap (is_prepared_ahead next) here ∙ same ∙ sym (ap (is_prepared_ahead table) here))

  past_free : (k : ℕ) → places ≤ k → stage_of new k ≡ stage k
  past_free k le = (others k (λ j less is. let low = permuted.within j less in absurd (let e : ⊥ = omega (arith, low, is, le) in e))).0

  empty_at : (k : ℕ) → k < places → IsFresh table next k → is_empty (at k) ≡ true
  empty_at k lt fresh =
      let one = left k lt fresh in
      empty_told (at k)
      (sym (ap (λ b. stage_held b false (at k)) one.plain) ∙ sym (ap (λ b. stage_held (is_settled table k) b (at k)) fresh.was) ∙ sym (based.stages k lt) ∙ one.free)

  pub placed_with : ArePlaced new (record table { ahead_for = aheads }) places at
  placed_with = record {
    stages = λ k lt. elim (fresh_or_same table next k (kept k)) [
      | inl same ↦ (others_at k lt same).0 ∙ based.stages k lt ∙ ap (λ b. stage_held (is_settled table k) b (at k)) (sym same)
      | inr fresh ↦
          let one = left k lt fresh in
          one.prepared ∙ sym (held_fresh (is_settled table k) (is_prepared_ahead next k) (at k) one.plain fresh.now)
    ];
    ahead = based.ahead;
    empty_ahead = λ k lt is. elim (fresh_or_same table next k (kept k)) [
      | inl same ↦ based.empty_ahead k lt (sym same ∙ is)
      | inr fresh ↦ empty_at k lt fresh
    ];
    further = λ k le. past_free k le ∙ based.further k le;
    further_not_ahead = based.further_not_ahead;
    further_none_ahead = λ k le. past k le ∙ based.further_none_ahead k le;
    writes = λ k lt busy. elim (fresh_or_same table next k (kept k)) [
      | inl same ↦ (others_at k lt same).1 ∙ based.writes k lt busy
      | inr fresh ↦ absurd (let e : true ≡ false = sym (empty_at k lt fresh) ∙ busy in cc)
    ];
  }

-- The changes were chosen beside the call.
module _ (words : ℕ) (old new : List PlaceState) (table next : PlaceTable) (places low : ℕ) (changes : List NewChange) (top : ℕ) (are : AreChosen words old table places low next changes top)
    (permuted : IsPermutation table.file_place places) (at : ℕ → Place) (placed : ArePlaced old table places at) where
  next_is : record table { ahead_for = next.ahead_for } ≡ next
  next_is = λ i. record { file_place = sym are.same_places i; settled = sym are.same_settled i; ahead_for = next.ahead_for }

  chosen_at : (k : ℕ) → k < places → IsFresh table next k → IsChosen old table changes low top k
  chosen_at k lt fresh = are.chosen k lt fresh.was fresh.now

  -- A seal, or a prepare, of the change in this place.
  module _ (own : ℕ) (used : own < places) (s : Stage) (w : Pairs) (p : Place) (plain : is_settled table own ≡ false) (off : is_prepared_ahead table own ≡ false) (is : s ≡ stage_told p)
      (writes : is_empty p ≡ false → w ≡ pairs_of (entries_in p)) (apart : (k : ℕ) → k < places → IsFresh table next k → k ≢ own)
      (here : (k : ℕ) → k < places → IsFresh table next k → stage_of new (place_in_file table k) ≡ Prepared)
      (mine : (stage_of new (place_in_file table own) ≡ s) × (writes_of_place new (place_in_file table own) ≡ w))
      (others : (n : ℕ) → n ≢ place_in_file table own → ((k : ℕ) → k < places → place_in_file table k ≡ n → is_prepared_ahead next k ≡ is_prepared_ahead table k)
      → (stage_of new n ≡ stage_of old n) × (writes_of_place new n ≡ writes_of_place old n)) where
    abbrev number : ℕ
    number = place_in_file table own

    stage_by : ℕ → Stage
    stage_by n = if n == number then s else stage_of old n

    written_by : ℕ → Pairs
    written_by n = if n == number then w else writes_of_place old n

    stage_own : (n : ℕ) → n ≡ number → stage_by n ≡ s
    unfolding stage_by
    stage_own n here = cond-true (n == number) s (stage_of old n) (eq-eqb n number here)

    stage_other : (n : ℕ) → n ≢ number → stage_by n ≡ stage_of old n
    unfolding stage_by
    stage_other n other = cond-false (n == number) s (stage_of old n) (ne_eqb n number other)

    written_own : (n : ℕ) → n ≡ number → written_by n ≡ w
    unfolding written_by
    written_own n here = cond-true (n == number) w (writes_of_place old n) (eq-eqb n number here)

    written_other : (n : ℕ) → n ≢ number → written_by n ≡ writes_of_place old n
    unfolding written_by
    written_other n other = cond-false (n == number) w (writes_of_place old n) (ne_eqb n number other)

    pub placed_beside : ArePlaced new next places (upd at own p)
    placed_beside =
        subst (λ t. ArePlaced new t places (upd at own p)) next_is
        (placed_with stage_by written_by new table next.ahead_for places (upd at own p) permuted
        (placed_on old stage_by written_by table places own at s w placed permuted
        (record { stage_here = stage_own number refl; writes_here = written_own number refl; stage_there = stage_other; writes_there = written_other }) used p plain off is writes)
        are.kept are.past
        (λ k lt was.
        let fresh : IsFresh table next k = record { was = was.was; now = was.now } in
        let one = chosen_at k lt fresh in
        record {
          free = stage_other (place_in_file table k) (λ same. apart k lt fresh (permuted.apart k own lt used same)) ∙ free_of old table k one.vacant fresh.was;
          plain = plain_of old table k one.vacant;
          prepared = here k lt fresh;
        })
        (λ n same. elim (cases_eq n number) [
          | inl mine_too ↦ (ap (stage_of new) mine_too ∙ mine.0 ∙ sym (stage_own n mine_too), ap (writes_of_place new) mine_too ∙ mine.1 ∙ sym (written_own n mine_too))
          | inr other ↦ let both = others n other same in (both.0 ∙ sym (stage_other n other), both.1 ∙ sym (written_other n other))
        ]))

  -- a settle of all sealed changes, among them that of this place
  pub placed_settled : (own : ℕ) (flags : List Bool) → stage_in_file old table own ≡ Sealed → is_settled table own ≡ false → ((k : ℕ) → flag_of flags k ≡ ahead_by_settle old table own k)
      → AreSettledWith old new changes → ArePlaced new (record next { settled = flags }) places (upd at own Empty)
  placed_settled own flags sealed plain now settled =
      subst (λ t. ArePlaced new (record t { settled = flags }) places (upd at own Empty)) next_is
      (placed_with (λ n. freed (stage_of old n)) (writes_of_place old) new (record table { settled = flags }) next.ahead_for places (upd at own Empty) permuted
      (placed_rolled old (λ n. freed (stage_of old n)) (writes_of_place old) table flags places own at placed sealed plain now (λ n. refl) (λ n. refl) permuted)
      are.kept are.past
      (λ k lt fresh.
      let one = are.chosen k lt fresh.was fresh.now in
      let free : stage_in_file old table k ≡ Free = free_of old table k one.vacant fresh.was in
      let off : k ≢ own = λ same. let e : Free ≡ Sealed = sym free ∙ ap (stage_in_file old table) same ∙ sealed in cc in
      record {
        free = ap freed free;
        plain = now k ∙ by_settle_there old table own k false plain off ∙ ap (λ b. b || is_sealed_stage (stage_in_file old table k)) (plain_of old table k one.vacant) ∙ ap is_sealed_stage free;
        prepared = one.here new settled.stage_here;
      })
      (λ n same. (settled.stage_there n (are.others n same), settled.writes_there n (are.others n same))))

-- a call's own change in a place below the chosen ones may be prepared along with them
pub may_with_own : (words : ℕ) (old : List PlaceState) (table next : PlaceTable) (places low : ℕ) (changes all : List NewChange) (top place : ℕ) (own : NewChange) → AreChosen words old table places low next changes top
    → IsPermutation table.file_place places → places ≤ length old → place < places → place < low → stage_in_file old table place ≡ Free → own.place.0 ≡ place_in_file table place
    → IsTrue (is_change words own.entries.items) → all ≡ changes ++ own ∷ [] → MayPrepare words old all
may_with_own words old table next places low changes all top place own are permuted there used below free number_is formed is_all =
    subst (λ cs. MayPrepare words old cs) (sym is_all)
    (may_one_more words old changes own are.may (let less = permuted.within place used in omega (arith, number_is, less, there)) (ap (stage_of old) number_is ∙ free)
    (are.others own.place.0 (λ k lt same. elim (fresh_or_same table next k (are.kept k)) [
      | inl as_was ↦ as_was
      | inr fresh ↦
          let high = (are.chosen k lt fresh.was fresh.now).high in
          let here = permuted.apart k place lt used (same ∙ number_is) in
          absurd (let e : ⊥ = omega (arith, high, here, below) in e)
    ])) formed)
