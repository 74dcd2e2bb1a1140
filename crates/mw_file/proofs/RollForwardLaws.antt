-- While sealed changes are written into the home words and their commit bytes are cleared, a file keeps its words.
-- Used by: Rolled, SettledFiles, SharedSettles.
use Rattle.std.proofs.Common.{◌≡◌, ◌⊎◌, ℕ, ◌+◌, ◌-◌, ◌<◌, ◌≤◌, List, length, Some, None, true, false, slice_index, refl, sym, ap, ◌∙◌, inl, inr, arith, subst}
use Rattle.std.proofs.lemmas.Bool.{cases_Bool, cases_eq, cases_lt, both_ways}
use Rattle.mw_disk.specs.Runs.{SameBut}
use Rattle.mw_record.specs.declared.layout.TheConstants.{HEAD_SIZE, WORD_SIZE, COMMITTED}
use Rattle.mw_record.specs.declared.layout.Layout.TheVariants.{Second}
use Rattle.mw_record.specs.Layout.{place_size, home_at, place_at, SameBytes}
use Rattle.mw_record.specs.Records.{Pairs, holds, over, all_over, is_covered, record_at, body_at, home}
use Rattle.mw_record.proofs.ReadBytes.{record_open, record_shut, body_same, length_body, commit_set}
use Rattle.mw_record.proofs.TestsBelow.{few_entries}
use Rattle.mw_record.proofs.OverlaidRecords.{Covers, covers, covered, all_hit}
use Rattle.mw_record.proofs.Changes.{Agrees, StaysOrShut}
use Rattle.mw_record.proofs.ChangedBytes.{words_stay}
use Rattle.mw_record.specs.Contents.{HasWords, Apart}
use Rattle.mw_words.specs.declared.limits.TheConstants.{MAX_ENTRIES}
use Rattle.mw_file.specs.declared.place_states.PlaceState.{PlaceState}
use Rattle.mw_file.specs.declared.place_states.Stage.{Stage}
use Rattle.mw_file.specs.declared.place_states.Stage.TheVariants.{Free, Prepared, Sealed}
use Rattle.mw_file.specs.PlaceStates.{stage_of, writes_of_place}
use Rattle.mw_file.specs.RollForward.{InHomes, AtCommits, if_open, kept_of}
use Rattle.mw_file.proofs.Bytes.{same_bytes, held_below, still_long, record_missed, home_missed}

-- a place that has something to write is sealed
pub open_is : (s : Stage) (w ps : Pairs) → if_open s w ≡ Some ps → (s ≡ Sealed) × (ps ≡ w)
open_is Free w ps is = cc
open_is Prepared w ps is = cc
open_is Sealed w ps is = (refl, (let e : w ≡ ps = cc in sym e))

-- a place is sealed, or it isn't
pub sealed_or_not : (s : Stage) → (s ≡ Sealed) ⊎ (s ≡ Sealed → ⊥)
sealed_or_not Free = inr (λ e. cc)
sealed_or_not Prepared = inr (λ e. cc)
sealed_or_not Sealed = inl refl

-- The record of each sealed place is open in these bytes; state i is that of place first + i.
pub record Tells (b : List ℕ) (words first : ℕ) (states : List PlaceState) : Type 0 where
  pub recorded : (place : ℕ) → place < length states → stage_of states place ≡ Sealed → record_at Second b words (first + place) ≡ Some (writes_of_place states place)

module _ (b : List ℕ) (words places first : ℕ) (states : List PlaceState) (contents : List ℕ)
    (has : HasWords Second words places contents b) (within : first + length states ≤ places) (tells : Tells b words first states) where
  -- the record of a sealed place is open in the file
  pub open_there : (place : ℕ) (ps : Pairs) → place < length states → kept_of states place ≡ Some ps → record_at Second b words (first + place) ≡ Some ps
  open_there place ps lt is =
      let o = open_is (stage_of states place) (writes_of_place states place) ps is in
      tells.recorded place lt o.0 ∙ ap Some (sym o.1)

  -- each address of it is one of the file's words
  pub below_there : (place : ℕ) (ps : Pairs) (addr : ℕ) → place < length states → kept_of states place ≡ Some ps → holds ps addr ≡ true → addr < words
  below_there place ps addr lt is held =
      held_below words ps addr (has.stands.formed (first + place) ps (omega (arith, within, lt)) (open_there place ps lt is)) held

  -- a byte that the first half writes is one of a home word
  home_of : (k : ℕ) (s : InHomes states k) → (s.in_record.addr < words) × (home_at s.in_record.addr ≤ k) × (k < home_at s.in_record.addr + WORD_SIZE)
  home_of k s =
      let r = s.in_record in
      (below_there s.place r.writes r.addr s.within r.is r.held, r.in_word.from, r.in_word.to)

  -- an open record covers that word
  covers_it : (k : ℕ) (s : InHomes states k) → Covers (record_at Second b words) places s.in_record.addr
  covers_it k s =
      let r = s.in_record in
      record {
        place = first + s.place;
        pairs = r.writes;
        within = omega (arith, within, s.within);
        is = open_there s.place r.writes s.within r.is;
        holds_it = r.held;
      }

  -- no byte is written of a home word that no open record covers
  missed : (a : ℕ) → is_covered (record_at Second b words) places a ≡ false → (k : ℕ) → k < WORD_SIZE → InHomes states (home_at a + k) → ⊥
  missed a none k lt s =
      let h = home_of (home_at a + k) s in
      let e : s.in_record.addr ≡ a = omega (arith, h.1, h.2, lt) in
      both_ways (is_covered (record_at Second b words) places a) none
      (subst (λ (i : ℕ). is_covered (record_at Second b words) places i ≡ true) e (covered (record_at Second b words) places s.in_record.addr (covers_it (home_at a + k) s)))

  -- Whatever is in the home words that open records cover, the words stay.
  pub homes_torn : (c : List ℕ) → SameBut (InHomes states) b c → HasWords Second words places contents c
  homes_torn c same =
      let S : ℕ → Type 0 = InHomes states in
      words_stay Second words places contents b c has (still_long words places contents b c S has same)
      (same_bytes S b c HEAD_SIZE 0 same (λ k lt s. (let h = home_of (0 + k) s in omega (arith, h.1, lt))))
      (λ j lt. inl (record_missed words places contents b c S has same j lt (λ k l s. (let h = home_of (place_at Second words j + k) s in omega (arith, h.0, h.2)))))
      (λ a lt. elim (cases_Bool (is_covered (record_at Second b words) places a)) [
        | inl is ↦ inr (covers (record_at Second b words) places a is)
        | inr none ↦ inl (home_missed words places contents b c S has same a (missed a none))
      ])

  -- the records of two sealed places share no address
  pub apart_there : Apart (kept_of states) (length states)
  apart_there i j ps qs a p q ne is js hi hj =
      has.stands.apart (first + i) (first + j) ps qs a (omega (arith, within, p)) (omega (arith, within, q)) (λ e. ne (omega (arith, e)))
      (open_there i ps p is) (open_there j qs q js) hi hj

  -- After all values were written, the home words have the values of each record.
  pub agree_there : (c : List ℕ) → ((a : ℕ) → a < words → home c a ≡ all_over (kept_of states) (length states) a (home b a))
      → (place : ℕ) → place < length states → stage_of states place ≡ Sealed → Agrees (writes_of_place states place) (home c)
  agree_there c written place lt sealed a held =
      let is : kept_of states place ≡ Some (writes_of_place states place) = ap (λ s. if_open s (writes_of_place states place)) sealed in
      let low : a < words = below_there place (writes_of_place states place) a lt is held in
      let c0 : Covers (kept_of states) (length states) a = record { place = place; pairs = writes_of_place states place; within = lt; is = is; holds_it = held } in
      written a low ∙ all_hit (kept_of states) (length states) a (home b a) apart_there c0

  -- the records stay while home words are written
  pub tells_still : (c : List ℕ) → SameBut (InHomes states) b c → Tells c words first states
  tells_still c same = record {
    recorded = λ place lt sealed.
        record_missed words places contents b c (InHomes states) has same (first + place) (omega (arith, within, lt))
        (λ k l s. (let h = home_of (place_at Second words (first + place) + k) s in omega (arith, h.0, h.2))) ∙ tells.recorded place lt sealed;
  }

  -- a place that is not one of the sealed ones has no byte among the commit bytes that are cleared
  not_at : (j : ℕ) → (first ≤ j → j < first + length states → stage_of states (j - first) ≡ Sealed → ⊥) → (k : ℕ) → k < place_size Second → AtCommits words first states (place_at Second words j + k) → ⊥
  not_at j none k lt g =
      let e : j ≡ first + g.place = omega (arith, g.at, lt) in
      none (omega (arith, e)) (omega (arith, e, g.within)) (ap (stage_of states) (omega (arith, e)) ∙ g.sealed)

  -- a place is one of the sealed ones, or it is not
  commit_cases : (j : ℕ) → ((i : ℕ) × (i < length states) × (j ≡ first + i) × (stage_of states i ≡ Sealed)) ⊎ (first ≤ j → j < first + length states → stage_of states (j - first) ≡ Sealed → ⊥)
  commit_cases j = elim (cases_lt j first) [
    | inl before ↦ inr (λ low high sealed. omega (arith, before, low))
    | inr since ↦ elim (cases_lt j (first + length states)) [
      | inl inside ↦ elim (sealed_or_not (stage_of states (j - first))) [
        | inl sealed ↦ inl (j - first, omega (arith, since, inside), omega (arith, since), sealed)
        | inr other ↦ inr (λ low high sealed. other sealed)
      ]
      | inr past ↦ inr (λ low high sealed. omega (arith, past, high))
    ]
  ]

  -- If the home words have the values, the commit bytes may have any value: the words stay.
  module _ (c : List ℕ) (same : SameBut (AtCommits words first states) b c)
      (agree : (place : ℕ) → place < length states → stage_of states place ≡ Sealed → Agrees (writes_of_place states place) (home b)) where
    homes_still : (a : ℕ) → a < words → home c a ≡ home b a
    homes_still a lt = home_missed words places contents b c (AtCommits words first states) has same a (λ k l g. omega (arith, g.at, l, lt))

    torn_commit : (i : ℕ) → i < length states → stage_of states i ≡ Sealed → StaysOrShut (record_at Second b words (first + i)) (record_at Second c words (first + i)) (home c)
    torn_commit i lt sealed =
        let w : Pairs = writes_of_place states i in
        let at : ℕ = place_at Second words (first + i) in
        let was : record_at Second b words (first + i) ≡ Some w = tells.recorded i lt sealed in
        let few : length w ≤ MAX_ENTRIES = few_entries Second words w (has.stands.formed (first + i) w (omega (arith, within, lt)) was) in
        let stood = commit_set Second b words (first + i) w was in
        let count : slice_index b (at + 1) ≤ MAX_ENTRIES = omega (arith, few, length_body b at, ap length stood.1) in
        let behind : body_at c at ≡ w = body_same MAX_ENTRIES c b at at count (λ k l. same.outside (at + 1 + k) (λ g. omega (arith, g.at, l))) ∙ stood.1 in
        elim (cases_eq (slice_index c at) COMMITTED) [
          | inl commit ↦ inl (record_open Second c words (first + i) at refl commit ∙ ap Some behind ∙ sym was)
          | inr shut ↦ inr (
            record_shut Second c words (first + i) at refl shut,
            λ ps is a held.
                let e : ps ≡ w = (let f : Some ps ≡ Some w = sym is ∙ was in cc) in
                let low : a < words = held_below words ps a (has.stands.formed (first + i) ps (omega (arith, within, lt)) is) held in
                homes_still a low ∙ agree i lt sealed a (ap (λ q. holds q a) (sym e) ∙ held) ∙ ap (λ q. over q a 0) (sym e),
          )
        ]

    pub commits_torn : HasWords Second words places contents c
    commits_torn =
        let S : ℕ → Type 0 = AtCommits words first states in
        words_stay Second words places contents b c has (still_long words places contents b c S has same)
        (same_bytes S b c HEAD_SIZE 0 same (λ k lt g. omega (arith, g.at, lt)))
        (λ j lt. elim (commit_cases j) [
          | inl g ↦ subst (λ (p : ℕ). StaysOrShut (record_at Second b words p) (record_at Second c words p) (home c)) (sym g.2) (torn_commit g.0 g.1 g.3)
          | inr none ↦ inl (record_missed words places contents b c S has same j lt (not_at j none))
        ])
        (λ a lt. inl (homes_still a lt))

  -- After the roll forward a sealed place is closed, and any other place has the bytes that it had.
  module _ (c : List ℕ) (same : SameBut (λ k. InHomes states k ⊎ AtCommits words first states k) b c) where
    pub rolled_others : (j : ℕ) → (first ≤ j → j < first + length states → stage_of states (j - first) ≡ Sealed → ⊥)
        → SameBytes (place_size Second) (place_at Second words j) (place_at Second words j) c b
    rolled_others j none k lt = same.outside (place_at Second words j + k) (λ s. elim s [
      | inl h ↦ (let o = home_of (place_at Second words j + k) h in omega (arith, o.0, o.2))
      | inr g ↦ not_at j none k lt g
    ])

    -- if the commit bytes of the sealed places are 0, each place is closed, or is not one of the sealed ones
    pub rolled_shut : ((place : ℕ) → place < length states → stage_of states place ≡ Sealed → slice_index c (place_at Second words (first + place)) ≡ 0)
        → (j : ℕ) → j < places → (first ≤ j → j < first + length states → stage_of states (j - first) ≡ Sealed → ⊥) ⊎ (record_at Second c words j ≡ None)
    rolled_shut shut j lt = elim (commit_cases j) [
      | inl g ↦ inr (ap (record_at Second c words) g.2 ∙ record_shut Second c words (first + g.0) (place_at Second words (first + g.0)) refl (λ commit. omega (arith, commit, shut g.0 g.1 g.3)))
      | inr none ↦ inl none
    ]
