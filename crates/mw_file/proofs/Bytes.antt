-- If only some bytes of a file's second layout change, the records and home words at all other bytes stay.
-- Used by: NewPlaces, PlaceWrites, Ready, among others.
use Rattle.std.proofs.Common.{◌≡◌, ℕ, ◌+◌, ◌<◌, ◌≤◌, ◌==◌, ◌&&◌, nat_le, nat_lt, List, [], ◌∷◌, length, Some, true, slice_index, sym, ap, ◌∙◌, inl, inr, arith, subst}
use Rattle.std.proofs.lemmas.Bool.{cases_eq, and_parts, or_cases, eqb-true, ltb-true}
use Rattle.mw_words.specs.declared.limits.TheConstants.{MAX_ENTRIES}
use Rattle.mw_disk.specs.Runs.{SameBut}
use Rattle.mw_record.specs.declared.layout.TheConstants.{WORD_SIZE}
use Rattle.mw_record.specs.declared.layout.Layout.TheVariants.{Second}
use Rattle.mw_record.specs.Layout.{place_size, home_at, place_at, size, SameBytes}
use Rattle.mw_record.specs.Records.{Pairs, holds, record_at, home, is_record, rises_below}
use Rattle.mw_record.proofs.ReadBytes.{body_same, length_body, home_same}
use Rattle.mw_record.proofs.Writes.{record_same}
use Rattle.mw_record.proofs.TestsBelow.{few_entries}
use Rattle.mw_record.specs.Contents.{HasWords}
use Rattle.mw_file.specs.declared.place_states.PlaceState.{PlaceState}
use Rattle.mw_file.specs.declared.place_states.Stage.{Stage}
use Rattle.mw_file.specs.declared.place_states.Stage.TheVariants.{Free, Prepared, Sealed}
use Rattle.mw_file.specs.PlaceStates.{stage_of, writes_of_place, IsStaged}
use Rattle.mw_file.specs.Stores.{PlacedAs, IsWritten}
use Rattle.mw_file.proofs.Parts.{PartStores}

-- bytes outside the changed ones are the same
pub same_bytes : (S : ℕ → Type 0) (b c : List ℕ) (n i : ℕ) → SameBut S b c → ((k : ℕ) → k < n → S (i + k) → ⊥) → SameBytes n i i c b
same_bytes S b c n i same out k lt = same.outside (i + k) (out k lt)

-- an address of a record is below the number of words
rises_holds : (words lowest : ℕ) (ps : Pairs) (a : ℕ) → rises_below words lowest ps ≡ true → holds ps a ≡ true → a < words
rises_holds words lowest [] a rises some = cc
rises_holds words lowest (p ∷ ps) a rises some =
    let outer = and_parts (nat_le lowest p.0 && nat_lt p.0 words) (rises_below words (p.0 + 1) ps) rises in
    let below : p.0 < words = ltb-true p.0 words (and_parts (nat_le lowest p.0) (nat_lt p.0 words) outer.0).1 in
    elim (or_cases (p.0 == a) (holds ps a) some) [
      | inl here ↦ omega (arith, eqb-true p.0 a here, below)
      | inr there ↦ rises_holds words (p.0 + 1) ps a outer.1 there
    ]

pub held_below : (words : ℕ) (ps : Pairs) (a : ℕ) → is_record Second words ps ≡ true → holds ps a ≡ true → a < words
held_below words ps a formed some = rises_holds words 0 ps a (and_parts _ _ formed).1 some

module _ (words places : ℕ) (contents b c : List ℕ) (S : ℕ → Type 0) (has : HasWords Second words places contents b) (same : SameBut S b c) where
  -- the file is as long as it was
  pub still_long : size Second words places ≤ length c
  still_long = let l = has.long in let e = same.size in omega arith

  pub few_there : (place : ℕ) → place < places → (ps : Pairs) → record_at Second b words place ≡ Some ps → length ps ≤ MAX_ENTRIES
  few_there place lt ps is = few_entries Second words ps (has.stands.formed place ps lt is)

  -- a place whose bytes stayed has the record that it had
  pub record_missed : (place : ℕ) → place < places → ((k : ℕ) → k < place_size Second → S (place_at Second words place + k) → ⊥) → record_at Second c words place ≡ record_at Second b words place
  record_missed place lt out = record_same Second c b words place (same_bytes S b c (place_size Second) (place_at Second words place) same out) (few_there place lt)

  -- so does a home word
  pub home_missed : (addr : ℕ) → ((k : ℕ) → k < WORD_SIZE → S (home_at addr + k) → ⊥) → home c addr ≡ home b addr
  home_missed addr out = home_same c b addr (same_bytes S b c WORD_SIZE (home_at addr) same out)

-- what is in a place by its stage, if the stage and the writes are known by other names
pub placed_as : (image : List ℕ) (words place : ℕ) (s t : Stage) (v w : Pairs) → s ≡ t → v ≡ w → PlacedAs image words place t w → PlacedAs image words place s v
placed_as image words place s t v w is_stage is_writes placed =
    subst (λ (u : Stage). PlacedAs image words place u v) (sym is_stage) (subst (λ (x : Pairs). PlacedAs image words place t x) (sym is_writes) placed)

-- a place whose bytes stayed matches its state as before
pub placed_same : (b c : List ℕ) (words place : ℕ) (s : Stage) (w : Pairs) → SameBytes (place_size Second) (place_at Second words place) (place_at Second words place) c b
    → ((ps : Pairs) → record_at Second b words place ≡ Some ps → length ps ≤ MAX_ENTRIES) → PlacedAs b words place s w → PlacedAs c words place s w
placed_same b c words place Free w same few was = record_same Second c b words place same few ∙ was
placed_same b c words place Sealed w same few was = record_same Second c b words place same few ∙ was
placed_same b c words place Prepared w same few was =
    let at : ℕ = place_at Second words place in
    let count : slice_index b (at + 1) ≤ MAX_ENTRIES = omega (arith, few_entries Second words w was.formed, length_body b at, ap length was.behind) in
    record {
      shut = record_same Second c b words place same few ∙ was.shut;
      behind = body_same MAX_ENTRIES c b at at count (λ k lt.
          let e : (at + 1) + k ≡ at + (1 + k) = omega arith in
          ap (λ i. slice_index c i) e ∙ same (1 + k) (omega arith) ∙ ap (λ i. slice_index b i) (sym e)) ∙ was.behind;
      formed = was.formed;
      values = was.values;
    }

-- a record after a clear commit byte stays, if the bytes of its place do
pub written_same : (b c : List ℕ) (words place : ℕ) (w : Pairs) → SameBytes (place_size Second) (place_at Second words place) (place_at Second words place) c b
    → IsWritten b words place w → IsWritten c words place w
written_same b c words place w same was =
    placed_same b c words place Prepared w same (λ ps is. absurd (let e : ⊥ = cc (was.shut, is) in e)) was

-- One place has a new stage, and the bytes of the other places stayed: the bytes match the new states.
pub stores_staged : (b c : List ℕ) (words : ℕ) (before after : List ℕ) (states new : List PlaceState) (place : ℕ) (stage : Stage) (writes : Pairs)
    → PartStores b words before states → IsStaged states new place stage writes → HasWords Second words (length states) after c
    → ((other : ℕ) → other < length states → (other ≡ place → ⊥) → SameBytes (place_size Second) (place_at Second words other) (place_at Second words other) c b)
    → PlacedAs c words place stage writes → PartStores c words after new
stores_staged b c words before after states new place stage writes was staged has same here = record {
  has = subst (λ (n : ℕ). HasWords Second words n after c) (sym staged.count) has;
  placed = λ other lt. let within : other < length states = (let e = staged.count in omega arith) in
      elim (cases_eq other place) [
        | inl e ↦ placed_as c words other (stage_of new other) stage (writes_of_place new other) writes
            (ap (λ p. stage_of new p) e ∙ staged.stage_here) (ap (λ p. writes_of_place new p) e ∙ staged.writes_here)
            (subst (λ (p : ℕ). PlacedAs c words p stage writes) (sym e) here)
        | inr ne ↦ placed_as c words other (stage_of new other) (stage_of states other) (writes_of_place new other) (writes_of_place states other)
            (staged.stage_there other ne) (staged.writes_there other ne)
            (placed_same b c words other (stage_of states other) (writes_of_place states other) (same other within ne)
            (λ ps is. few_entries Second words ps (was.has.stands.formed other ps within is)) (was.placed other within))
      ];
}
