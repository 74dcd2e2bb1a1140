-- If bytes of a file's second layout change, what is before it stays. Offsets of the file are turned into offsets of the
-- layout, and back. Used by: Bytes, OneWrite, OnlyRead, among others.
use Rattle.std.proofs.Common.{◌≡◌, ℕ, ◌+◌, ◌-◌, ◌==◌, ◌<◌, ◌≤◌, List, ◌++◌, length, take, drop, slice_index, sym, ap, ◌∙◌, arith, subst}
use Rattle.std.proofs.lemmas.List.{get_or-take, get_or-drop, length-drop, length-take-le, ext_get_or, drop-append-le, drop-take, drop-drop}
use Rattle.mw_disk.specs.Facts.{Facts}
use Rattle.mw_disk.specs.Runs.{SameBut, Touched}
use Rattle.mw_disk.proofs.RunLaws.{touched_wider}
use Rattle.mw_record.specs.declared.layout.Layout.TheVariants.{First, Second}
use Rattle.mw_record.specs.declared.layout.TheConstants.{HEAD_SIZE, WORD_SIZE, COMMITTED, SWITCH_AT, SECOND_AT}
use Rattle.mw_record.specs.Layout.{size, patched, SameBytes}
use Rattle.mw_record.specs.Contents.{IsSwitched, HasWords, HasSecond}
use Rattle.mw_record.proofs.Faults.{begins_within}
use Rattle.mw_record.proofs.ReadBytes.{number_same}
use Rattle.mw_record.proofs.ReadAgain.{mark_same}
use Rattle.mw_file.specs.declared.place_states.PlaceState.{PlaceState}
use Rattle.mw_file.specs.PlaceStates.{stage_of, writes_of_place}
use Rattle.mw_file.specs.Stores.{PlacedAs, Stores}
use Rattle.mw_file.specs.RollForward.{Nowhere, Behind}

-- a byte of the part has its offset from where the part begins
pub byte_of : (at : ℕ) (b : List ℕ) (k : ℕ) → slice_index (drop at b) k ≡ slice_index b (at + k)
byte_of at b k = get_or-drop at b k 0

-- an offset of the file, as one of the part
inside_at : (at k : ℕ) (S : ℕ → Type 0) → Behind at S (at + k) → S k
inside_at at k S s = subst S (let e : (at + k) - at ≡ k = omega arith in e) s.inside

module _ (at : ℕ) (S : ℕ → Type 0) (b c : List ℕ) (same : SameBut (Behind at S) b c) where
  -- the part has changed at these offsets alone
  pub part_same : SameBut S (drop at b) (drop at c)
  part_same = record {
    size = length-drop at c ∙ ap (λ n. n - at) same.size ∙ sym (length-drop at b);
    outside = λ k out. byte_of at c k ∙ same.outside (at + k) (λ s. out (inside_at at k S s)) ∙ sym (byte_of at b k);
  }

  -- the bytes before the part have not changed
  pub front_same : (n : ℕ) → n ≤ at → SameBytes n 0 0 c b
  front_same n low k lt = same.outside (0 + k) (λ s. omega (arith, s.from, low, lt))

-- lists that differ nowhere are equal
pub same_all : (a b : List ℕ) → SameBut Nowhere a b → b ≡ a
same_all a b same = ext_get_or 0 b a same.size (λ k lt. same.outside k (λ z. z))

-- on a disk, only bytes from the part's beginning on may have changed
pub behind_alone : (at : ℕ) (S : ℕ → Type 0) (old new : Facts) → Touched (Behind at S) old new → Touched (λ k. at ≤ k) old new
behind_alone at S old new touched = touched_wider (Behind at S) (λ k. at ≤ k) old new (λ k s. s.from) touched

-- a write at an offset of the part is a write to the part
pub drop_patched : (at x : ℕ) (old block : List ℕ) → at + x ≤ length old → drop at (patched old (at + x) block) ≡ patched (drop at old) x block
drop_patched at x old block fits =
    let rest : List ℕ = block ++ drop (at + x + length block) old in
    let long : length (take (at + x) old) ≡ at + x = length-take-le (at + x) old fits in
    let far : drop (at + x + length block) old ≡ drop (x + length block) (drop at old) =
    ap (λ n. drop n old) (let e : at + x + length block ≡ at + (x + length block) = omega arith in e) ∙ sym (drop-drop (x + length block) at old) in
    drop-append-le at (take (at + x) old) rest (omega (arith, long))
    ∙ ap (λ xs. xs ++ rest) (drop-take at x old)
    ∙ ap (λ xs. take x (drop at old) ++ (block ++ xs)) far

-- a second layout begins after a head, and the file has all its bytes
pub begins_behind : (at : ℕ) (image : List ℕ) → IsSwitched at image → HEAD_SIZE ≤ at
begins_behind at image is = (begins_within at is.fits).0

pub long_there : (at words places : ℕ) (contents image : List ℕ) → HasSecond at words places contents image → at + size Second words places ≤ length image
long_there at words places contents image has = let l = has.part.long in let e = length-drop at image in omega arith

-- lists that agree on their first n bytes have the same first n bytes
take_stays : (n : ℕ) (b c : List ℕ) → n ≤ length b → n ≤ length c → SameBytes n 0 0 c b → take n c ≡ take n b
take_stays n b c p q same =
    ext_get_or 0 (take n c) (take n b) (length-take-le n c q ∙ sym (length-take-le n b p)) (λ k lt.
    let l : k < n = omega (arith, lt, length-take-le n c q) in
    let e : 0 + k ≡ k = omega arith in
    get_or-take n c k 0 l ∙ ap (slice_index c) (sym e) ∙ same k l ∙ ap (slice_index b) e ∙ sym (get_or-take n b k 0 l))

-- if the head stays, the switch byte stays set and the offset of the second layout stays
pub switch_stays : (at : ℕ) (b c : List ℕ) → HEAD_SIZE ≤ length b → HEAD_SIZE ≤ length c → SameBytes HEAD_SIZE 0 0 c b → IsSwitched at b → IsSwitched at c
switch_stays at b c p q same is =
    let byte : (k : ℕ) → k < HEAD_SIZE → slice_index c k ≡ slice_index b k = λ k lt.
    let e : 0 + k ≡ k = omega arith in
    ap (slice_index c) (sym e) ∙ same k lt ∙ ap (slice_index b) e in
    record {
      mark = mark_same First c b (take_stays 8 b c (omega (arith, p)) (omega (arith, q)) (λ k lt. same k (omega (arith, lt)))) ∙ is.mark;
      switched = ap (λ v. v == COMMITTED) (byte SWITCH_AT (omega arith)) ∙ is.switched;
      begins = number_same WORD_SIZE SECOND_AT SECOND_AT c b (λ k lt. byte (SECOND_AT + k) (omega (arith, lt))) ∙ is.begins;
      fits = is.fits;
    }

-- A file whose second layout has changed has the words that its new bytes tell.
pub second_stays : (at words places : ℕ) (before after b c : List ℕ) (S : ℕ → Type 0) → HasSecond at words places before b → SameBut (Behind at S) b c
    → HasWords Second words places after (drop at c) → HasSecond at words places after c
second_stays at words places before after b c S was same has =
    let far = begins_behind at b was.head in
    let long = long_there at words places before b was in
    record {
      head = switch_stays at b c (omega (arith, far, long)) (omega (arith, far, long, same.size)) (front_same at S b c same HEAD_SIZE far) was.head;
      part = has;
    }

-- The bytes of a second layout match these words and these states of its places.
pub record PartStores (part : List ℕ) (words : ℕ) (contents : List ℕ) (states : List PlaceState) : Type 0 where
  pub has : HasWords Second words (length states) contents part
  pub placed : (place : ℕ) → place < length states → PlacedAs part words place (stage_of states place) (writes_of_place states place)

pub part_stores : (image : List ℕ) (at words : ℕ) (contents : List ℕ) (states : List PlaceState) → Stores image at words contents states → PartStores (drop at image) words contents states
part_stores image at words contents states stores = record { has = stores.has.part; placed = stores.placed }

-- the same of a whole file, after its second layout has changed
pub stores_stay : (at words : ℕ) (before after : List ℕ) (states next : List PlaceState) (b c : List ℕ) (S : ℕ → Type 0) → Stores b at words before states → SameBut (Behind at S) b c
    → PartStores (drop at c) words after next → length next ≡ length states → Stores c at words after next
stores_stay at words before after states next b c S was same part count = record {
  has = subst (λ (n : ℕ). HasSecond at words n after c) (sym count)
      (second_stays at words (length states) before after b c S was.has same (subst (λ (n : ℕ). HasWords Second words n after (drop at c)) count part.has));
  placed = part.placed;
}
