-- Says which writes to a file's bytes keep its words, and which add one record's change to them.
-- Used by: mw_file, first_layouts_stay.
use Rattle.std.proofs.Common.{◌≡◌, ℕ, ◌+◌, ◌<◌, ◌≤◌, ◌⊎◌, List, length, get_or, refl, sym, ap, ◌∙◌, inl, inr, arith}
use Rattle.mw_record.specs.declared.layout.Layout.{Layout}
use Rattle.mw_record.specs.declared.layout.Layout.TheVariants.{First}
use Rattle.mw_record.specs.declared.layout.TheConstants.{HEAD_SIZE, PLACES_AT}
use Rattle.mw_record.specs.Layout.{home_at, place_at, size, SameBytes}
use Rattle.mw_record.specs.Records.{Pairs, put_pairs, record_at, home}
use Rattle.mw_record.specs.Contents.{IsHead, HasWords}
use Rattle.mw_record.proofs.Layouts.{head_before, head_fits, head_within, home_within, place_within}
use Rattle.mw_record.proofs.Changes.{StaysOrShut, StaysOrCovered, Opens, stands_same, stands_more}
use Rattle.mw_record.proofs.TestsBelow.{few_entries}
use Rattle.mw_record.proofs.ReadBytes.{home_same}
use Rattle.mw_record.proofs.ReadAgain.{head_told_same, head_same}
use Rattle.mw_record.proofs.Writes.{record_same}

module _ (layout : Layout) (words places : ℕ) (contents image image2 : List ℕ)
    (was : HasWords layout words places contents image)
    (long : size layout words places ≤ length image2) where
  -- The words stay if the head tells the same sizes, each open record stays or is closed after its values are in the home words, and
  -- each home word stays or is covered by an open record.
  words_stay_under : IsHead layout words places image2
      → ((j : ℕ) → j < places → StaysOrShut (record_at layout image words j) (record_at layout image2 words j) (home image2))
      → ((a : ℕ) → a < words → StaysOrCovered (home image) (home image2) (record_at layout image words) places a)
      → HasWords layout words places contents image2
  words_stay_under head records homes = record {
    head = head;
    long = long;
    stands = stands_same layout words places (home image) (home image2) (record_at layout image words) (record_at layout image2 words) contents records homes was.stands;
  }

  module _ (head : SameBytes HEAD_SIZE 0 0 image2 image) where
    head_stays : IsHead layout words places image2
    head_stays = head_same layout words places image2 image (head_within layout words places image2 long) (head_within layout words places image was.long) head was.head

    -- The words stay if the head stays, each open record stays or is closed after its values are in the home words, and each home word
    -- stays or is covered by an open record.
    pub words_stay : ((j : ℕ) → j < places → StaysOrShut (record_at layout image words j) (record_at layout image2 words j) (home image2))
        → ((a : ℕ) → a < words → StaysOrCovered (home image) (home image2) (record_at layout image words) places a)
        → HasWords layout words places contents image2
    words_stay records homes = words_stay_under head_stays records homes

    -- A record is put over the words if the head and the home words stay and one more place is open.
    pub words_put : (place : ℕ) (ps : Pairs) → Opens layout words places place ps (record_at layout image words) (record_at layout image2 words)
        → ((a : ℕ) → a < words → home image2 a ≡ home image a)
        → HasWords layout words places (put_pairs ps contents) image2
    words_put place ps opens homes = record {
      head = head_stays;
      long = long;
      stands = stands_more layout words places place ps (home image2) (record_at layout image words) (record_at layout image2 words) contents opens
          (stands_same layout words places (home image) (home image2) (record_at layout image words) (record_at layout image words) contents (λ j lt. inl refl) (λ a lt. inl (homes a lt)) was.stands);
    }

  -- if the bytes after the head stay, the places and home words stay
  module _ (same : (k : ℕ) → HEAD_SIZE ≤ k → k < size layout words places → get_or image2 k 0 ≡ get_or image k 0) where
    same_records : (j : ℕ) → j < places → record_at layout image2 words j ≡ record_at layout image words j
    same_records j lt =
        record_same layout image2 image words j (λ k under. same (place_at layout words j + k) (omega (arith, head_before layout words j)) (omega (arith, under, place_within layout words places j lt)))
        (λ ps is. few_entries layout words ps (was.stands.formed j ps lt is))

    same_homes : (a : ℕ) → a < words → home image2 a ≡ home image a
    same_homes a lt = home_same image2 image a (λ k under. same (home_at a + k) (omega arith) (omega (arith, under, home_within layout words places a lt)))

    words_stay_behind : IsHead layout words places image2 → HasWords layout words places contents image2
    words_stay_behind head = words_stay_under head (λ j lt. inl (same_records j lt)) (λ a lt. inl (same_homes a lt))

-- The words stay if all bytes stay that the sizes need. Those after them don't matter.
pub has_words_same : (layout : Layout) (words places : ℕ) (contents xs ys : List ℕ) → HasWords layout words places contents xs → size layout words places ≤ length ys
    → SameBytes (size layout words places) 0 0 ys xs → HasWords layout words places contents ys
has_words_same layout words places contents xs ys was long same =
    let here : (k : ℕ) → k < size layout words places → get_or ys k 0 ≡ get_or xs k 0 = λ k lt.
    (let e : 0 + k ≡ k = omega arith in ap (λ i. get_or ys i 0) (sym e) ∙ same k lt ∙ ap (λ i. get_or xs i 0) e) in
    words_stay_behind layout words places contents xs ys was long (λ k past lt. here k lt)
    (head_stays layout words places contents xs ys was long (λ k lt. same k (omega (arith, lt, head_fits layout words places))))

-- A first layout keeps its words if its bytes stay, except those of its head after the sizes.
pub first_stays : (words places : ℕ) (contents image image2 : List ℕ) → HasWords First words places contents image → size First words places ≤ length image2
    → ((k : ℕ) → k < size First words places → (k < PLACES_AT + 2) ⊎ (HEAD_SIZE ≤ k) → get_or image2 k 0 ≡ get_or image k 0)
    → HasWords First words places contents image2
first_stays words places contents image image2 was long same =
    let fits = head_fits First words places in
    let told : SameBytes (PLACES_AT + 2) 0 0 image2 image = λ k lt.
    (let e : 0 + k ≡ k = omega arith in
    ap (λ i. get_or image2 i 0) e ∙ same k (omega (arith, lt, fits)) (inl lt) ∙ ap (λ i. get_or image i 0) (sym e)) in
    words_stay_behind First words places contents image image2 was long (λ k past lt. same k lt (inr past))
    (head_told_same First words places image2 image (head_within First words places image2 long) (head_within First words places image was.long) told was.head)
