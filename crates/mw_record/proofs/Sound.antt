-- A file has no damage exactly if its bytes represent its words; the same holds of one layout and its tests.
-- Used by: mw_file, mw_world_file, mw_simulator, mw_opening, mw_engine_tests.
use Rattle.std.proofs.Common.{◌≡◌, ℕ, suc, ◌*◌, ◌<◌, ◌≤◌, ◌==◌, ◌&&◌, ◌||◌, ◌↔◌, not, nat_le, if◌then◌else◌, is_none, Bool, true, false, Option, Some, None, List, [], ◌∷◌, length, drop, get_or, slice_get, refl, sym, ap, ◌∙◌, subst, inl, inr, arith, zero-add}
use Rattle.std.proofs.lemmas.Bool.{cases_Bool, cases_order, both_ways, and_parts, and_from, cond-true, cond-false, or_cases, or_left, or_right, leb-true, le-leb, eqb-true, not-true}
use Rattle.std.proofs.lemmas.List.{ext_get_or, length-drop}
use Rattle.std.proofs.lemmas.List.FromFn.{length-map-range_with_len, get_or-map-range_with_len}
use Rattle.std.proofs.lemmas.List.Elements.{All-from_get_or}
use Rattle.std.specs.List.{list_all}
use Rattle.std.specs.Option.{option_map_or}
use Rattle.mw_words.specs.declared.limits.TheConstants.{MAX_VALUE}
use Rattle.mw_words.specs.Change.{AreWords}
use Rattle.mw_record.specs.declared.layout.Layout.{Layout}
use Rattle.mw_record.specs.declared.layout.Layout.TheVariants.{First, Second}
use Rattle.mw_record.specs.declared.layout.TheConstants.{HEAD_SIZE, PLACES_GROW}
use Rattle.mw_record.specs.declared.damages.Damage.{Damage}
use Rattle.mw_record.specs.Layout.{most_entries, size}
use Rattle.mw_record.specs.Records.{Pairs, RecordsByPlace, all_over, holds, is_covered, has_values, is_record, rises_below, is_formed, is_apart, are_apart, are_formed, records_fit, homes_fit, home}
use Rattle.mw_record.specs.LayoutBytes.{has_mark, words_told, places_told, records_told, told_at, told_words}
use Rattle.mw_record.specs.Damages.{is_switched, second_at, may_begin, layout_of, part_of, damage_of, words_of, found_places, places_of, words_in, file_words}
use Rattle.mw_record.proofs.Layouts.{head_within}
use Rattle.mw_record.proofs.Faults.{Passes, IsWhole, passes, undamaged, at_first, at_second, from_first, from_second, first_layout, first_part, second_layout, second_part}
use Rattle.mw_record.proofs.TestsBelow.{has, each_at, each_from, covered_at, address_below, formed_at}
use Rattle.mw_record.proofs.OverlaidRecords.{Covers, covers, all_miss, all_hit, over_small, over_at, holds_at}
use Rattle.mw_record.specs.Contents.{Apart, Represents, HasWords, HasSecond, RepresentsAs, IsFileOf}

-- if each element passes a test, all do
all_from : {X : Type 0} (test : X → Bool) (xs : List X) → ((i : ℕ) (x : X) → slice_get xs i ≡ Some x → test x ≡ true) → list_all test xs ≡ true
all_from test [] each = refl
all_from test (x ∷ xs) each = and_from (test x) (list_all test xs) (each 0 x refl) (all_from test xs (λ i y read. each (suc i) y read))

-- a test of an open record, which a closed place passes
each_open : (test : Pairs → Bool) (r : Option Pairs) → ((ps : Pairs) → r ≡ Some ps → test ps ≡ true) → option_map_or test r true ≡ true
each_open test None each = refl
each_open test (Some ps) each = each ps refl

open_at : (test : ℕ → Pairs → Bool) (kept : RecordsByPlace) (places j : ℕ) (ps : Pairs) → ((i : ℕ) → i < places → option_map_or (test i) (kept i) true ≡ true)
    → j < places → kept j ≡ Some ps → test j ps ≡ true
open_at test kept places j ps all lt is = sym (ap (λ r. option_map_or (test j) r true) is) ∙ all j lt

-- if a record is apart from the first places, none of them covers an address of it
apart_holds : (kept : RecordsByPlace) (places : ℕ) (qs : Pairs) (a : ℕ) → is_apart kept places qs ≡ true → holds qs a ≡ true → is_covered kept places a ≡ false
apart_holds kept places [] a apart some = cc
apart_holds kept places (q ∷ qs) a apart some =
    let parts = and_parts (not (is_covered kept places q.0)) (is_apart kept places qs) apart in
    elim (or_cases (q.0 == a) (holds qs a) some) [
      | inl here ↦ ap (is_covered kept places) (sym (eqb-true q.0 a here)) ∙ not-true (is_covered kept places q.0) parts.0
      | inr there ↦ apart_holds kept places qs a parts.1 there
    ]

-- the test that open records share no address is true exactly if no two do
module _ (kept : RecordsByPlace) (places : ℕ) where
  earlier : are_apart kept places ≡ true → (i j : ℕ) (ps qs : Pairs) (a : ℕ) → i < j → j < places → kept i ≡ Some ps → kept j ≡ Some qs
      → holds ps a ≡ true → holds qs a ≡ true → ⊥
  earlier apart i j ps qs a lt q is js hi hj =
      let free = open_at (is_apart kept) kept places j qs (λ k p. each_at (λ n. option_map_or (is_apart kept n) (kept n) true) places k apart p) q js in
      both_ways (is_covered kept j a) (apart_holds kept j qs a free hj) (covered_at kept j i a lt (ap (λ r. has r a) is ∙ hi))

  pub apart_from_test : are_apart kept places ≡ true → Apart kept places
  apart_from_test apart i j ps qs a p q ne is js hi hj =
      elim (cases_order i j) [
        | inl e ↦ ne e
        | inr o ↦ elim o [
          | inl lt ↦ earlier apart i j ps qs a lt q is js hi hj
          | inr gt ↦ earlier apart j i qs ps a gt p js is hj hi
        ]
      ]

  free_entry : Apart kept places → (j : ℕ) (qs : Pairs) (i : ℕ) (q : ℕ × ℕ) → j < places → kept j ≡ Some qs → slice_get qs i ≡ Some q → not (is_covered kept j q.0) ≡ true
  free_entry apart j qs i q lt js read =
      elim (cases_Bool (is_covered kept j q.0)) [
        | inl is ↦
            let c : Covers kept j q.0 = covers kept j q.0 is in
            let below : c.place < places = omega (arith, c.within, lt) in
            let ne : c.place ≡ j → ⊥ = λ e. omega (arith, c.within, e) in
            absurd (apart c.place j c.pairs qs q.0 below lt ne c.is js c.holds_it (holds_at qs i q read))
        | inr none ↦ ap not none
      ]

  pub test_from_apart : Apart kept places → are_apart kept places ≡ true
  test_from_apart apart =
      each_from (λ j. option_map_or (is_apart kept j) (kept j) true) places (λ j lt. each_open (is_apart kept j) (kept j) (λ qs js.
      all_from (λ q. not (is_covered kept j q.0)) qs (λ i q read. free_entry apart j qs i q lt js read)))

-- no word is above the greatest value if the tests of the values pass
pub all_small : (kept : RecordsByPlace) (places a v : ℕ) → Apart kept places → records_fit kept places ≡ true → (is_covered kept places a || nat_le v MAX_VALUE) ≡ true
    → all_over kept places a v ≤ MAX_VALUE
all_small kept places a v apart fit ok =
    elim (cases_Bool (is_covered kept places a)) [
      | inl is ↦
          let c : Covers kept places a = covers kept places a is in
          let values = open_at (λ _. has_values) kept places c.place c.pairs (λ k p. each_at (λ n. option_map_or has_values (kept n) true) places k fit p) c.within c.is in
          omega (arith, all_hit kept places a v apart c, over_small c.pairs a 0 c.holds_it values)
      | inr none ↦
          let small : nat_le v MAX_VALUE ≡ true = elim (or_cases (is_covered kept places a) (nat_le v MAX_VALUE) ok) [
            | inl h ↦ absurd (both_ways (is_covered kept places a) none h)
            | inr h ↦ h
          ] in
          omega (arith, all_miss kept places a v none, leb-true v MAX_VALUE small)
    ]

module _ (layout : Layout) (words places : ℕ) (homes : ℕ → ℕ) (kept : RecordsByPlace) (contents : List ℕ) (s : Represents layout words places homes kept contents) where
  -- a new value is the word at its address
  small_entry : (j : ℕ) (ps : Pairs) (i : ℕ) (p : ℕ × ℕ) → j < places → kept j ≡ Some ps → slice_get ps i ≡ Some p → nat_le p.1 MAX_VALUE ≡ true
  small_entry j ps i p lt is read =
      let formed = s.formed j ps lt is in
      let low = address_below layout words ps i p formed read in
      let rising = (and_parts (nat_le 1 (length ps) && nat_le (length ps) (most_entries layout)) (rises_below words 0 ps) formed).1 in
      let c : Covers kept places p.0 = record { place = j; pairs = ps; within = lt; is = is; holds_it = holds_at ps i p read } in
      let word : get_or contents p.0 0 ≡ p.1 =
      s.each p.0 low ∙ all_hit kept places p.0 (homes p.0) s.apart c ∙ over_at words 0 ps i p 0 rising read in
      le-leb p.1 MAX_VALUE (omega (arith, word, s.small p.0 low))

  pub records_small : records_fit kept places ≡ true
  records_small =
      each_from (λ j. option_map_or has_values (kept j) true) places (λ j lt. each_open has_values (kept j) (λ ps is.
      all_from (λ p. nat_le p.1 MAX_VALUE) ps (λ i p read. small_entry j ps i p lt is read)))

  pub homes_small : homes_fit homes kept places words ≡ true
  homes_small =
      each_from (λ a. is_covered kept places a || nat_le (homes a) MAX_VALUE) words (λ a lt. elim (cases_Bool (is_covered kept places a)) [
        | inl is ↦ or_left (is_covered kept places a) (nat_le (homes a) MAX_VALUE) is
        | inr none ↦
            let word = s.each a lt ∙ all_miss kept places a (homes a) none in
            or_right (is_covered kept places a) (nat_le (homes a) MAX_VALUE) (le-leb (homes a) MAX_VALUE (omega (arith, word, s.small a lt)))
      ])

  pub all_formed : are_formed layout words kept places ≡ true
  all_formed =
      each_from (λ j. is_formed layout words (kept j)) places (λ j lt. each_open (is_record layout words) (kept j) (λ ps is. s.formed j ps lt is))

-- a layout's bytes that pass every test represent their words
pub part_has_words : (layout : Layout) (part : List ℕ) → has_mark layout part ≡ true → Passes layout part → HasWords layout (words_told part) (places_told part) (told_words layout part) part
unfolding told_at
part_has_words layout part mark p =
    let n : ℕ = words_told part in
    let m : ℕ = places_told part in
    let kept : RecordsByPlace = records_told layout part in
    let apart : Apart kept m = apart_from_test kept m p.apart in
    let values = and_parts (records_fit kept m) (homes_fit (home part) kept m n) p.small in
    let word : (a : ℕ) → a < n → get_or (told_words layout part) a 0 ≡ all_over kept m a (home part a) = λ a lt.
    get_or-map-range_with_len (told_at layout part) 0 n a a 0 lt (zero-add a) in
    record {
      head = record { mark = mark; sizes = p.sizes; words_are = refl; places_are = refl };
      long = leb-true (size layout n m) (length part) p.all_bytes;
      stands = record {
        count = length-map-range_with_len (told_at layout part) 0 n;
        each = word;
        small = λ a lt. (
            let ok = each_at (λ b. is_covered kept m b || nat_le (home part b) MAX_VALUE) n a values.1 lt in
            omega (arith, word a lt, all_small kept m a (home part a) apart values.0 ok));
        formed = λ j ps lt is. formed_at layout n m j kept ps p.formed lt is;
        apart = apart;
      };
    }

at_head : (layout : Layout) (words places : ℕ) (contents part : List ℕ) → HasWords layout words places contents part → HasWords layout (words_told part) (places_told part) contents part
at_head layout words places contents part h =
    subst (λ n. HasWords layout n (places_told part) contents part) (sym h.head.words_are)
    (subst (λ m. HasWords layout words m contents part) (sym h.head.places_are) h)

whole_at : (layout : Layout) (contents part : List ℕ) → HasWords layout (words_told part) (places_told part) contents part → IsWhole layout part
whole_at layout contents part h =
    let n : ℕ = words_told part in
    let m : ℕ = places_told part in
    let kept : RecordsByPlace = records_told layout part in
    let s = h.stands in (
      le-leb HEAD_SIZE (length part) (head_within layout n m part h.long),
      h.head.mark,
      record {
        sizes = h.head.sizes;
        all_bytes = le-leb (size layout n m) (length part) h.long;
        formed = all_formed layout n m (home part) kept contents s;
        apart = test_from_apart kept m s.apart;
        small = and_from (records_fit kept m) (homes_fit (home part) kept m n) (records_small layout n m (home part) kept contents s) (homes_small layout n m (home part) kept contents s);
      },
    )

-- a layout's bytes that represent words pass every test
pub whole : (layout : Layout) (words places : ℕ) (contents part : List ℕ) → HasWords layout words places contents part → IsWhole layout part
whole layout words places contents part h = whole_at layout contents part (at_head layout words places contents part h)

-- and these words are those that the bytes tell
pub told_are : (layout : Layout) (words places : ℕ) (contents part : List ℕ) → HasWords layout words places contents part → contents ≡ told_words layout part
told_are layout words places contents part h0 =
    let h : HasWords layout (words_told part) (places_told part) contents part = at_head layout words places contents part h0 in
    let w : IsWhole layout part = whole_at layout contents part h in
    let r : HasWords layout (words_told part) (places_told part) (told_words layout part) part = part_has_words layout part w.1 w.2 in
    ext_get_or 0 contents (told_words layout part) (h.stands.count ∙ sym r.stands.count) (λ a lt.
    let within : a < words_told part = omega (arith, lt, h.stands.count) in
    h.stands.each a within ∙ sym (r.stands.each a within))

-- no word of a layout's bytes is above the greatest value
pub are_words : (layout : Layout) (words places : ℕ) (contents part : List ℕ) → HasWords layout words places contents part → AreWords contents
are_words layout words places contents part h =
    All-from_get_or (λ v. v ≤ MAX_VALUE) contents 0 (λ a lt. h.stands.small a (omega (arith, lt, h.stands.count)))

-- a file without damage has a layout in use that represents its words
pub has_words : (image : List ℕ) → damage_of image ≡ None → HasWords (layout_of image) (words_of image) (found_places image) (words_in image) (part_of image)
has_words image none =
    let p = passes image none in
    part_has_words (layout_of image) (part_of image) p.part_mark p.part

-- these bytes of this layout represent the words of the file
abbrev Says : List ℕ → Layout → List ℕ → Type 0
Says image layout part = HasWords layout (words_of image) (found_places image) (words_in image) part

stands_as : (image : List ℕ) (switched : Bool) → damage_of image ≡ None → is_switched image ≡ switched → RepresentsAs switched (words_in image) image
stands_as image true none s =
    let p = passes image none in
    record {
      head = record { mark = p.mark; switched = s; begins = refl; fits = p.begins s };
      part = from_second image (Says image) s (has_words image none);
    }
stands_as image false none s = from_first image (Says image) s (has_words image none)

-- a file without damage is one of its words
pub file_of : (image : List ℕ) → damage_of image ≡ None → IsFileOf (words_in image) image
file_of image none = stands_as image (is_switched image) none refl

module _ (at words places : ℕ) (contents image : List ℕ) (h : HasSecond at words places contents image) where
  part_is : part_of image ≡ drop at image
  part_is = second_part image h.head.switched ∙ ap (λ n. drop n image) h.head.begins

  second_whole : IsWhole (layout_of image) (part_of image)
  second_whole =
      let w : IsWhole Second (drop at image) = whole Second words places contents (drop at image) h.part in
      at_second image IsWhole h.head.switched (subst (λ n. IsWhole Second (drop n image)) (sym h.head.begins) w)

  -- bytes with a second layout have no damage
  pub second_undamaged : damage_of image ≡ None
  second_undamaged =
      let w = second_whole in
      let long : HEAD_SIZE ≤ length (drop at image) = head_within Second words places (drop at image) h.part.long in
      undamaged image (record {
        head = le-leb HEAD_SIZE (length image) (omega (arith, long, length-drop at image));
        mark = h.head.mark;
        begins = λ _. ap may_begin h.head.begins ∙ h.head.fits;
        part_head = w.0;
        part_mark = w.1;
        part = w.2;
      })

  pub second_words : words_in image ≡ contents
  second_words =
      ap (λ l. told_words l (part_of image)) (second_layout image h.head.switched) ∙ ap (told_words Second) part_is ∙ sym (told_are Second words places contents (drop at image) h.part)

  pub second_word_count : words_of image ≡ words
  second_word_count = ap words_told part_is ∙ h.part.head.words_are

  pub second_places : places_of image ≡ places
  second_places = cond-true (is_switched image) (found_places image) (PLACES_GROW * found_places image) h.head.switched ∙ ap places_told part_is ∙ h.part.head.places_are

module _ (words places : ℕ) (contents image : List ℕ) (s : is_switched image ≡ false) (h : HasWords First words places contents image) where
  first_whole : IsWhole (layout_of image) (part_of image)
  first_whole = at_first image IsWhole s (whole First words places contents image h)

  -- bytes that are a first layout, with a clear switch byte, have no damage
  pub first_undamaged : damage_of image ≡ None
  first_undamaged =
      let w = first_whole in
      undamaged image (record {
        head = le-leb HEAD_SIZE (length image) (head_within First words places image h.long);
        mark = h.head.mark;
        begins = λ t. absurd (both_ways (is_switched image) s t);
        part_head = w.0;
        part_mark = w.1;
        part = w.2;
      })

  pub first_words : words_in image ≡ contents
  first_words =
      ap (λ l. told_words l (part_of image)) (first_layout image s) ∙ ap (told_words First) (first_part image s) ∙ sym (told_are First words places contents image h)

  pub first_word_count : words_of image ≡ words
  first_word_count = ap words_told (first_part image s) ∙ h.head.words_are

  pub first_places : places_of image ≡ PLACES_GROW * places
  first_places =
      cond-false (is_switched image) (found_places image) (PLACES_GROW * found_places image) s
      ∙ ap (λ n. PLACES_GROW * n) (ap places_told (first_part image s) ∙ h.head.places_are)

-- the words of a file without damage
words_at : (image contents : List ℕ) → damage_of image ≡ None → words_in image ≡ contents → file_words image ≡ Some contents
words_at image contents none are = ap (λ d. if is_none d then Some (words_in image) else None) none ∙ ap Some are

-- Bytes with a second layout of some words are a file of these words, with that layout's sizes.
pub second_file : (at words places : ℕ) (contents image : List ℕ) → HasSecond at words places contents image
    → (file_words image ≡ Some contents) × (words_of image ≡ words) × (places_of image ≡ places)
second_file at words places contents image h =
    (words_at image contents (second_undamaged at words places contents image h) (second_words at words places contents image h), second_word_count at words places contents image h, second_places at words places contents image h)

-- Bytes that are a first layout of some words, with a clear switch byte, are a file of these words.
pub first_file : (words places : ℕ) (contents image : List ℕ) → is_switched image ≡ false → HasWords First words places contents image
    → (file_words image ≡ Some contents) × (words_of image ≡ words) × (places_of image ≡ PLACES_GROW * places)
first_file words places contents image s h =
    (words_at image contents (first_undamaged words places contents image s h) (first_words words places contents image s h), first_word_count words places contents image s h, first_places words places contents image s h)

words_from : (contents image : List ℕ) (switched : Bool) → is_switched image ≡ switched → RepresentsAs switched contents image → file_words image ≡ Some contents
words_from contents image true s h = (second_file (second_at image) (words_of image) (found_places image) contents image h).0
words_from contents image false s h = (first_file (words_of image) (found_places image) contents image s h).0

words_by : (contents image : List ℕ) (d : Option Damage) → damage_of image ≡ d → (if is_none d then Some (words_in image) else None) ≡ Some contents
    → (damage_of image ≡ None) × (words_in image ≡ contents)
words_by contents image None none found = (none, (let e : words_in image ≡ contents = cc in e))
words_by contents image (Some d) some found = cc

-- a file that has words has no damage, and its words are those that its bytes tell
pub words_found : (contents image : List ℕ) → file_words image ≡ Some contents → (damage_of image ≡ None) × (words_in image ≡ contents)
words_found contents image found = words_by contents image (damage_of image) refl found

words_to : (contents image : List ℕ) → file_words image ≡ Some contents → IsFileOf contents image
words_to contents image found =
    let w = words_found contents image found in
    subst (λ ws. IsFileOf ws image) w.1 (file_of image w.0)

-- A file's words are exactly those that its bytes represent.
pub words_iff : (contents image : List ℕ) → (file_words image ≡ Some contents) ↔ IsFileOf contents image
words_iff contents image = (λ found. words_to contents image found, λ h. words_from contents image (is_switched image) refl h)

-- A file has no damage exactly if its bytes represent some words.
pub undamaged_iff : (image : List ℕ) → (damage_of image ≡ None) ↔ ((contents : List ℕ) × IsFileOf contents image)
undamaged_iff image = (
  λ none. (words_in image, file_of image none),
  λ h. (words_found h.0 image (words_from h.0 image (is_switched image) refl h.1)).0,
)

-- no word of a file is above the greatest value
pub undamaged_words : (image : List ℕ) → damage_of image ≡ None → AreWords (words_in image)
undamaged_words image none =
    are_words (layout_of image) (words_of image) (found_places image) (words_in image) (part_of image) (has_words image none)

pub file_are_words : (words image : List ℕ) → file_words image ≡ Some words → AreWords words
file_are_words words image found = let w = words_found words image found in subst AreWords w.1 (undamaged_words image w.0)
