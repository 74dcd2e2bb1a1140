-- The first test that a file fails gives its damage, and a file has no damage exactly if it passes all tests.
-- Used by: decode, second_at, sizes, mw_file_text, mw_file, mwshow.
use Rattle.std.proofs.Common.{◌≡◌, ℕ, Bool, true, false, cond, Option, Some, None, List, length, slice_get, drop, ◌<◌, ◌≤◌, refl, sym, ap, ◌∙◌, subst, inl, inr, arith, zero-add, ◌+◌}
use Rattle.std.proofs.lemmas.Bool.{cases_Bool, cond-true, cond-false, and_parts, and_from, leb-true, le-leb, lt-leb}
use Rattle.std.proofs.lemmas.List.{length-drop}
use Rattle.std.proofs.lemmas.List.FromFn.{length-map-range_with_len, get_or-map-range_with_len}
use Rattle.std.proofs.lemmas.Option.{slice_get-get_or}
use Rattle.mw_words.specs.declared.limits.TheConstants.{MAX_WORDS}
use Rattle.mw_record.specs.declared.layout.Layout.{Layout}
use Rattle.mw_record.specs.declared.layout.Layout.TheVariants.{First, Second}
use Rattle.mw_record.specs.declared.layout.TheConstants.{HEAD_SIZE, MAX_FIRST}
use Rattle.mw_record.specs.declared.damages.Damage.{Damage}
use Rattle.mw_record.specs.declared.damages.Damage.TheVariants.{NotThisFormat, Sizes, Value, Record, Overlap, Short, SecondLayout}
use Rattle.mw_record.specs.Layout.{most_places}
use Rattle.mw_record.specs.LayoutBytes.{has_head, has_mark, has_sizes, has_all_bytes, has_formed_records, has_records_apart, has_small_values, words_told, places_told, part_tests, told_at, told_words}
use Rattle.mw_record.specs.Damages.{is_switched, second_at, may_begin, layout_of, at_of, part_of, second_tests, first_fault, damage_of}

-- a layout's bytes pass every test
pub record Passes (layout : Layout) (part : List ℕ) : Type 0 where
  pub sizes : has_sizes layout part ≡ true
  pub all_bytes : has_all_bytes layout part ≡ true
  pub formed : has_formed_records layout part ≡ true
  pub apart : has_records_apart layout part ≡ true
  pub small : has_small_values layout part ≡ true

passed : (test : Bool) (rest : Option Damage) (d : Damage) → cond test rest (Some d) ≡ None → (test ≡ true) × (rest ≡ None)
passed true rest d none = (refl, none)
passed false rest d none = cc

-- the damage of a layout's bytes
abbrev pub part_fault : Layout → List ℕ → Option Damage
part_fault layout part = first_fault (part_tests layout part)

module _ (layout : Layout) (part : List ℕ) where
  pub no_sizes : has_sizes layout part ≡ false → part_fault layout part ≡ Some Sizes
  no_sizes a = cond-false _ _ _ a

  pub too_short : has_sizes layout part ≡ true → has_all_bytes layout part ≡ false → part_fault layout part ≡ Some Short
  too_short a b = cond-true _ _ _ a ∙ cond-false _ _ _ b

  pub not_formed : has_sizes layout part ≡ true → has_all_bytes layout part ≡ true → has_formed_records layout part ≡ false → part_fault layout part ≡ Some Record
  not_formed a b c = cond-true _ _ _ a ∙ cond-true _ _ _ b ∙ cond-false _ _ _ c

  pub not_apart : has_sizes layout part ≡ true → has_all_bytes layout part ≡ true → has_formed_records layout part ≡ true → has_records_apart layout part ≡ false
      → part_fault layout part ≡ Some Overlap
  not_apart a b c d = cond-true _ _ _ a ∙ cond-true _ _ _ b ∙ cond-true _ _ _ c ∙ cond-false _ _ _ d

  pub not_small : has_sizes layout part ≡ true → has_all_bytes layout part ≡ true → has_formed_records layout part ≡ true → has_records_apart layout part ≡ true
      → has_small_values layout part ≡ false → part_fault layout part ≡ Some Value
  not_small a b c d e = cond-true _ _ _ a ∙ cond-true _ _ _ b ∙ cond-true _ _ _ c ∙ cond-true _ _ _ d ∙ cond-false _ _ _ e

  pub no_fault : Passes layout part → part_fault layout part ≡ None
  no_fault p = cond-true _ _ _ p.sizes ∙ cond-true _ _ _ p.all_bytes ∙ cond-true _ _ _ p.formed ∙ cond-true _ _ _ p.apart ∙ cond-true _ _ _ p.small

  pub part_passes : part_fault layout part ≡ None → Passes layout part
  part_passes none =
      let a = passed _ _ _ none in
      let b = passed _ _ _ a.1 in
      let c = passed _ _ _ b.1 in
      let d = passed _ _ _ c.1 in
      let e = passed _ _ _ d.1 in
      record { sizes = a.0; all_bytes = b.0; formed = c.0; apart = d.0; small = e.0 }

module _ (image : List ℕ) where
  pub no_head : has_head image ≡ false → damage_of image ≡ Some Short
  unfolding damage_of
  no_head a = cond-false _ _ _ a

  pub no_mark : has_head image ≡ true → has_mark First image ≡ false → damage_of image ≡ Some NotThisFormat
  unfolding damage_of
  no_mark a b = cond-true _ _ _ a ∙ cond-false _ _ _ b

  -- if the first layout is in use, the file's damage is that of the first layout
  pub first_damage : has_head image ≡ true → has_mark First image ≡ true → is_switched image ≡ false → damage_of image ≡ part_fault First image
  unfolding damage_of
  first_damage a b s = cond-true _ _ _ a ∙ cond-true _ _ _ b ∙ ap first_fault (cond-false (is_switched image) (second_tests image) (part_tests First image) s)

  -- if the second layout is in use, the file's damage is that of the second layout
  pub second_damage : has_head image ≡ true → has_mark First image ≡ true → is_switched image ≡ true → damage_of image ≡ first_fault (second_tests image)
  unfolding damage_of
  second_damage a b s = cond-true _ _ _ a ∙ cond-true _ _ _ b ∙ ap first_fault (cond-true (is_switched image) (second_tests image) (part_tests First image) s)

  pub no_place : may_begin (second_at image) ≡ false → first_fault (second_tests image) ≡ Some SecondLayout
  no_place a = cond-false _ _ _ a

  pub no_second_head : may_begin (second_at image) ≡ true → has_head (drop (second_at image) image) ≡ false → first_fault (second_tests image) ≡ Some Short
  no_second_head a b = cond-true _ _ _ a ∙ cond-false _ _ _ b

  pub no_second_mark : may_begin (second_at image) ≡ true → has_head (drop (second_at image) image) ≡ true → has_mark Second (drop (second_at image) image) ≡ false
      → first_fault (second_tests image) ≡ Some SecondLayout
  no_second_mark a b c = cond-true _ _ _ a ∙ cond-true _ _ _ b ∙ cond-false _ _ _ c

  pub second_fault : may_begin (second_at image) ≡ true → has_head (drop (second_at image) image) ≡ true → has_mark Second (drop (second_at image) image) ≡ true
      → first_fault (second_tests image) ≡ part_fault Second (drop (second_at image) image)
  second_fault a b c = cond-true _ _ _ a ∙ cond-true _ _ _ b ∙ cond-true _ _ _ c

  -- the layout in use, its offset and its bytes, by the switch byte
  pub first_layout : is_switched image ≡ false → layout_of image ≡ First
  first_layout s = cond-false (is_switched image) Second First s

  pub first_at : is_switched image ≡ false → at_of image ≡ 0
  first_at s = cond-false (is_switched image) (second_at image) 0 s

  pub first_part : is_switched image ≡ false → part_of image ≡ image
  first_part s = ap (λ n. drop n image) (first_at s)

  pub second_layout : is_switched image ≡ true → layout_of image ≡ Second
  second_layout s = cond-true (is_switched image) Second First s

  pub second_begins : is_switched image ≡ true → at_of image ≡ second_at image
  second_begins s = cond-true (is_switched image) (second_at image) 0 s

  pub second_part : is_switched image ≡ true → part_of image ≡ drop (second_at image) image
  second_part s = ap (λ n. drop n image) (second_begins s)

  -- what holds of the layout that the switch byte names holds of the layout in use
  pub at_first : (P : Layout → List ℕ → Type 0) → is_switched image ≡ false → P First image → P (layout_of image) (part_of image)
  at_first P s p = subst (λ l. P l (part_of image)) (sym (first_layout s)) (subst (P First) (sym (first_part s)) p)

  pub at_second : (P : Layout → List ℕ → Type 0) → is_switched image ≡ true → P Second (drop (second_at image) image) → P (layout_of image) (part_of image)
  at_second P s p = subst (λ l. P l (part_of image)) (sym (second_layout s)) (subst (P Second) (sym (second_part s)) p)

  -- the same the other way round
  pub from_first : (P : Layout → List ℕ → Type 0) → is_switched image ≡ false → P (layout_of image) (part_of image) → P First image
  from_first P s p = subst (P First) (first_part s) (subst (λ l. P l (part_of image)) (first_layout s) p)

  pub from_second : (P : Layout → List ℕ → Type 0) → is_switched image ≡ true → P (layout_of image) (part_of image) → P Second (drop (second_at image) image)
  from_second P s p = subst (P Second) (second_part s) (subst (λ l. P l (part_of image)) (second_layout s) p)

-- the file passes every test
pub record FilePasses (image : List ℕ) : Type 0 where
  pub head : has_head image ≡ true
  pub mark : has_mark First image ≡ true
  pub begins : is_switched image ≡ true → may_begin (second_at image) ≡ true
  pub part_head : has_head (part_of image) ≡ true
  pub part_mark : has_mark (layout_of image) (part_of image) ≡ true
  pub part : Passes (layout_of image) (part_of image)

-- a layout's bytes have a head, begin with its magic bytes, and pass every test
abbrev pub IsWhole : Layout → List ℕ → Type 0
IsWhole layout part = (has_head part ≡ true) × (has_mark layout part ≡ true) × Passes layout part

module _ (image : List ℕ) where
  second_whole : first_fault (second_tests image) ≡ None → (may_begin (second_at image) ≡ true) × IsWhole Second (drop (second_at image) image)
  second_whole none =
      let a = passed _ _ _ none in
      let b = passed _ _ _ a.1 in
      let c = passed _ _ _ b.1 in
      (a.0, (b.0, c.0, part_passes Second (drop (second_at image) image) c.1))

  pub passes : damage_of image ≡ None → FilePasses image
  unfolding damage_of
  passes none =
      let a = passed _ _ _ none in
      let b = passed _ _ _ a.1 in
      elim (cases_Bool (is_switched image)) [
        | inl s ↦
            let w = second_whole (sym (second_damage image a.0 b.0 s) ∙ none) in
            let p : IsWhole (layout_of image) (part_of image) = at_second image IsWhole s w.1 in
            record { head = a.0; mark = b.0; begins = λ _. w.0; part_head = p.0; part_mark = p.1; part = p.2 }
        | inr s ↦
            let w : IsWhole First image = (a.0, b.0, part_passes First image (sym (first_damage image a.0 b.0 s) ∙ none)) in
            let p : IsWhole (layout_of image) (part_of image) = at_first image IsWhole s w in
            record { head = a.0; mark = b.0; begins = λ t. (let e : may_begin (second_at image) ≡ true = cc (s, t) in e); part_head = p.0; part_mark = p.1; part = p.2 }
      ]

  pub undamaged : FilePasses image → damage_of image ≡ None
  undamaged p =
      elim (cases_Bool (is_switched image)) [
        | inl s ↦
            let w : IsWhole Second (drop (second_at image) image) = from_second image IsWhole s (p.part_head, p.part_mark, p.part) in
            second_damage image p.head p.mark s ∙ second_fault image (p.begins s) w.0 w.1 ∙ no_fault Second (drop (second_at image) image) w.2
        | inr s ↦
            let w : IsWhole First image = from_first image IsWhole s (p.part_head, p.part_mark, p.part) in
            first_damage image p.head p.mark s ∙ no_fault First image w.2
      ]

-- an offset at which a second layout may begin
pub begins_within : (at : ℕ) → may_begin at ≡ true → (HEAD_SIZE ≤ at) × (at ≤ MAX_FIRST)
begins_within at ok =
    let a = and_parts _ _ ok in
    (leb-true _ _ a.0, leb-true _ _ a.1)

-- the same the other way round
pub may_begin_at : (at : ℕ) → HEAD_SIZE ≤ at → at ≤ MAX_FIRST → may_begin at ≡ true
may_begin_at at from to = and_from _ _ (le-leb _ _ from) (le-leb _ _ to)

-- a head is there from an offset on, if there are enough bytes
module _ (image : List ℕ) (at : ℕ) where
  pub head_at : at + HEAD_SIZE ≤ length image → has_head (drop at image) ≡ true
  head_at long = le-leb _ _ (omega (arith, length-drop at image, long))

  pub no_head_at : length image < at + HEAD_SIZE → has_head (drop at image) ≡ false
  no_head_at short = lt-leb _ _ (omega (arith, length-drop at image, short))

  pub within_image : has_head (drop at image) ≡ true → at ≤ length image
  within_image head = omega (arith, length-drop at image, leb-true _ _ head)

-- the layout may have the sizes that its head tells
pub record AreSizes (layout : Layout) (part : List ℕ) : Type 0 where
  pub some_word : 1 ≤ words_told part
  pub words_fit : words_told part ≤ MAX_WORDS
  pub some_place : 1 ≤ places_told part
  pub places_fit : places_told part ≤ most_places layout

pub sizes_are : (layout : Layout) (part : List ℕ) → has_sizes layout part ≡ true → AreSizes layout part
sizes_are layout part ok =
    let b = and_parts _ _ ok in
    let c = and_parts _ _ b.0 in
    let d = and_parts _ _ c.0 in
    record {
      some_word = leb-true _ _ d.0;
      words_fit = leb-true _ _ d.1;
      some_place = leb-true _ _ c.1;
      places_fit = leb-true _ _ b.1;
    }

pub are_sizes : (layout : Layout) (part : List ℕ) → AreSizes layout part → has_sizes layout part ≡ true
are_sizes layout part s =
    and_from _ _ (and_from _ _ (and_from _ _ (le-leb _ _ s.some_word) (le-leb _ _ s.words_fit)) (le-leb _ _ s.some_place)) (le-leb _ _ s.places_fit)

pub not_sizes : (layout : Layout) (part : List ℕ) → (AreSizes layout part → ⊥) → has_sizes layout part ≡ false
not_sizes layout part none = elim (cases_Bool (has_sizes layout part)) [
  | inl sizes ↦ absurd (none (sizes_are layout part sizes))
  | inr other ↦ other
]

-- the word at an address is among the words, at that place
pub word_in : (layout : Layout) (part : List ℕ) (addr : ℕ) → addr < words_told part → slice_get (told_words layout part) addr ≡ Some (told_at layout part addr)
word_in layout part addr lt =
    let n : ℕ = words_told part in
    let long : addr < length (told_words layout part) = omega (arith, lt, length-map-range_with_len (told_at layout part) 0 n) in
    slice_get-get_or (told_words layout part) addr 0 long
    ∙ ap Some (get_or-map-range_with_len (told_at layout part) 0 n addr addr 0 lt (zero-add addr))
