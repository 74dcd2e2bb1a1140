-- Defines what can be wrong with a file, in the order of the tests, and what a file without damage says. If the switch byte
-- in the head is set, a second layout is in use, at the offset that the head tells; otherwise the first, with which a file
-- begins.
-- Used by: many crates from mw_file_text on, damages.rt, images.rt, laws.rt. A new Damage needs a case here, in
-- src/damages.rt and in mwshow.
use Rattle.std.specs.Prelude.{◌≡◌, ℕ, ◌*◌, ◌==◌, ◌&&◌, nat_le, if◌then◌else◌, Bool, Option, Some, None, List, [], ◌∷◌, drop, slice_index, is_none}
use Rattle.mw_record.specs.declared.layout.Layout.{Layout}
use Rattle.mw_record.specs.declared.layout.Layout.TheVariants.{First, Second}
use Rattle.mw_record.specs.declared.layout.TheConstants.{HEAD_SIZE, WORD_SIZE, COMMITTED, SWITCH_AT, SECOND_AT, MAX_FIRST, PLACES_GROW}
use Rattle.mw_record.specs.declared.damages.Damage.{Damage}
use Rattle.mw_record.specs.declared.damages.Damage.TheVariants.{NotThisFormat, Sizes, Value, Record, Overlap, Short, SecondLayout}
use Rattle.mw_record.specs.Layout.{number_at}
use Rattle.mw_record.specs.Records.{Pairs, RecordsByPlace}
use Rattle.mw_record.specs.LayoutBytes.{words_told, places_told, records_told, has_head, has_mark, part_tests, told_words, told_pairs}

-- the number of each damage
abbrev pub number_of : Damage → ℕ
number_of NotThisFormat = 1
number_of Sizes = 2
number_of Value = 3
number_of Record = 4
number_of Overlap = 5
number_of Short = 6
number_of SecondLayout = 7

-- the switch byte is set: the second layout is in use
abbrev pub is_switched : List ℕ → Bool
is_switched image = slice_index image SWITCH_AT == COMMITTED

-- the offset at which the head says that the second layout begins
abbrev pub second_at : List ℕ → ℕ
second_at image = number_at image SECOND_AT WORD_SIZE

-- a second layout may begin at this offset: after a head, and no later than the largest first layout ends
abbrev pub may_begin : ℕ → Bool
may_begin at = nat_le HEAD_SIZE at && nat_le at MAX_FIRST

-- the layout in use, the offset at which it begins, and the file's bytes from there on
abbrev pub layout_of : List ℕ → Layout
layout_of image = if is_switched image then Second else First

abbrev pub at_of : List ℕ → ℕ
at_of image = if is_switched image then second_at image else 0

abbrev pub part_of : List ℕ → List ℕ
part_of image = drop (at_of image) image

-- how many words the file has, and how many record places the layout in use has
abbrev pub words_of : List ℕ → ℕ
words_of image = words_told (part_of image)

abbrev pub found_places : List ℕ → ℕ
found_places image = places_told (part_of image)

-- How many record places the file has after an opening: those of its second layout, or twice as many as its first one has, because
-- the opening adds a second.
abbrev pub places_of : List ℕ → ℕ
places_of image = if is_switched image then found_places image else PLACES_GROW * found_places image

-- the open records of the layout in use, by place
abbrev pub records_of : List ℕ → RecordsByPlace
records_of image = records_told (layout_of image) (part_of image)

-- The tests of a second layout, in order: its offset, its head, its magic bytes, then the tests of any layout's bytes.
abbrev pub second_tests : List ℕ → List (Bool × Damage)
second_tests image =
    (may_begin (second_at image), SecondLayout)
    ∷ (has_head (drop (second_at image) image), Short)
    ∷ (has_mark Second (drop (second_at image) image), SecondLayout)
    ∷ part_tests Second (drop (second_at image) image)

-- all tests of a file, in the order in which they are made
abbrev pub tests_of : List ℕ → List (Bool × Damage)
tests_of image =
    (has_head image, Short)
    ∷ (has_mark First image, NotThisFormat)
    ∷ (if is_switched image then second_tests image else part_tests First image)

-- the damage of the first of these tests that fails
abbrev pub first_fault : List (Bool × Damage) → Option Damage
first_fault [] = None
first_fault (test ∷ tests) = if test.0 then first_fault tests else Some test.1

-- the damage of a file; None: it has none
unfoldable pub damage_of : List ℕ → Option Damage
damage_of image = first_fault (tests_of image)

-- the words at all addresses
abbrev pub words_in : List ℕ → List ℕ
words_in image = told_words (layout_of image) (part_of image)

-- a file's words, if it has no damage
abbrev pub file_words : List ℕ → Option (List ℕ)
file_words image = if is_none (damage_of image) then Some (words_in image) else None

-- the entries of the open record of a place; none if the place is closed
abbrev pub pairs_in : List ℕ → ℕ → Pairs
pairs_in image place = told_pairs (layout_of image) (part_of image) place

-- these bytes have no damage, and the layout in use is this one, at this offset, with these sizes
pub record IsSound (image : List ℕ) (layout : Layout) (at words places : ℕ) : Type 0 where
  pub undamaged : damage_of image ≡ None
  pub same_layout : layout ≡ layout_of image
  pub same_at : at ≡ at_of image
  pub same_words : words ≡ words_of image
  pub same_places : places ≡ found_places image
