-- Defines where the damage of a file is: the byte at which the damaged part begins, counted from the beginning of the file.
-- Used by: src/damaged.rt, src/sized.rt. Change it with docs/OPERATING.
use Rattle.std.specs.Prelude.{ℕ, zero, suc, ◌≤◌, ◌+◌, ◌-◌, ◌*◌, ◌==◌, ◌&&◌, ◌++◌, nat_le, nat_lt, if◌then◌else◌, Bool, false, List, drop, length, replicate, take}
use Rattle.std.specs.Option.{option_map_or}
use Rattle.mw_words.specs.declared.limits.TheConstants.{MAX_WORDS}
use Rattle.mw_record.specs.declared.layout.Layout.{Layout}
use Rattle.mw_record.specs.declared.layout.TheConstants.{HEAD_SIZE, MAX_FIRST, PLACES_AT, SECOND_AT, WORD_SIZE, WORDS_AT}
use Rattle.mw_record.specs.declared.damages.Damage.{Damage}
use Rattle.mw_record.specs.declared.damages.Damage.TheVariants.{NotThisFormat, Sizes, Value, Record, Overlap, Short, SecondLayout}
use Rattle.mw_record.specs.Layout.{header, home_at, place_at, size}
use Rattle.mw_record.specs.Contents.{MayHave}
use Rattle.mw_record.specs.Damages.{at_of, damage_of, found_places, layout_of, may_begin, number_of, second_at, words_of}

-- At this offset a layout may begin, and all bytes of its head are in the file.
pub record HasHead (at : ℕ) (image : List ℕ) : Type 0 where
  pub begins : at ≤ MAX_FIRST
  pub whole : at + HEAD_SIZE ≤ length image

-- A layout begins at an offset at which one may, its sizes are ones that it may have, and all its bytes are there.
pub record IsSized (layout : Layout) (at words places : ℕ) (image : List ℕ) : Type 0 where
  pub begins : at ≤ MAX_FIRST
  pub sizes : MayHave layout words places
  pub whole : at + size layout words places ≤ length image

-- the bytes have this damage
abbrev pub has_damage : Damage → List ℕ → Bool
has_damage damage image = option_map_or (λ found. number_of found == number_of damage) (damage_of image) false

-- the lowest number below n for which a test holds, or n if it holds for none
abbrev pub first_of : (ℕ → Bool) → ℕ → ℕ
first_of test zero = zero
first_of test (suc n) = if nat_lt (first_of test n) n then first_of test n else (if test n then n else suc n)

-- a file whose layout begins at an offset and has so many words, with only its first places
abbrev pub first_places : Layout → ℕ → ℕ → ℕ → List ℕ → List ℕ
first_places layout at words places image = take at image ++ (header layout words places ++ drop (at + HEAD_SIZE) image)

-- a file whose layout begins at an offset and has so many words, with only its first home words; the others are 0
abbrev pub first_homes : ℕ → ℕ → ℕ → List ℕ → List ℕ
first_homes at words homes image = take (at + home_at homes) image ++ (replicate (WORD_SIZE * (words - homes)) 0 ++ drop (at + home_at words) image)

-- the file with only the places up to this one has the damage
abbrev pub comes_at : Layout → ℕ → ℕ → Damage → List ℕ → ℕ → Bool
comes_at layout at words damage image place = has_damage damage (first_places layout at words (place + 1) image)

-- the first place with which the damage appears, or the number of places
abbrev pub place_of : Layout → ℕ → ℕ → ℕ → Damage → List ℕ → ℕ
place_of layout at words places damage image = first_of (comes_at layout at words damage image) places

-- the byte of that place
abbrev pub place_byte : Layout → ℕ → ℕ → ℕ → Damage → List ℕ → ℕ
place_byte layout at words places damage image = at + place_at layout words (place_of layout at words places damage image)

-- With only the home words up to this one the file has a value above the greatest. A home word that an open record
-- covers doesn't count.
abbrev pub passes_at : ℕ → ℕ → List ℕ → ℕ → Bool
passes_at at words image addr = has_damage Value (first_homes at words (addr + 1) image)

-- the first home word with which that appears, or the number of words
abbrev pub home_of : ℕ → ℕ → List ℕ → ℕ
home_of at words image = first_of (passes_at at words image) words

-- the byte of a value above the greatest: that of the place whose record has it, or else that of the home word
abbrev pub value_byte : Layout → ℕ → ℕ → ℕ → List ℕ → ℕ
value_byte layout at words places image =
    let place : ℕ = place_of layout at words places Value (first_homes at words 0 image) in
    if nat_lt place places then at + place_at layout words place else at + home_at (home_of at words image)

-- the byte of the size in a layout's head that it may not have: that of words, or else that of places
abbrev pub sizes_byte : ℕ → ℕ → ℕ
sizes_byte at words = at + (if nat_le 1 words && nat_le words MAX_WORDS then PLACES_AT else WORDS_AT)

-- the byte if no second layout begins: the offset that the head tells, or, if none may begin there, the byte of that
-- offset
abbrev pub second_byte : ℕ → ℕ
second_byte at = if may_begin at then at else SECOND_AT

-- the byte of a damage; in a file that is too short it is the first byte that is missing
abbrev pub byte_of : Damage → List ℕ → ℕ
byte_of Short image = length image
byte_of NotThisFormat image = 0
byte_of Sizes image = sizes_byte (at_of image) (words_of image)
byte_of Record image = place_byte (layout_of image) (at_of image) (words_of image) (found_places image) Record image
byte_of Overlap image = place_byte (layout_of image) (at_of image) (words_of image) (found_places image) Overlap image
byte_of Value image = value_byte (layout_of image) (at_of image) (words_of image) (found_places image) image
byte_of SecondLayout image = second_byte (second_at image)
