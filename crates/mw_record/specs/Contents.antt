-- Defines which words the bytes of a layout, and those of a whole file, represent.
-- Used by: mw_file, mw_world_file, mw_engine, mwshow, laws.rt. A change here changes which words a file is said to have.
use Rattle.std.specs.Prelude.{◌≡◌, ◌<◌, ◌≤◌, ℕ, Bool, true, false, Some, List, length, drop, slice_index}
use Rattle.mw_words.specs.declared.limits.TheConstants.{MAX_VALUE, MAX_WORDS}
use Rattle.mw_record.specs.declared.layout.Layout.{Layout}
use Rattle.mw_record.specs.declared.layout.Layout.TheVariants.{First, Second}
use Rattle.mw_record.specs.Layout.{most_places, size}
use Rattle.mw_record.specs.Records.{Pairs, RecordsByPlace, all_over, holds, is_record, record_at, home}
use Rattle.mw_record.specs.LayoutBytes.{has_mark, has_sizes, words_told, places_told}
use Rattle.mw_record.specs.Damages.{is_switched, second_at, may_begin, words_of, found_places}

-- No two open records among the first places share an address.
abbrev pub Apart : RecordsByPlace → ℕ → Type 0
Apart kept places =
    (i j : ℕ) (ps qs : Pairs) (a : ℕ) → i < places → j < places → (i ≡ j → ⊥) → kept i ≡ Some ps → kept j ≡ Some qs → holds ps a ≡ true → holds qs a ≡ true → ⊥

-- The home words and the open records of a layout with so many words and places represent these words. Each word is its home word
-- with the open records put over it, and none is above the greatest value. Each open record is well formed, and no two share an
-- address.
pub record Represents (layout : Layout) (words places : ℕ) (homes : ℕ → ℕ) (kept : RecordsByPlace) (contents : List ℕ) : Type 0 where
  pub count : length contents ≡ words
  pub each : (a : ℕ) → a < words → slice_index contents a ≡ all_over kept places a (homes a)
  pub small : (a : ℕ) → a < words → slice_index contents a ≤ MAX_VALUE
  pub formed : (j : ℕ) (ps : Pairs) → j < places → kept j ≡ Some ps → is_record layout words ps ≡ true
  pub apart : Apart kept places

-- a layout may have these sizes
pub record MayHave (layout : Layout) (words places : ℕ) : Type 0 where
  pub some_word : 1 ≤ words
  pub words_fit : words ≤ MAX_WORDS
  pub some_place : 1 ≤ places
  pub places_fit : places ≤ most_places layout

-- the head of a layout's bytes tells these sizes, and the layout may have them
pub record IsHead (layout : Layout) (words places : ℕ) (part : List ℕ) : Type 0 where
  pub mark : has_mark layout part ≡ true
  pub sizes : has_sizes layout part ≡ true
  pub words_are : words_told part ≡ words
  pub places_are : places_told part ≡ places

-- These bytes are a layout with these sizes that represents these words.
pub record HasWords (layout : Layout) (words places : ℕ) (contents part : List ℕ) : Type 0 where
  pub head : IsHead layout words places part
  pub long : size layout words places ≤ length part
  pub stands : Represents layout words places (home part) (record_at layout part words) contents

-- The head of a file says that a second layout begins at this offset, and one may begin there.
pub record IsSwitched (at : ℕ) (image : List ℕ) : Type 0 where
  pub mark : has_mark First image ≡ true
  pub switched : is_switched image ≡ true
  pub begins : second_at image ≡ at
  pub fits : may_begin at ≡ true

-- These bytes are a file whose second layout begins at this offset, has these sizes and represents these words.
pub record HasSecond (at words places : ℕ) (contents image : List ℕ) : Type 0 where
  pub head : IsSwitched at image
  pub part : HasWords Second words places contents (drop at image)

-- these bytes are a file of these words, in its second layout if its switch byte is set, else in its first
abbrev pub RepresentsAs : Bool → List ℕ → List ℕ → Type 0
RepresentsAs true contents image = HasSecond (second_at image) (words_of image) (found_places image) contents image
RepresentsAs false contents image = HasWords First (words_of image) (found_places image) contents image

-- these bytes are a file of these words
abbrev pub IsFileOf : List ℕ → List ℕ → Type 0
IsFileOf contents image = RepresentsAs (is_switched image) contents image
