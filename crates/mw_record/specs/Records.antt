-- Defines the records in a layout's bytes, when they are well formed, and the value of a word that an open record covers.
-- Used by: many crates from mw_file on, formed.rt, laws.rt, records.rt. A change here changes which words a file has.
use Rattle.std.specs.Prelude.{ℕ, zero, suc, ◌+◌, ◌==◌, ◌&&◌, ◌||◌, not, if◌then◌else◌, Bool, true, false, Option, Some, None, List, [], ◌∷◌, length, nat_le, nat_lt, slice_index, slice_set}
use Rattle.std.specs.List.{list_all, list_any}
use Rattle.std.specs.Option.{option_map_or}
use Rattle.mw_words.specs.declared.limits.TheConstants.{MAX_VALUE}
use Rattle.mw_record.specs.declared.layout.Layout.{Layout}
use Rattle.mw_record.specs.declared.layout.TheConstants.{COUNT_AT, ENTRIES_AT, ENTRY_SIZE, COMMITTED, WORD_SIZE}
use Rattle.mw_record.specs.Layout.{most_entries, home_at, place_at, number_at}

-- A record is the list of its entries: addresses, each with its new value. A layout's records are a function from its places, which
-- is None at a closed place.
abbrev pub Pairs : Type 0
Pairs = List (ℕ × ℕ)

abbrev pub RecordsByPlace : Type 0
RecordsByPlace = ℕ → Option Pairs

-- the n entries that follow each other from an offset on
abbrev pub pairs_at : List ℕ → ℕ → ℕ → Pairs
pairs_at image at zero = []
pairs_at image at (suc n) = (number_at image at WORD_SIZE, number_at image (at + WORD_SIZE) WORD_SIZE) ∷ pairs_at image (at + ENTRY_SIZE) n

-- the entries of the place at an offset, as many as its count byte says
unfoldable pub body_at : List ℕ → ℕ → Pairs
body_at image at = pairs_at image (at + ENTRIES_AT) (slice_index image (at + COUNT_AT))

-- the record of a place, if its commit byte is set
unfoldable pub record_at : Layout → List ℕ → ℕ → RecordsByPlace
record_at layout image words place =
    if slice_index image (place_at layout words place) == COMMITTED then Some (body_at image (place_at layout words place)) else None

-- the home word of an address
abbrev pub home : List ℕ → ℕ → ℕ
home image addr = number_at image (home_at addr) WORD_SIZE

-- the value at an address after these entries are put over a value
abbrev pub over : Pairs → ℕ → ℕ → ℕ
over [] addr value = value
over (p ∷ ps) addr value = over ps addr (if p.0 == addr then p.1 else value)

-- the same of a place's record, if it has one
abbrev pub record_over : Option Pairs → ℕ → ℕ → ℕ
record_over None addr value = value
record_over (Some pairs) addr value = over pairs addr value

-- the value at an address after the open records of the first places are put over it
abbrev pub all_over : RecordsByPlace → ℕ → ℕ → ℕ → ℕ
all_over kept zero addr value = value
all_over kept (suc places) addr value = record_over (kept places) addr (all_over kept places addr value)

-- the words with each entry's new value at its address
abbrev pub put_pairs : Pairs → List ℕ → List ℕ
put_pairs [] words = words
put_pairs (p ∷ ps) words = put_pairs ps (slice_set words p.0 p.1)

-- one of these entries has the address
abbrev pub holds : Pairs → ℕ → Bool
holds pairs addr = list_any (λ p. p.0 == addr) pairs

-- an open record of the first places has an entry with the address
abbrev pub is_covered : RecordsByPlace → ℕ → ℕ → Bool
is_covered kept zero addr = false
is_covered kept (suc places) addr = option_map_or (λ pairs. holds pairs addr) (kept places) false || is_covered kept places addr

-- the test is true of each number below n
abbrev pub each_below : (ℕ → Bool) → ℕ → Bool
each_below test zero = true
each_below test (suc n) = test n && each_below test n

-- the addresses are at or above a lowest one and below the number of words, and each is above the one before it
abbrev pub rises_below : ℕ → ℕ → Pairs → Bool
rises_below words lowest [] = true
rises_below words lowest (p ∷ ps) = nat_le lowest p.0 && nat_lt p.0 words && rises_below words (p.0 + 1) ps

-- These entries are a well-formed record of a layout with so many words: one entry or more, no more than the layout allows, at strictly
-- rising addresses below the number of words.
abbrev pub is_record : Layout → ℕ → Pairs → Bool
is_record layout words pairs = nat_le 1 (length pairs) && nat_le (length pairs) (most_entries layout) && rises_below words 0 pairs

-- no new value is above the greatest value of a word
abbrev pub has_values : Pairs → Bool
has_values pairs = list_all (λ p. nat_le p.1 MAX_VALUE) pairs

-- the place is closed, or its record is well formed
abbrev pub is_formed : Layout → ℕ → Option Pairs → Bool
is_formed layout words kept = option_map_or (is_record layout words) kept true

-- each open record of the first places is well formed
abbrev pub are_formed : Layout → ℕ → RecordsByPlace → ℕ → Bool
are_formed layout words kept places = each_below (λ j. is_formed layout words (kept j)) places

-- no open record of the first places has an address of these entries
abbrev pub is_apart : RecordsByPlace → ℕ → Pairs → Bool
is_apart kept places pairs = list_all (λ p. not (is_covered kept places p.0)) pairs

-- no open record shares an address with one of a place before it
abbrev pub are_apart : RecordsByPlace → ℕ → Bool
are_apart kept places = each_below (λ j. option_map_or (is_apart kept j) (kept j) true) places

-- no new value of an open record is above the greatest value of a word
abbrev pub records_fit : RecordsByPlace → ℕ → Bool
records_fit kept places = each_below (λ j. option_map_or has_values (kept j) true) places

-- no home word that no open record covers is above the greatest value of a word
abbrev pub homes_fit : (ℕ → ℕ) → RecordsByPlace → ℕ → ℕ → Bool
homes_fit homes kept places words = each_below (λ a. is_covered kept places a || nat_le (homes a) MAX_VALUE) words
