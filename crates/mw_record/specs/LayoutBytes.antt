-- Defines what the bytes of one layout say: its sizes, its records, its words, and what can be wrong with it.
-- Used by: mw_file_text, mw_file, mw_world_file, mwshow, images.rt. A change here changes which files are taken for damaged.
use Rattle.std.specs.Prelude.{ℕ, ◌&&◌, nat_eq, nat_le, Bool, List, [], ◌∷◌, length, map, unwrap_or}
use Rattle.std.specs.List.{range_with_len, starts_with}
use Rattle.mw_words.specs.declared.limits.TheConstants.{MAX_WORDS}
use Rattle.mw_record.specs.declared.layout.Layout.{Layout}
use Rattle.mw_record.specs.declared.layout.TheConstants.{HEAD_SIZE, WORDS_AT, PLACES_AT}
use Rattle.mw_record.specs.declared.damages.Damage.{Damage}
use Rattle.mw_record.specs.declared.damages.Damage.TheVariants.{Sizes, Value, Record, Overlap, Short}
use Rattle.mw_record.specs.Layout.{most_places, magic, size, number_at}
use Rattle.mw_record.specs.Records.{Pairs, RecordsByPlace, record_at, home, all_over, are_formed, are_apart, records_fit, homes_fit}

-- the number of words that the head tells, and the number of places
abbrev pub words_told : List ℕ → ℕ
words_told part = number_at part WORDS_AT 4

abbrev pub places_told : List ℕ → ℕ
places_told part = number_at part PLACES_AT 2

-- the open records, by place
abbrev pub records_told : Layout → List ℕ → RecordsByPlace
records_told layout part = record_at layout part (words_told part)

-- the layout has all bytes of a head
abbrev pub has_head : List ℕ → Bool
has_head part = nat_le HEAD_SIZE (length part)

-- it begins with the magic bytes of this layout
abbrev pub has_mark : Layout → List ℕ → Bool
has_mark layout part = starts_with nat_eq part (magic layout)

-- it has at least one word and one place, and no more of either than the layout may have
abbrev pub has_sizes : Layout → List ℕ → Bool
has_sizes layout part =
    nat_le 1 (words_told part) && nat_le (words_told part) MAX_WORDS && nat_le 1 (places_told part) && nat_le (places_told part) (most_places layout)

-- it has all bytes that its sizes need
abbrev pub has_all_bytes : Layout → List ℕ → Bool
has_all_bytes layout part = nat_le (size layout (words_told part) (places_told part)) (length part)

-- each open record is well formed: it has entries, no more than the layout allows, at strictly rising addresses below the number of words
abbrev pub has_formed_records : Layout → List ℕ → Bool
has_formed_records layout part = are_formed layout (words_told part) (records_told layout part) (places_told part)

-- no two open records share an address
abbrev pub has_records_apart : Layout → List ℕ → Bool
has_records_apart layout part = are_apart (records_told layout part) (places_told part)

-- no new value of an open record is above the greatest value of a word, and no home word that no open record covers
abbrev pub has_small_values : Layout → List ℕ → Bool
has_small_values layout part =
    records_fit (records_told layout part) (places_told part)
    && homes_fit (home part) (records_told layout part) (places_told part) (words_told part)

-- the tests of a layout's bytes after the magic bytes, in the order in which they are made, each with its damage if it fails
abbrev pub part_tests : Layout → List ℕ → List (Bool × Damage)
part_tests layout part =
    (has_sizes layout part, Sizes)
    ∷ (has_all_bytes layout part, Short)
    ∷ (has_formed_records layout part, Record)
    ∷ (has_records_apart layout part, Overlap)
    ∷ (has_small_values layout part, Value)
    ∷ []

-- the word at an address: its home word with the open records put over it
unfoldable pub told_at : Layout → List ℕ → ℕ → ℕ
told_at layout part addr = all_over (records_told layout part) (places_told part) addr (home part addr)

-- the words at all addresses
abbrev pub told_words : Layout → List ℕ → List ℕ
told_words layout part = map (told_at layout part) (range_with_len 0 (words_told part))

-- the entries of the open record of a place; none if the place is closed
abbrev pub told_pairs : Layout → List ℕ → ℕ → Pairs
told_pairs layout part place = unwrap_or (records_told layout part place) []
