-- Defines the text that tells what the bytes of a file without damage say, with a line for each fact.
-- Used by: src/lines.rt, mw_server_pages, mwshow. Change it with docs/OPERATING (`mwshow`) and docs/HTTP (the page of a
-- tenant's words).
use Rattle.std.specs.Prelude.{ℕ, ◌==◌, ◌||◌, ◌++◌, not, if◌then◌else◌, Bool, List, [], codes, decimal}
use Rattle.std.specs.List.{flat_map, range_with_len}
use Rattle.mw_record.specs.declared.layout.Layout.{Layout}
use Rattle.mw_record.specs.declared.layout.Layout.TheVariants.{First, Second}
use Rattle.mw_record.specs.LayoutBytes.{told_at}
use Rattle.mw_record.specs.Damages.{at_of, found_places, layout_of, pairs_in, part_of, words_of}

-- which layout is valid, and where it begins; only a second one is printed
abbrev pub layout_line : Layout → ℕ → List ℕ
layout_line First at = []
layout_line Second at = codes "second layout at " ++ decimal at ++ codes "\n"

-- how many words there are, and how many record places the layout has
abbrev pub sizes_text : List ℕ → List ℕ
sizes_text image = codes "words " ++ decimal (words_of image) ++ codes "\n" ++ (codes "places " ++ decimal (found_places image) ++ codes "\n")

-- an entry of the open record of a place: its address, and the value that it gives to the word there
abbrev pub entry_line : ℕ → ℕ × ℕ → List ℕ
entry_line place entry = codes "open " ++ decimal place ++ codes " " ++ decimal entry.0 ++ codes " " ++ decimal entry.1 ++ codes "\n"

-- the entries of a place; none if its record isn't open
abbrev pub record_text : List ℕ → ℕ → List ℕ
record_text image place = flat_map (entry_line place) (pairs_in image place)

-- those of all places, in order
abbrev pub records_text : List ℕ → List ℕ
records_text image = flat_map (record_text image) (range_with_len 0 (found_places image))

-- the word at an address: its home word, with the open records applied
abbrev pub word_at : List ℕ → ℕ → ℕ
word_at image addr = told_at (layout_of image) (part_of image) addr

-- the line of the word at an address
abbrev pub word_line : ℕ → ℕ → List ℕ
word_line addr value = codes "word " ++ decimal addr ++ codes " " ++ decimal value ++ codes "\n"

-- a word is printed if all words are, or if it isn't 0
abbrev pub word_text : Bool → ℕ → ℕ → List ℕ
word_text all_words addr value = if all_words || not (value == 0) then word_line addr value else []

-- the words, in order of address
abbrev pub words_text : Bool → List ℕ → List ℕ
words_text all_words image = flat_map (λ addr. word_text all_words addr (word_at image addr)) (range_with_len 0 (words_of image))

-- the text of a file without damage
abbrev pub file_text : Bool → List ℕ → List ℕ
file_text all_words image = layout_line (layout_of image) (at_of image) ++ sizes_text image ++ records_text image ++ words_text all_words image
