-- Defines the format of a file: where each part of a layout is, and how it is written in bytes. A file is the list of its
-- bytes; offsets are counted from where the layout begins.
-- Used by: many crates from mw_file on, formed.rt, images.rt, laws.rt, layout.rt, records.rt, written.rt. CONTRIBUTING says
-- under "Limits of the file" what may change.
use Rattle.std.specs.Prelude.{◌≡◌, ℕ, ◌+◌, ◌-◌, ◌*◌, ◌^◌, ◌<◌, List, ◌∷◌, ◌++◌, length, take, drop, replicate, map, get_or}
use Rattle.std.specs.List.{flat_map, AllByRecursion}
use Rattle.byteorder.specs.Endian.{little_bytes, little_from}
use Rattle.mw_words.specs.declared.limits.TheConstants.{MAX_ENTRIES, MAX_PLACES}
use Rattle.mw_words.specs.declared.jobs.Entry.{Entry}
use Rattle.mw_record.specs.declared.layout.Layout.{Layout}
use Rattle.mw_record.specs.declared.layout.Layout.TheVariants.{First, Second}
use Rattle.mw_record.specs.declared.layout.TheConstants.{HEAD_SIZE, WORD_SIZE, ENTRY_SIZE, ENTRIES_AT, FIRST_ENTRIES, FIRST_PLACES, FIRST_MAGIC, SECOND_MAGIC}

-- the most entries of a record
abbrev pub most_entries : Layout → ℕ
most_entries First = FIRST_ENTRIES
most_entries Second = MAX_ENTRIES

-- the most record places
abbrev pub most_places : Layout → ℕ
most_places First = FIRST_PLACES
most_places Second = MAX_PLACES

-- the eight magic bytes with which the layout begins
abbrev pub magic : Layout → List ℕ
magic First = FIRST_MAGIC
magic Second = SECOND_MAGIC

-- the number of bytes of a record place
abbrev pub place_size : Layout → ℕ
place_size layout = ENTRIES_AT + ENTRY_SIZE * most_entries layout

-- the offset of the home word of an address
abbrev pub home_at : ℕ → ℕ
home_at addr = HEAD_SIZE + WORD_SIZE * addr

-- the offset of a record place, after so many words
abbrev pub place_at : Layout → ℕ → ℕ → ℕ
place_at layout words place = HEAD_SIZE + WORD_SIZE * words + place_size layout * place

-- the number of bytes of the layout: the offset at which its last place ends
abbrev pub size : Layout → ℕ → ℕ → ℕ
size layout words places = place_at layout words places

-- the number in the n bytes at an offset, the lowest byte first
unfoldable pub number_at : List ℕ → ℕ → ℕ → ℕ
number_at bytes at n = little_from at n bytes

-- the n bytes of a number, the lowest first
unfoldable pub number_bytes : ℕ → ℕ → List ℕ
number_bytes n number = little_bytes n number

-- a list of bytes with a block written over it at an offset
abbrev pub patched : List ℕ → ℕ → List ℕ → List ℕ
patched old at block = take at old ++ (block ++ drop (at + length block) old)

-- the head: the magic bytes, the number of words in four bytes, the number of places in two, and 18 zeros
abbrev pub header : Layout → ℕ → ℕ → List ℕ
header layout words places = magic layout ++ (number_bytes 4 words ++ (number_bytes 2 places ++ replicate 18 0))

-- an entry of a record: its address and its new value, in eight bytes each
abbrev pub entry_bytes : Entry → List ℕ
entry_bytes e = number_bytes WORD_SIZE e.addr ++ number_bytes WORD_SIZE e.new

-- The bytes after the commit byte of a place of the second layout with these entries: their number, six zeros, the entries in order,
-- and zeros up to the place's end.
abbrev pub body : List Entry → List ℕ
body entries =
    length entries ∷ (replicate 6 0 ++ (flat_map entry_bytes entries ++ replicate (ENTRY_SIZE * (MAX_ENTRIES - length entries)) 0))

-- the entries as a record has them: each address with its new value, without the expected value
abbrev pub pairs_of : List Entry → List (ℕ × ℕ)
pairs_of entries = map (λ e. (e.addr, e.new)) entries

-- the bytes of a new file, in its first layout: the head, and zeros for all home words and places
abbrev pub new_file : ℕ → ℕ → List ℕ
new_file words places = header First words places ++ replicate (WORD_SIZE * words + place_size First * places) 0

-- the bytes of a second layout with these words and so many places, all of them closed: the head, the home words, and zeros
abbrev pub second_part : ℕ → List ℕ → List ℕ
second_part places contents =
    header Second (length contents) places ++ (flat_map (number_bytes WORD_SIZE) contents ++ replicate (place_size Second * places) 0)

-- each address and each new value fits in eight bytes
abbrev pub AreNumbers : List Entry → Type 0
AreNumbers entries = AllByRecursion (λ e. (e.addr < 256 ^ 8) × (e.new < 256 ^ 8)) entries

-- the n bytes from i on in one list are those from j on in another
abbrev pub SameBytes : ℕ → ℕ → ℕ → List ℕ → List ℕ → Type 0
SameBytes n i j xs ys = (k : ℕ) → k < n → get_or xs (i + k) 0 ≡ get_or ys (j + k) 0
