-- Defines the text of a dump, as `mwshow --words` prints it of a file without damage, and the new file that is made of it, or
-- without a dump.
-- Used by: src/dump.rt, src/dumped_file.rt, src/new_file.rt. `crates/mwshow/specs/Text.antt` defines what is printed: change both
-- together.
use Rattle.std.specs.Prelude.{◌≡◌, ◌<◌, ◌≤◌, ℕ, ◌+◌, ◌*◌, ◌++◌, ⊤, Bool, true, false, List, [], ◌∷◌, Option, None, Some, codes, decimal, length, slice_get, slice_index}
use Rattle.std.specs.List.{flat_map}
use Rattle.mw_record.specs.declared.layout.Layout.TheVariants.{First}
use Rattle.mw_record.specs.declared.layout.TheConstants.{PLACES_GROW}
use Rattle.mw_record.specs.Damages.{IsSound, words_in, words_of}
use Rattle.mwinit.specs.declared.dump.DumpFault.{DumpFault}
use Rattle.mwinit.specs.declared.dump.DumpFault.TheVariants as fault

-- a line of a text with a number behind it
abbrev pub number_line : List ℕ → ℕ → List ℕ
number_line front number = front ++ decimal number ++ codes "\n"

-- where a second layout begins, if the file has one
abbrev pub layout_line : Bool → ℕ → List ℕ
layout_line true at = number_line (codes "second layout at ") at
layout_line false at = []

-- an entry of an open record: its place, its address and its value
abbrev pub open_line : ℕ × ℕ × ℕ → List ℕ
open_line entry = codes "open " ++ decimal entry.0 ++ codes " " ++ decimal entry.1 ++ codes " " ++ decimal entry.2 ++ codes "\n"

-- the word at an address
abbrev pub word_line : ℕ → ℕ → List ℕ
word_line addr value = number_line (codes "word " ++ decimal addr ++ codes " ") value

-- words in order of address, the first of them at this address
abbrev pub words_text : ℕ → List ℕ → List ℕ
words_text addr [] = []
words_text addr (value ∷ values) = word_line addr value ++ words_text (addr + 1) values

-- The text of a file without damage: whether it has a second layout, how many record places the layout in use has, and all words.
-- Its open records are told too. The words have these already.
pub record IsDump (text : List ℕ) (has_second : Bool) (places : ℕ) (words : List ℕ) : Type 0 where
  pub at : ℕ
  pub entries : List (ℕ × ℕ × ℕ)
  pub is_text : text ≡ layout_line has_second at ++ (number_line (codes "words ") (length words) ++ (number_line (codes "places ") places ++ (flat_map open_line entries ++ words_text 0 words)))

-- the text begins with the lines of some entries, and this is the text after them
pub record HasEntries (text rest : List ℕ) : Type 0 where
  pub entries : List (ℕ × ℕ × ℕ)
  pub is_text : text ≡ flat_map open_line entries ++ rest

-- how many places a file has once a server has opened it: those of its second layout, or twice those of its first
abbrev pub places_served : Bool → ℕ → ℕ
places_served true places = places
places_served false places = PLACES_GROW * places

-- the bytes of a file have these words at the first addresses, and 0 at all others
abbrev pub HasWords : List ℕ → List ℕ → Type 0
HasWords told image = (addr : ℕ) → addr < words_of image → slice_get (words_in image) addr ≡ Some (slice_index told addr)

-- The bytes are a file without damage, in its first layout, with so many words and places. It has these words, and then 0.
pub record IsNewFile (told : List ℕ) (words places : ℕ) (image : List ℕ) : Type 0 where
  pub sound : IsSound image First 0 words places
  pub has_words : HasWords told image

-- the bytes are a new file with so many words and places, that has the words of a dump
pub record IsFileOfDump (text image : List ℕ) (words places : ℕ) : Type 0 where
  pub has_second : Bool
  pub told_places : ℕ
  pub told : List ℕ
  pub dump : IsDump text has_second told_places told
  pub words_fit : length told ≤ words
  pub places_fit : places_served has_second told_places ≤ PLACES_GROW * places
  pub is_file : IsNewFile told words places image

-- The bytes are the new file that a command line asks for, with so many words and places. If it names no dump, all words are 0.
-- If it names one, the words are those of the dump that was read.
abbrev pub IsFileOf : {Path : Type 0} → Option Path → ℕ → ℕ → List ℕ → Type 0
IsFileOf None words places image = IsNewFile [] words places image
IsFileOf (Some path) words places image = (text : List ℕ) × IsFileOfDump text image words places

-- a whole dump with more words than these
pub record HasMoreWords (text : List ℕ) (words : ℕ) : Type 0 where
  pub has_second : Bool
  pub told_places : ℕ
  pub told : List ℕ
  pub dump : IsDump text has_second told_places told
  pub more : words < length told

-- a whole dump of a file that has more places than a new one with these, once both were opened
pub record HasMorePlaces (text : List ℕ) (places : ℕ) : Type 0 where
  pub has_second : Bool
  pub told_places : ℕ
  pub told : List ℕ
  pub dump : IsDump text has_second told_places told
  pub more : PLACES_GROW * places < places_served has_second told_places

-- what is so if no file is made of a dump
abbrev pub HasCause : List ℕ → ℕ → ℕ → DumpFault → Type 0
HasCause text words places (fault.NotWhole line) = ⊤
HasCause text words places (fault.Words told given) = HasMoreWords text words
HasCause text words places (fault.Places least given) = HasMorePlaces text places
HasCause text words places fault.CannotMake = ⊤
