-- Defines a tenant's file as a world has it: the words that it represents, and its places for changes.
-- Used by: many crates from mw_book on.
use Rattle.std.specs.Prelude.{ℕ, zero, suc, ◌+◌, ◌==◌, ◌&&◌, Bool, true, false, not, if◌then◌else◌, List, []}
use Rattle.std.specs.List.{list_any}
use Rattle.mw_words.specs.declared.jobs.Entry.{Entry}
use Rattle.mw_words.specs.Change.{put}
use Rattle.mw_world.specs.Maps.{upd}

-- A place is empty, or has a change that is prepared (written down) or sealed.
pub data Place : Type 0 where
  Empty : Place
  Prepared : (entries : List Entry) → Place
  Sealed : (entries : List Entry) → Place

-- A tenant's file.
pub record File : Type 0 where
  -- the words from the opening, with every sealed change put over them
  pub contents : List ℕ
  -- what each place has; and for each slot, the place of its change
  pub places : ℕ → Place
  pub place_of : ℕ → ℕ
  -- the opening or a device call after it has failed, or no start has opened an old file yet; the file isn't touched
  -- again until the next start
  pub has_failed : Bool
  -- the change that the next start may find or not, because the device failed while the file sealed it; none: no
  -- entries
  pub doubt : List Entry

-- a file with these words that was just opened
abbrev pub file_of : List ℕ → File
file_of words = record { contents = words; places = λ place. Empty; place_of = λ slot. 0; has_failed = false; doubt = [] }

-- the entries of a place's change
abbrev pub entries_in : Place → List Entry
entries_in Empty = []
entries_in (Prepared entries) = entries
entries_in (Sealed entries) = entries

-- the entries of the change in a file's place
abbrev pub entries_at : File → ℕ → List Entry
entries_at file place = entries_in (file.places place)

-- the place has no change
abbrev pub is_empty : Place → Bool
is_empty Empty = true
is_empty (Prepared entries) = false
is_empty (Sealed entries) = false

-- the place has a prepared change
abbrev pub is_prepared : Place → Bool
is_prepared Empty = false
is_prepared (Prepared entries) = true
is_prepared (Sealed entries) = false

-- the place has a sealed change
abbrev pub is_sealed : Place → Bool
is_sealed Empty = false
is_sealed (Prepared entries) = false
is_sealed (Sealed entries) = true

-- the lowest empty place among the `left` places from `first` on; if none is empty, the place after the last of them
abbrev pub empty_from : File → ℕ → ℕ → ℕ
empty_from file first zero = first
empty_from file first (suc left) = if is_empty (file.places first) then first else empty_from file (first + 1) left

-- two changes have an entry for the same word
abbrev pub share_a_word : List Entry → List Entry → Bool
share_a_word these those = list_any (λ one. list_any (λ other. other.addr == one.addr) those) these

-- no sealed change in the places below this number has an entry for a word of these entries
abbrev pub is_apart : File → List Entry → ℕ → Bool
is_apart file entries zero = true
is_apart file entries (suc place) = is_apart file entries place && not (is_sealed (file.places place) && share_a_word entries (entries_at file place))

-- The file after a call that went well: a prepare wrote a change into a place for a slot; a seal sealed the change of a
-- place; a settle or a cancel emptied a place.
abbrev pub prepared : File → ℕ → ℕ → List Entry → File
prepared file slot place entries = record file { places = upd file.places place (Prepared entries); place_of = upd file.place_of slot place }

-- the file after a seal that went well
abbrev pub sealed : File → ℕ → File
sealed file place = record file { contents = put file.contents (entries_at file place); places = upd file.places place (Sealed (entries_at file place)) }

-- the file after a settle or a cancel that went well
abbrev pub emptied : File → ℕ → File
emptied file place = record file { places = upd file.places place Empty }

-- the file after a call in which the device failed, with the change that is in doubt from then on
abbrev pub broken : File → List Entry → File
broken file doubt = record file { has_failed = true; doubt = doubt }
