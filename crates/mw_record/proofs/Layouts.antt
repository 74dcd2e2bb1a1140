-- In both layouts of a file the parts follow each other without overlap, and their sizes are within the limits.
-- Used by: mw_file.
use Rattle.std.proofs.Common.{◌≡◌, ℕ, ◌+◌, ◌*◌, ◌^◌, ◌<◌, ◌≤◌, List, length, refl, arith}
use Rattle.mw_words.specs.declared.limits.TheConstants.{MAX_ENTRIES, MAX_WORDS}
use Rattle.mw_record.specs.declared.layout.Layout.{Layout}
use Rattle.mw_record.specs.declared.layout.Layout.TheVariants.{First, Second}
use Rattle.mw_record.specs.declared.layout.TheConstants.{HEAD_SIZE, WORD_SIZE, BODY_SIZE, MAX_SECOND}
use Rattle.mw_record.specs.Layout.{most_entries, most_places, magic, place_size, home_at, place_at, size}

-- no record has more entries than a change may have
pub most_entries_fit : (layout : Layout) → most_entries layout ≤ MAX_ENTRIES
most_entries_fit First = omega arith
most_entries_fit Second = omega arith

pub place_size_fits : (layout : Layout) → place_size layout ≤ 1 + BODY_SIZE
place_size_fits First = omega arith
place_size_fits Second = omega arith

pub places_fit : (layout : Layout) (place most : ℕ) → place ≤ most → place_size layout * place ≤ (1 + BODY_SIZE) * most
places_fit First place most le = omega (arith, le)
places_fit Second place most le = omega (arith, le)

pub length-magic : (layout : Layout) → length (magic layout) ≡ 8
length-magic First = refl
length-magic Second = refl

-- a place ends where the next one begins, and the last where the layout ends
pub place_ends : (layout : Layout) (words place : ℕ) → place_at layout words place + place_size layout ≡ place_at layout words (place + 1)
place_ends First words place = omega arith
place_ends Second words place = omega arith

pub place_within : (layout : Layout) (words places place : ℕ) → place < places → place_at layout words place + place_size layout ≤ size layout words places
place_within First words places place lt = omega (arith, lt)
place_within Second words places place lt = omega (arith, lt)

pub home_within : (layout : Layout) (words places addr : ℕ) → addr < words → home_at addr + WORD_SIZE ≤ size layout words places
home_within First words places addr lt = omega (arith, lt)
home_within Second words places addr lt = omega (arith, lt)

pub head_fits : (layout : Layout) (words places : ℕ) → HEAD_SIZE ≤ size layout words places
head_fits First words places = omega arith
head_fits Second words places = omega arith

pub head_within : (layout : Layout) (words places : ℕ) (part : List ℕ) → size layout words places ≤ length part → HEAD_SIZE ≤ length part
head_within First words places part long = omega (arith, long)
head_within Second words places part long = omega (arith, long)

-- a place is after the head
pub head_before : (layout : Layout) (words place : ℕ) → HEAD_SIZE ≤ place_at layout words place
head_before layout words place = head_fits layout words place

-- no layout has more bytes than the largest second one
pub size_fits : (layout : Layout) (words places : ℕ) → words ≤ MAX_WORDS → places ≤ most_places layout → size layout words places ≤ MAX_SECOND
size_fits First words places w p = omega (arith, w, p)
size_fits Second words places w p = omega (arith, w, p)

pub most_places_fit : (layout : Layout) → most_places layout < 2 ^ 16
most_places_fit First = omega arith
most_places_fit Second = omega arith
