-- Defines how the places that the world knows are mapped to the places of the file: by a table that permutes the first ones.
-- Used by: book.rt, place_table.rt, waiting.rt. A change here changes which places a book uses.
use Rattle.std.specs.Prelude.{◌≡◌, ◌<◌, ◌≤◌, ◌==◌, ◌||◌, ℕ, zero, suc, Bool, true, false, List, get_or}

-- the flag of a place; past the end of the table it is false
abbrev pub flag_of : List Bool → ℕ → Bool
flag_of flags place = get_or flags place false

-- the file's place of a place; past the end of the table the same number
abbrev pub place_in : List ℕ → ℕ → ℕ
place_in table place = get_or table place place

-- one of the first places has this place of the file
abbrev pub is_used : List ℕ → ℕ → ℕ → Bool
is_used table zero number = false
is_used table (suc places) number = (place_in table places == number) || is_used table places number

-- Each of the first places has one of the file's first places, no two have the same one, and each of these is used. Any further
-- place is the file's place of the same number.
pub record IsPermutation (table : List ℕ) (places : ℕ) : Type 0 where
  pub within : (place : ℕ) → place < places → place_in table place < places
  pub apart : (one other : ℕ) → one < places → other < places → place_in table one ≡ place_in table other → one ≡ other
  pub onto : (number : ℕ) → number < places → is_used table places number ≡ true
  pub past : (place : ℕ) → places ≤ place → place_in table place ≡ place
