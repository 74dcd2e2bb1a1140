-- Defines the decimal text of a number in the protocol and in a tenants file, of any length. (The library's `decimal` has at
-- most 64 digits.)
-- Used by: mw_config, mw_client, laws.rt. A change here changes what a number is there.
use Rattle.std.specs.Prelude.{ℕ, zero, suc, ◌+◌, ◌/◌, ◌%◌, ◌==◌, ◌&&◌, Bool, false, List, [], ◌∷◌, ◌++◌, length, nat_lt, if◌then◌else◌}
use Rattle.std.specs.List.{list_all}
use Rattle.mw_words.specs.Name.{is_digit}

-- The last k digits of n in decimal, or all of them if n has fewer.
abbrev pub last_digits : ℕ → ℕ → List ℕ
last_digits zero n = []
last_digits (suc k) n = if nat_lt n 10 then (48 + n) ∷ [] else last_digits k (n / 10) ++ (48 + n % 10) ∷ []

-- a number in decimal, with no 0 before other digits; a number n has at most n + 1 digits
unfoldable pub numeral : ℕ → List ℕ
numeral n = last_digits (suc n) n

-- a text is a number: "0", or a digit from 1 to 9 and then any digits
abbrev pub is_number_text : List ℕ → Bool
is_number_text [] = false
is_number_text (b ∷ bytes) = if b == 48 then length bytes == 0 else is_digit b && list_all is_digit bytes
