-- Defines which bytes are a tenant's name.
-- Used by: many crates from mw_line on, names.rt. A change here changes which names the protocol and a tenants file accept.
use Rattle.std.specs.Prelude.{ℕ, ◌==◌, ◌&&◌, ◌||◌, Bool, List, length, nat_le, slice_index}
use Rattle.std.specs.List.{list_all}
use Rattle.mw_words.specs.declared.limits.TheConstants.{MAX_NAME}

-- a to z
abbrev pub is_letter : ℕ → Bool
is_letter b = nat_le 97 b && nat_le b 122

-- 0 to 9
abbrev pub is_digit : ℕ → Bool
is_digit b = nat_le 48 b && nat_le b 57

-- a byte that may be in a name: a letter, a digit or a dash
abbrev pub is_name_byte : ℕ → Bool
is_name_byte b = is_letter b || is_digit b || (b == 45)

-- a name: a letter, then letters, digits and dashes, and at most MAX_NAME bytes
abbrev pub is_name : List ℕ → Bool
is_name bytes = is_letter (slice_index bytes 0) && nat_le (length bytes) MAX_NAME && list_all is_name_byte bytes
