-- Defines the value of a field Host: a host and maybe a port; and which hosts a server is called by. Source: RFC 9112,
-- section 3.2, and RFC 3986, section 3.2.2.
-- Used by: hosts.rt. The second part decides which web pages can read the server's pages: docs/HTTP changes with it.
use Rattle.std.specs.Prelude.{ℕ, ◌+◌, ◌==◌, Bool, not, ◌&&◌, ◌||◌, List, length, take, drop, nat_lt, slice_index, codes, if◌then◌else◌}
use Rattle.std.specs.List.{list_all, list_any, prefix_len}
use Rattle.std.specs.Char.{is_ascii_alphanumeric, is_ascii_digit, is_ascii_hexdigit}
use Rattle.http1.specs.Fields.{Header, is_named}
use Rattle.http1.specs.Text.{eq_ignore_case}

-- a byte of a name: a letter, a digit, one of -._~, a percent sign, or one of !$&'()*+,;=
abbrev pub is_name_byte : ℕ → Bool
is_name_byte b =
    is_ascii_alphanumeric b || (b == 45) || (b == 46) || (b == 95) || (b == 126) || (b == 37) || (b == 33) || (b == 36) || (b == 38)
    || (b == 39) || (b == 40) || (b == 41) || (b == 42) || (b == 43) || (b == 44) || (b == 59) || (b == 61)

-- a byte of an address in brackets, of which only this is looked at: a hexadecimal digit, a colon or a dot
abbrev pub is_address_byte : ℕ → Bool
is_address_byte b = is_ascii_hexdigit b || (b == 58) || (b == 46)

-- nothing, or a colon and digits
abbrev pub is_port : List ℕ → Bool
is_port text = (length text == 0) || ((slice_index text 0 == 58) && list_all is_ascii_digit (drop 1 text))

-- after a bracket: an address, a bracket and maybe a port
abbrev pub is_literal : List ℕ → Bool
is_literal rest =
    let len = prefix_len is_address_byte rest in
    nat_lt 0 len && nat_lt len (length rest) && (slice_index rest len == 93) && is_port (drop (len + 1) rest)

-- an address in brackets or a name, which may be empty, and maybe a port
unfoldable pub is_host : List ℕ → Bool
is_host value =
    if (length value == 0) || not (slice_index value 0 == 91)
    then is_port (drop (prefix_len is_name_byte value) value)
    else is_literal (drop 1 value)

-- a field that is no Host, or has the value of one
abbrev pub is_valid_field : Header → Bool
is_valid_field field = not (is_named (codes "host") field) || is_host field.1

-- a byte of an IPv4 address, of which only this is looked at: a digit or a dot; no name in use has these alone
abbrev pub is_number_byte : ℕ → Bool
is_number_byte b = is_ascii_digit b || (b == 46)

-- how much of a host and port comes before the port
abbrev pub host_len : List ℕ → ℕ
host_len value = prefix_len (λ b. not (b == 58)) value

-- one of these names, in any case
abbrev pub is_one_of : List (List ℕ) → List ℕ → Bool
is_one_of names name = list_any (λ own. eq_ignore_case own name) names

-- an IPv4 address or nothing, localhost, or one of these names
unfoldable pub is_own_name : List (List ℕ) → List ℕ → Bool
is_own_name names name = list_all is_number_byte name || eq_ignore_case name (codes "localhost") || is_one_of names name

-- nothing, an address in brackets, or an own name, and maybe a port
unfoldable pub is_own_host : List (List ℕ) → List ℕ → Bool
is_own_host names value = (length value == 0) || (slice_index value 0 == 91) || is_own_name names (take (host_len value) value)

-- a field that is no Host, or has the value of one by which a server with these names is called
abbrev pub is_own_field : List (List ℕ) → Header → Bool
is_own_field names field = not (is_named (codes "host") field) || is_own_host names field.1
