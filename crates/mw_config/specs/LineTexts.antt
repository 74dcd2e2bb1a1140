-- Defines the grammar of a tenants file: its lines and the text of each, before any limit is checked.
-- Used by: forms.rt, laws.rt, lines.rt, tenants.rt. Change it with docs/OPERATING.
use Rattle.std.specs.Prelude.{ℕ, ◌≡◌, ◌&&◌, Bool, List, ◌++◌, length, codes, nat_le, IsTrue, map}
use Rattle.std.specs.List.{list_all}
use Rattle.mw_words.specs.declared.limits.TheConstants.{MAX_PATH}
use Rattle.mw_words.specs.Name.{is_name}
use Rattle.mw_line.specs.Number.{numeral}
use Rattle.mw_config.specs.declared.lines.TenantLine.{TenantLine}

-- a line; here its numbers have any size
pub record Line : Type 0 where
  pub name : List ℕ
  pub words : ℕ
  pub quota : ℕ
  pub path : List ℕ

-- a visible character: ! to ~
abbrev pub is_path_byte : ℕ → Bool
is_path_byte b = nat_le 33 b && nat_le b 126

-- a path has 1 to MAX_PATH bytes, all of them visible characters
abbrev pub is_path : List ℕ → Bool
is_path bytes = nat_le 1 (length bytes) && nat_le (length bytes) MAX_PATH && list_all is_path_byte bytes

-- a line has a tenant's name and a path
abbrev pub IsLine : Line → Type 0
IsLine line = IsTrue (is_name line.name) × IsTrue (is_path line.path)

-- the one text of a line: its fields in order, a space between each two, and a line feed at the end
abbrev pub spelling : Line → List ℕ
spelling line = line.name ++ codes " " ++ numeral line.words ++ codes " " ++ numeral line.quota ++ codes " " ++ line.path ++ codes "\n"

-- this text doesn't begin with a line
abbrev pub HasNoLine : List ℕ → Type 0
HasNoLine text = (line : Line) (after : List ℕ) → IsLine line → text ≡ spelling line ++ after → ⊥

-- the line of a tenant that was read
abbrev pub line_of : TenantLine → Line
line_of tenant = record { name = tenant.name.items; words = tenant.words; quota = tenant.quota; path = tenant.path.bytes }

-- the lines of tenants that were read
abbrev pub lines_of : List TenantLine → List Line
lines_of tenants = map line_of tenants
