-- Defines how a tenants file's line is read from left to right, by a reader that may see a large number as a smaller one.
-- Used by: lines.rt, tenants.rt. It may change with the reader as long as read_tenants keeps its contract (LineTexts, Limits,
-- Refusals).
use Rattle.std.specs.Prelude.{ℕ, Bool, nat_le, ◌≡◌, ◌<◌, ◌&&◌, ◌+◌, List, ◌++◌, length, if◌then◌else◌, codes, Option, Some, None, Result, Ok, Err}
use Rattle.std.specs.Borrow.{Bor}
use Rattle.mw_words.specs.Name.{is_name}
use Rattle.mw_line.specs.LineReader.{◌>>=◌, behind, field_at, number_at}
use Rattle.mw_words.specs.declared.limits.TheConstants.{MAX_TENANTS}
use Rattle.mw_config.specs.declared.lines.TenantLine.{TenantLine}
use Rattle.mw_config.specs.declared.lines.Told.{Told}
use Rattle.mw_config.specs.declared.refusals.Refusal.{Refusal}
use Rattle.mw_config.specs.LineTexts.{Line, IsLine, is_path, line_of, spelling}
use Rattle.mw_config.specs.Limits.{HasWords, HasQuota, IsNew}
use Rattle.mw_config.specs.Refusals.{IsAtLine, IsWrong}

-- the line of this name and path and these numbers, if they are a name and a path
abbrev pub line_by : List ℕ → ℕ → ℕ → List ℕ → Option Line
line_by name words quota path = if is_name name && is_path path then Some (record { name = name; words = words; quota = quota; path = path }) else None

-- the number at the front, as the reader sees it, and the bytes after the space that follows it
abbrev pub number_field : (ℕ → ℕ) → List ℕ → Option (ℕ × List ℕ)
number_field see text = do
  number ← number_at see text
  after ← behind (codes " ") number.1
  Some (number.0, after)

-- the first line, with its numbers as the reader sees them, and the bytes after it
unfoldable pub line_at : (ℕ → ℕ) → List ℕ → Option (Line × List ℕ)
line_at see text = do
  name ← field_at 32 text
  words ← number_field see name.1
  quota ← number_field see words.1
  path ← field_at 10 quota.1
  line ← line_by name.0 words.0 quota.0 path.0
  Some (line, path.1)

-- a number is 1 to most
abbrev pub is_within : ℕ → ℕ → Bool
is_within most number = nat_le 1 number && nat_le number most

-- the fields that were read, as a line
abbrev pub line_of_fields : Told → Line
line_of_fields told = record { name = told.name.items; words = told.words; quota = told.quota; path = told.path.bytes }

-- The text begins with the line, nothing is wrong with it after these lines, and there is room for it.
pub record Continues (lines : List Line) (text : List ℕ) (line : Line) (after : List ℕ) : Type 0 where
  pub formed : IsLine line
  pub spelled : text ≡ spelling line ++ after
  pub words : HasWords line
  pub quota : HasQuota line
  pub new : IsNew lines line
  pub room : length lines < MAX_TENANTS

-- What reading the first line of a text gives after these lines: the tenant and the text after it, or what is wrong.
abbrev pub Takes : List Line → List ℕ → Result (TenantLine × Bor (List ℕ)) Refusal → Type 0
Takes lines text (Ok taken) = Continues lines text (line_of taken.0) taken.1.now
Takes lines text (Err why) = IsAtLine (length lines + 1) why × IsWrong lines text why
