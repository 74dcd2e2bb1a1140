-- Defines why a tenants file is refused: what is wrong first, and in which line.
-- Used by: laws.rt, tenants.rt. A new Refusal needs a case here, in src/refusals.rt and in docs/OPERATING.
use Rattle.std.specs.Prelude.{ℕ, ◌≡◌, ◌≤◌, ◌<◌, ◌+◌, ◌⊎◌, List, [], ◌++◌, length, flat_map, Result, Ok, Err}
use Rattle.mw_words.specs.declared.limits.TheConstants.{MAX_WORDS, MAX_QUOTA, MAX_TENANTS, MAX_TENANTS_FILE}
use Rattle.mw_config.specs.declared.refusals.Refusal.{Refusal}
use Rattle.mw_config.specs.declared.refusals.Refusal.TheVariants as refusal
use Rattle.mw_config.specs.LineTexts.{Line, IsLine, HasNoLine, spelling}
use Rattle.mw_config.specs.Limits.{HasWords, HasQuota, IsNew, IsTwice, AreFine, IsTenantsFile, quota_sum}

-- the number isn't 1 to most
abbrev pub IsOutside : ℕ → ℕ → Type 0
IsOutside most number = (number ≡ 0) ⊎ (most < number)

-- What is wrong with a line that comes after these lines. A refusal holds only if those before it do not.
abbrev pub IsRefused : List Line → Line → Refusal → Type 0
IsRefused lines line (refusal.Words number) = IsOutside MAX_WORDS line.words
IsRefused lines line (refusal.Quota number) = HasWords line × IsOutside MAX_QUOTA line.quota
IsRefused lines line (refusal.Twice number) = HasWords line × HasQuota line × IsTwice lines line
IsRefused lines line (refusal.Many number) = HasWords line × HasQuota line × IsNew lines line × (length lines ≡ MAX_TENANTS)
IsRefused lines line (refusal.Form number) = ⊥
IsRefused lines line refusal.File = ⊥
IsRefused lines line refusal.None = ⊥
IsRefused lines line refusal.Pool = ⊥

-- This text begins with a line, and this is wrong with that line after these lines.
pub record HasLineRefused (lines : List Line) (text : List ℕ) (why : Refusal) : Type 0 where
  pub line : Line
  pub after : List ℕ
  pub formed : IsLine line
  pub spelled : text ≡ spelling line ++ after
  pub wrong : IsRefused lines line why

-- The refusal is that of the line with this number.
abbrev pub IsAtLine : ℕ → Refusal → Type 0
IsAtLine line (refusal.Form number) = number ≡ line
IsAtLine line (refusal.Words number) = number ≡ line
IsAtLine line (refusal.Quota number) = number ≡ line
IsAtLine line (refusal.Twice number) = number ≡ line
IsAtLine line (refusal.Many number) = number ≡ line
IsAtLine line refusal.File = ⊥
IsAtLine line refusal.None = ⊥
IsAtLine line refusal.Pool = ⊥

-- What is wrong with the text that comes after these lines.
abbrev pub IsWrong : List Line → List ℕ → Refusal → Type 0
IsWrong lines text (refusal.Form number) = HasNoLine text
IsWrong lines text (refusal.Words number) = HasLineRefused lines text (refusal.Words number)
IsWrong lines text (refusal.Quota number) = HasLineRefused lines text (refusal.Quota number)
IsWrong lines text (refusal.Twice number) = HasLineRefused lines text (refusal.Twice number)
IsWrong lines text (refusal.Many number) = HasLineRefused lines text (refusal.Many number)
IsWrong lines text refusal.File = ⊥
IsWrong lines text refusal.None = ⊥
IsWrong lines text refusal.Pool = ⊥

-- The text is that of lines with which nothing is wrong, and of a rest after them.
pub record Reaches (lines : List Line) (rest text : List ℕ) : Type 0 where
  pub short : length text ≤ MAX_TENANTS_FILE
  pub spelled : text ≡ flat_map spelling lines ++ rest
  pub fine : AreFine lines

-- After lines with which nothing is wrong the text goes on, and is refused there. Lines are numbered from 1.
pub record FailsAtLine (text : List ℕ) (why : Refusal) : Type 0 where
  pub lines : List Line
  pub rest : List ℕ
  pub reaches : Reaches lines rest text
  pub more : 0 < length rest
  pub number : IsAtLine (length lines + 1) why
  pub wrong : IsWrong lines rest why

-- nothing is wrong with any line, and all quotas together need more slots than the pool has
pub record NeedsMoreSlots (pool : ℕ) (text : List ℕ) : Type 0 where
  pub lines : List Line
  pub reaches : Reaches lines [] text
  pub more : pool < quota_sum lines

-- The answer to a tenants file: the lines that it has, or the first refusal.
abbrev pub Answers : ℕ → List ℕ → Result (List Line) Refusal → Type 0
Answers pool text (Ok lines) = IsTenantsFile pool lines text
Answers pool text (Err refusal.File) = MAX_TENANTS_FILE < length text
Answers pool text (Err (refusal.Form number)) = FailsAtLine text (refusal.Form number)
Answers pool text (Err (refusal.Words number)) = FailsAtLine text (refusal.Words number)
Answers pool text (Err (refusal.Quota number)) = FailsAtLine text (refusal.Quota number)
Answers pool text (Err (refusal.Twice number)) = FailsAtLine text (refusal.Twice number)
Answers pool text (Err (refusal.Many number)) = FailsAtLine text (refusal.Many number)
Answers pool text (Err refusal.None) = text ≡ []
Answers pool text (Err refusal.Pool) = NeedsMoreSlots pool text

-- a result with the lines of its tenants
abbrev pub as_lines : {T : Type 0} → (T → List Line) → Result T Refusal → Result (List Line) Refusal
as_lines lines_in (Ok tenants) = Ok (lines_in tenants)
as_lines lines_in (Err why) = Err why
