-- Defines that tenants' lines are those of the text that was read at a path.
-- Used by: opening.rt, mw_programs. A change here changes which tenants a server may serve. docs/PROMISES cites `AreReadAt`.
-- `OpensPaths` tells what `is_text` means; of a file of the system nothing is told. mw_config says what a tenants file is (`IsTenantsFile`), and that a text has one answer.
use Rattle.std.specs.Prelude.{ℕ, List, map}
use Rattle.mw_config.specs.declared.lines.TenantLine.{TenantLine}
use Rattle.mw_config.specs.Limits.{IsTenantsFile}

-- A reading of the file at this path gave a text. The text is that of just these lines, in order, and a server with a pool of so many
-- slots serves them.
pub record AreReadAt (is_text : List ℕ → List ℕ → Type 0) (path : List ℕ) (pool : ℕ) (lines : List TenantLine) : Type 0 where
  pub text : List ℕ
  pub given : is_text path text
  pub has : IsTenantsFile pool (map (λ line. record { name = line.name.items; words = line.words; quota = line.quota; path = line.path.bytes }) lines) text
