-- Defines the tenants' words as an engine keeps them: their lines, and the passes of their table.
-- Used by: src/engine.rt, src/figures.rt, src/parts.rt.
use Rattle.std.specs.Prelude.{ℕ, List, map}
use Rattle.mw_core.specs.FromTable.{Pass}
use Rattle.mw_engine.specs.declared.tenant_words.TenantWords.{TenantWords}
use Rattle.mw_engine.specs.Identity.{Line}
use Rattle.mw_engine.specs.Lines.{line_of, places_of}
use Rattle.mw_engine.specs.Passes.{IsOneOf}

-- the tenants' lines
abbrev pub lines_told : TenantWords → List Line
lines_told words = map line_of words.lines.items

-- how many places for changes each tenant's file has
abbrev pub places_kept : TenantWords → List ℕ
places_kept words = map places_of words.lines.items

-- the pass is one of the table's
abbrev pub HasPass : TenantWords → Pass → Type 0
HasPass words pass = IsOneOf words.core.shared pass
