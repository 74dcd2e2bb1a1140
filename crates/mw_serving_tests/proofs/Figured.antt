-- The figures of no tenant keep the limits of a report. Used by: src/notebook.rt.
use Rattle.std.proofs.Common.{◌≡◌, ℕ, ◌≤◌, List, [], lit≤, subst, sym}
use Rattle.std.proofs.lemmas.List.Elements.{All-nil}
use Rattle.mw_report.specs.declared.figures.TenantFigures.{TenantFigures}
use Rattle.mw_report.specs.Table.{AreWithinLimits, IsWithinLimits}

pub none_within : (ts : List TenantFigures) (free : ℕ) → ts ≡ [] → free ≤ 256 → AreWithinLimits ts free
none_within ts free is h = subst (λ l. AreWithinLimits l free) (sym is) (record { few = lit≤ tt; each = All-nil IsWithinLimits; free = h })
