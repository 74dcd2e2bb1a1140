-- The tests' figures of one tenant or of two keep the limits of a report. Used by: src/report_tests.rt.
use Rattle.std.proofs.Common.{ℕ, ◌≤◌, [], ◌∷◌, lit≤}
use Rattle.std.proofs.lemmas.List.Elements.{All-nil, All-cons}
use Rattle.mw_report.specs.declared.figures.TenantFigures.{TenantFigures}
use Rattle.mw_report.specs.Table.{AreWithinLimits, IsWithinLimits}

pub one_within : (t : TenantFigures) (free : ℕ) → IsWithinLimits t → free ≤ 256 → AreWithinLimits (t ∷ []) free
one_within t free is h = record { few = lit≤ tt; each = All-cons IsWithinLimits t [] is (All-nil IsWithinLimits); free = h }

pub two_within : (t u : TenantFigures) (free : ℕ) → IsWithinLimits t → IsWithinLimits u → free ≤ 256 → AreWithinLimits (t ∷ u ∷ []) free
two_within t u free is is' h = record { few = lit≤ tt; each = All-cons IsWithinLimits t (u ∷ []) is (All-cons IsWithinLimits u [] is' (All-nil IsWithinLimits)); free = h }

pub ruleset within = (one_within, two_within)
