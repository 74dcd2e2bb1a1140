-- The figures of one tenant keep the limits of a report. Used by: src/shelf.rt.
use Rattle.std.proofs.Common.{◌≡◌, ℕ, ◌≤◌, List, [], ◌∷◌, lit≤, subst, sym}
use Rattle.std.proofs.lemmas.List.Elements.{All-nil, All-cons}
use Rattle.mw_report.specs.declared.figures.TenantFigures.{TenantFigures}
use Rattle.mw_report.specs.Table.{AreWithinLimits, IsWithinLimits}

pub one_within : (ts : List TenantFigures) (t : TenantFigures) (free : ℕ) → ts ≡ t ∷ [] → t.words ≤ 4096 → t.quota ≤ 64 → t.places ≤ 64 → t.used ≤ 64 → free ≤ 256 → AreWithinLimits ts free
one_within ts t free is words quota places used h =
    subst (λ l. AreWithinLimits l free) (sym is)
    (record { few = lit≤ tt; each = All-cons IsWithinLimits t [] (record { words = words; quota = quota; places = places; used = used }) (All-nil IsWithinLimits); free = h })
