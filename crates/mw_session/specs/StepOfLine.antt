-- Defines which step of the session a line asks for, and that a step which asks for a job suits the session's tenant.
-- Used by: steps.rt, session.rt. A new Step needs a case in Suits. It may change with steps.rt, which alone promises it.
use Rattle.std.specs.Prelude.{◌≡◌, ℕ, IsTrue}
use Rattle.mw_words.specs.Change.{is_well_formed}
use Rattle.mw_frame.specs.declared.lines.Line.{Line}
use Rattle.mw_session.specs.declared.steps.Bound.{Bound}
use Rattle.mw_session.specs.declared.steps.Bound.TheVariants.{Tenant}
use Rattle.mw_session.specs.declared.steps.Step.{Step}
use Rattle.mw_session.specs.declared.steps.Step.TheVariants.{Refuse, Find, BindAdmin, Ask, Report, Leave, Overrun}
use Rattle.mw_session.specs.Talk.{Heard, step_at}
use Rattle.mw_session.specs.Lines.{Hears}

-- the step is the one for what is heard of the line
pub record Judges (bound : Bound) (line : Line) (chosen : Step) : Type 0 where
  pub heard : Heard
  pub hears : Hears line heard
  pub step : chosen ≡ step_at bound heard

-- if the step asks for a job, the session is bound to its tenant, and the job is well formed for that tenant's words
abbrev pub Suits : Bound → Step → Type 0
Suits bound (Ask number wanted) = (words : ℕ) × (bound ≡ Tenant number words) × IsTrue (is_well_formed words wanted)
Suits bound (Refuse wrong) = Unit {0}
Suits bound (Find name) = Unit {0}
Suits bound BindAdmin = Unit {0}
Suits bound Report = Unit {0}
Suits bound Leave = Unit {0}
Suits bound Overrun = Unit {0}
