-- Defines which kind a step is of, among those that a schedule can name.
-- Used by: StepKind::of (src/steps.rt), mwreplay. A new Op or StepKind needs a case here.
use Rattle.mw_look.specs.declared.steps.Op.{Op}
use Rattle.mw_look.specs.declared.steps.Op.TheVariants as op
use Rattle.mw_schedule.specs.declared.steps.StepKind.{StepKind}
use Rattle.mw_schedule.specs.declared.steps.StepKind.TheVariants as kind

-- the kind of a step
abbrev pub kind_of : Op → StepKind
kind_of (op.Load at) = kind.Load
kind_of (op.Change how at from to) = kind.Change how
kind_of (op.File call slot) = kind.File call
