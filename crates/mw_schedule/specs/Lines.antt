-- Defines when some lines of a text are those after the first one of others: fewer bytes, and the next line number.
-- Used by: src/lines.rt.
use Rattle.std.specs.Prelude.{◌≡◌, ◌+◌, ◌<◌, length}
use Rattle.mw_schedule.specs.declared.rest.Lines.{Lines}

-- these lines are those after the first one
pub record IsFurther (lines after : Lines) : Type 0 where
  pub shorter : length after.rest.now < length lines.rest.now
  pub next : after.number ≡ lines.number + 1
