-- Defines what a pass's thread knows, to which table the pass belongs, what of it stays over a call (its worker, or all except
-- that it becomes idle), and which steps are attempts.
-- Used by: src/file_call_steps.rt, src/file_calls.rt, src/first_steps.rt, src/meet.rt, src/next_step.rt, src/notes.rt,
-- src/passes.rt, src/steps.rt, src/steps_by_kind.rt, mw_core.
use Rattle.std.specs.Prelude.{◌≡◌, Bool, true, false}
use Rattle.mw_look.specs.declared.steps.Kind.TheVariants.{Plant as PlantKind}
use Rattle.mw_look.specs.declared.steps.Op.{Op}
use Rattle.mw_look.specs.declared.steps.Op.TheVariants.{Change as ChangeBits}
use Rattle.mw_rule.specs.declared.views.View.{View}
use Rattle.mw_table.specs.declared.shared.Pass.{Pass}
use Rattle.mw_table.specs.declared.shared.Shared.{Shared}
use Rattle.mw_table.specs.Origins.{config_of, openings_of}

-- what the pass's thread knows
abbrev pub known : Pass → View
known pass = pass.seat.me.0

-- The pass is of this table, and knows what its world is made of and what the latest start gave.
pub record IsOf (shared : Shared) (pass : Pass) : Type 0 where
  pub table : pass.seat.table_id ≡ shared.table.shared.table_id
  pub config : pass.seat.me.0.config ≡ config_of shared.table.shared.key
  pub openings : pass.seat.me.0.openings ≡ openings_of shared.table.shared.key

-- The pass is still the same worker's.
abbrev pub IsOfSameWorker : Pass → Pass → Type 0
IsOfSameWorker old new = new.worker ≡ old.worker

-- The pass is idle, and all else is the same.
pub record IsIdleAfter (old new : Pass) : Type 0 where
  pub idle : new.idle ≡ true
  pub same_seat : new.seat ≡ old.seat
  pub same_worker : new.worker ≡ old.worker
  pub same_attempt : new.attempt ≡ old.attempt

-- the step is an attempt to hold a word, which has a number of its own
abbrev pub is_plant : Op → Bool
is_plant (ChangeBits PlantKind at from to) = true
is_plant op = false
