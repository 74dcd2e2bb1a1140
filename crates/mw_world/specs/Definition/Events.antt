-- Defines the events of a world: its transitions, for example one worker's step or a whole call on a file.
-- Used by: many crates from mw_law_runs on.
use Rattle.std.specs.Prelude.{ℕ, List, Option}
use Rattle.mw_words.specs.declared.jobs.Job.{Job}
use Rattle.mw_world.specs.declared.outcomes.Outcome.{Outcome}
use Rattle.mw_world.specs.declared.events.Interrupted.{Interrupted}

-- What a restart finds of a tenant's file, and the quota that it gives. It finds the call that was under way, if one
-- was; the words that the bytes on the disk represent; how many device calls an opening of these bytes makes; and
-- which of them fails, if one does. Whoever plays a world must take the words and the number of calls from one image
-- that a crash may leave of the disk. This definition does not demand it. No quota given: the tenant keeps its quota.
pub record Found : Type 0 where
  pub interrupted : Option Interrupted
  pub words : List ℕ
  pub opening_calls : ℕ
  pub fails_at : Option ℕ
  pub quota : Option ℕ

-- An event. A worker begins a request; makes a step; makes a call on its file, with this outcome of the device; or
-- hands out its reply. Or the server restarts, and finds this of the tenants' files, in the order of the tenants.
pub data WorldEvent : Type 0 where
  Come : (worker tenant : ℕ) (job : Job) → WorldEvent
  Step : (worker : ℕ) → WorldEvent
  File : (worker : ℕ) (outcome : Outcome) → WorldEvent
  Hand : (worker : ℕ) → WorldEvent
  Restart : (founds : List Found) → WorldEvent
