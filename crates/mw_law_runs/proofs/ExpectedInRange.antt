-- The value that a request's next exchange expects is in range. Used by: mw_law_store.
use Rattle.std.specs.Prelude.{ℕ, ◌≡◌, ◌<◌, ◌≤◌, true, false, Bool, cond, All, List, length}
use Rattle.std.proofs.Common.{arith}
use Rattle.mw_words.specs.declared.jobs.Entry.{Entry}
use Rattle.mw_words.specs.declared.limits.TheConstants.{MAX_POOL, MAX_VALUE, WORN_NUMBER}
use Rattle.mw_words.specs.Patterns.{IsWordInRange}
use Rattle.mw_look.specs.declared.points.Point.{Point as ReadPoint}
use Rattle.mw_look.specs.declared.points.Point.TheVariants.{Pin as PinOfRead, Unpin as UnpinOfRead, FreeSlot as FreeOfRead, LowerDoor as LowerOfRead}
use Rattle.mw_look.specs.Places.{Fits}
use Rattle.mw_look.specs.Program.{asks_at as read_asks_at, IsPointInRange as IsReadPointInRange}
use Rattle.mw_look.specs.Steps.{Step, Change}
use Rattle.mw_actor.specs.declared.points.Point.{Point}
use Rattle.mw_actor.specs.declared.points.Point.TheVariants.{Read, Admit, Claim, FillStatus, FillCount, FillAddr, FillExpected, FillNew, AnnounceRow, Unpin, FreeSlot, LowerDoor, Plant, DecideYes, DecideNo, Resolve, PinOther, Release, Clean, SweepResolve}
use Rattle.mw_actor.specs.declared.points.Slot.{Slot}
use Rattle.mw_actor.specs.declared.points.Task.{Task}
use Rattle.mw_actor.specs.ActorState.{ActorState, own_entries, entries_of, entry_at, entry_of, is_alone, held}
use Rattle.mw_actor.specs.Asks.{asks, asks_at}
use Rattle.mw_actor.specs.Ranges.{IsEntryInRange}
use Rattle.mw_world.specs.declared.config.Config.{Config}
use Rattle.mw_look.specs.declared.steps.Shape.TheVariants.{Exchange, Store, Fetch}
use Rattle.mw_look.specs.Shapes.{shape_of}
use Rattle.mw_world.specs.Definition.State.{State}
use Rattle.mw_law_runs.specs.Moves.Guards.{IsLive}
use Rattle.mw_law_runs.specs.Knowledge.Facts.{AtEntry}
use Rattle.mw_law_runs.specs.Knowledge.Informed.{IsInformed}
use Rattle.mw_law_runs.specs.Knowledge.Points.{without_point}

-- what an exchange expects is in range; a store and a fetch expect nothing
abbrev pub ExpectsInRange : Step → Type 0
ExpectsInRange (Change kind at from to) = shape_of kind ≡ Exchange → Fits at from
ExpectsInRange step = Unit {0}

no_store : Store ≡ Exchange → ⊥
no_store e = cc

no_fetch : Fetch ≡ Exchange → ⊥
no_fetch e = cc

-- an entry of entries in range is in range
pub entry_in_range : (entries : List Entry) (index : ℕ) → All IsEntryInRange entries → index < length entries → IsEntryInRange (entry_at entries index)
entry_in_range entries index all within = all index _ within

pub of_either : (P : List Entry → Type 0) (b : Bool) (one two : List Entry) → P one → P two → P (cond b one two)
of_either P true one two first second = first
of_either P false one two first second = second

module _ (config : Config) (state : State) (actor : ActorState) where
  -- the expected value of an entry of the target is in range
  pub expected_fits : (point : Point) (task : Task) (entry : ℕ) → IsInformed config state (record actor { point = point }) → AtEntry state (without_point actor) task entry → (entry_of actor task entry).expected ≤ MAX_VALUE
  expected_fits point task entry informed at =
      (entry_in_range (entries_of actor task) entry (of_either (All IsEntryInRange) (is_alone task) (own_entries actor) actor.others informed.in_range.job.1 informed.in_range.others.1) at.within).1

  -- a live slot is a slot of the pool
  pub slot_fits : (point : Point) (slot : Slot) → IsInformed config state (record actor { point = point }) → IsLive state slot → slot.slot < MAX_POOL
  slot_fits point slot informed live = omega (arith, informed.memory.claims.there slot.slot live.taken, informed.worker_state.pool, informed.in_range.pool.1)

  pub held_fits : (point : Point) (task : Task) → IsInformed config state (record actor { point = point }) → IsLive state task.target → task.target.seq < WORN_NUMBER → IsWordInRange (held task.target)
  held_fits point task informed live low = (slot_fits point task.target informed live, omega (arith, low))

  of_read : (tenant address : ℕ) (point : ReadPoint) → IsReadPointInRange point → ExpectsInRange (read_asks_at tenant address point)
  of_read tenant address (PinOfRead trail from to) range = λ exchange. range.1
  of_read tenant address (UnpinOfRead slot seq onward) range = λ exchange. absurd (no_fetch exchange)
  of_read tenant address (FreeOfRead slot seq onward) range = λ exchange. absurd (no_store exchange)
  of_read tenant address (LowerOfRead onward) range = λ exchange. absurd (no_fetch exchange)
  of_read tenant address point range = tt

  at_point : (point : Point) → let me = record actor { point = point } in IsInformed config state me → ExpectsInRange (asks_at me point)
  at_point (Read look) informed = of_read look.tenant look.address look.point informed.look_in_range
  at_point (Admit from to) informed = λ exchange. informed.in_range.point.0
  at_point (Claim slot saw_worn from to) informed = λ exchange. informed.in_range.point.1
  at_point (Plant task entry number) informed = λ exchange. expected_fits (Plant task entry number) task entry informed informed.knows.0
  at_point (DecideYes task) informed = λ exchange. tt
  at_point (DecideNo task entry value) informed = λ exchange. tt
  at_point (Resolve task entry attempt was_open) informed = λ exchange. informed.in_range.point.1
  at_point (PinOther task other from to) informed = λ exchange. informed.in_range.point.2
  at_point (Release task sweep entry) informed = λ exchange. held_fits (Release task sweep entry) task informed informed.live.1 informed.in_range.point.1
  at_point (Clean task entry value) informed = λ exchange. (slot_fits (Clean task entry value) task.target informed informed.live.1, informed.in_range.point.1)
  at_point (SweepResolve task sweep entry attempt) informed = λ exchange. informed.in_range.point.1
  at_point (FillStatus own) informed = λ exchange. absurd (no_store exchange)
  at_point (FillCount own) informed = λ exchange. absurd (no_store exchange)
  at_point (FillAddr own entry) informed = λ exchange. absurd (no_store exchange)
  at_point (FillExpected own entry) informed = λ exchange. absurd (no_store exchange)
  at_point (FillNew own entry) informed = λ exchange. absurd (no_store exchange)
  at_point (AnnounceRow task entry number) informed = λ exchange. absurd (no_store exchange)
  at_point (Unpin slot onward) informed = λ exchange. absurd (no_fetch exchange)
  at_point (FreeSlot slot onward) informed = λ exchange. absurd (no_store exchange)
  at_point (LowerDoor onward) informed = λ exchange. absurd (no_fetch exchange)
  at_point point informed = tt

pub expects_in_range : (config : Config) (state : State) (actor : ActorState) → IsInformed config state actor → ExpectsInRange (asks actor)
expects_in_range config state actor informed = at_point config state actor actor.point informed
