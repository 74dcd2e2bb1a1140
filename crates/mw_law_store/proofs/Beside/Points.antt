-- Each move (elementary change of shared words) of a request's step is made for the tenant of that request. Used by: Tenants.
use Rattle.std.specs.Prelude.{ℕ, ◌≡◌, ◌++◌, Bool, true, false, [], ◌∷◌}
use Rattle.std.proofs.Common.{refl, subst}
use Rattle.mw_words.specs.declared.replies.Reply.TheVariants.{Fault as SaysFault}
use Rattle.mw_look.specs.declared.observations.Observation.{Observation}
use Rattle.mw_look.specs.declared.observations.Observation.TheVariants.{Won}
use Rattle.mw_look.specs.declared.points.Point.{Point as ReadPoint}
use Rattle.mw_look.specs.declared.points.Point.TheVariants as look
use Rattle.mw_actor.specs.declared.points.Point.{Point}
use Rattle.mw_actor.specs.declared.points.Point.TheVariants as points
use Rattle.mw_actor.specs.declared.points.Point.TheVariants.{Read, Replied}
use Rattle.mw_actor.specs.declared.points.Slot.{Slot}
use Rattle.mw_actor.specs.declared.points.Sweep.{Sweep}
use Rattle.mw_actor.specs.declared.points.Sweep.TheVariants.{Yes as SweepYes}
use Rattle.mw_actor.specs.ActorState.{ActorState, entry_of}
use Rattle.mw_world.specs.declared.config.Config.{Config}
use Rattle.mw_law_runs.specs.Knowledge.Informed.{IsInformed}
use Rattle.mw_law_runs.specs.Knowledge.NextState.{told}
use Rattle.mw_world.specs.Definition.State.{State}
use Rattle.mw_law_runs.specs.Moves.StepMoves.{give_up_moves, moves_at, moves_told, set_intent, read_moves, release_moves, resolve_moves}
use Rattle.mw_law_store.proofs.Beside.Moves.{AllFor}

-- What a step at a point needs for that: a read is one of the tenant, and so is a change that is decided or whose request gives
-- up.
abbrev PointFor : State → ActorState → Point → Type 0
PointFor state actor (Read reading) = reading.tenant ≡ actor.tenant
PointFor state actor (points.DecideYes task) = state.history.tenant task.target.slot task.target.seq ≡ actor.tenant
PointFor state actor (points.DecideNo task entry value) = state.history.tenant task.target.slot task.target.seq ≡ actor.tenant
PointFor state actor (points.GiveUp own undecided) = state.history.tenant own.slot own.seq ≡ actor.tenant
PointFor state actor point = Unit {0}

point_for : (config : Config) (state : State) (actor : ActorState) (point : Point) → let me = record actor { point = point } in IsInformed config state me → PointFor state me point
point_for config state actor (Read reading) informed = informed.ready.0
point_for config state actor (points.DecideYes task) informed = informed.knows.0.at_work.target.same_tenant
point_for config state actor (points.DecideNo task entry value) informed = informed.knows.0.works.at_work.target.same_tenant
point_for config state actor (points.GiveUp own undecided) informed = informed.knows.0.same_tenant
point_for config state actor point informed = tt

-- the moves of a step are for the tenant of its request
module _ (state : State) (worker : ℕ) (next : ActorState) where
  read_for : (tenant : ℕ) (point : ReadPoint) (observation : Observation) → AllFor tenant state worker (read_moves state tenant point observation ++ set_intent next ∷ [])
  read_for tenant (look.Pin trail from to) Won = (tt, (tt, tt))
  read_for tenant (look.Pin trail from to) observation = (tt, tt)
  read_for tenant (look.Unpin slot seq after) observation = (tt, (tt, tt))
  read_for tenant (look.FreeSlot slot seq after) observation = (tt, (tt, tt))
  read_for tenant (look.LowerDoor after) observation = (refl, (tt, tt))
  read_for tenant point observation = (tt, tt)

  resolve_for : (open_then : Bool) (tenant address by number : ℕ) (target : Slot) (value one : ℕ) → AllFor one state worker (resolve_moves open_then tenant address by number target value ++ set_intent next ∷ [])
  resolve_for true tenant address by number target value one = (tt, (tt, tt))
  resolve_for false tenant address by number target value one = (tt, (tt, tt))

  release_for : (sweep : Sweep) (tenant address : ℕ) (target : Slot) (expected new one : ℕ) → AllFor one state worker (release_moves sweep tenant address target expected new ++ set_intent next ∷ [])
  release_for SweepYes tenant address target expected new one = (tt, (tt, tt))
  release_for sweep tenant address target expected new one = (tt, (tt, tt))

  give_up_for : (own : Slot) (after : Point) (tenant : ℕ) → state.history.tenant own.slot own.seq ≡ tenant → AllFor tenant state worker (give_up_moves own after ++ set_intent next ∷ [])
  give_up_for own (Replied SaysFault) tenant its = (tt, (its, (tt, tt)))
  give_up_for own after tenant its = (tt, (tt, tt))

  at_point : (actor : ActorState) (point : Point) (observation : Observation) (after : Point) → PointFor state actor point → AllFor actor.tenant state worker (moves_at state worker actor point observation after ++ set_intent next ∷ [])
  at_point actor (Read reading) observation after its =
      subst (λ (tenant : ℕ). AllFor tenant state worker (read_moves state reading.tenant reading.point observation ++ set_intent next ∷ [])) its (read_for reading.tenant reading.point observation)
  at_point actor (points.Resolve task entry attempt was_open) Won after its =
      resolve_for was_open actor.tenant (entry_of actor task entry).addr attempt.worker attempt.number task.target (entry_of actor task entry).expected actor.tenant
  at_point actor (points.Resolve task entry attempt was_open) observation after its = (tt, tt)
  at_point actor (points.Release task sweep entry) Won after its =
      release_for sweep actor.tenant (entry_of actor task entry).addr task.target (entry_of actor task entry).expected (entry_of actor task entry).new actor.tenant
  at_point actor (points.Release task sweep entry) observation after its = (tt, tt)
  at_point actor (points.GiveUp own undecided) observation after its = give_up_for own after actor.tenant its
  at_point actor (points.Plant task entry number) Won after its = (tt, (tt, tt))
  at_point actor (points.Plant task entry number) observation after its = (tt, (tt, tt))
  at_point actor (points.Admit from to) Won after its = (refl, (tt, tt))
  at_point actor (points.Admit from to) observation after its = (tt, tt)
  at_point actor (points.Claim slot saw_worn from to) Won after its = (refl, (tt, tt))
  at_point actor (points.Claim slot saw_worn from to) observation after its = (tt, tt)
  at_point actor (points.DecideYes task) Won after its = (its, (tt, tt))
  at_point actor (points.DecideYes task) observation after its = (tt, tt)
  at_point actor (points.DecideNo task entry value) Won after its = (its, (tt, tt))
  at_point actor (points.DecideNo task entry value) observation after its = (tt, tt)
  at_point actor (points.PinOther task other from to) Won after its = (tt, (tt, tt))
  at_point actor (points.PinOther task other from to) observation after its = (tt, tt)
  at_point actor (points.Clean task entry value) Won after its = (tt, (tt, tt))
  at_point actor (points.Clean task entry value) observation after its = (tt, tt)
  at_point actor (points.SweepResolve task sweep entry attempt) Won after its = (tt, (tt, tt))
  at_point actor (points.SweepResolve task sweep entry attempt) observation after its = (tt, tt)
  at_point actor (points.FillStatus own) observation after its = (tt, (tt, tt))
  at_point actor (points.FillCount own) observation after its = (tt, (tt, tt))
  at_point actor (points.FillAddr own entry) observation after its = (tt, (tt, tt))
  at_point actor (points.FillExpected own entry) observation after its = (tt, (tt, tt))
  at_point actor (points.FillNew own entry) observation after its = (tt, (tt, tt))
  at_point actor (points.AnnounceRow task entry number) observation after its = (tt, (tt, tt))
  at_point actor (points.Unpin slot onward) observation after its = (tt, (tt, tt))
  at_point actor (points.FreeSlot slot onward) observation after its = (tt, (tt, tt))
  at_point actor (points.LowerDoor onward) observation after its = (refl, (tt, tt))
  at_point actor point observation after its = (tt, tt)

-- All moves of a step that is not a call are for its tenant.
pub turn_for : (config : Config) (state : State) (actor : ActorState) (observation : Observation) → IsInformed config state actor → AllFor actor.tenant state actor.worker (moves_told state actor.worker actor observation)
turn_for config state actor observation informed =
    at_point state actor.worker (told state actor observation) actor actor.point observation (told state actor observation).point (point_for config state actor actor.point informed)
