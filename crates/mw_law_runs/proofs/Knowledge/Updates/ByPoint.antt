-- After a step that changes a shared word, an informed request (`IsInformed`) knows the facts of its next point: one case for
-- each point.
-- Used by: updates_inform, mw_law_store.
use Rattle.std.specs.Prelude.{◌≡◌, Some}
use Rattle.std.proofs.Common.{sym, subst}
use Rattle.mw_look.specs.declared.observations.Observation.{Observation}
use Rattle.mw_look.specs.declared.observations.Observation.TheVariants.{SawDoor, SawGate, Won}
use Rattle.mw_look.specs.declared.points.Point.{Point as ReadPoint}
use Rattle.mw_look.specs.declared.points.Point.TheVariants.{Pin as PinOfRead, Unpin as UnpinOfRead, FreeSlot as FreeOfRead, LowerDoor as LowerOfRead}
use Rattle.mw_look.specs.Program.{Reading}
use Rattle.mw_actor.specs.declared.points.Point.{Point}
use Rattle.mw_actor.specs.declared.points.Point.TheVariants.{Read, Admit, Claim, FillStatus, FillCount, FillAddr, FillExpected, FillNew, AnnounceRow, Plant, DecideYes, DecideNo, Resolve, PinOther, Release, Clean, SweepResolve, Unpin, FreeSlot, LowerDoor}
use Rattle.mw_actor.specs.ActorState.{ActorState}
use Rattle.mw_actor.specs.Asks.{asks_at}
use Rattle.mw_world.specs.declared.config.Config.{Config}
use Rattle.mw_world.specs.Definition.State.{State}
use Rattle.mw_law_runs.specs.Moves.Guards.{Guards}
use Rattle.mw_law_runs.specs.Moves.StepMoves.{moves_told}
use Rattle.mw_law_runs.specs.Counts.CountInvariant.{CountsStand}
use Rattle.mw_law_runs.specs.Knowledge.Informed.{IsInformed, ChangesAWord}
use Rattle.mw_law_runs.specs.Knowledge.NextState.{KnowsItsPoint, told, world_told}
use Rattle.mw_law_runs.specs.Knowledge.Updates.{UpdatesInform}
use Rattle.mw_law_runs.proofs.Knowledge.Updates.Drafts.{claim_won, status_stored, count_stored, addr_stored, expected_stored, new_stored}
use Rattle.mw_law_runs.proofs.Knowledge.Updates.Acquisition.{row_stored, plant_won, yes_won, no_won, resolve_won, pin_won}
use Rattle.mw_law_runs.proofs.Knowledge.Updates.Releases.{let_go_won, clean_won, take_back_won}
use Rattle.mw_law_runs.proofs.Knowledge.Updates.Unpins.{unpin_fetched, slot_freed, door_lowered, read_pinned, read_unpinned, read_freed, read_lowered}

module _ (config : Config) (state : State) (actor : ActorState) (stand : CountsStand config state) where
  -- the statement, at a point and for what the request learns
  abbrev Informs : Point → Observation → Type 0
  Informs point observation = let me = record actor { point = point } in (state.worker_states actor.worker).actor ≡ Some me → IsInformed config state me
      → Guards config state actor.worker (moves_told state actor.worker me observation) → KnowsItsPoint (world_told state me observation) (told state me observation)

  -- the request learns what it must learn of this step
  told_so : (point : Point) (observation is : Observation) → observation ≡ is → Informs point is → Informs point observation
  told_so point observation is same informs = subst (Informs point) (sym same) informs

  of_read : (look : Reading) (point : ReadPoint) (observation : Observation) → let at = Read (record look { point = point }) in
      ChangesAWord state.cells (asks_at (record actor { point = at }) at) observation → Informs at observation
  of_read look (PinOfRead trail from to) observation changes =
      told_so (Read (record look { point = PinOfRead trail from to })) observation Won changes.0
      (λ sits informed guards. read_pinned config state actor look trail from to informed changes.1 guards)
  of_read look (UnpinOfRead slot seq onward) observation changes =
      told_so (Read (record look { point = UnpinOfRead slot seq onward })) observation (SawGate (state.cells.gates slot)) changes
      (λ sits informed guards. read_unpinned config state actor look slot seq onward informed guards)
  of_read look (FreeOfRead slot seq onward) observation changes =
      told_so (Read (record look { point = FreeOfRead slot seq onward })) observation Won changes (λ sits informed guards. read_freed config state actor look slot seq onward)
  of_read look (LowerOfRead onward) observation changes =
      told_so (Read (record look { point = LowerOfRead onward })) observation (SawDoor (state.cells.doors look.tenant)) changes
      (λ sits informed guards. read_lowered config state actor look onward)
  of_read look point observation changes = absurd changes

  at_point : (point : Point) (observation : Observation) → ChangesAWord state.cells (asks_at (record actor { point = point }) point) observation → Informs point observation
  at_point (Read look) observation changes = of_read look look.point observation changes
  at_point (Admit from to) observation changes = told_so (Admit from to) observation Won changes.0 (λ sits informed guards. record { live = tt; knows = tt })
  at_point (Claim slot saw_worn from to) observation changes =
      told_so (Claim slot saw_worn from to) observation Won changes.0 (λ sits informed guards. claim_won config state actor slot saw_worn from to stand informed changes.1)
  at_point (FillStatus own) observation changes = told_so (FillStatus own) observation Won changes (λ sits informed guards. status_stored config state actor own informed)
  at_point (FillCount own) observation changes = told_so (FillCount own) observation Won changes (λ sits informed guards. count_stored config state actor own informed)
  at_point (FillAddr own entry) observation changes = told_so (FillAddr own entry) observation Won changes (λ sits informed guards. addr_stored config state actor own entry informed)
  at_point (FillExpected own entry) observation changes = told_so (FillExpected own entry) observation Won changes (λ sits informed guards. expected_stored config state actor own entry informed)
  at_point (FillNew own entry) observation changes = told_so (FillNew own entry) observation Won changes (λ sits informed guards. new_stored config state actor own entry informed)
  at_point (AnnounceRow task entry number) observation changes = told_so (AnnounceRow task entry number) observation Won changes (λ sits informed guards. row_stored config state actor task entry number informed guards)
  at_point (Plant task entry number) observation changes = told_so (Plant task entry number) observation Won changes.0 (λ sits informed guards. plant_won config state actor task entry number informed guards)
  at_point (DecideYes task) observation changes = told_so (DecideYes task) observation Won changes.0 (λ sits informed guards. yes_won config state actor task informed guards)
  at_point (DecideNo task entry value) observation changes = told_so (DecideNo task entry value) observation Won changes.0 (λ sits informed guards. no_won config state actor task entry value informed guards)
  at_point (Resolve task entry attempt was_open) observation changes =
      told_so (Resolve task entry attempt was_open) observation Won changes.0 (λ sits informed guards. resolve_won config state actor task entry attempt was_open informed guards)
  at_point (PinOther task other from to) observation changes =
      told_so (PinOther task other from to) observation Won changes.0 (λ sits informed guards. pin_won config state actor task other from to informed changes.1 guards)
  at_point (Release task sweep entry) observation changes = told_so (Release task sweep entry) observation Won changes.0 (λ sits informed guards. let_go_won config state actor task entry sweep informed guards)
  at_point (Clean task entry value) observation changes = told_so (Clean task entry value) observation Won changes.0 (λ sits informed guards. clean_won config state actor task entry value informed guards)
  at_point (SweepResolve task sweep entry attempt) observation changes =
      told_so (SweepResolve task sweep entry attempt) observation Won changes.0 (λ sits informed guards. take_back_won config state actor task entry sweep attempt informed guards)
  at_point (Unpin slot onward) observation changes =
      told_so (Unpin slot onward) observation (SawGate (state.cells.gates slot.slot)) changes (λ sits informed guards. unpin_fetched config state actor slot onward informed guards)
  at_point (FreeSlot slot onward) observation changes = told_so (FreeSlot slot onward) observation Won changes (λ sits informed guards. slot_freed config state actor slot onward stand sits informed guards)
  at_point (LowerDoor onward) observation changes =
      told_so (LowerDoor onward) observation (SawDoor (state.cells.doors actor.tenant)) changes (λ sits informed guards. door_lowered config state actor onward informed guards)
  at_point point observation changes = absurd changes

pub updates_inform : UpdatesInform
updates_inform config state actor observation stand sits informed changes guards = at_point config state actor stand actor.point observation changes sits informed guards
