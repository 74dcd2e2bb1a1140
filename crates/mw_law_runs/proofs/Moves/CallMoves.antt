-- A call on a tenant's file changes shared words, history and attempt numbers exactly as its list of moves does.
-- Used by: steps_are_moves.
use Rattle.std.specs.Prelude.{ℕ, ◌≡◌, Bool, true, false, if◌then◌else◌, List, Option, Some, None}
use Rattle.std.proofs.Common.{refl, subst, arith}
use Rattle.std.proofs.lemmas.Bool.Decides.{nat_tests}
use Rattle.mw_words.specs.declared.statuses.Status.{Status}
use Rattle.mw_words.specs.declared.statuses.Status.TheVariants.{No}
use Rattle.mw_look.specs.declared.steps.Call.{Call}
use Rattle.mw_look.specs.declared.steps.Call.TheVariants.{Prepare as PrepareCall, Seal as SealCall, Settle as SettleCall, Cancel as CancelCall}
use Rattle.mw_actor.specs.declared.points.Slot.{Slot}
use Rattle.mw_actor.specs.ActorState.{ActorState, own_entries}
use Rattle.mw_world.specs.declared.config.Config.{Config}
use Rattle.mw_world.specs.declared.outcomes.Outcome.{Outcome}
use Rattle.mw_world.specs.declared.outcomes.Outcome.TheVariants.{Good, Fail}
use Rattle.mw_world.specs.Definition.Calls.{Called, call, called_at, call_if, starts_from, fails_on, calling, ends, moved_if, place_for, can_be_made, calls_made, is_made, skips, faults, goes_well, breaks}
use Rattle.mw_world.specs.Definition.Extent.{has_slot}
use Rattle.mw_world.specs.Maps.{upd}
use Rattle.mw_world.specs.Definition.State.{State, WorkerState, tenant_at}
use Rattle.mw_world.specs.Definition.Turns.{Made, moved}
use Rattle.mw_law_runs.specs.Moves.Moves.{Move, made_all}
use Rattle.mw_law_runs.specs.Moves.StepMoves.{SameMemory, CallsAreMoves, moves_called}
use Rattle.mw_actor.specs.declared.points.Point.{Point}
use Rattle.mw_actor.specs.declared.points.Point.TheVariants.{Plant as PlantPoint}
use Rattle.mw_world.specs.Definition.Turns.{next_attempt}
use Rattle.mw_world.specs.declared.step_labels.StepLabel.TheVariants.{Nothing}

some_same : (one next : State) → Some one ≡ Some next → one ≡ next
some_same one next is = cc

-- a request at a call makes no attempt
calm_if : (point : Point) (called : Called) (number : ℕ) → called_at point ≡ Some called → next_attempt point number ≡ number
calm_if (PlantPoint task entry given) called number is = cc
calm_if point called number is = refl

same_attempt : (worker_states : ℕ → WorkerState) (worker other : ℕ) (worker_state : WorkerState) → worker_state.attempt ≡ (worker_states worker).attempt → (upd worker_states worker worker_state other).attempt ≡ (worker_states other).attempt
same_attempt worker_states worker other worker_state is = grind (arith, nat_tests, is)

module _ (state : State) (worker : ℕ) (actor : ActorState) (calm : (number : ℕ) → next_attempt actor.point number ≡ number) where
  -- what the call does changes memory as these moves do
  abbrev IsMadeBy : Made → List Move → Type 0
  IsMadeBy made moves = SameMemory (moved state worker actor made) (made_all state worker moves)

  -- so does the world after the call
  after_made : (made : Made) (moves : List Move) (next : State) → IsMadeBy made moves → moved_if state worker actor (Some made) ≡ Some next → SameMemory next (made_all state worker moves)
  after_made made moves next same is = subst (λ (one : State). SameMemory one (made_all state worker moves)) (some_same (moved state worker actor made) next is) same

  after_none : (moves : List Move) (next : State) → moved_if state worker actor None ≡ Some next → SameMemory next (made_all state worker moves)
  after_none moves next is = cc

  -- a call that starts on a file that hasn't failed, and goes well
  well : (call : Call) (change : Slot) (status : Status) (place : ℕ) → starts_from call status ≡ true
      → IsMadeBy (goes_well state actor change (state.tenant_states actor.tenant).file call status place) (moves_called state worker actor (record { call = call; change = change }) status true false Good)
  well PrepareCall change status place starts = record { cells = refl; history = refl; attempts = λ other. same_attempt state.worker_states worker other _ (calm (state.worker_states worker).attempt) }
  well SealCall change status place starts = record { cells = refl; history = refl; attempts = λ other. same_attempt state.worker_states worker other _ (calm (state.worker_states worker).attempt) }
  well SettleCall change status place starts = record { cells = refl; history = refl; attempts = λ other. same_attempt state.worker_states worker other _ (calm (state.worker_states worker).attempt) }
  well CancelCall change (No entry value) place starts = record { cells = refl; history = refl; attempts = λ other. same_attempt state.worker_states worker other _ (calm (state.worker_states worker).attempt) }
  well CancelCall change status place starts = cc

  -- a call in which the device fails
  badly : (call : Call) (change : Slot) (status : Status) (place number : ℕ)
      → IsMadeBy (breaks state actor change (state.tenant_states actor.tenant).file call place) (moves_called state worker actor (record { call = call; change = change }) status true false (Fail number))
  badly SealCall change status place number = record { cells = refl; history = refl; attempts = λ other. same_attempt state.worker_states worker other _ (calm (state.worker_states worker).attempt) }
  badly call change status place number = record { cells = refl; history = refl; attempts = λ other. same_attempt state.worker_states worker other _ (calm (state.worker_states worker).attempt) }

  badly_if : (test : Bool) (call : Call) (change : Slot) (status : Status) (place number : ℕ) (next : State)
      → moved_if state worker actor (if test then Some (breaks state actor change (state.tenant_states actor.tenant).file call place) else None) ≡ Some next
      → SameMemory next (made_all state worker (moves_called state worker actor (record { call = call; change = change }) status true false (Fail number)))
  badly_if true call change status place number next is =
      after_made (breaks state actor change (state.tenant_states actor.tenant).file call place) (moves_called state worker actor (record { call = call; change = change }) status true false (Fail number)) next (badly call change status place number) is
  badly_if false call change status place number next is = after_none (moves_called state worker actor (record { call = call; change = change }) status true false (Fail number)) next is

  -- a call, by whether it starts, whether the file had failed, and whether it can be made
  ended : (starts had_failed can_be : Bool) (call : Call) (change : Slot) (status : Status) (place calls : ℕ) (outcome : Outcome) (next : State) → starts_from call status ≡ starts
      → moved_if state worker actor (ends state actor change (state.tenant_states actor.tenant).file starts had_failed can_be call status place calls outcome) ≡ Some next
      → SameMemory next (made_all state worker (moves_called state worker actor (record { call = call; change = change }) status starts had_failed outcome))
  ended false had_failed can_be call change status place calls Good next starts is =
      after_made (skips state actor change (state.tenant_states actor.tenant).file) (moves_called state worker actor (record { call = call; change = change }) status false had_failed Good) next (record { cells = refl; history = refl; attempts = λ other. same_attempt state.worker_states worker other _ (calm (state.worker_states worker).attempt) }) is
  ended false had_failed can_be call change status place calls (Fail number) next starts is = after_none (moves_called state worker actor (record { call = call; change = change }) status false had_failed (Fail number)) next is
  ended true true can_be call change status place calls Good next starts is =
      after_made (faults state actor change (state.tenant_states actor.tenant).file (state.tenant_states actor.tenant).file Nothing) (moves_called state worker actor (record { call = call; change = change }) status true true Good) next (record { cells = refl; history = refl; attempts = λ other. same_attempt state.worker_states worker other _ (calm (state.worker_states worker).attempt) }) is
  ended true true can_be call change status place calls (Fail number) next starts is = after_none (moves_called state worker actor (record { call = call; change = change }) status true true (Fail number)) next is
  ended true false true call change status place calls Good next starts is =
      after_made (goes_well state actor change (state.tenant_states actor.tenant).file call status place) (moves_called state worker actor (record { call = call; change = change }) status true false Good) next (well call change status place starts) is
  ended true false true call change status place calls (Fail number) next starts is = badly_if (is_made calls number) call change status place number next is
  ended true false false call change status place calls outcome next starts is = after_none (moves_called state worker actor (record { call = call; change = change }) status true false outcome) next is

if_slot : (test : Bool) (one : Option State) (next : State) → (if test then one else None) ≡ Some next → one ≡ Some next
if_slot true one next is = is
if_slot false one next is = cc

by_called : (config : Config) (state next : State) (worker : ℕ) (actor : ActorState) (called : Called) (outcome : Outcome) (found : Option Called) → found ≡ Some called
    → call_if config state worker actor found outcome ≡ Some next → call_if config state worker actor (Some called) outcome ≡ Some next
by_called config state next worker actor called outcome found is came = subst (λ (one : Option Called). call_if config state worker actor one outcome ≡ Some next) is came

pub calls_are_moves : CallsAreMoves
calls_are_moves config state next worker actor called outcome is came =
    let file = (state.tenant_states actor.tenant).file in
    let places = (state.tenant_states actor.tenant).quota in
    let status = state.cells.statuses called.change.slot in
    let place = place_for called.call file places called.change.slot in
    ended state worker actor (λ number. calm_if actor.point called number is) (starts_from called.call status) (fails_on called.call file) (can_be_made called.call file places place (own_entries actor))
    called.call called.change status place (calls_made called.call status file place) outcome next refl
    (if_slot (has_slot config called.change.slot) (moved_if state worker actor (calling config state actor called outcome)) next
    (by_called config state next worker actor called outcome (called_at actor.point) is came))
