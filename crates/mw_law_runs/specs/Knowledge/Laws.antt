-- States which steps leave a request's knowledge true, and its slots live (taken under the number by which it knows them).
-- Used by: src/knowledge_laws.rt.
use Rattle.std.specs.Prelude.{ℕ, ◌≡◌, ◌≢◌, ◌≤◌, ◌+◌, true}
use Rattle.mw_actor.specs.declared.points.Point.{Point}
use Rattle.mw_look.specs.declared.observations.Observation.{Observation}
use Rattle.mw_actor.specs.ActorState.{ActorState}
use Rattle.mw_actor.specs.Program.{goes}
use Rattle.mw_world.specs.Definition.Counts.{pins_held, frees_at}
use Rattle.mw_world.specs.Definition.State.{State}
use Rattle.mw_law_runs.specs.Moves.Rely.{Rely}
use Rattle.mw_law_runs.specs.Knowledge.OwnKnowledge.{KeepsOwn}
use Rattle.mw_law_runs.specs.Knowledge.Live.{AreLive, TakesNoPin}
use Rattle.mw_law_runs.specs.Knowledge.Points.{Knows, without_point}

-- The slot keeps its number, and stays taken if it was.
pub record StaysTaken (old new : State) (slot : ℕ) : Type 0 where
  pub number : (new.cells.gates slot).seq ≡ (old.cells.gates slot).seq
  pub taken : (old.cells.gates slot).taken ≡ true → (new.cells.gates slot).taken ≡ true

-- A request's slots stay live if each slot stays taken of which it holds a pin, or that it will free.
abbrev pub LiveSlotsStay : Type 0
LiveSlotsStay = (old new : State) (point : Point) → ((slot : ℕ) → 1 ≤ pins_held slot point + frees_at slot point → StaysTaken old new slot)
    → AreLive old point → AreLive new point

-- If the step takes no pin, the slots of the request's next point are live in the same world. What the step changes isn't looked at.
abbrev pub LiveSlotsGoOn : Type 0
LiveSlotsGoOn = (state : State) (actor : ActorState) (next : ℕ) (point : Point) (observation : Observation) → TakesNoPin point observation → AreLive state point → AreLive state (goes actor next point observation)

-- Other workers keep what is the request's own.
abbrev pub OthersKeepOwn : Type 0
OthersKeepOwn = (by : ℕ) (old new : State) (actor : ActorState) → actor.worker ≢ by → Rely by old new → KeepsOwn old new actor

-- What a request knows stays true while a worker moves as workers may, if the request's own is kept and its slots stay live. The worker may be its
-- own.
abbrev pub FactsStay : Type 0
FactsStay = (by : ℕ) (old new : State) (actor : ActorState) (point : Point) → Rely by old new → KeepsOwn old new (without_point actor) → AreLive old point → AreLive new point
    → Knows old actor point → Knows new actor point
