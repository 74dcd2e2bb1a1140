-- The statements that this crate proves of a world's steps: they keep the invariant of the shared words and what other
-- workers rely on.
-- Used by: src/move_laws.rt.
use Rattle.std.specs.Prelude.{ℕ, ◌≡◌, ◌≤◌, ◌==◌, true, List, Some, None}
use Rattle.mw_words.specs.declared.limits.TheConstants.{MAX_VALUE}
use Rattle.mw_words.specs.declared.jobs.Job.{Job}
use Rattle.mw_words.specs.declared.places.At.{At}
use Rattle.mw_words.specs.Change.{word_at}
use Rattle.mw_look.specs.Places.{Val, Fits, pack}
use Rattle.mw_actor.specs.ActorState.{ActorState}
use Rattle.mw_world.specs.declared.config.Config.{Config}
use Rattle.mw_world.specs.declared.outcomes.Outcome.{Outcome}
use Rattle.mw_world.specs.Definition.Calls.{Called, call, called_at}
use Rattle.mw_world.specs.Definition.Cells.{Cells, read, AllFit}
use Rattle.mw_world.specs.Definition.Events.{Found, WorldEvent}
use Rattle.mw_world.specs.Definition.History.{NoAttempt, Idle, standing_at, permission_at}
use Rattle.mw_world.specs.Definition.Restarts.{restart, found_of}
use Rattle.mw_world.specs.Definition.State.{State, IsConfig}
use Rattle.mw_world.specs.Definition.Turns.{turn}
use Rattle.mw_world.specs.Definition.World.{come, hand, step}
use Rattle.mw_law_runs.specs.Moves.Guards.{Guards}
use Rattle.mw_law_runs.specs.Moves.Memory.{Memory}
use Rattle.mw_law_runs.specs.Moves.Rely.{Rely}
use Rattle.mw_law_runs.specs.Moves.StepMoves.{SameMemory, moves_of_turn, moves_of_call}

-- The invariant of the shared words depends on nothing but the shared words, the history and the numbers of attempts.
abbrev pub MemoryIsShared : Type 0
MemoryIsShared = (config : Config) (one other : State) → SameMemory one other → Memory config other → Memory config one

-- What others may rely on also depends on nothing else.
abbrev pub RelyIsOverMemory : Type 0
RelyIsOverMemory = (by : ℕ) (old one other : State) → SameMemory one other → Rely by old other → Rely by old one

-- An exchange that finds the bits of the value that it expects finds that value, if all places and the value are in range.
abbrev pub ExchangesAreTyped : Type 0
ExchangesAreTyped = (cells : Cells) (at : At) (from : Val at) → AllFit cells → Fits at from → (pack at (read cells at) == pack at from) ≡ true → read cells at ≡ from

-- A worker's step keeps the invariant of the shared words, and others may rely on the rest.
pub record Keeps (config : Config) (by : ℕ) (state next : State) : Type 0 where
  pub memory : Memory config next
  pub later : Rely by state next

-- A step that is no call on a file does so, if the precondition of each of its moves holds.
abbrev pub TurnsKeep : Type 0
TurnsKeep = (config : Config) (state next : State) (worker : ℕ) (actor : ActorState) → actor.worker ≡ worker
    → turn config state worker (Some actor) ≡ Some next → Guards config state worker (moves_of_turn state worker actor) → Memory config state
    → Keeps config worker state next

-- A call on a file does so, if the precondition of each of its moves holds.
abbrev pub CallsKeep : Type 0
CallsKeep = (config : Config) (state next : State) (worker : ℕ) (actor : ActorState) (called : Called) (outcome : Outcome) → called_at actor.point ≡ Some called
    → call config state worker (Some actor) outcome ≡ Some next → Guards config state worker (moves_of_call state worker actor called outcome) → Memory config state
    → Keeps config worker state next

-- A request that arrives leaves the shared words, the history and the numbers of attempts as they are. A reply that is handed out does too.
abbrev pub ComesLeaveMemory : Type 0
ComesLeaveMemory = (config : Config) (state next : State) (worker tenant : ℕ) (job : Job) → come config state worker tenant job ≡ Some next → SameMemory next state

abbrev pub HandsLeaveMemory : Type 0
HandsLeaveMemory = (state next : State) (worker : ℕ) → hand state worker (state.worker_states worker).actor ≡ Some next → SameMemory next state

-- The invariant of the shared words holds after a restart that finds no word above the greatest value, if a world can be made of the configuration.
abbrev pub RestartsHaveMemory : Type 0
RestartsHaveMemory = (config : Config) (state next : State) (founds : List Found) → IsConfig config
    → ((tenant address : ℕ) → word_at (found_of founds tenant).words address ≤ MAX_VALUE) → restart config state founds ≡ Some next → Memory config next

-- Each worker's standing attempt and permission in the history are those that its request's point says. An idle worker has neither.
pub record PointsAreTold (state : State) : Type 0 where
  pub standing : (worker : ℕ) (actor : ActorState) → (state.worker_states worker).actor ≡ Some actor → state.history.standing worker ≡ standing_at actor actor.point
  pub permission : (worker : ℕ) (actor : ActorState) → (state.worker_states worker).actor ≡ Some actor → state.history.permission worker ≡ permission_at actor actor.point
  pub idle : (worker : ℕ) → (state.worker_states worker).actor ≡ None → (state.history.standing worker ≡ NoAttempt) × (state.history.permission worker ≡ Idle)

-- Every event keeps this.
abbrev pub EventsTellPoints : Type 0
EventsTellPoints = (config : Config) (state next : State) (event : WorldEvent) → PointsAreTold state → step config state event ≡ Some next → PointsAreTold next
