-- A step that is no call on a file seals no change, so it changes no value that a word represents.
-- Used by: moves_keep_values.
use Rattle.std.specs.Prelude.{ℕ, ◌≡◌, ◌==◌, ◌++◌, Bool, true, false, cond, List, [], ◌∷◌}
use Rattle.std.proofs.Common.{refl, ap, ◌∙◌}
use Rattle.mw_words.specs.declared.places.At.{At}
use Rattle.mw_words.specs.declared.replies.Reply.{Reply}
use Rattle.mw_words.specs.declared.replies.Reply.TheVariants.{Fault as SaysFault}
use Rattle.mw_look.specs.declared.observations.Observation.{Observation}
use Rattle.mw_look.specs.declared.observations.Observation.TheVariants.{Won, Lost}
use Rattle.mw_look.specs.declared.steps.Kind.{Kind}
use Rattle.mw_look.specs.declared.points.Point.{Point as ReadPoint}
use Rattle.mw_look.specs.declared.points.Point.TheVariants as look
use Rattle.mw_look.specs.Observations.{seen}
use Rattle.mw_look.specs.Places.{Val, pack}
use Rattle.mw_look.specs.Steps.{Step, Load, Change, File}
use Rattle.mw_actor.specs.declared.points.Slot.{Slot}
use Rattle.mw_actor.specs.declared.points.Sweep.{Sweep}
use Rattle.mw_actor.specs.declared.points.Sweep.TheVariants.{Yes as SweepYes}
use Rattle.mw_actor.specs.declared.points.Point.{Point}
use Rattle.mw_actor.specs.declared.points.Point.TheVariants as points
use Rattle.mw_actor.specs.ActorState.{ActorState, entry_of}
use Rattle.mw_actor.specs.Asks.{asks}
use Rattle.mw_world.specs.declared.config.Config.{Config}
use Rattle.mw_world.specs.Definition.Cells.{Cells, read, write}
use Rattle.mw_look.specs.declared.steps.Shape.{Shape}
use Rattle.mw_look.specs.declared.steps.Shape.TheVariants.{Exchange, Store, Fetch}
use Rattle.mw_look.specs.Shapes.{shape_of}
use Rattle.mw_world.specs.Definition.Changes.{changed, done, fetched}
use Rattle.mw_world.specs.Definition.Logical.{logical}
use Rattle.mw_world.specs.Definition.State.{State}
use Rattle.mw_law_runs.specs.Moves.Guards.{Guards}
use Rattle.mw_law_runs.specs.Moves.Memory.{Memory}
use Rattle.mw_law_runs.specs.Moves.Moves.{Move, made, made_all}
use Rattle.mw_law_runs.specs.Moves.StepMoves.{moves_at, read_moves, resolve_moves, release_moves, give_up_moves, moves_told, moves_of_turn, next_of, set_intent}
use Rattle.mw_law_runs.specs.Moves.Values.{AreNoSeals, TurnsKeepValues}
use Rattle.mw_law_runs.proofs.Moves.MovesKeepMemory.{move_keeps}
use Rattle.mw_law_runs.proofs.Moves.ValuesOverMoves.{moves_keep_values}
use Rattle.mw_law_runs.proofs.Moves.TurnMoves.{turns_are_moves}

-- several moves that make no change leave each word's value
all_keep : (config : Config) (state : State) (by : ℕ) (moves : List Move) (tenant address : ℕ) → AreNoSeals moves → Guards config state by moves → Memory config state
    → logical (made_all state by moves).cells tenant address ≡ logical state.cells tenant address
all_keep config state by [] tenant address none guards memory = refl
all_keep config state by (move ∷ moves) tenant address none guards memory =
    all_keep config (made state by move) by moves tenant address none.1 guards.1 (move_keeps config state by move guards.0 memory)
    ∙ moves_keep_values config state by move tenant address none.0 guards.0 memory

and_more : (moves : List Move) (actor : ActorState) → AreNoSeals moves → AreNoSeals (moves ++ set_intent actor ∷ [])
and_more [] actor none = (refl, tt)
and_more (move ∷ moves) actor none = (none.0, and_more moves actor none.1)

read_none : (state : State) (tenant : ℕ) (point : ReadPoint) (observation : Observation) → AreNoSeals (read_moves state tenant point observation)
read_none state tenant (look.Pin trail from to) Won = (refl, tt)
read_none state tenant (look.Pin trail from to) observation = tt
read_none state tenant (look.Unpin slot seq after) observation = (refl, tt)
read_none state tenant (look.FreeSlot slot seq after) observation = (refl, tt)
read_none state tenant (look.LowerDoor after) observation = (refl, tt)
read_none state tenant point observation = tt

resolve_none : (open_then : Bool) (tenant address worker number : ℕ) (target : Slot) (value : ℕ) → AreNoSeals (resolve_moves open_then tenant address worker number target value)
resolve_none true tenant address worker number target value = (refl, tt)
resolve_none false tenant address worker number target value = (refl, tt)

release_none : (sweep : Sweep) (tenant address : ℕ) (target : Slot) (expected new : ℕ) → AreNoSeals (release_moves sweep tenant address target expected new)
release_none SweepYes tenant address target expected new = (refl, tt)
release_none sweep tenant address target expected new = (refl, tt)

reply_none : (own : Slot) (reply : Reply) → AreNoSeals (give_up_moves own (points.Replied reply))
reply_none own SaysFault = (refl, (refl, tt))
reply_none own reply = (refl, tt)

give_up_none : (own : Slot) (point : Point) → AreNoSeals (give_up_moves own point)
give_up_none own (points.Replied reply) = reply_none own reply
give_up_none own point = (refl, tt)

none_at : (state : State) (worker : ℕ) (actor : ActorState) (point : Point) (observation : Observation) (after : Point) → AreNoSeals (moves_at state worker actor point observation after)
none_at state worker actor (points.Read look) observation after = read_none state look.tenant look.point observation
none_at state worker actor (points.Resolve task entry attempt was_open) Won after =
    resolve_none was_open actor.tenant (entry_of actor task entry).addr attempt.worker attempt.number task.target (entry_of actor task entry).expected
none_at state worker actor (points.Resolve task entry attempt was_open) observation after = tt
none_at state worker actor (points.Release task sweep entry) Won after =
    release_none sweep actor.tenant (entry_of actor task entry).addr task.target (entry_of actor task entry).expected (entry_of actor task entry).new
none_at state worker actor (points.Release task sweep entry) observation after = tt
none_at state worker actor (points.GiveUp own undecided) observation after = give_up_none own after
none_at state worker actor (points.Plant task entry number) Won after = (refl, tt)
none_at state worker actor (points.Plant task entry number) observation after = (refl, tt)
none_at state worker actor (points.Admit from to) Won after = (refl, tt)
none_at state worker actor (points.Admit from to) observation after = tt
none_at state worker actor (points.Claim slot saw_worn from to) Won after = (refl, tt)
none_at state worker actor (points.Claim slot saw_worn from to) observation after = tt
none_at state worker actor (points.DecideYes task) Won after = (refl, tt)
none_at state worker actor (points.DecideYes task) observation after = tt
none_at state worker actor (points.DecideNo task entry value) Won after = (refl, tt)
none_at state worker actor (points.DecideNo task entry value) observation after = tt
none_at state worker actor (points.PinOther task other from to) Won after = (refl, tt)
none_at state worker actor (points.PinOther task other from to) observation after = tt
none_at state worker actor (points.Clean task entry value) Won after = (refl, tt)
none_at state worker actor (points.Clean task entry value) observation after = tt
none_at state worker actor (points.SweepResolve task sweep entry attempt) Won after = (refl, tt)
none_at state worker actor (points.SweepResolve task sweep entry attempt) observation after = tt
none_at state worker actor (points.FillStatus own) observation after = (refl, tt)
none_at state worker actor (points.FillCount own) observation after = (refl, tt)
none_at state worker actor (points.FillAddr own entry) observation after = (refl, tt)
none_at state worker actor (points.FillExpected own entry) observation after = (refl, tt)
none_at state worker actor (points.FillNew own entry) observation after = (refl, tt)
none_at state worker actor (points.AnnounceRow task entry number) observation after = (refl, tt)
none_at state worker actor (points.Unpin slot next) observation after = (refl, tt)
none_at state worker actor (points.FreeSlot slot next) observation after = (refl, tt)
none_at state worker actor (points.LowerDoor next) observation after = (refl, tt)
none_at state worker actor point observation after = tt

none_told : (state : State) (worker : ℕ) (actor : ActorState) (observation : Observation) → AreNoSeals (moves_told state worker actor observation)
none_told state worker actor observation =
    and_more (moves_at state worker actor actor.point observation (next_of state worker actor observation).point) (next_of state worker actor observation)
    (none_at state worker actor actor.point observation (next_of state worker actor observation).point)

-- what holds of everything that may follow a step holds of what follows it
either : (test : Bool) (one two : List Move) → AreNoSeals one → AreNoSeals two → AreNoSeals (cond test one two)
either true one two here there = here
either false one two here there = there

follows_change : (gives : Cells → Observation → List Move) → ((cells : Cells) (observation : Observation) → AreNoSeals (gives cells observation)) → (shape : Shape) (kind : Kind) (at : At) (from to : Val at) (cells : Cells)
    → AreNoSeals (changed shape kind at from to cells gives)
follows_change gives all Exchange kind at from to cells = either (pack at (read cells at) == pack at from) (gives (write cells at to) Won) (gives cells Lost) (all (write cells at to) Won) (all cells Lost)
follows_change gives all Store kind at from to cells = all (write cells at to) Won
follows_change gives all Fetch kind at from to cells = all (write cells at (fetched kind at (read cells at))) (seen at (read cells at))

follows : (gives : Cells → Observation → List Move) → ((cells : Cells) (observation : Observation) → AreNoSeals (gives cells observation)) → (step : Step) (cells : Cells) → AreNoSeals (done step cells gives)
follows gives all (Load at) cells = all cells (seen at (read cells at))
follows gives all (Change kind at from to) cells = follows_change gives all (shape_of kind) kind at from to cells
follows gives all (File call slot) cells = all cells Won

pub turns_keep_values : TurnsKeepValues
turns_keep_values config state next worker actor tenant address is came guards memory =
    ap (λ (cells : Cells). logical cells tenant address) (turns_are_moves config state next worker actor is came).cells
    ∙ all_keep config state worker (moves_of_turn state worker actor) tenant address
    (follows (λ (cells : Cells) (observation : Observation). moves_told state worker actor observation) (λ cells observation. none_told state worker actor observation) (asks actor) state.cells) guards memory
