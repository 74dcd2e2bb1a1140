-- A step of a request is a change of the shared words, and then an addition to the history (its label). It can be made in
-- bits exactly if the step can.
-- Used by: World::turn, World::go_on, World::tell_file.
use Rattle.std.specs.Prelude.{ℕ, ◌≡◌, ◌==◌, ◌&&◌, Bool, true, false, not, cond, ◌<◌, if◌then◌else◌, is_some, length, slice_index_or, Option, Some, None}
use Rattle.std.proofs.Common.{refl, sym, ap, subst, ◌∙◌}
use Rattle.mw_words.specs.declared.places.At.{At}
use Rattle.mw_look.specs.declared.steps.Kind.{Kind}
use Rattle.mw_look.specs.declared.steps.Op.{Op}
use Rattle.mw_look.specs.declared.observations.Observation.{Observation}
use Rattle.mw_look.specs.declared.observations.Observation.TheVariants.{Won, Lost}
use Rattle.mw_look.specs.declared.observations.Got.{Got}
use Rattle.mw_look.specs.Observations.{observation_of}
use Rattle.mw_look.specs.Places.{Val, pack}
use Rattle.mw_look.specs.Steps.{Step, Load, Change, File, op_of, place, place_of}
use Rattle.mw_actor.specs.declared.points.Point.{Point}
use Rattle.mw_actor.specs.ActorState.{ActorState}
use Rattle.mw_actor.specs.Asks.{asks}
use Rattle.mw_actor.specs.Program.{replied, tells}
use Rattle.mw_world.specs.declared.config.Config.{Config}
use Rattle.mw_world.specs.declared.step_labels.StepLabel.{StepLabel}
use Rattle.mw_world.specs.Definition.Cells.{Cells, read, write}
use Rattle.mw_look.specs.declared.steps.Shape.{Shape}
use Rattle.mw_look.specs.declared.steps.Shape.TheVariants.{Exchange, Store, Fetch}
use Rattle.mw_look.specs.Shapes.{shape_of}
use Rattle.mw_world.specs.Definition.Changes.{changed, done}
use Rattle.mw_world.specs.Definition.StepLabels.{label_of}
use Rattle.mw_world.specs.Definition.State.{State}
use Rattle.mw_world.specs.Definition.Turns.{may_make, turn, turned, moved, made_of}
use Rattle.mw_world_memory.specs.declared.workers.WorkerState.{WorkerState as WorkerStateInMemory}
use Rattle.mw_simulator.specs.declared.world.World.{World}
use Rattle.mw_world_memory.specs.BitPlaces.{HasPlacesOf}
use Rattle.mw_world_memory.specs.Bits.{Bits}
use Rattle.mw_world_memory.specs.StepsInBits.{is_step_there, cells_after, observation_after}
use Rattle.mw_simulator.specs.Representation.{Represents}
use Rattle.mw_simulator.specs.StepParts.{with_cells, entered, attempt_after, told, meaning}
use Rattle.mw_simulator.proofs.WorldAfterStep.{element}

-- what follows a change, by the words that it leaves and what the request is told
changed_is : {A : Type 0} (shape : Shape) (kind : Kind) (at : At) (from to : Val at) (cells : Cells) (rest : Cells → Observation → A)
    → changed shape kind at from to cells rest ≡ rest (changed shape kind at from to cells (λ after observation. after)) (changed shape kind at from to cells (λ after observation. observation))
changed_is {A} Exchange kind at from to cells rest = by (pack at (read cells at) == pack at from)
  where
    by : (wins : Bool) → cond wins (rest (write cells at to) Won) (rest cells Lost) ≡ rest (cond wins (write cells at to) cells) (cond wins Won Lost)
    by true = refl
    by false = refl
changed_is Store kind at from to cells rest = refl
changed_is Fetch kind at from to cells rest = refl

-- what follows any step, by the same
done_is : {A : Type 0} (step : Step) (cells : Cells) (rest : Cells → Observation → A) → done step cells rest ≡ rest (cells_after step cells) (observation_after step cells)
done_is (Load at) cells rest = refl
done_is (Change kind at from to) cells rest = changed_is (shape_of kind) kind at from to cells rest
done_is (File call slot) cells rest = refl

moved_is : (state : State) (worker : ℕ) (actor : ActorState) (cells : Cells) (observation : Observation)
    → moved state worker actor (made_of state worker actor cells observation) ≡ told (with_cells state cells) worker actor observation (meaning (with_cells state cells) worker actor observation)
moved_is state worker actor cells observation = refl

-- the world after a step is that of its two parts
pub turned_is : (state : State) (worker : ℕ) (actor : ActorState) (stand : Cells) (observation : Observation) → stand ≡ cells_after (asks actor) state.cells → observation ≡ observation_after (asks actor) state.cells
    → told (with_cells state stand) worker actor observation (meaning (with_cells state stand) worker actor observation) ≡ turned state worker actor
turned_is state worker actor stand observation is_stand is_observation =
    sym (moved_is state worker actor stand observation)
    ∙ ap (λ cells. moved state worker actor (made_of state worker actor cells observation)) is_stand
    ∙ ap (λ n. moved state worker actor (made_of state worker actor (cells_after (asks actor) state.cells) n)) is_observation
    ∙ sym (done_is (asks actor) state.cells (λ cells n. moved state worker actor (made_of state worker actor cells n)))

-- the place of a step in bits
pub place_is : (step : Step) → place_of (op_of step) ≡ place step
place_is (Load at) = refl
place_is (Change kind at from to) = refl
place_is (File call slot) = refl

-- a step in bits can be made if, and only if, the step can
pub may_make_is : (config : Config) (bits : Bits) (step : Step) → HasPlacesOf config bits → is_step_there (op_of step) bits ≡ may_make config step
may_make_is config bits (Load at) has = has at
may_make_is config bits (Change kind at from to) has = has at
may_make_is config bits (File call slot) has = refl

pub made_there : (config : Config) (old bits : Bits) (op : Op) (step : Step) (there : Bool) → HasPlacesOf config old → bits ≡ old → op ≡ op_of step → there ≡ is_step_there op bits → may_make config step ≡ there
made_there config old bits op step there has same is tells =
    sym (may_make_is config old step has) ∙ ap (λ (b : Bits). is_step_there (op_of step) b) (sym same) ∙ ap (λ (o : Op). is_step_there o bits) (sym is) ∙ sym tells

-- a copy of a request that was told what its step found
pub told_copy : (actor copy next : ActorState) (at : At) (got : Got) (attempt : ℕ) → copy ≡ actor → at ≡ place (asks actor) → next ≡ tells copy (observation_of (place (asks copy)) got) attempt
    → next ≡ tells actor (observation_of at got) attempt
told_copy actor copy next at got attempt same here is =
    is ∙ ap (λ a. tells a (observation_of (place (asks a)) got) attempt) same ∙ ap (λ p. tells actor (observation_of p got) attempt) (sym here)

-- the number of a worker's next attempt
pub attempt_at : (world : World) (state : State) (place worker : ℕ) (worker_state : WorkerStateInMemory) → Represents world state → place ≡ worker → worker < length world.worker_states.items → worker_state ≡ slice_index_or world.worker_states.items place worker_state
    → worker_state.attempt ≡ (state.worker_states worker).attempt
attempt_at world state place worker worker_state shows at there is =
    ap (λ s. s.attempt) (shows.worker_states worker worker_state (element world.worker_states.items worker worker_state there (subst (λ i. worker_state ≡ slice_index_or world.worker_states.items i worker_state) at is)))

-- the world after a request was told what its step found, and after its label
pub told_with : (new : World) (state : State) (worker : ℕ) (actor next : ActorState) (observation : Observation) (label means : StepLabel) (attempt : ℕ) → attempt ≡ attempt_after state worker actor
    → next ≡ tells actor observation attempt → label ≡ means
    → Represents new (entered state worker actor next label attempt) → Represents new (told state worker actor observation means)
told_with new state worker actor next observation label means attempt is_attempt is_next is_label shows =
    let number : ℕ = attempt_after state worker actor in
    let same : next ≡ tells actor observation number = is_next ∙ ap (λ n. tells actor observation n) is_attempt in
    subst (λ s. Represents new s)
    (ap (λ n. entered state worker actor next label n) is_attempt ∙ ap (λ a. entered state worker actor a label number) same
    ∙ ap (λ m. entered state worker actor (tells actor observation number) m number) is_label)
    shows

-- the label of a step, by what the request was told and the point after it
pub meant : (actor : ActorState) (observation said : Observation) (after point : Point) (label : StepLabel) → label ≡ label_of actor actor.point said point → said ≡ observation → point ≡ after
    → label ≡ label_of actor actor.point observation after
meant actor observation said after point label is same there =
    subst (λ n. label ≡ label_of actor actor.point n after) same (subst (λ p. label ≡ label_of actor actor.point said p) there is)

pub told_so : (new : World) (state : State) (worker : ℕ) (actor next : ActorState) (observation : Observation) (label : StepLabel) (attempt : ℕ) → attempt ≡ attempt_after state worker actor
    → next ≡ tells actor observation attempt → label ≡ label_of actor actor.point observation next.point
    → Represents new (entered state worker actor next label attempt) → Represents new (told state worker actor observation (meaning state worker actor observation))
told_so new state worker actor next observation label attempt is_attempt is_next is_label shows =
    let same : next ≡ tells actor observation (attempt_after state worker actor) = is_next ∙ ap (λ n. tells actor observation n) is_attempt in
    told_with new state worker actor next observation label (meaning state worker actor observation) attempt is_attempt is_next (is_label ∙ ap (λ (a : ActorState). label_of actor actor.point observation a.point) same) shows

-- whether a request makes its next step
refused_there : {A : Type 0} (a b : Bool) (x : A) → b ≡ false → (if not a && b then Some x else None) ≡ None
refused_there true b x is = refl
refused_there false true x is = absurd (cc)
refused_there false false x is = refl

allowed : {A : Type 0} (a b : Bool) (x : A) → a ≡ false → b ≡ true → (if not a && b then Some x else None) ≡ Some x
allowed true b x is there = absurd (cc)
allowed false true x is there = refl
allowed false false x is there = absurd (cc)

module _ (config : Config) (state : State) (worker : ℕ) (actor : ActorState) (request : Option ActorState) (is : Some actor ≡ request) where
  pub no_such_place : may_make config (asks actor) ≡ false → turn config state worker request ≡ None
  no_such_place has = subst (λ r. turn config state worker r ≡ None) is (refused_there (is_some (replied actor)) (may_make config (asks actor)) (turned state worker actor) has)

  pub turns : is_some (replied actor) ≡ false → may_make config (asks actor) ≡ true → turn config state worker request ≡ Some (turned state worker actor)
  turns none there = subst (λ r. turn config state worker r ≡ Some (turned state worker actor)) is (allowed (is_some (replied actor)) (may_make config (asks actor)) (turned state worker actor) none there)
