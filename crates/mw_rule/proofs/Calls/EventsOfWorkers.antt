-- A proof rule: what each kind of update of a world keeps, each event of a worker keeps. Used by: mw_law_threads.
use Rattle.std.specs.Prelude.{ℕ, ◌≡◌, ◌&&◌, ◌==◌, Bool, true, false, not, cond, if◌then◌else◌, is_some, Option, Some, None}
use Rattle.std.proofs.Common.{subst}
use Rattle.std.proofs.lemmas.Option.{none-some, same_Some}
use Rattle.mw_words.specs.declared.places.At.{At}
use Rattle.mw_words.specs.declared.replies.Reply.{Reply}
use Rattle.mw_words.specs.declared.jobs.Job.{Job}
use Rattle.mw_look.specs.declared.observations.Observation.{Observation}
use Rattle.mw_look.specs.declared.observations.Observation.TheVariants.{Won, Lost}
use Rattle.mw_look.specs.declared.steps.Kind.{Kind}
use Rattle.mw_look.specs.Places.{Val, pack}
use Rattle.mw_look.specs.Steps.{Step, Load, Change, File as FileStep}
use Rattle.mw_actor.specs.ActorState.{ActorState}
use Rattle.mw_actor.specs.Asks.{asks}
use Rattle.mw_actor.specs.Program.{replied}
use Rattle.mw_world.specs.declared.outcomes.Outcome.{Outcome}
use Rattle.mw_world.specs.declared.config.Config.{Config}
use Rattle.mw_world.specs.Definition.Calls.{Called, call, call_if, called_at, calling, moved_if}
use Rattle.mw_world.specs.Definition.Cells.{Cells, read, write}
use Rattle.mw_look.specs.declared.steps.Shape.{Shape}
use Rattle.mw_look.specs.declared.steps.Shape.TheVariants.{Exchange, Store, Fetch}
use Rattle.mw_look.specs.Shapes.{shape_of}
use Rattle.mw_world.specs.Definition.Changes.{fetched, changed, done}
use Rattle.mw_world.specs.Definition.Extent.{has_slot}
use Rattle.mw_world.specs.Definition.Requests.{came, gave}
use Rattle.mw_world.specs.Definition.State.{State}
use Rattle.mw_world.specs.Definition.Turns.{Made, made_of, may_make, moved, turn, turned}
use Rattle.mw_world.specs.Definition.World.{come, hand, handed, may_come}

-- the world that a test allows
pub let_there : {A : Type 0} → (test : Bool) (one next : A) → (if test then Some one else None) ≡ Some next → one ≡ next
let_there true one next is = same_Some one next is
let_there false one next is = absurd (none-some next is)

-- what is so of all ends of a step is so of the step
module _ {A : Type 0} (P : A → Type 0) (on : Cells → Observation → A) (all : (after : Cells) (observation : Observation) → P (on after observation)) where
  chosen : (test : Bool) (one other : A) → P one → P other → P (cond test one other)
  chosen true one other is isnt = is
  chosen false one other is isnt = isnt

  after_change : (shape : Shape) (kind : Kind) (at : At) (from to : Val at) (cells : Cells) → P (changed shape kind at from to cells on)
  after_change Exchange kind at from to cells =
      chosen (pack at (read cells at) == pack at from) (on (write cells at to) Won) (on cells Lost) (all (write cells at to) Won) (all cells Lost)
  after_change Store kind at from to cells = all (write cells at to) Won
  after_change Fetch kind at from to cells = all (write cells at (fetched kind at (read cells at))) _

  pub after_step : (asked : Step) (cells : Cells) → P (done asked cells on)
  after_step (Load at) cells = all cells _
  after_step (Change kind at from to) cells = after_change (shape_of kind) kind at from to cells
  after_step (FileStep called slot) cells = all cells _

module _ (config : Config) (state next : State) (worker : ℕ) where
  pub come_leads : (tenant : ℕ) (job : Job) → come config state worker tenant job ≡ Some next → came config state worker tenant job ≡ next
  come_leads tenant job is = let_there (may_come config state worker tenant job) (came config state worker tenant job) next is

  -- the world after a step of a request is `moved`, with what one end of the step makes
  pub turn_leads : (P : State → Type 0) → ((actor : ActorState) (cells : Cells) (observation : Observation) → (state.worker_states worker).actor ≡ Some actor → P (moved state worker actor (made_of state worker actor cells observation)))
      → (found : Option ActorState) → (state.worker_states worker).actor ≡ found → turn config state worker found ≡ Some next → P next
  turn_leads P all None sits is = absurd (none-some next is)
  turn_leads P all (Some actor) sits is =
      subst P (let_there (not (is_some (replied actor)) && may_make config (asks actor)) (turned state worker actor) next is)
      (after_step P (λ cells observation. moved state worker actor (made_of state worker actor cells observation)) (λ cells observation. all actor cells observation sits) (asks actor) state.cells)

  in_slot : (test : Bool) (one : Option State) → (if test then one else None) ≡ Some next → one ≡ Some next
  in_slot true one is = is
  in_slot false one is = absurd (none-some next is)

  by_made : (P : State → Type 0) (actor : ActorState) → ((made : Made) → P (moved state worker actor made)) → (found : Option Made) → moved_if state worker actor found ≡ Some next → P next
  by_made P actor all None is = absurd (none-some next is)
  by_made P actor all (Some made) is = subst P (same_Some (moved state worker actor made) next is) (all made)

  by_called : (P : State → Type 0) (actor : ActorState) → ((made : Made) → P (moved state worker actor made)) → (outcome : Outcome) (found : Option Called)
      → call_if config state worker actor found outcome ≡ Some next → P next
  by_called P actor all outcome None is = absurd (none-some next is)
  by_called P actor all outcome (Some called) is =
      by_made P actor all (calling config state actor called outcome)
      (in_slot (has_slot config called.change.slot) (moved_if state worker actor (calling config state actor called outcome)) is)

  -- the world after a call is `moved`, with what the call makes
  pub call_leads : (P : State → Type 0) → ((actor : ActorState) (made : Made) → (state.worker_states worker).actor ≡ Some actor → P (moved state worker actor made))
      → (outcome : Outcome) (found : Option ActorState) → (state.worker_states worker).actor ≡ found → call config state worker found outcome ≡ Some next → P next
  call_leads P all outcome None sits is = absurd (none-some next is)
  call_leads P all outcome (Some actor) sits is = by_called P actor (λ made. all actor made sits) outcome (called_at actor.point) is

  by_reply : (P : State → Type 0) (tenant : ℕ) → P (gave state worker tenant) → (found : Option Reply) → handed state worker tenant found ≡ Some next → P next
  by_reply P tenant there None is = absurd (none-some next is)
  by_reply P tenant there (Some reply) is = subst P (same_Some (gave state worker tenant) next is) there

  -- the world after a reply is handed out is `gave`
  pub hand_leads : (P : State → Type 0) → ((actor : ActorState) → (state.worker_states worker).actor ≡ Some actor → P (gave state worker actor.tenant)) → (found : Option ActorState) → (state.worker_states worker).actor ≡ found
      → hand state worker found ≡ Some next → P next
  hand_leads P all None sits is = absurd (none-some next is)
  hand_leads P all (Some actor) sits is = by_reply P actor.tenant (all actor sits) (replied actor) is
