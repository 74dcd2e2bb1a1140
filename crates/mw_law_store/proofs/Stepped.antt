-- What a request's step leaves of gates and doors, and so which slots are taken and how many each door counts.
-- Used by: Turned, TakenSlots.
use Rattle.std.specs.Prelude.{ℕ, ◌≡◌, ◌⊎◌, ◌==◌, ◌&&◌, not, true, is_some, Some}
use Rattle.std.proofs.Common.{refl, sym, ap, ◌∙◌, inl, inr}
use Rattle.std.proofs.lemmas.Bool.{cases_eq}
use Rattle.mw_words.specs.declared.gates.Gate.{Gate}
use Rattle.mw_words.specs.declared.places.At.{At}
use Rattle.mw_words.specs.declared.places.At.TheVariants.{Door as AtDoor, Gate as AtGate, Row as AtRow, Data, Status as AtStatus, Count, Addr, Expected, New}
use Rattle.mw_look.proofs.RangeLaws.{either_way}
use Rattle.mw_look.specs.declared.observations.Observation.{Observation}
use Rattle.mw_look.specs.declared.observations.Observation.TheVariants.{Won, Lost}
use Rattle.mw_look.specs.declared.steps.Kind.{Kind}
use Rattle.mw_look.specs.Places.{Val, pack}
use Rattle.mw_look.specs.Steps.{Step, Load, Change, File as FileStep}
use Rattle.mw_actor.specs.ActorState.{ActorState}
use Rattle.mw_actor.specs.Asks.{asks}
use Rattle.mw_actor.specs.Program.{replied}
use Rattle.mw_world.specs.Maps.{upd}
use Rattle.mw_world.specs.declared.config.Config.{Config}
use Rattle.mw_world.specs.Definition.Cells.{Cells, read, write}
use Rattle.mw_look.specs.declared.steps.Shape.{Shape}
use Rattle.mw_look.specs.declared.steps.Shape.TheVariants.{Exchange, Store, Fetch}
use Rattle.mw_look.specs.Shapes.{shape_of}
use Rattle.mw_world.specs.Definition.Changes.{changed, done, fetched}
use Rattle.mw_world.specs.Definition.State.{State}
use Rattle.mw_world.specs.Definition.Turns.{turn, turned, may_make, moved, made_of}
use Rattle.mw_law_runs.specs.Knowledge.Informed.{IsInformed}
use Rattle.mw_law_runs.proofs.Knowledge.Updates.Preservation.{upd_here, upd_else}
use Rattle.mw_law_runs.proofs.StepEnds.{Ends, IsNoCall, ends_so}
use Rattle.mw_law_runs.proofs.ExpectedInRange.{expects_in_range}
use Rattle.mw_law_runs.proofs.GuardedEvents.{guarded, second_holds}
use Rattle.mw_law_store.specs.Refinement.{is_live}

-- What a step leaves of the shared words, by what the request observes.
abbrev pub LeftBy : Shape → Kind → (at : At) → Val at → Cells → Observation → Cells → Type 0
LeftBy Exchange kind at to old observation new = ((observation ≡ Won) × (new ≡ write old at to)) ⊎ ((observation ≡ Lost) × (new ≡ old))
LeftBy Store kind at to old observation new = new ≡ write old at to
LeftBy Fetch kind at to old observation new = new ≡ write old at (fetched kind at (read old at))

abbrev pub Left : Step → Cells → Observation → Cells → Type 0
Left (Load at) old observation new = new ≡ old
Left (Change kind at from to) old observation new = LeftBy (shape_of kind) kind at to old observation new
Left (FileStep call slot) old observation new = ⊥

-- the shared words after a step, and what is observed
abbrev pub found_by : Step → Cells → Cells × Observation
found_by step cells = done {A = Cells × Observation} step cells (λ after observation. (after, observation))

left_change : (shape : Shape) (kind : Kind) (at : At) (from to : Val at) (cells : Cells) → let pair = changed {A = Cells × Observation} shape kind at from to cells (λ after observation. (after, observation)) in LeftBy shape kind at to cells pair.1 pair.0
left_change Exchange kind at from to cells =
    either_way (λ (pair : Cells × Observation). LeftBy Exchange kind at to cells pair.1 pair.0) (pack at (read cells at) == pack at from) (write cells at to, Won) (cells, Lost) (λ e. inl (refl, refl)) (λ e. inr (refl, refl))
left_change Store kind at from to cells = refl
left_change Fetch kind at from to cells = refl

left_so : (step : Step) (cells : Cells) → IsNoCall step → Left step cells (found_by step cells).1 (found_by step cells).0
left_so (Load at) cells no_call = refl
left_so (Change kind at from to) cells no_call = left_change (shape_of kind) kind at from to cells
left_so (FileStep call slot) cells no_call = absurd no_call

-- A step of a request that is not a call: the shared words after it, what the request observes, and the world after it.
pub record Stepped (state next : State) (actor : ActorState) : Type 0 where
  pub cells : Cells
  pub observation : Observation
  pub ends : Ends state.cells (asks actor) observation
  pub left : Left (asks actor) state.cells observation cells
  pub is : next ≡ moved state actor.worker actor (made_of state actor.worker actor cells observation)

no_call : (config : Config) (step : Step) → may_make config step ≡ true → IsNoCall step
no_call config (Load at) may = tt
no_call config (Change kind at from to) may = tt
no_call config (FileStep call slot) may = cc

pub stepped : (config : Config) (state next : State) (actor : ActorState) → IsInformed config state actor → turn config state actor.worker (Some actor) ≡ Some next → Stepped state next actor
stepped config state next actor informed is =
    guarded (λ (after : State). Stepped state after actor) (not (is_some (replied actor)) && may_make config (asks actor)) (turned state actor.worker actor) next
    (λ may. from (no_call config (asks actor) (second_holds (not (is_some (replied actor))) (may_make config (asks actor)) may))) is
  where
    from : IsNoCall (asks actor) → Stepped state (turned state actor.worker actor) actor
    from none =
        let both = ends_so (λ (pair : Cells × Observation) (after : State). Ends state.cells (asks actor) pair.1 × (after ≡ moved state actor.worker actor (made_of state actor.worker actor pair.0 pair.1)))
        (λ cells observation. (cells, observation)) (λ (cells : Cells) (observation : Observation). moved state actor.worker actor (made_of state actor.worker actor cells observation)) state.cells informed.memory.fits (asks actor)
        none (expects_in_range config state actor informed) (λ cells observation ends. (ends, refl)) in
        record { cells = (found_by (asks actor) state.cells).0; observation = (found_by (asks actor) state.cells).1; ends = both.0; left = left_so (asks actor) state.cells none; is = both.1 }

-- A step that is at no gate leaves gates, and one that is at no door leaves doors.
abbrev pub IsAtNoGate : At → Type 0
IsAtNoGate (AtGate slot) = ⊥
IsAtNoGate at = Unit {0}

abbrev pub IsAtNoDoor : At → Type 0
IsAtNoDoor (AtDoor tenant) = ⊥
IsAtNoDoor at = Unit {0}

abbrev pub LeavesGates : Step → Type 0
LeavesGates (Change kind at from to) = IsAtNoGate at
LeavesGates step = Unit {0}

abbrev pub LeavesDoors : Step → Type 0
LeavesDoors (Change kind at from to) = IsAtNoDoor at
LeavesDoors step = Unit {0}

write_gates : (cells : Cells) (at : At) (to : Val at) → IsAtNoGate at → (write cells at to).gates ≡ cells.gates
write_gates cells (AtDoor tenant) to away = refl
write_gates cells (AtGate slot) to away = absurd away
write_gates cells (AtRow worker) to away = refl
write_gates cells (Data tenant address) to away = refl
write_gates cells (AtStatus slot) to away = refl
write_gates cells (Count slot) to away = refl
write_gates cells (Addr slot entry) to away = refl
write_gates cells (Expected slot entry) to away = refl
write_gates cells (New slot entry) to away = refl

write_doors : (cells : Cells) (at : At) (to : Val at) → IsAtNoDoor at → (write cells at to).doors ≡ cells.doors
write_doors cells (AtDoor tenant) to away = absurd away
write_doors cells (AtGate slot) to away = refl
write_doors cells (AtRow worker) to away = refl
write_doors cells (Data tenant address) to away = refl
write_doors cells (AtStatus slot) to away = refl
write_doors cells (Count slot) to away = refl
write_doors cells (Addr slot entry) to away = refl
write_doors cells (Expected slot entry) to away = refl
write_doors cells (New slot entry) to away = refl

module _ {A : Type 0} (part : Cells → A) (old new : Cells) (observation : Observation) where
  part_by : (shape : Shape) (kind : Kind) (at : At) (to : Val at) → ((x : Val at) → part (write old at x) ≡ part old) → LeftBy shape kind at to old observation new → part new ≡ part old
  part_by Exchange kind at to same (inl won) = ap part won.1 ∙ same to
  part_by Exchange kind at to same (inr lost) = ap part lost.1
  part_by Store kind at to same left = ap part left ∙ same to
  part_by Fetch kind at to same left = ap part left ∙ same (fetched kind at (read old at))

pub same_gates : (step : Step) (old new : Cells) (observation : Observation) → LeavesGates step → Left step old observation new → new.gates ≡ old.gates
same_gates (Load at) old new observation leaves left = ap (λ (cells : Cells). cells.gates) left
same_gates (Change kind at from to) old new observation leaves left = part_by (λ (cells : Cells). cells.gates) old new observation (shape_of kind) kind at to (λ x. write_gates old at x leaves) left
same_gates (FileStep call slot) old new observation leaves left = absurd left

pub same_doors : (step : Step) (old new : Cells) (observation : Observation) → LeavesDoors step → Left step old observation new → new.doors ≡ old.doors
same_doors (Load at) old new observation leaves left = ap (λ (cells : Cells). cells.doors) left
same_doors (Change kind at from to) old new observation leaves left = part_by (λ (cells : Cells). cells.doors) old new observation (shape_of kind) kind at to (λ x. write_doors old at x leaves) left
same_doors (FileStep call slot) old new observation leaves left = absurd left

-- slots are taken as before if gates are the same, or if one gate is set that is taken only if it was taken under the same number
pub live_same : (old new : Cells) → new.gates ≡ old.gates → (slot seq : ℕ) → is_live new slot seq → is_live old slot seq
live_same old new same slot seq lives = (ap (λ (gates : ℕ → Gate). (gates slot).taken) (sym same) ∙ lives.0, ap (λ (gates : ℕ → Gate). (gates slot).seq) (sym same) ∙ lives.1)

pub live_set : (old new : Cells) (place : ℕ) (gate : Gate) → new ≡ write old (AtGate place) gate → (gate.taken ≡ true → ((old.gates place).taken ≡ true) × ((old.gates place).seq ≡ gate.seq))
    → (slot seq : ℕ) → is_live new slot seq → is_live old slot seq
live_set old new place gate is as_it_was slot seq lives = elim (cases_eq slot place) [
  | inl same ↦ here same
  | inr other ↦
      let set = ap (λ (cells : Cells). cells.gates slot) is ∙ upd_else old.gates place slot gate other in
      (ap (λ (g : Gate). g.taken) (sym set) ∙ lives.0, ap (λ (g : Gate). g.seq) (sym set) ∙ lives.1)
]
  where
    here : slot ≡ place → is_live old slot seq
    here same =
        let set = ap (λ (cells : Cells). cells.gates slot) is ∙ ap (upd old.gates place gate) same ∙ upd_here old.gates place gate in
        let was = as_it_was (ap (λ (g : Gate). g.taken) (sym set) ∙ lives.0) in
        (ap (λ (n : ℕ). (old.gates n).taken) same ∙ was.0, ap (λ (n : ℕ). (old.gates n).seq) same ∙ was.1 ∙ ap (λ (g : Gate). g.seq) (sym set) ∙ lives.1)
