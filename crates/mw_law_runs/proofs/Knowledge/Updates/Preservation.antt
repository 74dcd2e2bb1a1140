-- A step of any worker keeps what a request knows, if it keeps the request's pinned slots and the request's own (`KeepsOwn`).
-- Used by: mw_law_store, mw_rule, mw_law_threads.
use Rattle.std.specs.Prelude.{ℕ, ◌≡◌, ◌≢◌, ◌≤◌, ◌+◌, Bool, true}
use Rattle.std.proofs.Common.{ap, ◌∙◌, arith}
use Rattle.std.proofs.lemmas.Bool.Decides.{nat_tests}
use Rattle.mw_words.specs.declared.gates.Gate.{Gate}
use Rattle.mw_words.specs.declared.rows.Row.{Row}
use Rattle.mw_words.specs.declared.statuses.Status.{Status}
use Rattle.mw_words.specs.declared.statuses.Status.TheVariants.{Draft}
use Rattle.mw_look.specs.declared.observations.Observation.{Observation}
use Rattle.mw_actor.specs.declared.points.Slot.{Slot}
use Rattle.mw_actor.specs.ActorState.{ActorState}
use Rattle.mw_world.specs.Maps.{upd, upd_two, upd_three}
use Rattle.mw_world.specs.declared.config.Config.{Config}
use Rattle.mw_world.specs.Definition.Counts.{pins_held, frees_at}
use Rattle.mw_world.specs.Definition.State.{State}
use Rattle.mw_law_runs.specs.Moves.Guards.{Guards, IsLive}
use Rattle.mw_law_runs.specs.Moves.Memory.{Memory}
use Rattle.mw_law_runs.specs.Moves.Rely.{Rely}
use Rattle.mw_law_runs.specs.Moves.StepMoves.{moves_told}
use Rattle.mw_law_runs.proofs.Moves.MovesKeepMemory.{moves_keep}
use Rattle.mw_law_runs.proofs.Moves.Relied.{others_rely_on_all}
use Rattle.mw_law_runs.specs.Knowledge.OwnKnowledge.{KeepsOwn}
use Rattle.mw_law_runs.specs.Knowledge.Laws.{StaysTaken}
use Rattle.mw_law_runs.specs.Knowledge.Points.{without_point}
use Rattle.mw_law_runs.specs.Knowledge.NextState.{KnowsItsPoint, world_told}
use Rattle.mw_law_runs.proofs.Knowledge.LiveSlots.{live_slots_stay}
use Rattle.mw_law_runs.proofs.Knowledge.Stability.{facts_stay}

-- maps that were set at one place
pub upd_here : {A : Type 0} (f : ℕ → A) (i : ℕ) (x : A) → upd f i x i ≡ x
upd_here f i x = grind (arith, nat_tests)

pub upd_else : {A : Type 0} (f : ℕ → A) (i k : ℕ) (x : A) → k ≢ i → upd f i x k ≡ f k
upd_else f i k x apart = grind (arith, nat_tests, apart)

pub upd_two_here : {A : Type 0} (f : ℕ → ℕ → A) (i j : ℕ) (x : A) → upd_two f i j x i j ≡ x
upd_two_here f i j x = grind (arith, nat_tests)

pub upd_two_next : {A : Type 0} (f : ℕ → ℕ → A) (i j l : ℕ) (x : A) → l ≢ j → upd_two f i j x i l ≡ f i l
upd_two_next f i j l x apart = grind (arith, nat_tests, apart)

pub upd_two_else : {A : Type 0} (f : ℕ → ℕ → A) (i j k l : ℕ) (x : A) → k ≢ i → upd_two f i j x k l ≡ f k l
upd_two_else f i j k l x apart = grind (arith, nat_tests, apart)

pub upd_three_here : {A : Type 0} (f : ℕ → ℕ → ℕ → A) (i j m : ℕ) (x : A) → upd_three f i j m x i j m ≡ x
upd_three_here f i j m x = grind (arith, nat_tests)

-- the facts of a request at its point hold after a step of any worker that keeps what is the request's own
pub carries_on : (by : ℕ) (old new : State) → Rely by old new → (next : ActorState) → KeepsOwn old new (without_point next)
    → ((slot : ℕ) → 1 ≤ pins_held slot next.point + frees_at slot next.point → StaysTaken old new slot) → KnowsItsPoint old next → KnowsItsPoint new next
carries_on by old new later next keeps stays stands =
    let live = live_slots_stay old new next.point stays stands.live in
    record { live = live; knows = facts_stay by old new next next.point later keeps stands.live live stands.knows }

module _ (config : Config) (state : State) (actor : ActorState) (observation : Observation) (memory : Memory config state)
    (guards : Guards config state actor.worker (moves_told state actor.worker actor observation)) where
  pub later_then : Rely actor.worker state (world_told state actor observation)
  later_then = others_rely_on_all config state actor.worker (moves_told state actor.worker actor observation) guards memory

  pub memory_then : Memory config (world_told state actor observation)
  memory_then = moves_keep config state actor.worker (moves_told state actor.worker actor observation) guards memory

  -- the request goes on to a point whose facts it knew before the step
  pub carries : (next : ActorState) → KeepsOwn state (world_told state actor observation) (without_point next)
      → ((slot : ℕ) → 1 ≤ pins_held slot next.point + frees_at slot next.point → StaysTaken state (world_told state actor observation) slot)
      → KnowsItsPoint state next → KnowsItsPoint (world_told state actor observation) next
  carries next keeps stays stands = carries_on actor.worker state (world_told state actor observation) later_then next keeps stays stands

module _ (old new : State) (actor : ActorState) where
  -- nothing changes that is a request's own
  pub keeps_all : new.history.stays ≡ old.history.stays → new.history.fate ≡ old.history.fate → new.cells.statuses ≡ old.cells.statuses → new.cells.counts ≡ old.cells.counts
      → new.cells.addrs ≡ old.cells.addrs → new.cells.expecteds ≡ old.cells.expecteds → new.cells.new_values ≡ old.cells.new_values
      → (new.worker_states actor.worker).attempt ≡ (old.worker_states actor.worker).attempt → new.cells.rows ≡ old.cells.rows → KeepsOwn old new actor
  keeps_all stays fate statuses counts addrs expecteds new_values attempt rows = record {
    pins = λ own is. ap (λ (f : ℕ → ℕ → Bool). f own.slot own.seq) stays;
    drafts = λ own is. ap (λ (f : ℕ → ℕ → Status). f own.slot own.seq) fate ∙ is.draft;
    filled = λ own is live still. record {
      status = ap (λ (f : ℕ → Status). f own.slot) statuses;
      count = ap (λ (f : ℕ → ℕ). f own.slot) counts;
      addrs = λ index. ap (λ (f : ℕ → ℕ → ℕ). f own.slot index) addrs;
      expecteds = λ index. ap (λ (f : ℕ → ℕ → ℕ). f own.slot index) expecteds;
      new_values = λ index. ap (λ (f : ℕ → ℕ → ℕ). f own.slot index) new_values;
    };
    attempt = attempt;
    row = ap (λ (f : ℕ → Row). f actor.worker) rows;
  }

  -- a change that is no draft has another status
  pub keeps_but_status : (target : Slot) (status : Status) → IsLive old target → old.history.fate target.slot target.seq ≢ Draft
      → new.history.stays ≡ old.history.stays → new.history.fate ≡ upd_two old.history.fate target.slot target.seq status → new.cells.statuses ≡ upd old.cells.statuses target.slot status
      → new.cells.counts ≡ old.cells.counts → new.cells.addrs ≡ old.cells.addrs → new.cells.expecteds ≡ old.cells.expecteds → new.cells.new_values ≡ old.cells.new_values
      → (new.worker_states actor.worker).attempt ≡ (old.worker_states actor.worker).attempt → new.cells.rows ≡ old.cells.rows → KeepsOwn old new actor
  keeps_but_status target status live ready stays fate statuses counts addrs expecteds new_values attempt rows = record {
    pins = λ own is. ap (λ (f : ℕ → ℕ → Bool). f own.slot own.seq) stays;
    drafts = λ own is. grind (arith, nat_tests, fate, is.draft, ready);
    filled = λ own is its_live still. record {
      status = grind (arith, nat_tests, statuses, is.draft, ready, its_live.seq, live.seq);
      count = ap (λ (f : ℕ → ℕ). f own.slot) counts;
      addrs = λ index. ap (λ (f : ℕ → ℕ → ℕ). f own.slot index) addrs;
      expecteds = λ index. ap (λ (f : ℕ → ℕ → ℕ). f own.slot index) expecteds;
      new_values = λ index. ap (λ (f : ℕ → ℕ → ℕ). f own.slot index) new_values;
    };
    attempt = attempt;
    row = ap (λ (f : ℕ → Row). f actor.worker) rows;
  }

-- gates that are the same, or have the same number and stay taken
pub gates_same : (old new : State) → new.cells.gates ≡ old.cells.gates → (slot : ℕ) → StaysTaken old new slot
gates_same old new same slot = record {
  number = ap (λ (f : ℕ → Gate). (f slot).seq) same;
  taken = λ is. ap (λ (f : ℕ → Gate). (f slot).taken) same ∙ is;
}

pub gate_set : (old new : State) (other : ℕ) (gate : Gate) → new.cells.gates ≡ upd old.cells.gates other gate → gate.seq ≡ (old.cells.gates other).seq
    → ((old.cells.gates other).taken ≡ true → gate.taken ≡ true) → (slot : ℕ) → StaysTaken old new slot
gate_set old new other gate is number taken slot = record {
  number = grind (arith, nat_tests, is, number);
  taken = λ was. grind (arith, nat_tests, is, taken, was);
}

pub gate_set_else : (old new : State) (other : ℕ) (gate : Gate) → new.cells.gates ≡ upd old.cells.gates other gate → (slot : ℕ) → slot ≢ other → StaysTaken old new slot
gate_set_else old new other gate is slot apart = record {
  number = grind (arith, nat_tests, is, apart);
  taken = λ was. grind (arith, nat_tests, is, apart, was);
}
