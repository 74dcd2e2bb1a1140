-- While somebody holds a pin of a slot, no event but a start changes the number of the slot's gate. The holder is a request,
-- or a change that was given up.
-- Used by: pinned_gates_keep_their_numbers.
use Rattle.std.specs.Prelude.{ℕ, ◌≡◌, ◌<◌, ◌≤◌, ◌⊎◌, ◌+◌, ◌==◌, ◌&&◌, Bool, true, false, if◌then◌else◌, List, Option, Some, None}
use Rattle.std.proofs.Common.{refl, sym, ap, subst, ◌∙◌, inl, inr, arith}
use Rattle.std.proofs.lemmas.Bool.Decides.{nat_tests}
use Rattle.mw_actor.specs.ActorState.{ActorState}
use Rattle.mw_world.specs.declared.outcomes.Outcome.{Outcome}
use Rattle.mw_world.specs.declared.config.Config.{Config}
use Rattle.mw_world.specs.Definition.Calls.{Called, call, call_if, called_at}
use Rattle.mw_world.specs.Definition.Cells.{Cells}
use Rattle.mw_world.specs.Definition.Counts.{counted, frees_at, over_workers, pins_held}
use Rattle.mw_world.specs.Definition.Events.{WorldEvent, Come, Step as StepEvent, File as FileEvent, Hand, Restart}
use Rattle.mw_world.specs.Definition.State.{State}
use Rattle.mw_world.specs.Definition.Turns.{turn}
use Rattle.mw_world.specs.Definition.World.{step}
use Rattle.mw_law_runs.specs.Moves.StepMoves.{SameMemory}
use Rattle.mw_law_runs.proofs.Moves.StepsKeepMemory.{comes_leave, hands_leave}
use Rattle.mw_law_runs.proofs.Counts.Sums.{over_at, of_actor}
use Rattle.mw_law_runs.specs.Knowledge.Laws.{StaysTaken}
use Rattle.mw_law_runs.specs.Laws.{IsNoStart, IsPinHolder, KeepsItsNumber, PinnedGatesKeepTheirNumbers}
use Rattle.mw_law_runs.specs.RunInvariant.{IsSound}
use Rattle.mw_law_runs.proofs.FileCalls.{gates_stay}
use Rattle.mw_law_runs.proofs.RunsAreSound.{runs_are_sound}
use Rattle.mw_law_runs.proofs.StepsKeepInvariant.{stays_next}

-- a gate that has a pin isn't one without pins
none_to_free : (taken : Bool) (pins : ℕ) → 1 ≤ pins → ◌≡◌ {A = ℕ} (if taken && (pins == 0) then 1 else 0) 0
none_to_free true pins some = grind (arith, nat_tests, some)
none_to_free false pins some = refl

module _ (config : Config) (state next : State) (sound : IsSound config state) (slot : ℕ) where
  -- the gate counts each pin that somebody holds
  is_counted : (worker : ℕ) → IsPinHolder state slot worker ⊎ (state.history.stays slot (state.cells.gates slot).seq ≡ true) → 1 ≤ (state.cells.gates slot).pins
  is_counted worker (inl holder) =
      let held : ℕ = over_workers (λ actor. pins_held slot actor.point) state.worker_states config.workers in
      let its : pins_held slot holder.actor.point ≤ held =
      subst (λ (n : ℕ). n ≤ held) (of_actor (λ actor. pins_held slot actor.point) (state.worker_states worker) holder.actor holder.is)
      (over_at (λ actor. pins_held slot actor.point) state.worker_states worker config.workers (sound.counts.worker_states worker holder.actor holder.is).there) in
      omega (arith, holder.pin, its, sound.counts.counts.pins slot)
  is_counted worker (inr stays) = (sound.counts.counts.left slot (state.cells.gates slot).seq stays).0.1

  is_taken : 1 ≤ (state.cells.gates slot).pins → (state.cells.gates slot).taken ≡ true
  is_taken some = by_test (state.cells.gates slot).taken refl
    where
      by_test : (test : Bool) → (state.cells.gates slot).taken ≡ test → test ≡ true
      by_test true is = refl
      by_test false is = absurd (omega (arith, some, sound.counts.unpinned slot is))

  -- no request will free a slot that has a pin
  frees_none : (worker : ℕ) (actor : ActorState) → (state.worker_states worker).actor ≡ Some actor → 1 ≤ (state.cells.gates slot).pins → frees_at slot actor.point ≡ 0
  frees_none worker actor sits some =
      let freed : ℕ = over_workers (λ actor. frees_at slot actor.point) state.worker_states config.workers in
      let its : frees_at slot actor.point ≤ freed =
      subst (λ (n : ℕ). n ≤ freed) (of_actor (λ actor. frees_at slot actor.point) (state.worker_states worker) actor sits)
      (over_at (λ actor. frees_at slot actor.point) state.worker_states worker config.workers (sound.counts.worker_states worker actor sits).there) in
      let none : freed ≡ 0 = sound.counts.counts.frees slot ∙ none_to_free (state.cells.gates slot).taken (state.cells.gates slot).pins some in
      omega (arith, its, none)

  same_stays : SameMemory next state → StaysTaken state next slot
  same_stays same = record {
    number = ap (λ (cells : Cells). (cells.gates slot).seq) same.cells;
    taken = λ was. ap (λ (cells : Cells). (cells.gates slot).taken) same.cells ∙ was;
  }

  -- a step of a request
  by_turn : (worker : ℕ) (found : Option ActorState) → 1 ≤ (state.cells.gates slot).pins → (state.worker_states worker).actor ≡ found → turn config state worker found ≡ Some next → StaysTaken state next slot
  by_turn worker None some sits is = absurd (none is)
    where
      none : None ≡ Some next → ⊥
      none e = cc
  by_turn worker (Some actor) some sits is =
      let same = (sound.counts.worker_states worker actor sits).same_worker in
      let there : (state.worker_states actor.worker).actor ≡ Some actor = subst (λ (n : ℕ). (state.worker_states n).actor ≡ Some actor) (sym same) sits in
      stays_next config state next actor sound there (subst (λ (n : ℕ). turn config state n (Some actor) ≡ Some next) (sym same) is) slot (frees_none worker actor sits some)

  -- a call on a file
  by_called : (actor : ActorState) (outcome : Outcome) (found : Option Called) → (state.worker_states actor.worker).actor ≡ Some actor → called_at actor.point ≡ found
      → call config state actor.worker (Some actor) outcome ≡ Some next → StaysTaken state next slot
  by_called actor outcome None sits at is = absurd (none (subst (λ (found : Option Called). call_if config state actor.worker actor found outcome ≡ Some next) at is))
    where
      none : None ≡ Some next → ⊥
      none e = cc
  by_called actor outcome (Some called) sits at is = gates_stay config state next actor called outcome sound sits at is slot

  by_call : (worker : ℕ) (found : Option ActorState) (outcome : Outcome) → (state.worker_states worker).actor ≡ found → call config state worker found outcome ≡ Some next → StaysTaken state next slot
  by_call worker None outcome sits is = absurd (none is)
    where
      none : None ≡ Some next → ⊥
      none e = cc
  by_call worker (Some actor) outcome sits is =
      let same = (sound.counts.worker_states worker actor sits).same_worker in
      by_called actor outcome (called_at actor.point) (subst (λ (n : ℕ). (state.worker_states n).actor ≡ Some actor) (sym same) sits) refl
      (subst (λ (n : ℕ). call config state n (Some actor) outcome ≡ Some next) (sym same) is)

  stays_over : (event : WorldEvent) → 1 ≤ (state.cells.gates slot).pins → IsNoStart event → step config state event ≡ Some next → StaysTaken state next slot
  stays_over (Come worker tenant job) some no_start is = same_stays (comes_leave config state next worker tenant job is)
  stays_over (StepEvent worker) some no_start is = by_turn worker (state.worker_states worker).actor some refl is
  stays_over (FileEvent worker outcome) some no_start is = by_call worker (state.worker_states worker).actor outcome refl is
  stays_over (Hand worker) some no_start is = same_stays (hands_leave state next worker is)
  stays_over (Restart founds) some no_start is = absurd no_start

  keeps : (event : WorldEvent) → 1 ≤ (state.cells.gates slot).pins → IsNoStart event → step config state event ≡ Some next → KeepsItsNumber state next slot
  keeps event some no_start is =
      let stays = stays_over event some no_start is in
      record { number = stays.number; was_taken = is_taken some; is_taken = stays.taken (is_taken some) }

pub pinned_gates_keep_their_numbers : PinnedGatesKeepTheirNumbers
pinned_gates_keep_their_numbers config openings events state next event slot worker played pinned no_start is =
    let sound = (runs_are_sound config openings events state played).0 in
    keeps config state next sound slot event (is_counted config state next sound slot worker pinned) no_start is
