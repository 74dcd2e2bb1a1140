-- A step of a request that is no call on a file keeps a world sound (`IsSound`, this crate's invariant).
-- Used by: turns_keep_sound, mw_law_store.
use Rattle.std.specs.Prelude.{ℕ, ◌≡◌, ◌&&◌, not, Bool, true, false, is_some, if◌then◌else◌, Option, Some, None}
use Rattle.std.proofs.Common.{refl, sym, ap, subst, ◌∙◌, inl, inr}
use Rattle.mw_actor.specs.ActorState.{ActorState}
use Rattle.mw_actor.specs.Asks.{asks}
use Rattle.mw_actor.specs.Program.{replied}
use Rattle.mw_actor.proofs.RangeLaws.{tells_in_range}
use Rattle.mw_world.specs.declared.config.Config.{Config}
use Rattle.mw_world.specs.Definition.Cells.{Cells}
use Rattle.mw_world.specs.Definition.Counts.{frees_at}
use Rattle.mw_world.specs.Definition.Events.{Step as StepEvent}
use Rattle.mw_world.specs.Definition.State.{State}
use Rattle.mw_world.specs.Definition.Turns.{turn, may_make, next_attempt}
use Rattle.mw_law_runs.specs.Moves.Guards.{Guards}
use Rattle.mw_law_runs.specs.Moves.Memory.{Memory}
use Rattle.mw_law_runs.specs.Moves.Rely.{Rely}
use Rattle.mw_law_runs.specs.Moves.StepMoves.{moves_told}
use Rattle.mw_law_runs.proofs.Moves.MovesKeepMemory.{moves_keep}
use Rattle.mw_law_runs.proofs.Moves.Relied.{others_rely_on_all}
use Rattle.mw_law_runs.proofs.Moves.Shared.{memory_is_shared, reliance_is_shared}
use Rattle.mw_law_runs.proofs.Moves.WorkerPermissions.{events_tell_points}
use Rattle.mw_law_runs.proofs.Counts.RunsKeepCounts.{step_keeps}
use Rattle.mw_law_runs.specs.Knowledge.Informed.{IsInformed}
use Rattle.mw_law_runs.specs.Knowledge.Laws.{StaysTaken}
use Rattle.mw_law_runs.specs.Knowledge.NextState.{KnowsItsPoint, told, world_told}
use Rattle.mw_law_runs.proofs.Knowledge.Reads.ByPoint.{reads_inform}
use Rattle.mw_law_runs.proofs.Knowledge.Updates.ByPoint.{updates_inform}
use Rattle.mw_law_runs.proofs.Knowledge.Guards.ReadGuards.{reads_have_guards}
use Rattle.mw_law_runs.proofs.Knowledge.Guards.UpdateGuards.{updates_have_guards}
use Rattle.mw_law_runs.specs.Obligations.{WordsHaveReleasers}
use Rattle.mw_law_runs.proofs.Obligations.LastPins.{last_pins_are_free}
use Rattle.mw_law_runs.proofs.Obligations.StepObligations.{steps_keep_releasers}
use Rattle.mw_law_runs.specs.Laws.{TurnsKeepSound}
use Rattle.mw_law_runs.specs.RunInvariant.{IsSound, IsSoundRequest}
use Rattle.mw_law_runs.proofs.KnowledgeOverSteps.{looks_carry, looks_stay, updates_stay}
use Rattle.mw_law_runs.proofs.StepEnds.{Ends, TurnEnds, turn_ends}
use Rattle.mw_law_runs.proofs.Others.{requests_stay}
use Rattle.mw_law_runs.proofs.RequestRanges.{ends_in_range, look_goes, job_goes}
use Rattle.mw_law_runs.proofs.RequestsInWorlds.{have_their_requests, rest_on}
use Rattle.mw_law_runs.proofs.SharedMemory.{stands_shared}

may_of : (one two : Bool) (after next : State) → (if one && two then Some after else None) ≡ Some next → two ≡ true
may_of true true after next is = refl
may_of true false after next is = cc
may_of false true after next is = refl
may_of false false after next is = cc

module _ (config : Config) (state next : State) (actor : ActorState) (sound : IsSound config state) (sits : (state.worker_states actor.worker).actor ≡ Some actor)
    (is : turn config state actor.worker (Some actor) ≡ Some next) where
  informed : IsInformed config state actor
  informed = (have_their_requests config state sound actor.worker actor sits).informed

  pub ended : TurnEnds state next actor.worker actor
  ended = turn_ends config state actor informed next is

  guards : Guards config state actor.worker (moves_told state actor.worker actor ended.observation)
  guards = by_end ended.ends
    where
      by_end : Ends state.cells (asks actor) ended.observation → Guards config state actor.worker (moves_told state actor.worker actor ended.observation)
      by_end (inl quiet) = reads_have_guards config state actor ended.observation informed quiet
      by_end (inr changes) =
          updates_have_guards config state actor ended.observation sound.counts sits informed
          (last_pins_are_free config state actor.worker actor sound.counts sound.points (have_their_requests config state sound) sound.releasers sits)
          (may_of (not (is_some (replied actor))) (may_make config (asks actor)) _ next is) changes

  abbrev after : State
  after = world_told state actor ended.observation

  memory_after : Memory config after
  memory_after = moves_keep config state actor.worker (moves_told state actor.worker actor ended.observation) guards sound.memory

  later_after : Rely actor.worker state after
  later_after = others_rely_on_all config state actor.worker (moves_told state actor.worker actor ended.observation) guards sound.memory

  pub later : Rely actor.worker state next
  later = reliance_is_shared actor.worker state next after ended.same later_after

  -- the request itself
  stands_after : KnowsItsPoint after (told state actor ended.observation)
  stands_after = by_end ended.ends
    where
      by_end : Ends state.cells (asks actor) ended.observation → KnowsItsPoint after (told state actor ended.observation)
      by_end (inl quiet) = looks_carry config state actor ended.observation informed quiet later_after (reads_inform config state actor ended.observation informed quiet)
      by_end (inr changes) = updates_inform config state actor ended.observation sound.counts sits informed changes guards

  itself : IsSoundRequest next (told state actor ended.observation)
  itself =
      let number = next_attempt actor.point (state.worker_states actor.worker).attempt in
      let told_in_range = ends_in_range state.cells (asks actor) ended.observation sound.memory.fits ended.ends in
      record {
        in_range = tells_in_range actor ended.observation number informed.in_range told_in_range;
        look_in_range = look_goes actor number actor.point ended.observation informed.look_in_range told_in_range;
        for_job = job_goes actor number actor.point ended.observation informed.for_job;
        stands = stands_shared config next after (told state actor ended.observation) memory_after ended.same stands_after;
      }

  -- the slots of which another request holds a pin, or that it will free
  stays_after : (slot : ℕ) → frees_at slot actor.point ≡ 0 → StaysTaken state after slot
  stays_after slot none = by_end ended.ends
    where
      by_end : Ends state.cells (asks actor) ended.observation → StaysTaken state after slot
      by_end (inl quiet) = looks_stay config state actor actor.point ended.observation slot quiet
      by_end (inr changes) = updates_stay config state actor actor.point ended.observation slot informed changes none

  pub stays_next : (slot : ℕ) → frees_at slot actor.point ≡ 0 → StaysTaken state next slot
  stays_next slot none =
      let there = stays_after slot none in
      record {
        number = ap (λ (cells : Cells). (cells.gates slot).seq) ended.same.cells ∙ there.number;
        taken = λ was. ap (λ (cells : Cells). (cells.gates slot).taken) ended.same.cells ∙ there.taken was;
      }

  requests_then : (other : ℕ) (one : ActorState) → (next.worker_states other).actor ≡ Some one → IsSoundRequest next one
  requests_then = requests_stay config state next actor (told state actor ended.observation) sound sits later ended.stepped itself stays_next

  releaser_then : WordsHaveReleasers next
  releaser_then =
      steps_keep_releasers config state next actor.worker actor ended.observation sound.counts sound.points (have_their_requests config state sound) sound.releasers sits ended.ends guards ended.same ended.stepped

  pub turn_keeps : IsSound config next
  turn_keeps = record {
    memory = memory_is_shared config next after ended.same memory_after;
    points = events_tell_points config state next (StepEvent actor.worker) sound.points stepped;
    counts = step_keeps config state (StepEvent actor.worker) next sound.counts (rest_on config state sound) stepped;
    requests = requests_then;
    releasers = releaser_then;
  }
    where
      stepped : turn config state actor.worker (state.worker_states actor.worker).actor ≡ Some next
      stepped = ap (λ (found : Option ActorState). turn config state actor.worker found) sits ∙ is

by_worker_state : (config : Config) (state next : State) (worker : ℕ) (found : Option ActorState) → IsSound config state → (state.worker_states worker).actor ≡ found → turn config state worker found ≡ Some next
    → IsSound config next
by_worker_state config state next worker None sound sits is = absurd (none is)
  where
    none : None ≡ Some next → ⊥
    none e = cc
by_worker_state config state next worker (Some actor) sound sits is =
    let same = (sound.counts.worker_states worker actor sits).same_worker in
    turn_keeps config state next actor sound (subst (λ (n : ℕ). (state.worker_states n).actor ≡ Some actor) (sym same) sits) (subst (λ (n : ℕ). turn config state n (Some actor) ≡ Some next) (sym same) is)

pub turns_keep_sound : TurnsKeepSound
turns_keep_sound config state next worker sound is = by_worker_state config state next worker (state.worker_states worker).actor sound refl is
