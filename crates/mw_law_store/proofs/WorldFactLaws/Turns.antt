-- A step of a request that is no call on a file keeps the world facts (`specs/WorldFacts`). Used by: WorldFactLaws.
use Rattle.std.specs.Prelude.{ℕ, ◌≡◌, ◌⊎◌, ◌&&◌, ◌++◌, not, Bool, true, false, is_some, if◌then◌else◌, [], ◌∷◌, Option, Some, None}
use Rattle.std.proofs.Common.{refl, sym, ap, subst, ◌∙◌, inl, inr}
use Rattle.mw_words.specs.declared.replies.Reply.TheVariants.{Fault as SaysFault}
use Rattle.mw_look.specs.declared.observations.Observation.{Observation}
use Rattle.mw_look.specs.declared.observations.Observation.TheVariants.{Won, Filed}
use Rattle.mw_look.specs.declared.points.Point.{Point as ReadPoint}
use Rattle.mw_look.specs.declared.points.Point.TheVariants as look
use Rattle.mw_look.specs.Program.{Reading, goes as read_goes}
use Rattle.mw_actor.specs.declared.points.Point.{Point}
use Rattle.mw_actor.specs.declared.points.Point.TheVariants as points
use Rattle.mw_actor.specs.declared.points.Point.TheVariants.{Read, Replied}
use Rattle.mw_actor.specs.declared.points.Slot.{Slot}
use Rattle.mw_actor.specs.declared.points.Sweep.{Sweep}
use Rattle.mw_actor.specs.declared.points.Sweep.TheVariants.{Yes as SweepYes}
use Rattle.mw_actor.specs.ActorState.{ActorState, entry_of}
use Rattle.mw_actor.specs.Asks.{asks}
use Rattle.mw_actor.specs.Program.{goes, replied}
use Rattle.mw_world.specs.declared.config.Config.{Config}
use Rattle.mw_world.specs.Definition.Cells.{Cells}
use Rattle.mw_world.specs.Definition.History.{History}
use Rattle.mw_world.specs.Definition.State.{State}
use Rattle.mw_world.specs.Definition.Turns.{may_make, made_of, moved, next_attempt, turn, turned}
use Rattle.mw_law_runs.specs.Knowledge.Informed.{IsInformed, IsPointFor}
use Rattle.mw_law_runs.specs.Knowledge.NextState.{told}
use Rattle.mw_law_runs.proofs.Knowledge.Updates.Preservation.{upd_two_here}
use Rattle.mw_law_runs.proofs.Knowledge.Guards.UpdateGuards.{updates_have_guards}
use Rattle.mw_law_runs.proofs.Knowledge.Guards.ReadGuards.{reads_have_guards}
use Rattle.mw_law_runs.proofs.Knowledge.Reads.ByPoint.{reads_inform}
use Rattle.mw_law_runs.specs.Moves.Guards.{Guards}
use Rattle.mw_law_runs.specs.Moves.Rely.{Rely}
use Rattle.mw_law_runs.specs.Moves.StepMoves.{give_up_moves, moves_at, moves_told, next_of, set_intent, read_moves, release_moves, resolve_moves}
use Rattle.mw_law_runs.specs.RunInvariant.{IsSound}
use Rattle.mw_law_runs.proofs.StepEnds.{Ends, TurnEnds, turn_ends}
use Rattle.mw_law_runs.proofs.Obligations.LastPins.{last_pins_are_free}
use Rattle.mw_law_runs.proofs.Obligations.Pins.{none_some}
use Rattle.mw_law_runs.proofs.RequestsInWorlds.{have_their_requests}
use Rattle.mw_law_runs.proofs.GuardedEvents.{guarded}
use Rattle.mw_law_runs.proofs.StepsKeepInvariant.{later, turns_keep_sound}
use Rattle.mw_law_store.specs.Files.Files.{HasFiles}
use Rattle.mw_law_store.proofs.Files.StepsLeaveFiles.{SameTenantState, same_tenant_state}
use Rattle.mw_law_store.proofs.Files.TurnFiles.{follows}
use Rattle.mw_law_store.specs.WorldFacts.{HasWorldFacts, HasSeen, HasSeenAt, HasRequestFacts, is_inside, says_fault}
use Rattle.mw_law_store.proofs.WorldFactLaws.Histories.{AllKeep, IsOfFailed, FaultFacts, failed_of, more_fail, moves_decide_fault, up_of}
use Rattle.mw_law_store.proofs.WorldFactLaws.Inside.{FindsNoFault, inside_goes, is_of_change, unread}
use Rattle.mw_law_store.proofs.WorldFactLaws.Points.{fault_given, fault_goes}
use Rattle.mw_law_store.proofs.WorldFactLaws.Requests.{StaysFailed, finds_up, world_facts_go_on, spoils_of, tells_no_call}
use Rattle.mw_law_store.proofs.ReadKnowledge.{read_stays, seen_anew, seen_goes}

module _ (fails is_up : ℕ → Bool) where
  -- What a step of a request needs, by its point, by what it observes and by the point after it.
  abbrev PointKeeps : State → ActorState → Point → Observation → Point → Type 0
  PointKeeps state actor (points.Claim slot saw_worn from to) Won after = is_up actor.tenant ≡ true
  PointKeeps state actor (points.GiveUp own undecided) observation after = after ≡ Replied SaysFault → IsOfFailed state.history fails own
  PointKeeps state actor point observation after = Unit {0}

  module _ (state : State) (worker : ℕ) (next : ActorState) where
    read_keep : (tenant : ℕ) (point : ReadPoint) (observation : Observation) → AllKeep fails is_up state worker (read_moves state tenant point observation ++ set_intent next ∷ [])
    read_keep tenant (look.Pin trail from to) Won = (tt, (tt, tt))
    read_keep tenant (look.Pin trail from to) observation = (tt, tt)
    read_keep tenant (look.Unpin slot seq after) observation = (tt, (tt, tt))
    read_keep tenant (look.FreeSlot slot seq after) observation = (tt, (tt, tt))
    read_keep tenant (look.LowerDoor after) observation = (tt, (tt, tt))
    read_keep tenant point observation = (tt, tt)

    resolve_keep : (open_then : Bool) (tenant address by number : ℕ) (target : Slot) (value : ℕ) → AllKeep fails is_up state worker (resolve_moves open_then tenant address by number target value ++ set_intent next ∷ [])
    resolve_keep true tenant address by number target value = (tt, (tt, tt))
    resolve_keep false tenant address by number target value = (tt, (tt, tt))

    release_keep : (sweep : Sweep) (tenant address : ℕ) (target : Slot) (expected new : ℕ) → AllKeep fails is_up state worker (release_moves sweep tenant address target expected new ++ set_intent next ∷ [])
    release_keep SweepYes tenant address target expected new = (tt, (tt, tt))
    release_keep sweep tenant address target expected new = (tt, (tt, tt))

    give_up_keep : (own : Slot) (after : Point) → (after ≡ Replied SaysFault → IsOfFailed state.history fails own) → AllKeep fails is_up state worker (give_up_moves own after ++ set_intent next ∷ [])
    give_up_keep own (Replied SaysFault) given =
        let failed = given refl in
        (tt, ((record { is_claimed = failed.is_claimed; failed = failed.failed }, upd_two_here state.history.stays own.slot own.seq true), (tt, tt)))
    give_up_keep own after given = (tt, (tt, tt))

    pub keep_at : (actor : ActorState) (point : Point) (observation : Observation) (after : Point) → PointKeeps state actor point observation after → AllKeep fails is_up state worker (moves_at state worker actor point observation after ++ set_intent next ∷ [])
    keep_at actor (Read look) observation after keep = read_keep look.tenant look.point observation
    keep_at actor (points.Resolve task entry attempt was_open) Won after keep =
        resolve_keep was_open actor.tenant (entry_of actor task entry).addr attempt.worker attempt.number task.target (entry_of actor task entry).expected
    keep_at actor (points.Resolve task entry attempt was_open) observation after keep = (tt, tt)
    keep_at actor (points.Release task sweep entry) Won after keep =
        release_keep sweep actor.tenant (entry_of actor task entry).addr task.target (entry_of actor task entry).expected (entry_of actor task entry).new
    keep_at actor (points.Release task sweep entry) observation after keep = (tt, tt)
    keep_at actor (points.GiveUp own undecided) observation after keep = give_up_keep own after keep
    keep_at actor (points.Plant task entry number) Won after keep = (tt, (tt, tt))
    keep_at actor (points.Plant task entry number) observation after keep = (tt, (tt, tt))
    keep_at actor (points.Admit from to) Won after keep = (tt, (tt, tt))
    keep_at actor (points.Admit from to) observation after keep = (tt, tt)
    keep_at actor (points.Claim slot saw_worn from to) Won after keep = (keep, (tt, tt))
    keep_at actor (points.Claim slot saw_worn from to) observation after keep = (tt, tt)
    keep_at actor (points.DecideYes task) Won after keep = (tt, (tt, tt))
    keep_at actor (points.DecideYes task) observation after keep = (tt, tt)
    keep_at actor (points.DecideNo task entry value) Won after keep = (tt, (tt, tt))
    keep_at actor (points.DecideNo task entry value) observation after keep = (tt, tt)
    keep_at actor (points.PinOther task other from to) Won after keep = (tt, (tt, tt))
    keep_at actor (points.PinOther task other from to) observation after keep = (tt, tt)
    keep_at actor (points.Clean task entry value) Won after keep = (tt, (tt, tt))
    keep_at actor (points.Clean task entry value) observation after keep = (tt, tt)
    keep_at actor (points.SweepResolve task sweep entry attempt) Won after keep = (tt, (tt, tt))
    keep_at actor (points.SweepResolve task sweep entry attempt) observation after keep = (tt, tt)
    keep_at actor (points.FillStatus own) observation after keep = (tt, (tt, tt))
    keep_at actor (points.FillCount own) observation after keep = (tt, (tt, tt))
    keep_at actor (points.FillAddr own entry) observation after keep = (tt, (tt, tt))
    keep_at actor (points.FillExpected own entry) observation after keep = (tt, (tt, tt))
    keep_at actor (points.FillNew own entry) observation after keep = (tt, (tt, tt))
    keep_at actor (points.AnnounceRow task entry number) observation after keep = (tt, (tt, tt))
    keep_at actor (points.Unpin slot onward) observation after keep = (tt, (tt, tt))
    keep_at actor (points.FreeSlot slot onward) observation after keep = (tt, (tt, tt))
    keep_at actor (points.LowerDoor onward) observation after keep = (tt, (tt, tt))
    keep_at actor point observation after keep = (tt, tt)

module _ (config : Config) (state next : State) (actor : ActorState) (sound : IsSound config state) (has : HasFiles config state) (world_facts : HasWorldFacts state)
    (sits : (state.worker_states actor.worker).actor ≡ Some actor) (is : turn config state actor.worker (Some actor) ≡ Some next) (then_sound : IsSound config next) where
  informed : IsInformed config state actor
  informed = (have_their_requests config state sound actor.worker actor sits).informed

  ended : TurnEnds state next actor.worker actor
  ended = turn_ends config state actor informed next is

  before : HasRequestFacts state actor
  before = world_facts.worker_states actor.worker actor sits

  guards : Guards config state actor.worker (moves_told state actor.worker actor ended.observation)
  guards = by_end ended.ends
    where
      by_end : Ends state.cells (asks actor) ended.observation → Guards config state actor.worker (moves_told state actor.worker actor ended.observation)
      by_end (inl quiet) = reads_have_guards config state actor ended.observation informed quiet
      by_end (inr changes) =
          updates_have_guards config state actor ended.observation sound.counts sits informed
          (last_pins_are_free config state actor.worker actor sound.counts sound.points (have_their_requests config state sound) sound.releasers sits)
          (may_of (not (is_some (replied actor))) (may_make config (asks actor)) _ is) changes
        where
          may_of : (one two : Bool) (after : State) → (if one && two then Some after else None) ≡ Some next → two ≡ true
          may_of true true after is = refl
          may_of true false after is = cc
          may_of false true after is = refl
          may_of false false after is = cc

  point_keeps : (point : Point) (observation : Observation) → let me = record actor { point = point } in IsInformed config state me → HasRequestFacts state me
      → PointKeeps (failed_of state.tenant_states) (up_of state.tenant_states) state me point observation (next_of state actor.worker me observation).point
  point_keeps (points.Claim slot saw_worn from to) Won here with_facts = with_facts.up refl
  point_keeps (points.GiveUp own undecided) observation here with_facts = λ after. record {
    is_claimed = here.knows.0.is_claimed;
    failed =
        ap (λ (tenant : ℕ). failed_of state.tenant_states tenant) here.knows.0.same_tenant
        ∙ with_facts.fault (fault_given (record actor { point = points.GiveUp own undecided }) (next_attempt (points.GiveUp own undecided) (state.worker_states actor.worker).attempt) own undecided observation after);
  }
  point_keeps point observation here with_facts = tt

  tenant_state_next : (tenant : ℕ) → SameTenantState config tenant (next.tenant_states tenant) (state.tenant_states tenant)
  tenant_state_next tenant =
      guarded (λ (one : State). SameTenantState config tenant (one.tenant_states tenant) (state.tenant_states tenant)) (not (is_some (replied actor)) && may_make config (asks actor)) (turned state actor.worker actor) next
      (λ may. follows (λ (one : State). SameTenantState config tenant (one.tenant_states tenant) (state.tenant_states tenant))
      (λ (cells : Cells) (observation : Observation). moved state actor.worker actor (made_of state actor.worker actor cells observation))
      (λ cells observation. same_tenant_state config state.tenant_states actor.tenant tenant _ (record { file = refl; is_up = refl; places = refl })) (asks actor) state.cells) is

  stays : StaysFailed state next
  stays = record { failed = λ tenant failed. ap (λ file. file.has_failed) (tenant_state_next tenant).file ∙ failed; up = λ tenant. (tenant_state_next tenant).is_up }

  spoils_next : FaultFacts next.history (failed_of next.tenant_states) (up_of next.tenant_states)
  spoils_next =
      more_fail next.history (failed_of state.tenant_states) (up_of state.tenant_states)
      (subst (λ (past : History). FaultFacts past (failed_of state.tenant_states) (up_of state.tenant_states)) (sym ended.same.history)
      (moves_decide_fault (failed_of state.tenant_states) (up_of state.tenant_states) config state actor.worker (moves_told state actor.worker actor ended.observation) guards sound.memory
      (keep_at (failed_of state.tenant_states) (up_of state.tenant_states) state actor.worker (next_of state actor.worker actor ended.observation) actor actor.point ended.observation
      (next_of state actor.worker actor ended.observation).point (point_keeps actor.point ended.observation informed before))
      (spoils_of state world_facts)))
      (failed_of next.tenant_states) (up_of next.tenant_states) stays.failed stays.up

  later_next : Rely actor.worker state next
  later_next = later config state next actor sound sits is

  -- what a read has read
  seen_by : (reading : Reading) (observation : Observation) → let me = record actor { point = Read reading } in IsInformed config state me → Ends state.cells (asks me) observation
      → HasSeen state.history reading.address reading.point → HasSeen next.history reading.address (read_goes reading.address reading.point observation)
  seen_by reading observation here (inl quiet) seen =
      read_stays actor.worker state next later_next reading.tenant reading.address (read_goes reading.address reading.point observation)
      (reads_inform config state (record actor { point = Read reading }) observation here quiet).knows
      (seen_goes config state reading.tenant reading.address reading.point observation sound.memory here.live here.knows quiet seen)
  seen_by reading observation here (inr changes) seen =
      seen_anew next.history state reading.tenant reading.address reading.point observation changes
      (read_stays actor.worker state next later_next reading.tenant reading.address reading.point here.knows seen)

  seen_next : (point : Point) (observation : Observation) (number : ℕ) → let me = record actor { point = point } in IsInformed config state me → Ends state.cells (asks me) observation → HasSeenAt state.history point
      → IsPointFor actor.job (goes me number point observation) → HasSeenAt next.history (goes me number point observation)
  seen_next (Read reading) observation number here ends seen for_job = seen_by reading observation here ends seen
  seen_next point observation number here ends seen for_job =
      unread next.history actor.job (goes (record actor { point = point }) number point observation) (is_of_change actor.job point refl here.for_job) for_job

  itself : HasRequestFacts next (told state actor ended.observation)
  itself = record {
    fault = λ says. by_fault (fault_goes actor number actor.point ended.observation says);
    up = λ inside. by_inside (inside_goes actor number actor.point ended.observation informed.ready inside);
    seen = seen_next actor.point ended.observation number informed ended.ends before.seen (then_sound.requests actor.worker (told state actor ended.observation) ended.stepped.goes_on).for_job;
  }
    where
      number : ℕ
      number = next_attempt actor.point (state.worker_states actor.worker).attempt

      by_fault : (says_fault actor.point ≡ true) ⊎ (ended.observation ≡ Filed false) → failed_of next.tenant_states actor.tenant ≡ true
      by_fault (inl says) = stays.failed actor.tenant (before.fault says)
      by_fault (inr filed) = absurd (tells_no_call state.cells (asks actor) ended.observation ended.ends filed)

      by_inside : (is_inside actor.point ≡ true) ⊎ FindsNoFault actor actor.point ended.observation → up_of next.tenant_states actor.tenant ≡ true
      by_inside (inl inside) = stays.up actor.tenant ∙ before.up inside
      by_inside (inr found) = stays.up actor.tenant ∙ finds_up config state actor actor.point ended.observation has informed.worker_state.tenant ended.ends found

  pub turn_keeps_world_facts : HasWorldFacts next
  turn_keeps_world_facts = world_facts_go_on config state next actor (told state actor ended.observation) sound world_facts later_next ended.stepped stays itself spoils_next

by_worker_state : (config : Config) (state next : State) (worker : ℕ) (found : Option ActorState) → IsSound config state → HasFiles config state → HasWorldFacts state → (state.worker_states worker).actor ≡ found
    → turn config state worker found ≡ Some next → IsSound config next → HasWorldFacts next
by_worker_state config state next worker None sound has world_facts sits is after = absurd (none_some next is)
by_worker_state config state next worker (Some actor) sound has world_facts sits is after =
    let same = (sound.counts.worker_states worker actor sits).same_worker in
    turn_keeps_world_facts config state next actor sound has world_facts (subst (λ (n : ℕ). (state.worker_states n).actor ≡ Some actor) (sym same) sits)
    (subst (λ (n : ℕ). turn config state n (Some actor) ≡ Some next) (sym same) is) after

pub turns_keep_world_facts : (config : Config) (state next : State) (worker : ℕ) → IsSound config state → HasFiles config state → HasWorldFacts state
    → turn config state worker (state.worker_states worker).actor ≡ Some next → HasWorldFacts next
turns_keep_world_facts config state next worker sound has world_facts is =
    by_worker_state config state next worker (state.worker_states worker).actor sound has world_facts refl is (turns_keep_sound config state next worker sound is)
