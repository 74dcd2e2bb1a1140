-- A step of a request that is no call on a file keeps `HasFiles`: the shared words agree with the tenants' files.
-- Used by: turns_keep_files.
use Rattle.std.specs.Prelude.{ℕ, ◌≡◌, ◌≤◌, ◌⊎◌, ◌&&◌, ◌==◌, ◌++◌, not, Bool, true, false, cond, is_some, if◌then◌else◌, List, [], ◌∷◌, Option, Some, None}
use Rattle.std.proofs.Common.{refl, sym, ap, subst, ◌∙◌, inl, inr, arith}
use Rattle.mw_words.specs.declared.jobs.Entry.{Entry}
use Rattle.mw_words.specs.declared.places.At.{At}
use Rattle.mw_words.specs.declared.replies.Reply.TheVariants.{Fault as SaysFault}
use Rattle.mw_words.specs.declared.statuses.Status.{Status}
use Rattle.mw_words.specs.declared.statuses.Status.TheVariants.{Draft, Open, YesDirty, Yes, No, DoneYes, DoneNo}
use Rattle.mw_look.specs.declared.observations.Observation.{Observation}
use Rattle.mw_look.specs.declared.observations.Observation.TheVariants.{Won, Lost}
use Rattle.mw_look.specs.declared.points.Point.{Point as ReadPoint}
use Rattle.mw_look.specs.declared.points.Point.TheVariants as look
use Rattle.mw_look.specs.declared.steps.Kind.{Kind}
use Rattle.mw_look.specs.Observations.{seen}
use Rattle.mw_look.specs.Program.{Reading}
use Rattle.mw_words.specs.declared.doors.Door.{Door}
use Rattle.mw_look.specs.Places.{Val, pack}
use Rattle.mw_look.specs.Steps.{Step, Load, Change, File as FileStep}
use Rattle.mw_actor.specs.declared.points.Point.{Point}
use Rattle.mw_actor.specs.declared.points.Point.TheVariants as points
use Rattle.mw_actor.specs.declared.points.Point.TheVariants.{Read, Replied}
use Rattle.mw_actor.specs.declared.points.Slot.{Slot}
use Rattle.mw_actor.specs.declared.points.Sweep.{Sweep}
use Rattle.mw_actor.specs.declared.points.Sweep.TheVariants.{Yes as SweepYes}
use Rattle.mw_actor.specs.ActorState.{ActorState, entry_of}
use Rattle.mw_actor.specs.Asks.{asks}
use Rattle.mw_actor.specs.Program.{replied}
use Rattle.mw_world.specs.Files.State.{Empty}
use Rattle.mw_world.specs.declared.config.Config.{Config}
use Rattle.mw_world.specs.Claim.Invariant.{placed}
use Rattle.mw_world.specs.Definition.Cells.{Cells, read, write}
use Rattle.mw_look.specs.declared.steps.Shape.{Shape}
use Rattle.mw_look.specs.declared.steps.Shape.TheVariants.{Exchange, Store, Fetch}
use Rattle.mw_look.specs.Shapes.{shape_of}
use Rattle.mw_world.specs.Definition.Changes.{changed, done, fetched}
use Rattle.mw_world.specs.Definition.Counts.{frees_at}
use Rattle.mw_world.specs.Definition.State.{State}
use Rattle.mw_world.specs.Definition.Turns.{turn, turned, may_make, moved, made_of}
use Rattle.mw_law_runs.specs.Counts.Alone.{IsAloneWith}
use Rattle.mw_law_runs.proofs.Counts.Room.{who-frees-is-alone}
use Rattle.mw_law_runs.specs.Knowledge.Informed.{IsInformed}
use Rattle.mw_law_runs.specs.Knowledge.NextState.{world_told}
use Rattle.mw_law_runs.proofs.Knowledge.Guards.ReadGuards.{reads_have_guards}
use Rattle.mw_law_runs.proofs.Knowledge.Guards.UpdateGuards.{updates_have_guards}
use Rattle.mw_law_runs.specs.Moves.Guards.{Guards}
use Rattle.mw_law_runs.specs.Moves.StepMoves.{moves_at, read_moves, resolve_moves, release_moves, give_up_moves, moves_told, next_of, set_intent}
use Rattle.mw_law_runs.proofs.Moves.Shared.{is_shared}
use Rattle.mw_law_runs.specs.Obligations.{IsOwnerOf, IsUnfinished}
use Rattle.mw_law_runs.specs.RunInvariant.{IsSound}
use Rattle.mw_law_runs.proofs.StepEnds.{Ends, TurnEnds, turn_ends}
use Rattle.mw_law_runs.proofs.Obligations.LastPins.{last_pins_are_free}
use Rattle.mw_law_runs.proofs.Obligations.Pins.{counted_once, none_some}
use Rattle.mw_law_runs.proofs.RequestsInWorlds.{have_their_requests}
use Rattle.mw_law_runs.proofs.GuardedEvents.{guarded}
use Rattle.mw_law_runs.proofs.StepsKeepInvariant.{turns_keep_sound}
use Rattle.mw_law_store.specs.Files.Files.{HasFiles}
use Rattle.mw_law_store.specs.Files.Laws.{TurnsKeepFiles}
use Rattle.mw_law_store.proofs.Files.MovesKeepFiles.{IsOutOfFile, LeaveFiles, moves_tell}
use Rattle.mw_law_store.proofs.Files.StepsLeaveFiles.{SameTenantState, TellsSame, all_filed_same, same_tenant_state}
use Rattle.mw_law_store.proofs.Files.Tenants.{are_filed, has_files}

-- What a step of a request needs, by its point and what it observes, so that it leaves files alone.
abbrev ReadLeaves : State → ReadPoint → Type 0
ReadLeaves state (look.FreeSlot slot seq after) = IsOutOfFile state slot
ReadLeaves state point = Unit {0}

abbrev PointLeaves : State → ActorState → Point → Observation → Type 0
PointLeaves state actor (Read look) observation = ReadLeaves state look.point
PointLeaves state actor (points.Admit from to) Won = to.fault ≡ (state.cells.doors actor.tenant).fault
PointLeaves state actor (points.FreeSlot slot next) observation = IsOutOfFile state slot.slot
PointLeaves state actor point observation = Unit {0}

module _ (state : State) (worker : ℕ) (next : ActorState) where
  read_leaves : (tenant : ℕ) (point : ReadPoint) (observation : Observation) → ReadLeaves state point → LeaveFiles state worker (read_moves state tenant point observation ++ set_intent next ∷ [])
  read_leaves tenant (look.Pin trail from to) Won leaves = (tt, (tt, tt))
  read_leaves tenant (look.Pin trail from to) observation leaves = (tt, tt)
  read_leaves tenant (look.Unpin slot seq after) observation leaves = (tt, (tt, tt))
  read_leaves tenant (look.FreeSlot slot seq after) observation leaves = (leaves, (tt, tt))
  read_leaves tenant (look.LowerDoor after) observation leaves = (refl, (tt, tt))
  read_leaves tenant point observation leaves = (tt, tt)

  resolve_leaves : (open_then : Bool) (tenant address by number : ℕ) (target : Slot) (value : ℕ) → LeaveFiles state worker (resolve_moves open_then tenant address by number target value ++ set_intent next ∷ [])
  resolve_leaves true tenant address by number target value = (tt, (tt, tt))
  resolve_leaves false tenant address by number target value = (tt, (tt, tt))

  release_leaves : (sweep : Sweep) (tenant address : ℕ) (target : Slot) (expected new : ℕ) → LeaveFiles state worker (release_moves sweep tenant address target expected new ++ set_intent next ∷ [])
  release_leaves SweepYes tenant address target expected new = (tt, (tt, tt))
  release_leaves sweep tenant address target expected new = (tt, (tt, tt))

  give_up_leaves : (own : Slot) (after : Point) → LeaveFiles state worker (give_up_moves own after ++ set_intent next ∷ [])
  give_up_leaves own (Replied SaysFault) = (tt, (tt, (tt, tt)))
  give_up_leaves own after = (tt, (tt, tt))

  leaves_at : (actor : ActorState) (point : Point) (observation : Observation) (after : Point) → PointLeaves state actor point observation → LeaveFiles state worker (moves_at state worker actor point observation after ++ set_intent next ∷ [])
  leaves_at actor (Read look) observation after leaves = read_leaves look.tenant look.point observation leaves
  leaves_at actor (points.Resolve task entry attempt was_open) Won after leaves =
      resolve_leaves was_open actor.tenant (entry_of actor task entry).addr attempt.worker attempt.number task.target (entry_of actor task entry).expected
  leaves_at actor (points.Resolve task entry attempt was_open) observation after leaves = (tt, tt)
  leaves_at actor (points.Release task sweep entry) Won after leaves =
      release_leaves sweep actor.tenant (entry_of actor task entry).addr task.target (entry_of actor task entry).expected (entry_of actor task entry).new
  leaves_at actor (points.Release task sweep entry) observation after leaves = (tt, tt)
  leaves_at actor (points.GiveUp own undecided) observation after leaves = give_up_leaves own after
  leaves_at actor (points.Plant task entry number) Won after leaves = (tt, (tt, tt))
  leaves_at actor (points.Plant task entry number) observation after leaves = (tt, (tt, tt))
  leaves_at actor (points.Admit from to) Won after leaves = (leaves, (tt, tt))
  leaves_at actor (points.Admit from to) observation after leaves = (tt, tt)
  leaves_at actor (points.Claim slot saw_worn from to) Won after leaves = (tt, (tt, tt))
  leaves_at actor (points.Claim slot saw_worn from to) observation after leaves = (tt, tt)
  leaves_at actor (points.DecideYes task) Won after leaves = (tt, (tt, tt))
  leaves_at actor (points.DecideYes task) observation after leaves = (tt, tt)
  leaves_at actor (points.DecideNo task entry value) Won after leaves = (tt, (tt, tt))
  leaves_at actor (points.DecideNo task entry value) observation after leaves = (tt, tt)
  leaves_at actor (points.PinOther task other from to) Won after leaves = (tt, (tt, tt))
  leaves_at actor (points.PinOther task other from to) observation after leaves = (tt, tt)
  leaves_at actor (points.Clean task entry value) Won after leaves = (tt, (tt, tt))
  leaves_at actor (points.Clean task entry value) observation after leaves = (tt, tt)
  leaves_at actor (points.SweepResolve task sweep entry attempt) Won after leaves = (tt, (tt, tt))
  leaves_at actor (points.SweepResolve task sweep entry attempt) observation after leaves = (tt, tt)
  leaves_at actor (points.FillStatus own) observation after leaves = (tt, (tt, tt))
  leaves_at actor (points.FillCount own) observation after leaves = (tt, (tt, tt))
  leaves_at actor (points.FillAddr own entry) observation after leaves = (tt, (tt, tt))
  leaves_at actor (points.FillExpected own entry) observation after leaves = (tt, (tt, tt))
  leaves_at actor (points.FillNew own entry) observation after leaves = (tt, (tt, tt))
  leaves_at actor (points.AnnounceRow task entry number) observation after leaves = (tt, (tt, tt))
  leaves_at actor (points.Unpin slot onward) observation after leaves = (tt, (tt, tt))
  leaves_at actor (points.FreeSlot slot onward) observation after leaves = (leaves, (tt, tt))
  leaves_at actor (points.LowerDoor onward) observation after leaves = (refl, (tt, tt))
  leaves_at actor point observation after leaves = (tt, tt)

-- a change that is done with is not in its file
over_out : (status : Status) (entries : List Entry) → (IsUnfinished status → ⊥) → placed status entries ≡ Empty
over_out Draft entries over = refl
over_out Open entries over = absurd (over tt)
over_out YesDirty entries over = absurd (over tt)
over_out Yes entries over = absurd (over tt)
over_out (No entry value) entries over = absurd (over tt)
over_out DoneYes entries over = refl
over_out (DoneNo entry value) entries over = refl

false_true : false ≡ true → ⊥
false_true e = cc

won_lost : Won ≡ Lost → ⊥
won_lost e = cc

some_of : (one : ℕ) → one ≡ 1 → 1 ≤ one
some_of one is = omega (arith, is)

module _ (config : Config) (state : State) (sound : IsSound config state) where
  -- the change of a slot that a request will free is not in its file
  freed_out : (worker slot : ℕ) (actor : ActorState) → (state.worker_states worker).actor ≡ Some actor → 1 ≤ frees_at slot actor.point → IsOutOfFile state slot
  freed_out worker slot actor sits frees =
      over_out (state.history.fate slot (state.cells.gates slot).seq) (state.history.change slot (state.cells.gates slot).seq) (λ unfinished. by_owner (sound.releasers.unfinished slot alone.taken unfinished))
    where
      alone : IsAloneWith state worker slot
      alone = who-frees-is-alone config state worker slot actor sound.counts sits frees

      by_owner : IsOwnerOf state slot (state.cells.gates slot).seq ⊎ (state.history.stays slot (state.cells.gates slot).seq ≡ true) → ⊥
      by_owner (inl owner) = omega (arith, owner.pin, alone.none_held (state.history.owner slot (state.cells.gates slot).seq) owner.actor owner.is)
      by_owner (inr stays) = false_true (sym (alone.none_left (state.cells.gates slot).seq) ∙ stays)

  read_out : (actor : ActorState) (reading : Reading) (point : ReadPoint) → let me = record actor { point = Read (record reading { point = point }) } in (state.worker_states actor.worker).actor ≡ Some me
      → ReadLeaves state point
  read_out actor reading (look.FreeSlot slot seq after) sits =
      freed_out actor.worker slot (record actor { point = Read (record reading { point = look.FreeSlot slot seq after }) }) sits (some_of _ (counted_once slot slot refl))
  read_out actor reading point sits = tt

  point_leaves : (actor : ActorState) (point : Point) (observation : Observation) → let me = record actor { point = point } in (state.worker_states actor.worker).actor ≡ Some me → IsInformed config state me
      → Ends state.cells (asks me) observation → PointLeaves state me point observation
  point_leaves actor (points.Admit from to) Won sits informed (inl quiet) = absurd (won_lost quiet.1)
  point_leaves actor (points.Admit from to) Won sits informed (inr changes) =
      informed.ready.has_no_fault ∙ sym (ap (λ (door : Door). door.fault) changes.1 ∙ informed.ready.had_no_fault)
  point_leaves actor (points.FreeSlot slot next) observation sits informed ends =
      freed_out actor.worker slot.slot (record actor { point = points.FreeSlot slot next }) sits (some_of _ (counted_once slot.slot slot.slot refl))
  point_leaves actor (Read reading) observation sits informed ends = read_out actor reading reading.point sits
  point_leaves actor point observation sits informed ends = tt

may_of : (one two : Bool) (after next : State) → (if one && two then Some after else None) ≡ Some next → two ≡ true
may_of true true after next is = refl
may_of true false after next is = cc
may_of false true after next is = refl
may_of false false after next is = cc

-- what holds of all that may follow a step holds of what follows it
module _ {A : Type 0} (P : A → Type 0) (gives : Cells → Observation → A) (all : (cells : Cells) (observation : Observation) → P (gives cells observation)) where
  either : (test : Bool) (one two : A) → P one → P two → P (cond test one two)
  either true one two here there = here
  either false one two here there = there

  follows_change : (shape : Shape) (kind : Kind) (at : At) (from to : Val at) (cells : Cells) → P (changed shape kind at from to cells gives)
  follows_change Exchange kind at from to cells = either (pack at (read cells at) == pack at from) (gives (write cells at to) Won) (gives cells Lost) (all (write cells at to) Won) (all cells Lost)
  follows_change Store kind at from to cells = all (write cells at to) Won
  follows_change Fetch kind at from to cells = all (write cells at (fetched kind at (read cells at))) (seen at (read cells at))

  pub follows : (step : Step) (cells : Cells) → P (done step cells gives)
  follows (Load at) cells = all cells (seen at (read cells at))
  follows (Change kind at from to) cells = follows_change (shape_of kind) kind at from to cells
  follows (FileStep call slot) cells = all cells Won

module _ (config : Config) (state next : State) (actor : ActorState) (sound : IsSound config state) (has : HasFiles config state) (sits : (state.worker_states actor.worker).actor ≡ Some actor)
    (is : turn config state actor.worker (Some actor) ≡ Some next) where
  informed : IsInformed config state actor
  informed = (have_their_requests config state sound actor.worker actor sits).informed

  ended : TurnEnds state next actor.worker actor
  ended = turn_ends config state actor informed next is

  guards : Guards config state actor.worker (moves_told state actor.worker actor ended.observation)
  guards = by_end ended.ends
    where
      by_end : Ends state.cells (asks actor) ended.observation → Guards config state actor.worker (moves_told state actor.worker actor ended.observation)
      by_end (inl quiet) = reads_have_guards config state actor ended.observation informed quiet
      by_end (inr changes) =
          updates_have_guards config state actor ended.observation sound.counts sits informed
          (last_pins_are_free config state actor.worker actor sound.counts sound.points (have_their_requests config state sound) sound.releasers sits)
          (may_of (not (is_some (replied actor))) (may_make config (asks actor)) _ next is) changes

  abbrev after : State
  after = world_told state actor ended.observation

  tells_after : TellsSame state after
  tells_after =
      moves_tell config state actor.worker (moves_told state actor.worker actor ended.observation) guards sound.memory
      (leaves_at state actor.worker (next_of state actor.worker actor ended.observation) actor actor.point ended.observation (next_of state actor.worker actor ended.observation).point
      (point_leaves config state sound actor actor.point ended.observation sits informed ended.ends))

  tells_next : TellsSame state next
  tells_next = is_shared next after ended.same (λ (one : State). TellsSame state one) (record { dues = tells_after.dues; faults = tells_after.faults; values = tells_after.values })

  tenant_state_next : (tenant : ℕ) → SameTenantState config tenant (next.tenant_states tenant) (state.tenant_states tenant)
  tenant_state_next tenant =
      guarded (λ (one : State). SameTenantState config tenant (one.tenant_states tenant) (state.tenant_states tenant)) (not (is_some (replied actor)) && may_make config (asks actor)) (turned state actor.worker actor) next
      (λ may. follows (λ (one : State). SameTenantState config tenant (one.tenant_states tenant) (state.tenant_states tenant))
      (λ (cells : Cells) (observation : Observation). moved state actor.worker actor (made_of state actor.worker actor cells observation))
      (λ cells observation. same_tenant_state config state.tenant_states actor.tenant tenant _ (record { file = refl; is_up = refl; places = refl })) (asks actor) state.cells) is

  pub turn_keeps : IsSound config next → HasFiles config next
  turn_keeps later =
      has_files config next later.memory
      (all_filed_same config state next tells_next tenant_state_next (are_filed config state has))

by_worker_state : (config : Config) (state next : State) (worker : ℕ) (found : Option ActorState) → IsSound config state → HasFiles config state → (state.worker_states worker).actor ≡ found
    → turn config state worker found ≡ Some next → IsSound config next → HasFiles config next
by_worker_state config state next worker None sound has sits is later = absurd (none_some next is)
by_worker_state config state next worker (Some actor) sound has sits is later =
    let same = (sound.counts.worker_states worker actor sits).same_worker in
    turn_keeps config state next actor sound has (subst (λ (n : ℕ). (state.worker_states n).actor ≡ Some actor) (sym same) sits)
    (subst (λ (n : ℕ). turn config state n (Some actor) ≡ Some next) (sym same) is) later

pub turns_keep_files : TurnsKeepFiles
turns_keep_files config state next worker sound has is =
    by_worker_state config state next worker (state.worker_states worker).actor sound has refl is (turns_keep_sound config state next worker sound is)
