-- Lists all that a thread may do to one word of the table, and by which events each extends the table's run.
-- Used by: src/laws.rt, mw_table.
use Rattle.std.specs.Prelude.{ℕ, true, false, ◌≡◌, List, [], ◌∷◌, ◌++◌, Some}
use mathlib.Core.Option.{some}
use lib.ListN.{get_elem?}
use Rattle.atomic_table.specs.Table.{State as Table, Allows, Me}
use Rattle.mw_words.specs.declared.places.At.{At}
use Rattle.mw_words.specs.declared.places.At.TheVariants.{Door as AtDoor, Status as AtStatus}
use Rattle.mw_words.specs.declared.statuses.Status.{Status}
use Rattle.mw_words.specs.Patterns.{unpacked_status}
use Rattle.mw_look.specs.declared.observations.Got.{Got}
use Rattle.mw_look.specs.declared.observations.Got.TheVariants.{Word as Bits}
use Rattle.mw_look.specs.declared.steps.Op.{Op}
use Rattle.mw_look.specs.Places.{pack}
use Rattle.mw_look.specs.Steps.{op_of, place_of}
use Rattle.mw_actor.specs.ActorState.{ActorState}
use Rattle.mw_world.specs.Files.State.{entries_at}
use Rattle.mw_world.specs.declared.outcomes.Outcome.TheVariants.{Good, Fail}
use Rattle.mw_world.specs.declared.config.Config.{Config}
use Rattle.mw_world.specs.Claim.Headline.{IsExecution}
use Rattle.mw_world.specs.Definition.Calls.{Called as CallOn, device_calls, is_made}
use Rattle.mw_world.specs.Definition.Cells.{read}
use Rattle.mw_world.specs.Definition.Extent.{has_place}
use Rattle.mw_world.specs.Definition.Events.{WorldEvent, Come, File as FileEvent}
use Rattle.mw_world.specs.Definition.State.{TenantStart, State, world_at}
use Rattle.mw_rule.specs.Calls.CallEnds.{exchange_of, fault_of}
use Rattle.mw_rule.specs.Calls.FileTokens.{file_told}
use Rattle.mw_rule.specs.FromLaws.{AreNoStarts}
use Rattle.mw_rule.specs.declared.views.HeldFile.{HeldFile}
use Rattle.mw_rule.specs.declared.views.View.{View}
use Rattle.mw_rule.specs.Steps.{LearnsFirstStep, IsNextStep, LearnsPlainLoad, MayCome, LearnsStep}
use Rattle.mw_rule.specs.RunEvents.{StepsOn, events_loaded, events_of, starts_by}
use Rattle.mw_rule.specs.KnownRuns.{known_run_of}
use Rattle.mw_rule.specs.FileCalls.{Calls, Loaded, LearnsFileCall, broken_so, fails, filed_so, place_held}
use Rattle.mw_rule.specs.Layout.{index_of}
use Rattle.mw_rule.specs.Rule.{Each, Fits, IsHandedOut, IsLive, IsRunOf, TableInvariant}
use Rattle.mw_rule.specs.Ways.{finds, made_of_bits}

-- What a thread with this view may do to a word. `Steps`: a step of the request that it carries. `Comes`: the first
-- step of a request that comes. `Looks`: a load that is no step. The others are of a call on a file. `Loads` loads
-- the status of its change. `Exchanges` exchanges the status, which ends a call that went well. `Breaks` sets the
-- fault, which ends a call in which the device call of this number failed. `FindsFault` sets it for a file that had failed before.
pub data WordAction (view : View) : Type 0 where
  Steps : (worker : ℕ) (op : Op) → IsNextStep view worker op → WordAction view
  Comes : (worker : ℕ) (actor : ActorState) → MayCome view worker actor → WordAction view
  Looks : (index : ℕ) → IsLive view → WordAction view
  Loads : (worker : ℕ) (actor : ActorState) (called : CallOn) (held : HeldFile) → Calls view worker actor called held → WordAction view
  Exchanges : (worker : ℕ) (actor : ActorState) (called : CallOn) (held : HeldFile) (status : Status) → Calls view worker actor called held
      → held.found ≡ Some (record { worker = worker; status = status }) → fails view called held ≡ false → WordAction view
  Breaks : (worker number : ℕ) (actor : ActorState) (called : CallOn) (held : HeldFile) (status : Status) → Calls view worker actor called held
      → held.found ≡ Some (record { worker = worker; status = status }) → fails view called held ≡ false
      → is_made (device_calls called.call (entries_at (file_told held.file) (place_held view called held))) number ≡ true → WordAction view
  FindsFault : (worker : ℕ) (actor : ActorState) (called : CallOn) (held : HeldFile) (status : Status) → Calls view worker actor called held
      → held.found ≡ Some (record { worker = worker; status = status }) → fails view called held ≡ true → WordAction view

-- the index of the action's word
abbrev pub index_by : Config → (view : View) → WordAction view → ℕ
index_by config view (Steps worker op drives) = index_of config.pool (place_of op)
index_by config view (Comes worker actor may) = index_of config.pool (AtDoor actor.tenant)
index_by config view (Looks index live) = index
index_by config view (Loads worker actor called held by) = index_of config.pool (AtStatus called.change.slot)
index_by config view (Exchanges worker actor called held status by found sound) = index_of config.pool (AtStatus called.change.slot)
index_by config view (Breaks worker number actor called held status by found sound is_one) = index_of config.pool (AtDoor actor.tenant)
index_by config view (FindsFault worker actor called held status by found failed) = index_of config.pool (AtDoor actor.tenant)

-- the bits that the action leaves, by those that it found
abbrev pub bits_left : (view : View) → WordAction view → ℕ → ℕ
bits_left view (Steps worker op drives) bits = made_of_bits op bits
bits_left view (Comes worker actor may) bits = bits
bits_left view (Looks index live) bits = bits
bits_left view (Loads worker actor called held by) bits = bits
bits_left view (Exchanges worker actor called held status by found sound) bits = made_of_bits (op_of (exchange_of called status)) bits
bits_left view (Breaks worker number actor called held status by found sound is_one) bits = made_of_bits (op_of (fault_of actor)) bits
bits_left view (FindsFault worker actor called held status by found failed) bits = made_of_bits (op_of (fault_of actor)) bits

-- the events by which the action extends the run, by the bits that it found
abbrev pub events_by : (view : View) → WordAction view → ℕ → List WorldEvent
events_by view (Steps worker op drives) bits = events_of worker (finds op bits) drives.token.attempt drives.actor
events_by view (Comes worker actor may) bits = Come worker actor.tenant actor.job ∷ events_of worker (Bits bits) may.token.attempt actor
events_by view (Looks index live) bits = []
events_by view (Loads worker actor called held by) bits = events_loaded (starts_by called.call (unpacked_status bits)) worker
events_by view (Exchanges worker actor called held status by found sound) bits = FileEvent worker Good ∷ []
events_by view (Breaks worker number actor called held status by found sound is_one) bits = FileEvent worker (Fail number) ∷ []
events_by view (FindsFault worker actor called held status by found failed) bits = FileEvent worker Good ∷ []

-- what the thread learns from the action, which found these bits
abbrev pub told_by : (view : View) → WordAction view → ℕ → View → Type 0
told_by view (Steps worker op drives) bits new = LearnsStep (finds op bits) view new
told_by view (Comes worker actor may) bits new = LearnsFirstStep actor (Bits bits) view new
told_by view (Looks index live) bits new = LearnsPlainLoad index bits view new
told_by view (Loads worker actor called held by) bits new = Loaded worker actor called held bits view new
told_by view (Exchanges worker actor called held status by found sound) bits new = (bits ≡ pack (AtStatus called.change.slot) status) × LearnsFileCall true held (filed_so view actor called held) view new
told_by view (Breaks worker number actor called held status by found sound is_one) bits new = LearnsFileCall false held (broken_so view called held) view new
told_by view (FindsFault worker actor called held status by found failed) bits new = LearnsFileCall false held held.file view new

-- A run of the world is extended by these events. What the thread knew was true before them, and what it knows now is
-- true after them. The run has a part from before the table was made, then events that are no starts. It extends the
-- run that the thread knew, if it knew one, and the run that it was told. The thread now knows this run with these events. They
-- hand out the reply of each request that its workers finished.
pub record WentOn (more : List WorldEvent) (old new : View) : Type 0 where
  pub openings : ℕ → TenantStart
  pub before : List WorldEvent
  pub events : List WorldEvent
  pub state : State
  pub next : State
  pub played : IsExecution old.config openings (before ++ events) state
  pub goes_on : IsExecution old.config openings (before ++ (events ++ more)) next
  pub no_starts : AreNoStarts events
  pub follows : IsRunOf old.config openings before events old
  pub known_run : new.known_run ≡ Some (known_run_of old.config openings before (events ++ more))
  pub knew : Fits old.config openings state events old
  pub knows : Fits old.config openings next (events ++ more) new
  pub handed : Each (IsHandedOut old.config (world_at old.config openings) (before ++ (events ++ more))) new.mine

-- In this world, the place with this index has these bits.
abbrev pub StandsAt : Config → State → ℕ → ℕ → Type 0
StandsAt config state index bits = (at : At) → has_place config at ≡ true → index_of config.pool at ≡ index → bits ≡ pack at (read state.cells at)

-- The same, and the word at this index has the first bits before these events, and the second ones after them.
pub record WentOnAt (index found left : ℕ) (more : List WorldEvent) (old new : View) : Type 0 where
  pub run : WentOn more old new
  pub stood : StandsAt old.config run.state index found
  pub stands : StandsAt old.config run.next index left

-- A run is extended by this step of a worker's request and, if the reply is there then, its hand-out. The step's word
-- had some bits, which gave what the request was told; after the events it has what the step makes of them.
pub record IsOneStep (worker : ℕ) (op : Op) (got : Got) (attempt : ℕ) (actor : ActorState) (old new : View) : Type 0 where
  pub bits : ℕ
  pub found : got ≡ finds op bits
  pub run : WentOn (events_of worker got attempt actor) old new
  pub stood : bits ≡ pack (place_of op) (read run.state.cells (place_of op))
  pub stands : made_of_bits op bits ≡ pack (place_of op) (read run.next.cells (place_of op))

-- A run is extended by the coming of a request, then its first step, then its hand-out if its reply is there. The
-- step found the bits of its tenant's door, and they stay.
pub record IsFirstStep (worker : ℕ) (got : Got) (attempt : ℕ) (actor : ActorState) (old new : View) : Type 0 where
  pub bits : ℕ
  pub found : got ≡ Bits bits
  pub run : WentOn (Come worker actor.tenant actor.job ∷ events_of worker got attempt actor) old new
  pub stood : bits ≡ pack (AtDoor actor.tenant) (read run.state.cells (AtDoor actor.tenant))
  pub stands : bits ≡ pack (AtDoor actor.tenant) (read run.next.cells (AtDoor actor.tenant))

-- The step that the thread may make next, which found this, extends a run by its own events.
abbrev pub AddsStepEvent : Got → View → View → Type 0
AddsStepEvent got old new = (worker : ℕ) (op : Op) (drives : IsNextStep old worker op) → IsOneStep worker op got drives.token.attempt drives.actor old new

-- The first step of this request, if it may come to the thread's worker, extends a run by its events.
abbrev pub AddsFirstStepEvents : ActorState → Got → View → View → Type 0
AddsFirstStepEvents actor got old new = (worker : ℕ) (may : MayCome old worker actor) → IsFirstStep worker got may.token.attempt actor old new

-- A load of these bits at this index, which is no step, adds no event.
abbrev pub AddsNoEvent : ℕ → ℕ → View → View → Type 0
AddsNoEvent index bits old new = WentOnAt index bits bits [] old new

module _ (config : Config) (begun : (ℕ → TenantStart) → List WorldEvent → Type 0) where
  -- In every table under the rule, each of the thread's actions extends the table's run by the action's events.
  abbrev pub ActionsExtendRuns : Type 0
  ActionsExtendRuns = (id : ℕ) (view : View) (move : WordAction view) (make : ℕ → ℕ) → ((bits : ℕ) → make bits ≡ bits_left view move bits) → (s : Table ActorState View) (tied : TableInvariant config begun s)
      → get_elem? s.views id ≡ some view → StepsOn config begun s tied id (index_by config view move) make (events_by view move) (told_by view move)

  -- The rule allows each action. What the thread knows then is true after a run that is extended by the action's events.
  abbrev pub ActionsAreAllowed : Type 0
  ActionsAreAllowed = (slots id : ℕ) (me : Me ActorState View) (move : WordAction me.0) (make : ℕ → ℕ) → ((bits : ℕ) → make bits ≡ bits_left me.0 move bits)
      → Allows (TableInvariant config begun) slots id me (index_by config me.0 move) make (λ bits next. told_by me.0 move bits next.0 × WentOn (events_by me.0 move bits) me.0 next.0)

  -- And over these events the action's word changes from the bits that were found to the bits that are left.
  abbrev pub ActionsChangeWords : Type 0
  ActionsChangeWords = (slots id : ℕ) (me : Me ActorState View) (move : WordAction me.0) (make : ℕ → ℕ) → ((bits : ℕ) → make bits ≡ bits_left me.0 move bits)
      → Allows (TableInvariant config begun) slots id me (index_by config me.0 move) make (λ bits next. told_by me.0 move bits next.0
      × WentOnAt (index_by config me.0 move) bits (bits_left me.0 move bits) (events_by me.0 move bits) me.0 next.0)

  -- The rule allows each step of a request, and the step extends a run by its own events.
  abbrev pub StepsAreEvents : Type 0
  StepsAreEvents = (slots id worker : ℕ) (me : Me ActorState View) (op : Op) (make : ℕ → ℕ) (got : ℕ → Got) → IsNextStep me.0 worker op → ((bits : ℕ) → make bits ≡ made_of_bits op bits)
      → ((bits : ℕ) → got bits ≡ finds op bits)
      → Allows (TableInvariant config begun) slots id me (index_of config.pool (place_of op)) make (λ bits next. LearnsStep (got bits) me.0 next.0 × AddsStepEvent (got bits) me.0 next.0)

  -- The same for a request's first step.
  abbrev pub FirstStepsAreEvents : Type 0
  FirstStepsAreEvents = (slots id worker : ℕ) (me : Me ActorState View) (actor : ActorState) (make : ℕ → ℕ) → MayCome me.0 worker actor → ((bits : ℕ) → make bits ≡ bits)
      → Allows (TableInvariant config begun) slots id me (index_of config.pool (AtDoor actor.tenant)) make (λ bits next. LearnsFirstStep actor (Bits bits) me.0 next.0 × AddsFirstStepEvents actor (Bits bits) me.0 next.0)

  -- The same for a load that is no step, which adds no event.
  abbrev pub PlainLoadsAreNoEvents : Type 0
  PlainLoadsAreNoEvents = (slots id index : ℕ) (me : Me ActorState View) (make : ℕ → ℕ) → IsLive me.0 → ((bits : ℕ) → make bits ≡ bits)
      → Allows (TableInvariant config begun) slots id me index make (λ bits next. LearnsPlainLoad index bits me.0 next.0 × AddsNoEvent index bits me.0 next.0)

-- The thread says which of the call's device calls failed: if a run can be extended with one of them, it can with any other.
abbrev pub AnyNumberFails : Type 0
AnyNumberFails = (old new : View) (worker : ℕ) (actor : ActorState) (called : CallOn) (held : HeldFile) (status : Status) (one other : ℕ) → Calls old worker actor called held
    → held.found ≡ Some (record { worker = worker; status = status }) → fails old called held ≡ false
    → is_made (device_calls called.call (entries_at (file_told held.file) (place_held old called held))) one ≡ true
    → is_made (device_calls called.call (entries_at (file_told held.file) (place_held old called held))) other ≡ true
    → WentOn (FileEvent worker (Fail one) ∷ []) old new → WentOn (FileEvent worker (Fail other) ∷ []) old new
