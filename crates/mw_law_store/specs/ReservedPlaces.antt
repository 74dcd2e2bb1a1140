-- Defines what holds of a reserved place: an empty place in a tenant's history, which a worker fills later with a late mark
-- (event). In every run the tenant's words there allow the mark; it is legal there if numbers are left (`IsReservedFor`).
-- Used by: specs/Simulation.
use Rattle.std.specs.Prelude.{ℕ, ◌≡◌, ◌≢◌, Bool, true, false, List, slice_get, Option, Some, None}
use Rattle.mw_words.specs.declared.jobs.Entry.{Entry}
use Rattle.mw_words.specs.declared.replies.Reply.TheVariants.{Val, No as SaysNo}
use Rattle.mw_words.specs.declared.statuses.Status.{Status}
use Rattle.mw_lone.specs.declared.marks.Mark.{Mark}
use Rattle.mw_lone.specs.declared.marks.Mark.TheVariants.{Look, Miss}
use Rattle.mw_lone.specs.Store.{Store}
use Rattle.mw_law_store.specs.Late.LateMarks.{IsReservedFor}
use Rattle.mw_look.specs.declared.points.Trail.{Trail}
use Rattle.mw_look.specs.declared.points.Trail.TheVariants.{Held as ByHeld, Planted as ByPlanted}
use Rattle.mw_look.specs.declared.points.Point.{Point as ReadPoint}
use Rattle.mw_look.specs.declared.points.Point.TheVariants.{FindEntry, ReadExpected, ReadNew, RecheckWord}
use Rattle.mw_actor.specs.declared.points.Point.{Point}
use Rattle.mw_actor.specs.declared.points.Point.TheVariants.{Read, DecideNo}
use Rattle.mw_actor.specs.ActorState.{ActorState, entry_of}
use Rattle.mw_world.specs.declared.step_labels.Phase.TheVariants.{Acquired}
use Rattle.mw_world.specs.Definition.History.{History, expected, new}
use Rattle.mw_world.specs.Definition.Logical.{held_value}
use Rattle.mw_world.specs.Definition.State.{State, WorkerState}
use Rattle.mw_law_store.specs.AbstractStates.{AbstractState, CouldLook, CouldMiss}

-- a read that follows this trail has a reserved place: it found its word held by a change
abbrev pub keeps_by : Trail → Bool
keeps_by (ByHeld slot seq) = true
keeps_by (ByPlanted worker number row) = false

-- a read has a reserved place at this point
abbrev pub keeps_in_read : ReadPoint → Bool
keeps_in_read (FindEntry trail status entry) = keeps_by trail
keeps_in_read (ReadExpected trail status entry) = keeps_by trail
keeps_in_read (ReadNew trail status entry was) = keeps_by trail
keeps_in_read (RecheckWord trail status was written) = keeps_by trail
keeps_in_read point = false

-- a request has a reserved place at this point: a read that follows a held word, or a worker that is about to decide NO
abbrev pub keeps : Point → Bool
keeps (Read look) = keeps_in_read look.point
keeps (DecideNo task entry value) = true
keeps point = false

-- A read that follows a held word may take place here with the value that the word had, if the word is still acquired. `looks`
-- tells with which values it could take place.
abbrev pub PlacedBy : History → (ℕ → Type 0) → ℕ → Trail → Status → Type 0
PlacedBy past looks address (ByHeld slot seq) status =
    past.phase slot seq address ≡ Acquired → looks (held_value status (expected past slot seq address) (new past slot seq address))
PlacedBy past looks address (ByPlanted worker number row) status = Unit {0}

-- The same for a read at this point.
abbrev pub PlacedInRead : History → (ℕ → Type 0) → ℕ → ReadPoint → Type 0
PlacedInRead past looks address (FindEntry trail status entry) = PlacedBy past looks address trail status
PlacedInRead past looks address (ReadExpected trail status entry) = PlacedBy past looks address trail status
PlacedInRead past looks address (ReadNew trail status entry was) = PlacedBy past looks address trail status
PlacedInRead past looks address (RecheckWord trail status was written) = PlacedBy past looks address trail status
PlacedInRead past looks address point = Unit {0}

-- a refusal, by the request and the entries of its change, the index of the entry, its address and the value found
abbrev pub Refusals : Type 1
Refusals = ℕ → List Entry → ℕ → ℕ → ℕ → Type 0

-- At this point the request's read, or the refusal of the change that it works on, may take place here.
abbrev pub PlacedAt : History → (ℕ → Type 0) → Refusals → ActorState → Point → Type 0
PlacedAt past looks misses actor (Read look) = PlacedInRead past looks look.address look.point
PlacedAt past looks misses actor (DecideNo task entry value) =
    misses (past.request task.target.slot task.target.seq) (past.change task.target.slot task.target.seq) entry (entry_of actor task entry).addr value
PlacedAt past looks misses actor point = Unit {0}

-- A worker's reserved place is right at this point: its read or the refusal could take place there.
abbrev pub ReservedAt : History → AbstractState → List (Option Mark) → WorkerState → ActorState → Point → Type 0
ReservedAt past start lines worker_state actor point =
    PlacedAt past (λ value. CouldLook start lines worker_state.kept worker_state.request actor.job value)
    (λ n entries index address value. CouldMiss start lines worker_state.kept n entries index address value) actor point

-- A worker's reserved place, if it has one, is empty and right.
pub record HasReserved (past : History) (start : AbstractState) (lines : List (Option Mark)) (worker_state : WorkerState) (actor : ActorState) : Type 0 where
  pub is_empty : keeps actor.point ≡ true → slice_get lines worker_state.kept ≡ Some None
  pub kept_for : ReservedAt past start lines worker_state actor actor.point

-- The places that requests of a tenant have reserved: each is empty and right, and no two are the same.
pub record Reserved (state : State) (tenant : ℕ) (start : AbstractState) : Type 0 where
  pub each : (worker : ℕ) (actor : ActorState) → (state.worker_states worker).actor ≡ Some actor → actor.tenant ≡ tenant
      → HasReserved state.history start (state.tenant_states tenant).lines (state.worker_states worker) actor
  pub apart : (worker other : ℕ) (actor another : ActorState) → worker ≢ other → (state.worker_states worker).actor ≡ Some actor → (state.worker_states other).actor ≡ Some another
      → actor.tenant ≡ tenant → another.tenant ≡ tenant → keeps actor.point ≡ true → keeps another.point ≡ true → (state.worker_states worker).kept ≢ (state.worker_states other).kept

-- The lines before a worker's reserved place are a legal run from this store on, and the mark would be legal there
-- (`IsReservedFor` of mw_law_store).
abbrev pub LegalAt : History → Store → List (Option Mark) → WorkerState → ActorState → Point → Type 0
LegalAt past base lines worker_state actor point =
    PlacedAt past (λ value. IsReservedFor base lines worker_state.kept (Look worker_state.request) worker_state.request (Val value))
    (λ n entries index address value. IsReservedFor base lines worker_state.kept (Miss n index) n (SaysNo address value)) actor point
