-- Defines the refinement relation between a tenant's part of a world and its store alone (the reference model), also when
-- numbers are used up.
-- Used by: mw_rule, mw_law_threads.
use Rattle.std.specs.Prelude.{ℕ, ◌≡◌, ◌≢◌, true, false, List, Option, Some, None}
use Rattle.mw_words.specs.declared.jobs.Entry.{Entry}
use Rattle.mw_words.specs.declared.jobs.Job.{Job}
use Rattle.mw_words.specs.declared.replies.Reply.{Reply}
use Rattle.mw_lone.specs.Store.{Store, RequestState, request, entries_of, is_cas}
use Rattle.mw_law_store.specs.Late.LateMarks.{IsNumbered}
use Rattle.mw_actor.specs.declared.points.Slot.{Slot}
use Rattle.mw_actor.specs.ActorState.{ActorState}
use Rattle.mw_world.specs.Definition.Cells.{Cells}
use Rattle.mw_world.specs.Definition.History.{History}
use Rattle.mw_world.specs.Definition.State.{State, WorkerState, TenantState}
use Rattle.mw_law_runs.specs.Obligations.{own_of}
use Rattle.mw_law_store.specs.Due.{Due, Waits, Works, Answers, Quits, due, waits, Lowering, Retiring, lowers, told}

-- The parts of a world to which a tenant's requests are related. Each is a function, so a step that changes one of them leaves
-- the others by computing.

-- a store's requests, by number
abbrev pub Requests : Type 0
Requests = ℕ → Option RequestState

-- a slot is taken under a sequence number
abbrev pub Live : Type 1
Live = ℕ → ℕ → Type 0

abbrev pub is_live : Cells → Live
is_live cells slot seq = ((cells.gates slot).taken ≡ true) × ((cells.gates slot).seq ≡ seq)

-- the reply of each change, if it is decided, by slot and sequence number
abbrev pub Tells : Type 0
Tells = ℕ → ℕ → Option Reply

abbrev pub told_of : History → Tells
told_of past slot seq = told (past.is_fault_decided slot seq) (past.fate slot seq) (past.change slot seq)

-- The changes of a tenant: which they are, the request of each, and its entries.
pub record TenantChanges : Type 1 where
  pub is_of : ℕ → ℕ → Type 0
  pub request : ℕ → ℕ → ℕ
  pub change : ℕ → ℕ → List Entry

abbrev pub changes_of_tenant : History → ℕ → TenantChanges
changes_of_tenant past tenant = record {
  is_of = λ slot seq. (past.is_claimed slot seq ≡ true) × (past.tenant slot seq ≡ tenant);
  request = past.request;
  change = past.change;
}

-- What the store has of one request.

-- It asked for this job, and its reply was not handed out.
pub record IsHis (at : Requests) (n : ℕ) (job : Job) : Type 0 where
  pub found : RequestState
  pub is_asked : at n ≡ Some found
  pub its_job : found.job ≡ job
  pub not_handed : found.handed ≡ false

-- It asked for this job, has this reply, and its reply was not handed out.
pub record HasReply (at : Requests) (n : ℕ) (job : Job) (reply : Reply) : Type 0 where
  pub found : RequestState
  pub is_asked : at n ≡ Some found
  pub its_job : found.job ≡ job
  pub has_reply : found.placed ≡ Some reply
  pub not_handed : found.handed ≡ false

-- The store has what is due of a request. A request that waits is given whole, so that a mark about it computes.
abbrev pub IsDue : Requests → ℕ → Job → Due → Type 0
IsDue at n job (Waits admitted) = at n ≡ Some (record { job = job; admitted = admitted; placed = None; retired = false; handed = false })
IsDue at n job Works = IsHis at n job
IsDue at n job (Answers reply) = HasReply at n job reply
IsDue at n job Quits = IsHis at n job

-- The request of a change with these entries: it was admitted, and this is its reply, if it has one.
pub record IsOfChange (at : Requests) (n : ℕ) (change : List Entry) (placed : Option Reply) : Type 0 where
  pub found : RequestState
  pub is_asked : at n ≡ Some found
  pub has_slot : found.admitted ≡ true
  pub its_entries : entries_of found.job ≡ change
  pub is_placed : found.placed ≡ placed

-- Its slot was freed, and the door does not count it off yet: it was admitted and has a reply, and its slot is not given back.
pub record IsRetiring (at : Requests) (n : ℕ) : Type 0 where
  pub found : RequestState
  pub is_asked : at n ≡ Some found
  pub has_slot : found.admitted ≡ true
  pub reply : Reply
  pub has_reply : found.placed ≡ Some reply
  pub not_retired : found.retired ≡ false

-- Its slot was not given back.
abbrev pub IsReserved : Requests → ℕ → Type 0
IsReserved at n = (r : RequestState) → at n ≡ Some r → r.retired ≡ false

-- The store's requests agree with a tenant's changes.
pub record ChangesRefine (live : Live) (claimed : TenantChanges) (tells : Tells) (at : Requests) : Type 0 where
  -- the request of each was asked, and its reply is the one that the change has decided
  pub asked : (slot seq : ℕ) → claimed.is_of slot seq → IsOfChange at (claimed.request slot seq) (claimed.change slot seq) (tells slot seq)
  -- two changes belong to two requests
  pub apart : (slot seq other number : ℕ) → claimed.is_of slot seq → claimed.is_of other number → claimed.request slot seq ≡ claimed.request other number → (slot ≡ other) × (seq ≡ number)
  -- while its slot is taken for a change, the slot of its request was not given back
  pub kept : (slot seq : ℕ) → live slot seq → claimed.is_of slot seq → IsReserved at (claimed.request slot seq)

-- The store's request of this number agrees with a worker: the request whose slot the worker freed last, the worker's job, what
-- is due at its point, whether it is about to lower the door, and its own change.
pub record WorkerRefines (live : Live) (claimed : TenantChanges) (at : Requests) (number freed : ℕ) (job : Job) (is : Due) (lowering : Lowering) (own : Option Slot) : Type 0 where
  pub is_due : IsDue at number job is
  -- while it waits, no change is its own; and if its job is a change, it has freed no slot yet
  pub unclaimed : waits is ≡ true → (slot seq : ℕ) → claimed.is_of slot seq → claimed.request slot seq ≢ number
  pub fresh : waits is ≡ true → is_cas job ≡ true → freed ≡ number
  -- its own change is of this request
  pub its_own : (mine : Slot) → own ≡ Some mine → claimed.request mine.slot mine.seq ≡ number
  -- if it is about to lower the door for it, the request whose slot it freed is retiring, and no slot is taken for that one
  pub retires : lowering ≡ Retiring → IsRetiring at freed
  pub retires_else : lowering ≡ Retiring → (slot seq : ℕ) → live slot seq → claimed.is_of slot seq → claimed.request slot seq ≢ freed

-- The store agrees with a worker, if the worker has a request of this tenant.
abbrev pub OfActor : Live → TenantChanges → ℕ → Requests → ℕ → ℕ → Option ActorState → Type 0
OfActor live claimed tenant at number freed None = Unit {0}
OfActor live claimed tenant at number freed (Some actor) =
    actor.tenant ≡ tenant → WorkerRefines live claimed at number freed actor.job (due actor.point) (lowers actor.point) (own_of actor.point)

-- Two requests of a tenant have two numbers. If both are about to lower the door for a freed slot, they freed the slots of two
-- requests.
pub record AreTwo (number other freed another : ℕ) (lowering falling : Lowering) : Type 0 where
  pub numbers : number ≢ other
  pub freed_two : lowering ≡ Retiring → falling ≡ Retiring → freed ≢ another

-- Two workers' requests are two, if both are of this tenant.
abbrev pub AreApart : ℕ → WorkerState → WorkerState → Option ActorState → Option ActorState → Type 0
AreApart tenant worker_state other (Some actor) (Some another) =
    actor.tenant ≡ tenant → another.tenant ≡ tenant → AreTwo worker_state.request other.request worker_state.retiring other.retiring (lowers actor.point) (lowers another.point)
AreApart tenant worker_state other one two = Unit {0}

-- The store's requests agree with all of a tenant's changes and with all workers.
pub record Asking (live : Live) (claimed : TenantChanges) (tells : Tells) (worker_states : ℕ → WorkerState) (tenant : ℕ) (at : Requests) : Type 0 where
  pub changes : ChangesRefine live claimed tells at
  pub each : (worker : ℕ) → OfActor live claimed tenant at (worker_states worker).request (worker_states worker).retiring (worker_states worker).actor
  pub apart : (worker other : ℕ) → worker ≢ other → AreApart tenant (worker_states worker) (worker_states other) (worker_states worker).actor (worker_states other).actor

-- The store agrees with a tenant's state and its door. That the door has the fault when the file has failed is a fact about
-- files.
pub record Holding (cells : Cells) (tenant_state : TenantState) (tenant : ℕ) (store : Store) : Type 0 where
  pub words : tenant_state.file.contents ≡ store.words
  pub quota : tenant_state.quota ≡ store.quota
  pub used : (cells.doors tenant).used ≡ store.used
  pub faulted : tenant_state.file.has_failed ≡ store.faulted
  pub in_doubt : tenant_state.file.doubt ≡ store.in_doubt
  pub next : tenant_state.asked ≡ store.next
  pub numbered : IsNumbered store

-- A tenant's part of a world refines this store.
pub record Refines (state : State) (tenant : ℕ) (store : Store) : Type 0 where
  pub holds : Holding state.cells (state.tenant_states tenant) tenant store
  pub asks : Asking (is_live state.cells) (changes_of_tenant state.history tenant) (told_of state.history) state.worker_states tenant (request store)
