-- Defines what a step gives the simulation besides its end, by its label: what it found at the tenant's file, door and gates.
-- Used by: ChangeSteps, ReadSteps, ReplySteps, among others.
use Rattle.std.specs.Prelude.{ℕ, ◌≡◌, ◌≢◌, ◌<◌, true, false, List, slice_get, Some, None}
use Rattle.mw_words.specs.declared.jobs.Entry.{Entry}
use Rattle.mw_words.specs.declared.jobs.Job.TheVariants.{Get}
use Rattle.mw_words.specs.declared.replies.Reply.{Reply}
use Rattle.mw_words.specs.declared.replies.Reply.TheVariants.{Val}
use Rattle.mw_words.specs.declared.statuses.Status.{Status}
use Rattle.mw_words.specs.declared.statuses.Status.TheVariants.{Draft, Open}
use Rattle.mw_words.specs.Change.{word_at}
use Rattle.mw_lone.specs.Store.{is_cas}
use Rattle.mw_look.specs.declared.points.Point.TheVariants.{RecheckWord}
use Rattle.mw_look.specs.declared.points.Trail.TheVariants.{Held as ByHeld}
use Rattle.mw_look.specs.Program.{Reading}
use Rattle.mw_actor.specs.declared.points.After.TheVariants.{Reply as ThenReply}
use Rattle.mw_actor.specs.declared.points.Point.TheVariants.{Read, DecideNo, Unpin}
use Rattle.mw_actor.specs.declared.points.Slot.{Slot}
use Rattle.mw_actor.specs.declared.points.Task.{Task}
use Rattle.mw_actor.specs.ActorState.{ActorState, entries_of}
use Rattle.mw_world.specs.declared.step_labels.StepLabel.{StepLabel}
use Rattle.mw_world.specs.declared.step_labels.StepLabel.TheVariants.{Admitted, FoundBusy, FoundFault, Looked, Reserved, LookedBefore, Claimed, Decided, Refused, Freed, Lowered, GaveUp}
use Rattle.mw_world.specs.declared.step_labels.Phase.TheVariants.{Acquired}
use Rattle.mw_world.specs.Definition.History.{expected, new}
use Rattle.mw_world.specs.Definition.Logical.{held_value}
use Rattle.mw_world.specs.Definition.State.{State, TenantState}
use Rattle.mw_law_runs.specs.Obligations.{own_of}
use Rattle.mw_law_store.specs.Due.{Answers, Dropping, due, lowers, told}
use Rattle.mw_law_store.specs.ReservedPlaces.{PlacedAt}
use Rattle.mw_law_store.specs.Refinement.{is_live, told_of, changes_of_tenant}

module _ (state : State) (actor next : ActorState) where
  abbrev pub tenant_state : TenantState
  tenant_state = state.tenant_states actor.tenant

  -- the change is one of the request's tenant
  abbrev pub IsItsTenants : Slot → Type 0
  IsItsTenants target = (changes_of_tenant state.history actor.tenant).is_of target.slot target.seq

  -- A change asks its tenant's door, and the file works.
  pub record AsksDoor : Type 0 where
    pub is_change : is_cas actor.job ≡ true
    pub file_works : tenant_state.file.has_failed ≡ false

  -- A read is of a word that has this value now.
  pub record LooksHere (value : ℕ) : Type 0 where
    pub address : ℕ
    pub reads : actor.job ≡ Get address
    pub says : word_at tenant_state.file.contents address ≡ value

  pub record LooksNow : Type 0 where
    pub value : ℕ
    pub looks : LooksHere value
    pub answers : due next.point ≡ Answers (Val value)

  -- A change of the tenant, of this request and with these entries, has this entry of a word that now has this value, which is
  -- not the expected one.
  pub record RefusesHere (n : ℕ) (entries : List Entry) (index address value : ℕ) : Type 0 where
    pub target : Slot
    pub its : IsItsTenants target
    pub request : state.history.request target.slot target.seq ≡ n
    pub change : state.history.change target.slot target.seq ≡ entries
    pub entry : Entry
    pub is_entry : slice_get entries index ≡ Some entry
    pub same_address : address ≡ entry.addr
    pub says : word_at tenant_state.file.contents address ≡ value
    pub differs : value ≢ entry.expected

  -- A read goes on with a value that it may reply at its reserved place, because its word is still acquired.
  pub record LookedThere : Type 0 where
    pub reading : Reading
    pub slot : ℕ
    pub seq : ℕ
    pub status : Status
    pub was : ℕ
    pub written : ℕ
    pub is : actor.point ≡ Read (record reading { point = RecheckWord (ByHeld slot seq) status was written })
    pub acquired : state.history.phase slot seq reading.address ≡ Acquired
    pub answers : due next.point ≡ Answers (Val (held_value status (expected state.history slot seq reading.address) (new state.history slot seq reading.address)))

  -- A change that is refused is open, and may be refused so at the reserved place.
  pub record RefusesThere (target : Slot) (entry value : ℕ) : Type 0 where
    pub its : IsItsTenants target
    pub is_open : state.history.fate target.slot target.seq ≡ Open
    pub task : Task
    pub is : actor.point ≡ DecideNo task entry value
    pub same_target : target ≡ task.target
    pub same_entries : entries_of actor task ≡ state.history.change target.slot target.seq

  -- The change of a slot that is freed has its reply.
  pub record LetsGo (slot : Slot) : Type 0 where
    pub its : IsItsTenants slot
    pub live : is_live state.cells slot.slot slot.seq
    pub reply : Reply
    pub has_reply : told_of state.history slot.slot slot.seq ≡ Some reply

  -- A slot is claimed under a number under which it was never claimed.
  pub record ClaimsNew (own : Slot) : Type 0 where
    pub not_claimed : state.history.is_claimed own.slot own.seq ≡ false
    pub not_fault_decided : state.history.is_fault_decided own.slot own.seq ≡ false
    pub draft : state.history.fate own.slot own.seq ≡ Draft

  -- A change's status goes on to this one, which gives the same reply.
  pub record DecidesSo (target : Slot) (status : Status) : Type 0 where
    pub its : IsItsTenants target
    pub tells_same : told (state.history.is_fault_decided target.slot target.seq) status (state.history.change target.slot target.seq) ≡ told_of state.history target.slot target.seq

  -- The request gives up with FAULT, and its change has no reply yet unless FAULT was decided for it.
  pub record GivesFault (own : Slot) : Type 0 where
    pub its : IsItsTenants own
    pub has_failed : tenant_state.file.has_failed ≡ true
    pub tells_nothing : state.history.is_fault_decided own.slot own.seq ≡ false → told_of state.history own.slot own.seq ≡ None

  -- The request gives up, and its change has its reply, if it has one.
  pub record GivesReply (own : Slot) : Type 0 where
    pub its : IsItsTenants own
    pub tells : (reply : Reply) → due next.point ≡ Answers reply → told_of state.history own.slot own.seq ≡ Some reply

  -- The request's own change is done with, and has its reply.
  abbrev pub Settles : Type 0
  Settles = (own : Slot) (reply : Reply) → own_of actor.point ≡ Some own → next.point ≡ Unpin own (ThenReply reply) → IsItsTenants own × (told_of state.history own.slot own.seq ≡ Some reply)

  -- What a step with this label gives, calls on files excepted.
  abbrev pub Given : StepLabel → Type 0
  Given Admitted = AsksDoor × ((state.cells.doors actor.tenant).used < tenant_state.quota)
  Given FoundBusy = AsksDoor × ((state.cells.doors actor.tenant).used ≡ tenant_state.quota)
  Given FoundFault = tenant_state.file.has_failed ≡ true
  Given Looked = LooksNow
  Given Reserved = PlacedAt state.history LooksHere RefusesHere next next.point
  Given LookedBefore = LookedThere
  Given (Claimed own) = ClaimsNew own
  Given (Decided target status) = DecidesSo target status
  Given (Refused target entry value) = RefusesThere target entry value
  Given (Freed slot) = LetsGo slot
  Given Lowered = lowers actor.point ≡ Dropping → is_cas actor.job ≡ true
  Given (GaveUp own true) = GivesFault own
  Given (GaveUp own false) = GivesReply own
  Given label = Unit {0}
