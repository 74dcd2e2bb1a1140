-- Facts about decided faults, tenants that are down, requests that give up, and reads, which the proofs about marks need.
-- Used by: specs/Laws.
use Rattle.std.specs.Prelude.{ℕ, ◌≡◌, ◌≢◌, ◌<◌, ◌⊎◌, Bool, true, false, length, Some}
use Rattle.mw_words.specs.declared.replies.Reply.TheVariants.{Fault as SaysFault}
use Rattle.mw_words.specs.declared.statuses.Status.TheVariants.{YesDirty}
use Rattle.mw_look.specs.declared.points.Trail.{Trail}
use Rattle.mw_look.specs.declared.points.Point.{Point as ReadPoint}
use Rattle.mw_look.specs.declared.points.Point.TheVariants.{ReadDoor as DoorOfRead, FindEntry, ReadExpected, ReadNew, RecheckWord, Replied as RepliedOfRead}
use Rattle.mw_look.specs.Program.{slot_of, seq_of}
use Rattle.mw_actor.specs.declared.points.After.{After}
use Rattle.mw_actor.specs.declared.points.After.TheVariants.{GiveUp as ThenGiveUp}
use Rattle.mw_actor.specs.declared.points.Point.{Point}
use Rattle.mw_actor.specs.declared.points.Point.TheVariants.{Read, ReadDoor, Unpin, FreeSlot, LowerDoor, GiveUp, Replied}
use Rattle.mw_actor.specs.ActorState.{ActorState, entry_at}
use Rattle.mw_world.specs.Definition.History.{History, expected, new}
use Rattle.mw_world.specs.Definition.State.{State}
use Rattle.mw_world.specs.Claim.Obligations.{IsEntryAt}

-- this request gives up with FAULT next, unless its change was decided
abbrev pub gives_fault : After → Bool
gives_fault (ThenGiveUp own SaysFault) = true
gives_fault onward = false

-- at this point a request gives up with FAULT, unless its change was decided
abbrev pub says_fault : Point → Bool
says_fault (GiveUp own SaysFault) = true
says_fault (Unpin slot onward) = gives_fault onward
says_fault (FreeSlot slot onward) = gives_fault onward
says_fault (LowerDoor onward) = gives_fault onward
says_fault point = false

-- at this point a read has found that the file works, at its tenant's door, and has no reply
abbrev pub read_is_inside : ReadPoint → Bool
read_is_inside DoorOfRead = false
read_is_inside (RepliedOfRead reply) = false
read_is_inside point = true

-- at this point a request has found that the file works, at its tenant's door, and has no reply
abbrev pub is_inside : Point → Bool
is_inside (Read look) = read_is_inside look.point
is_inside ReadDoor = false
is_inside (Replied reply) = false
is_inside point = true

-- A read has looked for the entry of its word in the change that it follows, and no entry before this one is of the word.
abbrev pub IsSoughtFrom : History → Trail → ℕ → ℕ → Type 0
IsSoughtFrom past trail address entry = (index : ℕ) → index < entry → index < length (past.change (slot_of trail) (seq_of trail))
    → (entry_at (past.change (slot_of trail) (seq_of trail)) index).addr ≢ address

-- What a read has read of the change that it follows: no earlier entry is of its word; or the entry that it is at is; or the
-- values that it read are those that the change expects at the word, and writes there.
abbrev pub HasSeen : History → ℕ → ReadPoint → Type 0
HasSeen past address (FindEntry trail status entry) = IsSoughtFrom past trail address entry
HasSeen past address (ReadExpected trail status entry) = IsEntryAt (past.change (slot_of trail) (seq_of trail)) entry address
HasSeen past address (ReadNew trail status entry was) =
    IsEntryAt (past.change (slot_of trail) (seq_of trail)) entry address × (was ≡ expected past (slot_of trail) (seq_of trail) address)
HasSeen past address (RecheckWord trail status was written) =
    (was ≡ expected past (slot_of trail) (seq_of trail) address) × (written ≡ new past (slot_of trail) (seq_of trail) address)
HasSeen past address point = Unit {0}

-- The same at a point of any request.
abbrev pub HasSeenAt : History → Point → Type 0
HasSeenAt past (Read look) = HasSeen past look.address look.point
HasSeenAt past point = Unit {0}

-- A request that gives up with FAULT is of a tenant whose file has failed. A request that has passed the door is of a tenant
-- whose file opened. A read has seen what it must.
pub record HasRequestFacts (state : State) (actor : ActorState) : Type 0 where
  pub fault : says_fault actor.point ≡ true → (state.tenant_states actor.tenant).file.has_failed ≡ true
  pub up : is_inside actor.point ≡ true → (state.tenant_states actor.tenant).is_up ≡ true
  pub seen : HasSeenAt state.history actor.point

-- The facts about a world.
pub record HasWorldFacts (state : State) : Type 0 where
  -- FAULT is decided only for a claimed slot, only if its tenant's file has failed, and only if its worker has left it or it was
  -- decided that the change is made
  pub unclaimed : (slot seq : ℕ) → state.history.is_claimed slot seq ≡ false → state.history.is_fault_decided slot seq ≡ false
  pub fault_decided : (slot seq : ℕ) → state.history.is_fault_decided slot seq ≡ true → (state.tenant_states (state.history.tenant slot seq)).file.has_failed ≡ true
  pub left : (slot seq : ℕ) → state.history.is_fault_decided slot seq ≡ true → (state.history.stays slot seq ≡ true) ⊎ (state.history.fate slot seq ≡ YesDirty)
  -- a tenant with a change is up: one that is down has no change, and uses no slot
  pub up : (slot seq : ℕ) → state.history.is_claimed slot seq ≡ true → (state.tenant_states (state.history.tenant slot seq)).is_up ≡ true
  pub worker_states : (worker : ℕ) (actor : ActorState) → (state.worker_states worker).actor ≡ Some actor → HasRequestFacts state actor
