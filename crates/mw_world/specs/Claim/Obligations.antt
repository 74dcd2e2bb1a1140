-- Defines which request will release a word that is held for a refused change, and which will clean a word that a change has
-- written.
-- Used by: mw_law_runs, mw_law_store.
use Rattle.std.specs.Prelude.{ℕ, ◌≡◌, ◌<◌, ◌≤◌, ◌+◌, List, length, Some}
use Rattle.mw_words.specs.declared.jobs.Entry.{Entry}
use Rattle.mw_actor.specs.declared.points.Slot.{Slot}
use Rattle.mw_actor.specs.declared.points.Sweep.{Sweep}
use Rattle.mw_actor.specs.declared.points.Sweep.TheVariants.{No as SweepNo, DoneYes as SweepDoneYes, DoneNo as SweepDoneNo}
use Rattle.mw_actor.specs.declared.points.After.{After}
use Rattle.mw_actor.specs.declared.points.After.TheVariants.{Reply as ThenReply}
use Rattle.mw_actor.specs.declared.points.Point.{Point}
use Rattle.mw_actor.specs.declared.points.Point.TheVariants.{ReadTargetStatus, DecideYes, DecideNo, AnnounceRow, Plant, CheckThenResolve, Resolve, ReadCount, ReadAddr, ReadExpected, ReadNew, SweepWord, Release, Clean, SweepRow, SweepConfirm, SweepResolve, Cancel, Unpin, FreeSlot, LowerDoor}
use Rattle.mw_actor.specs.ActorState.{ActorState, entry_at, entries_of}
use Rattle.mw_world.specs.Definition.Counts.{pins_held}
use Rattle.mw_world.specs.Definition.State.{State}

-- The entry at this index has this address.
pub record IsEntryAt (entries : List Entry) (index address : ℕ) : Type 0 where
  pub within : index < length entries
  pub same : (entry_at entries index).addr ≡ address

-- Some entry at or after a first index has this address.
pub record IsFrom (entries : List Entry) (first address : ℕ) : Type 0 where
  pub index : ℕ
  pub from : first ≤ index
  pub entry : IsEntryAt entries index address

-- A sweep of a refused change's words, which has the entries from a first one on before it, will come to this word.
-- The sweep before the cancel need not, because another sweep follows.
abbrev pub ComesTo : Sweep → List Entry → ℕ → ℕ → Type 0
ComesTo SweepNo entries first address = Unit {0}
ComesTo (SweepDoneNo entry value) entries first address = IsFrom entries first address
ComesTo sweep entries first address = ⊥

-- A request at this point works on this change. If the change is refused and holds this word, the request will
-- release it: whatever it finds, it turns to no other change before it comes to this change's status, and from there
-- to a sweep.
abbrev pub WillReleaseAt : ActorState → Slot → ℕ → Point → Type 0
WillReleaseAt actor change address (ReadTargetStatus task) = task.target ≡ change
WillReleaseAt actor change address (DecideYes task) = task.target ≡ change
WillReleaseAt actor change address (DecideNo task entry value) = task.target ≡ change
WillReleaseAt actor change address (AnnounceRow task entry number) = task.target ≡ change
WillReleaseAt actor change address (Plant task entry number) = task.target ≡ change
WillReleaseAt actor change address (CheckThenResolve task entry attempt) = task.target ≡ change
WillReleaseAt actor change address (Resolve task entry attempt was_open) = task.target ≡ change
WillReleaseAt actor change address (ReadCount task) = task.target ≡ change
WillReleaseAt actor change address (ReadAddr task count) = task.target ≡ change
WillReleaseAt actor change address (ReadExpected task count addr) = task.target ≡ change
WillReleaseAt actor change address (ReadNew task count addr expected) = task.target ≡ change
WillReleaseAt actor change address (Cancel task) = task.target ≡ change
WillReleaseAt actor change address (SweepWord task sweep entry) = (task.target ≡ change) × ComesTo sweep (entries_of actor task) entry address
WillReleaseAt actor change address (Release task sweep entry) = (task.target ≡ change) × ComesTo sweep (entries_of actor task) entry address
WillReleaseAt actor change address (SweepRow task sweep entry attempt) = (task.target ≡ change) × ComesTo sweep (entries_of actor task) (entry + 1) address
WillReleaseAt actor change address (SweepConfirm task sweep entry attempt other) = (task.target ≡ change) × ComesTo sweep (entries_of actor task) (entry + 1) address
WillReleaseAt actor change address (SweepResolve task sweep entry attempt) = (task.target ≡ change) × ComesTo sweep (entries_of actor task) (entry + 1) address
WillReleaseAt actor change address point = ⊥

-- This request will release the word at an address for the change of a slot and its number.
abbrev pub WillRelease : ActorState → ℕ → ℕ → ℕ → Type 0
WillRelease actor slot seq address = WillReleaseAt actor (record { slot = slot; seq = seq }) address actor.point

-- A worker's request of this tenant will release the word, and holds a pin of the slot.
pub record HasReleaser (state : State) (tenant address slot seq : ℕ) : Type 0 where
  pub worker : ℕ
  pub actor : ActorState
  pub is : (state.worker_states worker).actor ≡ Some actor
  pub same_tenant : actor.tenant ≡ tenant
  pub pin : 1 ≤ pins_held slot actor.point
  pub will_release : WillRelease actor slot seq address

-- The worker that claimed a slot for this change has a request, which holds a pin of the slot.
pub record IsOwner (state : State) (slot seq : ℕ) : Type 0 where
  pub actor : ActorState
  pub is : (state.worker_states (state.history.owner slot seq)).actor ≡ Some actor
  pub pin : 1 ≤ pins_held slot actor.point

-- The last sweep of a made change's words, which has the entries from a first one on before it, will come to this
-- word; or this sweep is an earlier one, and the last is still to come.
abbrev pub CleansFrom : Sweep → List Entry → ℕ → ℕ → Type 0
CleansFrom SweepDoneYes entries first address = IsFrom entries first address
CleansFrom sweep entries first address = Unit {0}

-- no reply follows at once
abbrev pub GoesOn : After → Type 0
GoesOn (ThenReply reply) = ⊥
GoesOn onward = Unit {0}

-- A change's own request at this point will clean this word, if the change has written it and the request doesn't
-- give up: the request is not past the word in the last sweep of its own words, and not past that sweep. It may work
-- on another change.
abbrev pub CleansAt : ActorState → ℕ → Point → Type 0
CleansAt actor address (SweepWord task sweep entry) = task.target ≡ task.own → CleansFrom sweep (entries_of actor task) entry address
CleansAt actor address (Clean task entry value) = task.target ≡ task.own → IsFrom (entries_of actor task) entry address
CleansAt actor address (SweepRow task sweep entry attempt) = task.target ≡ task.own → CleansFrom sweep (entries_of actor task) (entry + 1) address
CleansAt actor address (SweepConfirm task sweep entry attempt other) = task.target ≡ task.own → CleansFrom sweep (entries_of actor task) (entry + 1) address
CleansAt actor address (SweepResolve task sweep entry attempt) = task.target ≡ task.own → CleansFrom sweep (entries_of actor task) (entry + 1) address
CleansAt actor address (Unpin slot onward) = GoesOn onward
CleansAt actor address (FreeSlot slot onward) = GoesOn onward
CleansAt actor address (LowerDoor onward) = GoesOn onward
CleansAt actor address point = Unit {0}

-- The change's own worker has a request, which will clean this word unless it gives up, and holds a pin of the slot.
pub record IsCleaner (state : State) (address slot seq : ℕ) : Type 0 where
  pub actor : ActorState
  pub is : (state.worker_states (state.history.owner slot seq)).actor ≡ Some actor
  pub pin : 1 ≤ pins_held slot actor.point
  pub cleans : CleansAt actor address actor.point
