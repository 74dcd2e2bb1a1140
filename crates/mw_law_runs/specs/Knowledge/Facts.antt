-- Defines the facts that a request may know of changes, entries and words. Others' steps leave such a fact true.
-- Used by: mw_law_store.
use Rattle.std.specs.Prelude.{ℕ, ◌≡◌, ◌≢◌, ◌<◌, ◌≤◌, ◌⊎◌, true, false, List, [], ◌∷◌, length}
use Rattle.mw_words.specs.declared.jobs.Entry.{Entry}
use Rattle.mw_words.specs.declared.replies.Reply.{Reply}
use Rattle.mw_words.specs.declared.replies.Reply.TheVariants.{Yes as SaysYes}
use Rattle.mw_words.specs.declared.rows.Row.{Row}
use Rattle.mw_words.specs.declared.statuses.Status.{Status}
use Rattle.mw_words.specs.declared.statuses.Status.TheVariants.{Draft, Open, Yes, DoneYes, DoneNo}
use Rattle.mw_words.specs.declared.words.Word.TheVariants.{Planted}
use Rattle.mw_look.specs.declared.points.Trail.{Trail}
use Rattle.mw_look.specs.declared.points.Trail.TheVariants.{Held as ByHeld, Planted as ByPlanted}
use Rattle.mw_actor.specs.declared.points.Attempt.{Attempt}
use Rattle.mw_actor.specs.declared.points.After.{After}
use Rattle.mw_actor.specs.declared.points.After.TheVariants.{Work, GiveUp as ThenGiveUp, Reply as ThenReply}
use Rattle.mw_actor.specs.declared.points.Slot.{Slot}
use Rattle.mw_actor.specs.declared.points.Sweep.{Sweep}
use Rattle.mw_actor.specs.declared.points.Sweep.TheVariants.{Yes as SweepYes, DoneYes as SweepDoneYes, No as SweepNo, DoneNo as SweepDoneNo}
use Rattle.mw_actor.specs.declared.points.Task.{Task}
use Rattle.mw_actor.specs.ActorState.{ActorState, own_entries, entries_of, entry_at, entry_of, is_alone}
use Rattle.mw_actor.specs.RequestEnds.{refusal}
use Rattle.mw_world.specs.declared.step_labels.Phase.{Phase}
use Rattle.mw_world.specs.declared.step_labels.Phase.TheVariants.{Fresh, Acquired}
use Rattle.mw_world.specs.Definition.History.{has}
use Rattle.mw_world.specs.Claim.Invariant.{IsEntryOf, IsRefused}
use Rattle.mw_world.specs.Claim.Obligations.{IsEntryAt}
use Rattle.mw_world.specs.Definition.State.{State}

-- Changes.

-- A change was claimed for this tenant, and is no draft any more.
pub record IsKnown (state : State) (tenant : ℕ) (change : Slot) : Type 0 where
  pub is_claimed : state.history.is_claimed change.slot change.seq ≡ true
  pub same_tenant : state.history.tenant change.slot change.seq ≡ tenant
  pub ready : state.history.fate change.slot change.seq ≢ Draft

-- A change that a word or a row may have named. Its slot has reached the change's number or is past it. While the slot has that number, the change is
-- known.
pub record MayBeMet (state : State) (tenant : ℕ) (other : Slot) : Type 0 where
  pub reached : other.seq ≤ (state.cells.gates other.slot).seq
  pub known : (state.cells.gates other.slot).seq ≡ other.seq → IsKnown state tenant other

-- The request's own change: its worker claimed the slot for it, for the request's tenant and with the request's entries. Its pin was not left behind.
pub record IsOwn (state : State) (actor : ActorState) (own : Slot) : Type 0 where
  pub is_claimed : state.history.is_claimed own.slot own.seq ≡ true
  pub same_tenant : state.history.tenant own.slot own.seq ≡ actor.tenant
  pub same_worker : state.history.owner own.slot own.seq ≡ actor.worker
  pub same_entries : state.history.change own.slot own.seq ≡ own_entries actor
  pub stays_not : state.history.stays own.slot own.seq ≡ false

-- The request's own change is still a draft.
pub record IsDrafted (state : State) (actor : ActorState) (change : Slot) : Type 0 where
  pub own : IsOwn state actor change
  pub draft : state.history.fate change.slot change.seq ≡ Draft

-- The request's own change is no draft any more.
pub record IsReadied (state : State) (actor : ActorState) (change : Slot) : Type 0 where
  pub own : IsOwn state actor change
  pub ready : state.history.fate change.slot change.seq ≢ Draft

-- The request's own draft has its status and its count of entries in its slot, and its first `done` entries.
pub record IsWritten (state : State) (actor : ActorState) (own : Slot) (done : ℕ) : Type 0 where
  pub drafted : IsDrafted state actor own
  pub status : state.cells.statuses own.slot ≡ Draft
  pub count : state.cells.counts own.slot ≡ length (own_entries actor)
  pub entries : (index : ℕ) → index < done → IsEntryOf state.cells own.slot index (entry_at (own_entries actor) index)

-- The entries before this one are in the slot, and this one is an entry of the change.
pub record IsWriting (state : State) (actor : ActorState) (own : Slot) (entry : ℕ) : Type 0 where
  pub written : IsWritten state actor own entry
  pub within : entry < length (own_entries actor)

-- A task's own change is the request's, and is no draft any more. Its target was claimed for the request's tenant, and is no draft any more.
pub record IsAtWork (state : State) (actor : ActorState) (task : Task) : Type 0 where
  pub own : IsReadied state actor task.own
  pub target : IsKnown state actor.tenant task.target

-- The request is at work on the task, and has all entries of the target.
pub record WorksOn (state : State) (actor : ActorState) (task : Task) : Type 0 where
  pub at_work : IsAtWork state actor task
  pub entries : entries_of actor task ≡ state.history.change task.target.slot task.target.seq

-- The request works on the task, and the target has an entry of this index.
pub record AtEntry (state : State) (actor : ActorState) (task : Task) (entry : ℕ) : Type 0 where
  pub works : WorksOn state actor task
  pub within : entry < length (entries_of actor task)

-- the first list is a prefix of the second
abbrev pub AreFirstOf : List Entry → List Entry → Type 0
AreFirstOf [] entries = Unit {0}
AreFirstOf (one ∷ ones) [] = ⊥
AreFirstOf (one ∷ ones) (entry ∷ entries) = (one ≡ entry) × AreFirstOf ones entries

-- The request reads the entries of another's change, which has `count` entries. It has read the first ones, but not all.
pub record HasRead (state : State) (actor : ActorState) (task : Task) (count : ℕ) : Type 0 where
  pub at_work : IsAtWork state actor task
  pub not_alone : is_alone task ≡ false
  pub all : count ≡ length (state.history.change task.target.slot task.target.seq)
  pub shorter : length actor.others < count
  pub first : AreFirstOf actor.others (state.history.change task.target.slot task.target.seq)

-- the entry that the request reads next
abbrev pub next_of_others : State → ActorState → Task → Entry
next_of_others state actor task = entry_at (state.history.change task.target.slot task.target.seq) (length actor.others)

-- What happens to a change's words.

-- the phase of the word of this entry of the change
abbrev pub phase_at : State → Slot → ℕ → Phase
phase_at state target index = state.history.phase target.slot target.seq (entry_at (state.history.change target.slot target.seq) index).addr

-- While the change is open, the words of its first `entries` entries are held for it.
abbrev pub HoldsUpTo : State → Slot → ℕ → Type 0
HoldsUpTo state target entries = state.history.fate target.slot target.seq ≡ Open → (index : ℕ) → index < entries → phase_at state target index ≡ Acquired

-- The words of the change's first `entries` entries were held for it, and are not held now.
pub record AreHeldNoMore (state : State) (target : Slot) (entries : ℕ) : Type 0 where
  pub touched : (index : ℕ) → index < entries → phase_at state target index ≢ Fresh
  pub held_no_more : (index : ℕ) → index < entries → phase_at state target index ≢ Acquired

-- The change's status is one that this round over its words expects.
abbrev pub IsDecidedAs : Status → Sweep → Type 0
IsDecidedAs fate SweepYes = (fate ≡ Yes) ⊎ (fate ≡ DoneYes)
IsDecidedAs fate SweepDoneYes = fate ≡ DoneYes
IsDecidedAs fate SweepNo = IsRefused fate
IsDecidedAs fate (SweepDoneNo entry value) = fate ≡ DoneNo entry value

-- In the round that gives a made change's words their new values, the words before this entry are not held any more. This says nothing of other
-- rounds.
abbrev pub IsSweptUpTo : State → Slot → Sweep → ℕ → Type 0
IsSweptUpTo state target SweepYes entry = AreHeldNoMore state target entry
IsSweptUpTo state target sweep entry = Unit {0}

-- A round that releases held words: each but the last one over a made change's words.
abbrev pub Releases : Sweep → Type 0
Releases SweepDoneYes = ⊥
Releases sweep = Unit {0}

-- A round that looks into attempts: each but the first one over a made change's words.
abbrev pub LooksInto : Sweep → Type 0
LooksInto SweepYes = ⊥
LooksInto sweep = Unit {0}

-- A round over the words of the task's target, which is decided, comes to this entry.
pub record Sweeps (state : State) (actor : ActorState) (task : Task) (sweep : Sweep) (entry : ℕ) : Type 0 where
  pub at : AtEntry state actor task entry
  pub decided : IsDecidedAs (state.history.fate task.target.slot task.target.seq) sweep
  pub swept : IsSweptUpTo state task.target sweep entry

-- The change is done with, and this is the reply that its status tells.
abbrev pub IsOver : ActorState → Status → Reply → Type 0
IsOver actor DoneYes reply = reply ≡ SaysYes
IsOver actor (DoneNo entry value) reply = reply ≡ refusal actor entry value
IsOver actor status reply = ⊥

-- Attempts.

-- The attempt's number was given out.
abbrev pub IsGiven : State → Attempt → Type 0
IsGiven state attempt = attempt.number < (state.worker_states attempt.worker).attempt

-- It is another worker's attempt, whose number was given out.
pub record IsAnothers (state : State) (actor : ActorState) (attempt : Attempt) : Type 0 where
  pub given : IsGiven state attempt
  pub apart : attempt.worker ≢ actor.worker

-- The attempt's number was given out. While the attempt is in the word, its worker's row names this change.
pub record IsForChange (state : State) (tenant address : ℕ) (attempt : Attempt) (change : Slot) : Type 0 where
  pub given : IsGiven state attempt
  pub slot : state.cells.words tenant address ≡ Planted attempt.worker attempt.number → (state.cells.rows attempt.worker).slot ≡ change.slot
  pub seq : state.cells.words tenant address ≡ Planted attempt.worker attempt.number → (state.cells.rows attempt.worker).seq ≡ change.seq

-- The same of the word of an entry of the task's target.
abbrev pub IsForChangeAt : State → ActorState → Task → ℕ → Attempt → Slot → Type 0
IsForChangeAt state actor task entry attempt change = IsForChange state actor.tenant (entry_of actor task entry).addr attempt change

-- The attempt's number was given out. While the attempt is in the word, this is its worker's row.
pub record HasRow (state : State) (tenant address worker number : ℕ) (found : Row) : Type 0 where
  pub given : number < (state.worker_states worker).attempt
  pub row : state.cells.words tenant address ≡ Planted worker number → state.cells.rows worker ≡ found

-- The worker's next attempt has this number.
abbrev pub IsNext : State → ActorState → ℕ → Type 0
IsNext state actor number = (state.worker_states actor.worker).attempt ≡ number

-- Reads.

-- The read found a held word. It was held for this change of the read's tenant, and the change has an entry for it.
pub record CameByHeld (state : State) (tenant address : ℕ) (change : Slot) : Type 0 where
  pub known : IsKnown state tenant change
  pub entry : has state.history change.slot change.seq address ≡ true
  pub touched : state.history.phase change.slot change.seq address ≢ Fresh

-- The read found an attempt. The row of the attempt's worker named this change of the tenant and the entry for the word. While the attempt is in the
-- word, this is the worker's row.
pub record CameByPlanted (state : State) (tenant address worker number : ℕ) (found : Row) : Type 0 where
  pub known : IsKnown state tenant (record { slot = found.slot; seq = found.seq })
  pub entry : IsEntryAt (state.history.change found.slot found.seq) found.entry address
  pub row : HasRow state tenant address worker number found

-- What a read knows of the change that it follows, by how it came to it.
abbrev pub CameBy : State → ℕ → ℕ → Trail → Type 0
CameBy state tenant address (ByHeld slot seq) = CameByHeld state tenant address (record { slot = slot; seq = seq })
CameBy state tenant address (ByPlanted worker number row) = CameByPlanted state tenant address worker number row

-- Ends.

-- What is known when this follows.
abbrev pub Follows : State → ActorState → After → Type 0
Follows state actor (Work task) = IsAtWork state actor task
Follows state actor (ThenGiveUp own undecided) = IsReadied state actor own
Follows state actor (ThenReply reply) = Unit {0}

-- What is also known when the request takes back the pin of its own change and then replies: the change is done with, and the reply is the one that
-- its status tells. In other cases this says nothing.
abbrev pub EndsWith : State → ActorState → Slot → After → Type 0
EndsWith state actor slot (ThenReply reply) = IsReadied state actor slot × IsOver actor (state.history.fate slot.slot slot.seq) reply
EndsWith state actor slot onward = Unit {0}
