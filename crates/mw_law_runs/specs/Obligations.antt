-- Defines which request must release a held word or clean a written one, and for which change. Used by: mw_law_store.
use Rattle.std.specs.Prelude.{ℕ, ◌≡◌, ◌≢◌, ◌≤◌, ◌⊎◌, true, Option, Some, None}
use Rattle.mw_words.specs.declared.words.Word.TheVariants.{Held, Dirty}
use Rattle.mw_actor.specs.declared.points.After.{After}
use Rattle.mw_actor.specs.declared.points.After.TheVariants.{Work, GiveUp as ThenGiveUp, Reply as ThenReply}
use Rattle.mw_actor.specs.declared.points.Point.{Point}
use Rattle.mw_actor.specs.declared.points.Point.TheVariants.{Read}
use Rattle.mw_actor.specs.declared.points.Slot.{Slot}
use Rattle.mw_actor.specs.ActorState.{ActorState}
use Rattle.mw_actor.specs.Stages.{Stage, WritingStatus, WritingCount, WritingAddr, WritingExpected, WritingNew, Preparing, Checking, Inspecting, Holding, Deciding, Working, Nearing, Pinning, Fetching, Leaving, Freeing, Lowering, GivingUp, stage}
use Rattle.mw_world.specs.declared.config.Config.{Config}
use Rattle.mw_world.specs.Definition.Counts.{pins_held}
use Rattle.mw_words.specs.declared.statuses.Status.{Status}
use Rattle.mw_words.specs.declared.statuses.Status.TheVariants.{DoneYes, DoneNo}
use Rattle.mw_world.specs.Claim.Invariant.{IsRefused}
use Rattle.mw_world.specs.Claim.Obligations.{HasReleaser, CleansAt}
use Rattle.mw_world.specs.Definition.State.{State}
use Rattle.mw_law_runs.specs.Knowledge.Informed.{IsInformed}

-- the request's own change when this follows, if the request still has one
abbrev pub own_after : After → Option Slot
own_after (Work task) = Some task.own
own_after (ThenGiveUp own undecided) = Some own
own_after (ThenReply reply) = None

-- the request's own change when it takes back a pin of this slot; if the reply follows, the slot is that of its own change
abbrev pub own_leaving : Slot → After → Option Slot
own_leaving slot (ThenReply reply) = Some slot
own_leaving slot onward = own_after onward

-- the request's own change at a stage
abbrev pub own_at : Stage → Option Slot
own_at (WritingStatus own) = Some own
own_at (WritingCount own) = Some own
own_at (WritingAddr own entry) = Some own
own_at (WritingExpected own entry) = Some own
own_at (WritingNew own entry) = Some own
own_at (Preparing own) = Some own
own_at (GivingUp own) = Some own
own_at (Checking task) = Some task.own
own_at (Inspecting task entry) = Some task.own
own_at (Holding task entry) = Some task.own
own_at (Deciding task) = Some task.own
own_at (Working task) = Some task.own
own_at (Nearing task other) = Some task.own
own_at (Pinning task other from to) = Some task.own
own_at (Fetching task) = Some task.own
own_at (Leaving slot onward) = own_leaving slot onward
own_at (Freeing slot onward) = own_after onward
own_at (Lowering onward) = own_after onward
own_at now = None

-- the request's own change at a point; a read has none
abbrev pub own_of : Point → Option Slot
own_of (Read look) = None
own_of point = own_at (stage point)

-- The change isn't done with.
abbrev pub IsUnfinished : Status → Type 0
IsUnfinished DoneYes = ⊥
IsUnfinished (DoneNo entry value) = ⊥
IsUnfinished status = Unit {0}

-- The worker that claimed the slot for this change has a request whose own change it is. The request holds a pin of the slot.
pub record IsOwnerOf (state : State) (slot seq : ℕ) : Type 0 where
  pub actor : ActorState
  pub is : (state.worker_states (state.history.owner slot seq)).actor ≡ Some actor
  pub own : own_of actor.point ≡ Some (record { slot = slot; seq = seq })
  pub pin : 1 ≤ pins_held slot actor.point

-- Such a request also will clean this word, unless it gives up.
pub record IsCleanerOf (state : State) (address slot seq : ℕ) : Type 0 where
  pub owner : IsOwnerOf state slot seq
  pub cleans : CleansAt owner.actor address owner.actor.point

-- Words have releasers. A word that is held for a refused change has a releaser: a request of the tenant that works on the change, has a pin of its
-- slot, and will release the word. While the change of a taken slot isn't done with, its worker's request is there, or its pin was left behind. The
-- same holds while a word that the change wrote names its slot; that request will clean the word unless it gives up.
pub record WordsHaveReleasers (state : State) : Type 0 where
  pub refused : (tenant address slot seq : ℕ) → state.cells.words tenant address ≡ Held slot seq → IsRefused (state.history.fate slot seq)
      → HasReleaser state tenant address slot seq
  pub unfinished : (slot : ℕ) → (state.cells.gates slot).taken ≡ true → IsUnfinished (state.history.fate slot (state.cells.gates slot).seq)
      → IsOwnerOf state slot (state.cells.gates slot).seq ⊎ (state.history.stays slot (state.cells.gates slot).seq ≡ true)
  pub dirty : (tenant address slot value : ℕ) → state.cells.words tenant address ≡ Dirty slot value
      → IsCleanerOf state address slot (state.cells.gates slot).seq ⊎ (state.history.stays slot (state.cells.gates slot).seq ≡ true)

-- The request belongs to this worker and is informed (`IsInformed`).
pub record HasItsRequest (config : Config) (state : State) (worker : ℕ) (actor : ActorState) : Type 0 where
  pub same_worker : actor.worker ≡ worker
  pub informed : IsInformed config state actor

-- Each request of the world belongs to its worker and is informed.
abbrev pub HaveTheirRequests : Config → State → Type 0
HaveTheirRequests config state = (worker : ℕ) (actor : ActorState) → (state.worker_states worker).actor ≡ Some actor → HasItsRequest config state worker actor

-- This worker's request goes on as `next`. Every other worker keeps the request that it had, or still has none.
pub record OneStepped (old new : State) (worker : ℕ) (next : ActorState) : Type 0 where
  pub goes_on : (new.worker_states worker).actor ≡ Some next
  pub others : (other : ℕ) → other ≢ worker → (new.worker_states other).actor ≡ (old.worker_states other).actor
