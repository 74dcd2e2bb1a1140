-- Defines when a tenant's history matches its store alone: in the words, in the requests, and in the place of each reply.
-- Used by: specs/History, specs/Laws, specs/Simulation, mw_law_threads.
use Rattle.std.specs.Prelude.{ℕ, ◌≡◌, ◌<◌, Bool, true, List, length, slice_get, Option, Some, None}
use Rattle.mw_words.specs.declared.jobs.Job.{Job}
use Rattle.mw_words.specs.declared.replies.Reply.{Reply}
use Rattle.mw_words.specs.declared.replies.Reply.TheVariants.{Yes as SaysYes}
use Rattle.mw_words.specs.Change.{fits}
use Rattle.mw_lone.specs.declared.marks.Mark.{Mark}
use Rattle.mw_lone.specs.declared.marks.Mark.TheVariants.{Ask, Seal, Restart}
use Rattle.mw_lone.specs.Store.{Store, RequestState, request, entries_of}
use Rattle.mw_law_store.specs.RelaxedSteps.{StoreLabel, Says, MarksLate}
use Rattle.mw_law_store.specs.AbstractStates.{AbstractState, abstract_state_of, abstract_state_at, IsAskedBefore, CouldCome, HasPlace}

-- Each sealed change fits the words before its seal.
abbrev pub SealsFitThere : AbstractState → List (Option Mark) → Type 0
SealsFitThere start lines = (place n : ℕ) → slice_get lines place ≡ Some (Some (Seal n))
    → fits (abstract_state_at start lines place).words ((abstract_state_at start lines place).entries n) ≡ true

-- A request was asked, and its reply is YES.
pub record IsSealedIn (store : Store) (n : ℕ) : Type 0 where
  pub found : RequestState
  pub is_asked : request store n ≡ Some found
  pub has_reply : found.placed ≡ Some SaysYes

-- These are lines since a start: each request came at one line, under a number below the next one, and no start is among them.
pub record AreSinceStart (lines : List (Option Mark)) (next : ℕ) : Type 0 where
  pub numbers : (place n : ℕ) (job : Job) → slice_get lines place ≡ Some (Some (Ask n job)) → n < next
  pub ask_once : (place other n : ℕ) (job another : Job) → slice_get lines place ≡ Some (Some (Ask n job)) → slice_get lines other ≡ Some (Some (Ask n another)) → place ≡ other
  pub no_start : (place : ℕ) (interrupted : Option ℕ) (found opened : Bool) (quota : ℕ) → slice_get lines place ≡ Some (Some (Restart interrupted found opened quota)) → ⊥

-- The lines from this abstract state on match the store. They lead to its words and to its change in doubt. Each request came at
-- a line, with its entries, and each reply has its place. Each seal among them gave YES and fitted. They are lines since a start.
pub record HistoryMatch (start : AbstractState) (lines : List (Option Mark)) (store : Store) : Type 0 where
  pub words : (abstract_state_of start lines).words ≡ store.words
  pub doubt : (abstract_state_of start lines).doubt ≡ store.in_doubt
  pub entries : (n : ℕ) (r : RequestState) → request store n ≡ Some r → (abstract_state_of start lines).entries n ≡ entries_of r.job
  pub asked : (n : ℕ) (r : RequestState) → request store n ≡ Some r → IsAskedBefore lines (length lines) n
  pub places : (n : ℕ) (r : RequestState) (reply : Reply) → request store n ≡ Some r → r.placed ≡ Some reply → HasPlace start lines n r.job reply
  pub sealed : (place n : ℕ) → slice_get lines place ≡ Some (Some (Seal n)) → IsSealedIn store n
  pub fit : SealsFitThere start lines
  pub since : AreSinceStart lines store.next

-- What a label needs besides. A late mark needs an empty place, at which it could come. A start is never a label, because it
-- begins new lines.
abbrev pub MayBeLabeled : AbstractState → List (Option Mark) → StoreLabel → Store → Type 0
MayBeLabeled start lines (MarksLate place mark n reply) store =
    (slice_get lines place ≡ Some None) × ((r : RequestState) → request store n ≡ Some r → CouldCome start lines place mark n r.job reply)
MayBeLabeled start lines (Says (Restart interrupted found opened quota)) store = ⊥
MayBeLabeled start lines says store = Unit {0}
