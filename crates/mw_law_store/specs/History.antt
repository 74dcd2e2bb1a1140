-- Defines the place of each reply among its tenant's marks and sealed changes, in every run, also when a number was used up.
-- Used by: src/laws.rt, mw_rule, mw_law_threads.
use Rattle.std.specs.Prelude.{ℕ, ◌≡◌, ◌<◌, ◌≤◌, ◌⊎◌, ◌++◌, Bool, List, [], ◌∷◌, length, slice_get, Option, Some}
use Rattle.mw_words.specs.declared.replies.Reply.{Reply}
use Rattle.mw_words.specs.Change.{put}
use Rattle.mw_lone.specs.declared.marks.Mark.{Mark}
use Rattle.mw_lone.specs.declared.marks.Mark.TheVariants.{Seal, Restart as MarkOfStart}
use Rattle.mw_actor.specs.ActorState.{ActorState}
use Rattle.mw_actor.specs.Program.{replied}
use Rattle.mw_world.specs.declared.config.Config.{Config}
use Rattle.mw_world.specs.Claim.Headline.{IsExecution}
use Rattle.mw_world.specs.Definition.Events.{WorldEvent, Restart}
use Rattle.mw_world.specs.Definition.State.{State, TenantStart, tenants_of}
use Rattle.mw_world.specs.Definition.World.{run, step}
use Rattle.mw_law_store.specs.Simulation.{start_of}
use Rattle.mw_law_store.specs.AbstractStates.{AbstractState, SealedChange, abstract_state_of, abstract_state_at, HasPlace}
use Rattle.mw_law_store.specs.HistoryMatches.{AreSinceStart, SealsFitThere}

-- A request that has its reply has its place after the line with which it came: a VAL its Look, a NO its Miss, a YES its only
-- Seal. The value that the reply tells is the word's at that place. The number of changes sealed before it is the length of
-- `sealed` there.
abbrev pub RepliesHavePlaces : Type 0
RepliesHavePlaces = (config : Config) (openings : ℕ → TenantStart) (events : List WorldEvent) (state : State) (worker : ℕ) (actor : ActorState) (reply : Reply)
    → IsExecution config openings events state → (state.worker_states worker).actor ≡ Some actor → replied actor ≡ Some reply
    → HasPlace (start_of openings state actor.tenant) (state.tenant_states actor.tenant).lines (state.worker_states worker).request actor.job reply

-- Each sealed change fits the words after those before it, and the words after all of them are the file's.
abbrev pub SealsFit : Type 0
SealsFit = (config : Config) (openings : ℕ → TenantStart) (events : List WorldEvent) (state : State) (tenant : ℕ) → IsExecution config openings events state → tenant < tenants_of config
    → SealsFitThere (start_of openings state tenant) (state.tenant_states tenant).lines
    × ((abstract_state_of (start_of openings state tenant) (state.tenant_states tenant).lines).words ≡ (state.tenant_states tenant).file.contents)

-- Each request of a tenant came at one line since the last start. So the changes that were sealed when it came are sealed before
-- the place of its reply.
abbrev pub AsksStandOnce : Type 0
AsksStandOnce = (config : Config) (openings : ℕ → TenantStart) (events : List WorldEvent) (state : State) (tenant : ℕ) → IsExecution config openings events state → tenant < tenants_of config
    → AreSinceStart (state.tenant_states tenant).lines (state.tenant_states tenant).asked

-- the words with these sealed changes put over them, in order
abbrev pub put_sealed : List ℕ → List SealedChange → List ℕ
put_sealed words [] = words
put_sealed words (one ∷ rest) = put_sealed (put words one.entries) rest

-- These sealed changes are a prefix of all those.
pub record IsBeginning (first all : List SealedChange) : Type 0 where
  pub rest : List SealedChange
  pub parted : all ≡ first ++ rest

-- No start is among these lines.
abbrev pub HasNoStart : List (Option Mark) → Type 0
HasNoStart lines = (place : ℕ) (interrupted : Option ℕ) (found opened : Bool) (quota : ℕ) → slice_get lines place ≡ Some (Some (MarkOfStart interrupted found opened quota)) → ⊥

-- The words after lines without a start are the words before them with the changes that the lines seal put over them, in order.
abbrev pub WordsAreOfSealed : Type 0
WordsAreOfSealed = (start : AbstractState) (lines : List (Option Mark)) → HasNoStart lines
    → (since : List SealedChange) × ((abstract_state_of start lines).sealed ≡ start.sealed ++ since) × ((abstract_state_of start lines).words ≡ put_sealed start.words since)

-- The changes sealed before a place are a prefix of those sealed by all lines. At a seal's place, its request's change comes
-- right after them, with its entries.
abbrev pub SealedComeInOrder : Type 0
SealedComeInOrder = (start : AbstractState) (lines : List (Option Mark)) → HasNoStart lines
    → ((place : ℕ) → IsBeginning (abstract_state_at start lines place).sealed (abstract_state_of start lines).sealed)
    × ((place n : ℕ) → slice_get lines place ≡ Some (Some (Seal n))
    → IsBeginning ((abstract_state_at start lines place).sealed ++ record { request = n; entries = (abstract_state_at start lines place).entries n } ∷ []) (abstract_state_of start lines).sealed)

-- New lines extend old ones: each mark keeps its line, the sealed changes before each old place stay, and at most one more is
-- sealed, at the end.
pub record SealsGoOn (start : AbstractState) (old new : List (Option Mark)) : Type 0 where
  pub no_fewer : length old ≤ length new
  pub marks : (place : ℕ) (mark : Mark) → slice_get old place ≡ Some (Some mark) → slice_get new place ≡ Some (Some mark)
  pub before : (place : ℕ) → place ≤ length old → (abstract_state_at start new place).sealed ≡ (abstract_state_at start old place).sealed
  pub one_more : ((abstract_state_of start new).sealed ≡ (abstract_state_of start old).sealed)
      ⊎ ((one : SealedChange) × ((abstract_state_of start new).sealed ≡ (abstract_state_of start old).sealed ++ one ∷ []))

-- The event is not a start.
abbrev pub IsNoStart : WorldEvent → Type 0
IsNoStart (Restart founds) = ⊥
IsNoStart event = Unit {0}

-- An event that is not a start extends each tenant's lines so.
abbrev pub SealsStay : Type 0
SealsStay = (config : Config) (openings : ℕ → TenantStart) (events : List WorldEvent) (state next : State) (event : WorldEvent) (tenant : ℕ) → IsExecution config openings events state
    → tenant < tenants_of config → IsNoStart event → step config state event ≡ Some next
    → ((next.tenant_states tenant).closed ≡ (state.tenant_states tenant).closed) × SealsGoOn (start_of openings state tenant) (state.tenant_states tenant).lines (next.tenant_states tenant).lines

-- After any number of events that are not starts: each mark has kept its line, and the old sealed changes are a prefix of the new
-- ones.
pub record SealsHaveGoneOn (start : AbstractState) (old new : List (Option Mark)) : Type 0 where
  pub no_fewer : length old ≤ length new
  pub marks : (place : ℕ) (mark : Mark) → slice_get old place ≡ Some (Some mark) → slice_get new place ≡ Some (Some mark)
  pub before : (place : ℕ) → place ≤ length old → (abstract_state_at start new place).sealed ≡ (abstract_state_at start old place).sealed
  pub begins : IsBeginning (abstract_state_of start old).sealed (abstract_state_of start new).sealed

-- None of these events is a start.
abbrev pub AreNoStarts : List WorldEvent → Type 0
AreNoStarts [] = Unit {0}
AreNoStarts (event ∷ events) = IsNoStart event × AreNoStarts events

-- Events that are not starts extend each tenant's lines so.
abbrev pub SealsStayLong : Type 0
SealsStayLong = (config : Config) (openings : ℕ → TenantStart) (events later : List WorldEvent) (state last : State) (tenant : ℕ) → IsExecution config openings events state
    → tenant < tenants_of config → AreNoStarts later → run config state later ≡ Some last
    → ((last.tenant_states tenant).closed ≡ (state.tenant_states tenant).closed) × SealsHaveGoneOn (start_of openings state tenant) (state.tenant_states tenant).lines (last.tenant_states tenant).lines
