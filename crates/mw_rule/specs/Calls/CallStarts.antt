-- Defines what is true of a tenant's file when a call on it starts. Used by: src/call_laws.rt, mw_table, mw_law_threads.
use Rattle.std.specs.Prelude.{ℕ, ◌≡◌, ◌<◌, true, false, List, length, Some}
use Rattle.mw_words.specs.declared.jobs.Entry.{Entry}
use Rattle.mw_words.specs.declared.places.At.TheVariants.{Door as AtDoor, Status as AtStatus}
use Rattle.mw_words.specs.Change.{is_change}
use Rattle.mw_look.specs.declared.steps.Call.{Call}
use Rattle.mw_look.specs.declared.steps.Call.TheVariants.{Prepare as PrepareCall, Seal as SealCall, Settle as SettleCall, Cancel as CancelCall}
use Rattle.mw_actor.specs.ActorState.{ActorState, own_entries}
use Rattle.mw_world.specs.Files.State.{File, Empty, Prepared, Sealed, entries_at, is_empty, is_sealed, share_a_word}
use Rattle.mw_world.specs.declared.config.Config.{Config}
use Rattle.mw_world.specs.Claim.Headline.{IsExecution}
use Rattle.mw_world.specs.Definition.Calls.{Called, called_at, can_be_made, fails_on, place_for, starts_from}
use Rattle.mw_world.specs.Definition.Extent.{has_place, has_slot}
use Rattle.mw_world.specs.Definition.Events.{WorldEvent}
use Rattle.mw_world.specs.Definition.State.{State, TenantStart, tenant_at, tenants_of}

-- The worker's request is at this call on its tenant's file.
pub record IsAtCall (state : State) (worker : ℕ) (actor : ActorState) (called : Called) : Type 0 where
  pub sits : (state.worker_states worker).actor ≡ Some actor
  pub comes_to : called_at actor.point ≡ Some called

-- On a file of so many places: a change of the file's words can be written down in this place, the lowest empty one.
pub record TakesChange (file : File) (places place : ℕ) (entries : List Entry) : Type 0 where
  pub within : place < places
  pub empty : file.places place ≡ Empty
  pub lowest : (other : ℕ) → other < place → is_empty (file.places other) ≡ false
  pub formed : is_change (length file.contents) entries ≡ true

-- A change of the file's words is prepared in this place.
pub record HasPrepared (file : File) (places place : ℕ) : Type 0 where
  pub within : place < places
  pub stands : file.places place ≡ Prepared (entries_at file place)
  pub formed : is_change (length file.contents) (entries_at file place) ≡ true

-- The same, and no sealed change in the file shares a word with it.
pub record HasApart (file : File) (places place : ℕ) : Type 0 where
  pub prepared : HasPrepared file places place
  pub apart : (other : ℕ) → is_sealed (file.places other) ≡ true → share_a_word (entries_at file place) (entries_at file other) ≡ false

-- A change of the file's words is sealed in this place.
pub record HasSealed (file : File) (places place : ℕ) : Type 0 where
  pub within : place < places
  pub stands : file.places place ≡ Sealed (entries_at file place)
  pub formed : is_change (length file.contents) (entries_at file place) ≡ true

-- The place is as the call needs it.
abbrev pub IsFitFor : Call → File → ℕ → ℕ → List Entry → Type 0
IsFitFor PrepareCall file places place entries = TakesChange file places place entries
IsFitFor SealCall file places place entries = HasApart file places place
IsFitFor SettleCall file places place entries = HasSealed file places place
IsFitFor CancelCall file places place entries = HasPrepared file places place

-- The words that a call's end may use are there, whether the call starts or not: its change's status, and its tenant's door.
pub record HasWords (config : Config) (actor : ActorState) (called : Called) : Type 0 where
  pub tenant : actor.tenant < tenants_of config
  pub slot : has_slot config called.change.slot ≡ true
  pub status : has_place config (AtStatus called.change.slot) ≡ true
  pub door : has_place config (AtDoor actor.tenant) ≡ true

-- The call can be made on this file of so many places, for the request's own entries. Its place is one of these, and
-- is as the call needs it.
pub record CanStart (config : Config) (actor : ActorState) (called : Called) (file : File) (places : ℕ) : Type 0 where
  pub long : length file.contents ≡ (tenant_at config actor.tenant).words
  pub within : place_for called.call file places called.change.slot < places
  pub can : can_be_made called.call file places (place_for called.call file places called.change.slot) (own_entries actor) ≡ true
  pub fit : IsFitFor called.call file places (place_for called.call file places called.change.slot) (own_entries actor)

-- After every run the words of each call at which a request is are there.
abbrev pub CallsHaveWords : Type 0
CallsHaveWords = (config : Config) (openings : ℕ → TenantStart) (events : List WorldEvent) (state : State) (worker : ℕ) (actor : ActorState) (called : Called) → IsExecution config openings events state
    → IsAtCall state worker actor called → HasWords config actor called

-- After every run, a call that starts from the status of its change can be made, unless it fails because the file had
-- failed.
abbrev pub CallsCanStart : Type 0
CallsCanStart = (config : Config) (openings : ℕ → TenantStart) (events : List WorldEvent) (state : State) (worker : ℕ) (actor : ActorState) (called : Called) → IsExecution config openings events state
    → IsAtCall state worker actor called → starts_from called.call (state.cells.statuses called.change.slot) ≡ true → fails_on called.call (state.tenant_states actor.tenant).file ≡ false
    → CanStart config actor called (state.tenant_states actor.tenant).file (state.tenant_states actor.tenant).quota
