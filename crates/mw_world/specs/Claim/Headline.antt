-- Claims what must hold of every run of a world, with the theorem (docs/THEOREM.md): in a run with numbers left, each tenant
-- is served as its store alone (the reference model) would serve it.
-- Used by: src/laws.rt, many crates from mw_law_runs on.
use Rattle.std.specs.Prelude.{ℕ, ◌≡◌, ◌≢◌, ◌<◌, ◌≤◌, ◌+◌, true, false, List, All, ◌++◌, length, Option, Some, None}
use Rattle.mw_words.specs.declared.limits.TheConstants.{WORN_NUMBER}
use Rattle.mw_words.specs.declared.replies.Reply.TheVariants.{Worn}
use Rattle.mw_words.specs.Change.{word_at}
use Rattle.mw_lone.specs.Store.{Store, entries_in_doubt, replies_from}
use Rattle.mw_actor.specs.ActorState.{ActorState, own_entries}
use Rattle.mw_actor.specs.Asks.{asks}
use Rattle.mw_actor.specs.Program.{replied}
use Rattle.mw_world.specs.Files.State.{File}
use Rattle.mw_world.specs.declared.config.Config.{Config}
use Rattle.mw_world.specs.declared.events.Interrupted.{Interrupted}
use Rattle.mw_world.specs.Definition.Calls.{Called, called_at, starts_from, fails_on, place_for, can_be_made}
use Rattle.mw_world.specs.Definition.Counts.{waits_at, taken_slots, used_slots}
use Rattle.mw_world.specs.Definition.Extent.{has_slot}
use Rattle.mw_world.specs.Definition.Events.{WorldEvent}
use Rattle.mw_world.specs.Claim.Invariant.{Invariant}
use Rattle.mw_world.specs.Definition.Logical.{logical}
use Rattle.mw_world.specs.Definition.Restarts.{may_interrupt, under_way, interrupted_request, doubt_then, is_sealed_then, may_find}
use Rattle.mw_world.specs.Definition.State.{State, IsConfig, IsStart, TenantStart, world_at, tenant_at, tenants_of, marks_of, store_at, store_of}
use Rattle.mw_world.specs.Definition.Turns.{may_make}
use Rattle.mw_world.specs.Definition.World.{run, replies_to}

-- There are numbers left: WORN_NUMBER is not the number of a slot that isn't taken, and not the number of a worker's
-- next attempt.
pub record HasNumbers (config : Config) (state : State) : Type 0 where
  pub slots : (slot : ℕ) → slot < config.pool → (state.cells.gates slot).taken ≡ false → (state.cells.gates slot).seq ≢ WORN_NUMBER
  pub attempts : (worker : ℕ) → worker < config.workers → (state.worker_states worker).attempt ≢ WORN_NUMBER

-- These events are a run of a server with this configuration, from a start that gave the tenants this, to this world.
pub record IsExecution (config : Config) (openings : ℕ → TenantStart) (events : List WorldEvent) (state : State) : Type 0 where
  pub made : IsConfig config
  pub starts : IsStart config openings
  pub runs : run config (world_at config openings) events ≡ Some state

-- Such a run, with numbers left at every moment.
pub record IsRun (config : Config) (openings : ℕ → TenantStart) (events : List WorldEvent) (state : State) : Type 0 where
  pub played : IsExecution config openings events state
  pub numbers : (first rest : List WorldEvent) (between : State) → events ≡ first ++ rest → run config (world_at config openings) first ≡ Some between → HasNumbers config between

-- The tenant's shared words represent the words of its store alone. Its door counts the slots that the store uses,
-- and has the fault if the store has it.
pub record RepresentsStore (state : State) (tenant words : ℕ) (store : Store) : Type 0 where
  pub values : (address : ℕ) → address < words → logical state.cells tenant address ≡ word_at store.words address
  pub used : (state.cells.doors tenant).used ≡ store.used
  pub fault : (state.cells.doors tenant).fault ≡ store.faulted

-- The tenant's file has the store's words. If all stops now, during a call on the file or during none, the change in
-- doubt is the store's: the change of the interrupted request, else the change that a failed seal left. By `may_find`
-- a start then finds the words, or the words with that change put over them; only the latter if all of the seal was
-- made.
pub record LeavesStore (config : Config) (state : State) (tenant : ℕ) (store : Store) : Type 0 where
  pub words : (state.tenant_states tenant).file.contents ≡ store.words
  pub in_doubt : (interrupted : Option Interrupted) → may_interrupt config state tenant interrupted ≡ true
      → doubt_then (state.tenant_states tenant).file (under_way config state interrupted) ≡ entries_in_doubt store (interrupted_request (under_way config state interrupted))

-- A tenant is served as its store alone would serve it, and a crash leaves the store's words, with the change in doubt wholly or not at all.
-- The field's name is durable linearizability; the tenant's marks are the history.
pub record IsDurablyLinearizable (config : Config) (openings : ℕ → TenantStart) (events : List WorldEvent) (state : State) (tenant : ℕ) : Type 0 where
  -- its marks are legal for its store alone, which began with the words that the tenant had when the run began
  pub store : Store
  pub legal : store_of openings state tenant ≡ Some store
  -- the replies handed out to it are those that its marks hand out, and none of them is WORN
  pub replies : replies_to config tenant (world_at config openings) events ≡ replies_from (store_at (openings tenant)) (marks_of state tenant)
  pub never_worn : All (λ numbered. numbered.1 ≢ Worn) (replies_to config tenant (world_at config openings) events)
  -- if its file opened at the last start, its shared words represent the store
  pub shown : (state.tenant_states tenant).is_up ≡ true → RepresentsStore state tenant (tenant_at config tenant).words store
  -- its file has the store's words, and a crash leaves the store's change in doubt
  pub left : LeavesStore config state tenant store
  -- its quota is the store's
  pub quota : (state.tenant_states tenant).quota ≡ store.quota

-- A slot of the pool isn't taken.
pub record FreeSlot (config : Config) (state : State) : Type 0 where
  pub slot : ℕ
  pub within : slot < config.pool
  pub free : (state.cells.gates slot).taken ≡ false

-- A call on a file to which a request has come can be made, if the device allows it. Its slot exists. If the call
-- starts and the file hasn't failed, the places that the tenant may use and the change's entries are as the call
-- needs them.
pub record CanBeMade (config : Config) (state : State) (actor : ActorState) (called : Called) (file : File) (places : ℕ) : Type 0 where
  pub slot : has_slot config called.change.slot ≡ true
  pub call : starts_from called.call (state.cells.statuses called.change.slot) ≡ true → fails_on called.call file ≡ false
      → can_be_made called.call file places (place_for called.call file places called.change.slot) (own_entries actor) ≡ true

-- There are words that may be found of a tenant's file if this call on it is interrupted.
pub record CanBeFound (config : Config) (state : State) (tenant : ℕ) (interrupted : Option Interrupted) (file : File) : Type 0 where
  pub words : List ℕ
  pub found : may_find (is_sealed_then (under_way config state interrupted)) file.contents (doubt_then file (under_way config state interrupted)) words ≡ true

-- The tests in `step` stop no step and no call for which a request asks. `step` tests whether a step's place exists,
-- whether a call can be made, whether words may be found, and whether quotas fit. This record says that the first two
-- tests pass when a request asks for the event. Of a start it says only that some words pass the test, as they do in
-- any world. It does not say that the words of each image that a crash may leave pass it: who knows the disks must
-- show that. It does not say that a start which gives no quota passes the test of quotas: that is a law of its own.
pub record IsEnabled (config : Config) (state : State) : Type 0 where
  -- a request without a reply that has come to no call on its file asks for a step at a place that exists
  pub steps : (worker : ℕ) (actor : ActorState) → (state.worker_states worker).actor ≡ Some actor → replied actor ≡ None → called_at actor.point ≡ None
      → may_make config (asks actor) ≡ true
  -- the call to which a request has come can be made
  pub calls : (worker : ℕ) (actor : ActorState) (called : Called) → (state.worker_states worker).actor ≡ Some actor → called_at actor.point ≡ Some called
      → CanBeMade config state actor called (state.tenant_states actor.tenant).file (state.tenant_states actor.tenant).quota
  -- there are words that may be found, whichever call is interrupted that may be
  pub starts : (tenant : ℕ) (interrupted : Option Interrupted) → tenant < tenants_of config → may_interrupt config state tenant interrupted ≡ true
      → CanBeFound config state tenant interrupted (state.tenant_states tenant).file

-- Holds of the world after every run, also when numbers are used up.
pub record HoldsOfRun (config : Config) (state : State) : Type 0 where
  pub invariant : Invariant config state
  -- At most as many slots are taken as the doors count. While the door counts a slot for a request that isn't taken,
  -- some slot isn't taken. This is so for an admitted change that has no slot yet, and for a read or a change that
  -- has freed a slot and hasn't lowered the door.
  pub room : taken_slots state config.pool ≤ used_slots state (tenants_of config)
  pub free : (worker : ℕ) (actor : ActorState) → (state.worker_states worker).actor ≡ Some actor → waits_at actor.point ≡ 1 → FreeSlot config state
  pub enabled : IsEnabled config state

-- HoldsOfRun holds after every run.
abbrev pub EveryRunHolds : Type 0
EveryRunHolds = (config : Config) (openings : ℕ → TenantStart) (events : List WorldEvent) (state : State) → IsExecution config openings events state → HoldsOfRun config state

-- Every run with numbers left serves each tenant as its store alone would. This is the theorem.
abbrev pub EveryRunIsDurablyLinearizable : Type 0
EveryRunIsDurablyLinearizable = (config : Config) (openings : ℕ → TenantStart) (events : List WorldEvent) (state : State) (tenant : ℕ) → IsRun config openings events state
    → tenant < tenants_of config → IsDurablyLinearizable config openings events state tenant

-- Equal marks have equal replies. Take a tenant in each of two worlds, which may have nothing else in common. Their
-- stores began alike: the same words, the same quota, and both files open or both not. If they have the same marks,
-- the runs hand out the same replies to them.
abbrev pub EqualMarksHaveEqualReplies : Type 0
EqualMarksHaveEqualReplies = (config other : Config) (openings starts : ℕ → TenantStart) (events others : List WorldEvent) (state there : State) (tenant its : ℕ)
    → IsRun config openings events state → IsRun other starts others there → tenant < tenants_of config → its < tenants_of other
    → store_at (openings tenant) ≡ store_at (starts its) → marks_of state tenant ≡ marks_of there its
    → replies_to config tenant (world_at config openings) events ≡ replies_to other its (world_at other starts) others

-- A run has numbers left if its first number and its number of events together are below WORN_NUMBER.
abbrev pub ShortRunsHaveNumbers : Type 0
ShortRunsHaveNumbers = (config : Config) (openings : ℕ → TenantStart) (events : List WorldEvent) (state : State) → IsExecution config openings events state
    → config.seq + length events < WORN_NUMBER → IsRun config openings events state
