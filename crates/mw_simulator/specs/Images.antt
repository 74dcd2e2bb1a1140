-- States what a crash leaves of a tenant's disk in terms of the tenant's store alone. It is proved from the theorem about
-- every run.
-- Used by: src/laws.rt.
use Rattle.std.specs.Prelude.{ℕ, ◌≡◌, true, List, Vec, slice_get, Option, Some}
use Rattle.std.specs.declared.alloc.Global.{Global}
use Rattle.mw_disk.specs.Facts.{MayHaveLeft, MayLeave}
use Rattle.mw_memory_disk.specs.Memory.{memory_facts}
use Rattle.mw_lone.specs.Store.{Store, entries_in_doubt}
use Rattle.mw_record.specs.Damages.{file_words}
use Rattle.mw_world_file.specs.declared.simulated_file.SimulatedFile.{SimulatedFile}
use Rattle.mw_world.specs.declared.outcomes.Outcome.{Outcome}
use Rattle.mw_world.specs.Files.Crashes.{IsFileOfEither}
use Rattle.mw_world_file.specs.Devices.{disk_under}
use Rattle.mw_world.specs.declared.config.Config.{Config}
use Rattle.mw_world.specs.declared.events.Event.TheVariants.{File as IsFile, Restart as IsRestart}
use Rattle.mw_world.specs.declared.events.Interrupted.{Interrupted}
use Rattle.mw_world.specs.declared.events.Stop.{Stop}
use Rattle.mw_world.specs.Definition.Events.{WorldEvent}
use Rattle.mw_world.specs.Definition.Restarts.{interrupted_request, is_sealed_then, may_find, may_interrupt, under_way}
use Rattle.mw_world.specs.Definition.State.{TenantStart, State, store_of}
use Rattle.mw_world.specs.Claim.Headline.{IsRun}
use Rattle.mw_world_memory.specs.declared.tenants.TenantState.{TenantState as TenantStateInMemory}
use Rattle.mw_simulator.specs.declared.world.World.{World}
use Rattle.mw_simulator.specs.Crashes.{stop_in_call}
use Rattle.mw_simulator.specs.Events.{Steps, outage_of}
use Rattle.mw_simulator.specs.Representation.{Represents}
use Rattle.mw_simulator.specs.UnchangedParts.{book_at, served_by}

-- No call is under way in a world in memory that represents the world after a run. What a crash may then leave of a
-- tenant's disk is a file of the store's words, or of these with the change in doubt put over them. If no change is in
-- doubt, as after a start, it is a file of the store's words.
abbrev pub EveryImageBetweenEventsIsOfStore : Type 0
EveryImageBetweenEventsIsOfStore = (config : Config) (openings : ℕ → TenantStart) (events : List WorldEvent) (state : State) (world : World) (tenant : ℕ) (shown : TenantStateInMemory) (store : Store) (image : List ℕ)
    → IsRun config openings events state → world.config ≡ config → Represents world state → slice_get world.tenant_states.items tenant ≡ Some shown → store_of openings state tenant ≡ Some store
    → MayLeave (memory_facts (disk_under shown.book.device)) image → IsFileOfEither store.words store.in_doubt image

-- A crash in the middle of a worker's call left these bytes of a tenant's file: a file of the store's words, or of
-- these with one change put over them. It is the change of the request that a stop there interrupts. If the stop
-- interrupts none, because no device call for a seal was made, it is the change in doubt.
pub record IsLeftOfStore (config : Config) (state : State) (worker tenant : ℕ) (store : Store) (image : List ℕ) : Type 0 where
  pub made : ℕ
  pub may : may_interrupt config state tenant (stop_in_call worker made) ≡ true
  pub is : IsFileOfEither store.words (entries_in_doubt store (interrupted_request (under_way config state (stop_in_call worker made)))) image

-- A worker makes a call on a tenant's file after a run; the call goes well, or a device call of it fails. A crash at
-- any moment from the beginning of the call to its end left bytes as `IsLeftOfStore` says. `store` is the store as the
-- call began.
abbrev pub EveryImageInACallIsOfStore : Type 0
EveryImageInACallIsOfStore = (config : Config) (openings : ℕ → TenantStart) (events : List WorldEvent) (state : State) (old new : World) (worker : ℕ) (outcome : Outcome) (tenant : ℕ) (was now : SimulatedFile)
    (store : Store) (image : List ℕ)
    → IsRun config openings events state → old.config ≡ config → Represents old state → Steps old (IsFile worker outcome) new → served_by old worker ≡ Some tenant
    → book_at old tenant ≡ Some was → book_at new tenant ≡ Some now → store_of openings state tenant ≡ Some store
    → MayHaveLeft (memory_facts (disk_under now.device)) (memory_facts (disk_under was.device)).moment image → IsLeftOfStore config state worker tenant store image

-- A crash while a start opens a tenant's file left these bytes: a file of the words that the start found. They are the
-- store's words, or these with one change put over them, and must be the latter if the call had sealed it. It is the
-- change of the request that the stop interrupted, or, if it interrupted none, the change in doubt.
pub record IsLeftInStart (config : Config) (state : State) (interrupted : Option Interrupted) (store : Store) (words image : List ℕ) : Type 0 where
  pub is : file_words image ≡ Some words
  pub found : may_find (is_sealed_then (under_way config state interrupted)) store.words (entries_in_doubt store (interrupted_request (under_way config state interrupted))) words ≡ true

-- After a run, a start opens a tenant's file; the opening goes well, or a device call of it fails. The disk is a new
-- one with the image's bytes. A crash at any of its moments left bytes as `IsLeftInStart` says, with the words that the
-- file has after the start. `store` is the store as all stopped.
abbrev pub EveryImageInAStartIsOfStore : Type 0
EveryImageInAStartIsOfStore = (config : Config) (openings : ℕ → TenantStart) (events : List WorldEvent) (state : State) (old new : World) (stops : Vec Stop Global) (tenant : ℕ) (now : SimulatedFile) (store : Store) (image : List ℕ)
    → IsRun config openings events state → old.config ≡ config → Represents old state → Steps old (IsRestart stops) new → book_at new tenant ≡ Some now → store_of openings state tenant ≡ Some store
    → MayHaveLeft (memory_facts (disk_under now.device)) 0 image → IsLeftInStart config state (outage_of stops.items tenant).interrupted store now.contents.items image

-- What a crash leaves of a tenant's disk is as the tenant's store alone says: between events, during a call on the
-- file, and during a start.
pub record EveryImageIsOfStore : Type 0 where
  pub at_rest : EveryImageBetweenEventsIsOfStore
  pub in_a_call : EveryImageInACallIsOfStore
  pub in_a_start : EveryImageInAStartIsOfStore
