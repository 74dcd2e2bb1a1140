-- Defines what each event does to a simulated world, and what a run of events does.
-- Used by: src/laws.rt, src/world/events.rt, src/world/new_worlds.rt, src/world/restarts.rt, mwreplay, mw_table_tests.
use Rattle.std.specs.Prelude.{ℕ, ◌≡◌, ◌<◌, ◌==◌, ◌&&◌, ◌⊎◌, Bool, true, false, not, List, [], ◌∷◌, ◌++◌, length, take, nat_lt, slice_get, Option, Some, None, Result, Ok, Err}
use Rattle.std.specs.List.{list_any, find}
use Rattle.std.specs.Option.{unwrap_or}
use Rattle.mw_record.specs.Damages.{file_words}
use Rattle.mw_file.specs.OpeningEnds.{open_calls}
use Rattle.mw_actor.specs.ActorState.{ActorState, own_entries}
use Rattle.mw_disk.specs.DeviceCalls.{DeviceCall}
use Rattle.mw_world_file.specs.declared.simulated_file.SimulatedFile.{SimulatedFile}
use Rattle.mw_world_file.specs.DeviceCalls.{call_list}
use Rattle.mw_world_file.specs.Devices.{disk_under}
use Rattle.mw_world.specs.Files.State.{File}
use Rattle.mw_world_file.specs.Openings.{CameOfBytes}
use Rattle.mw_world_file.specs.Recovery.{IsLeftOf, IsCutImage}
use Rattle.mw_world.specs.declared.events.Event.{Event}
use Rattle.mw_world.specs.declared.events.Event.TheVariants.{Come as IsCome, Step as IsStep, File as IsFile, Hand as IsHand, Restart as IsRestart}
use Rattle.mw_world.specs.declared.events.Interrupted.{Interrupted}
use Rattle.mw_world.specs.declared.events.Stop.{Stop}
use Rattle.mw_world.specs.Definition.Calls.{Called, call, called_at}
use Rattle.mw_world.specs.Definition.Events.{Found, WorldEvent, Come, Step, File as FileCall, Hand, Restart}
use Rattle.mw_world.specs.Definition.Restarts.{UnderWay, doubt_then, found_of, is_sealed_then, may_fail, may_find, may_interrupt, restart, under_way}
use Rattle.mw_world.specs.Definition.State.{State, may_be_quotas, new_world, places_of, tenants_of}
use Rattle.mw_world.specs.Definition.Turns.{turn}
use Rattle.mw_world.specs.Definition.World.{come, hand, step, run}
use Rattle.mw_world_memory.specs.declared.tenants.TenantState.{TenantState as TenantStateInMemory}
use Rattle.mw_simulator.specs.declared.faults.WorldFault.{WorldFault}
use Rattle.mw_simulator.specs.declared.faults.WorldFault.TheVariants.{NotEnabled, LastNumber, Memory}
use Rattle.mw_simulator.specs.declared.world.World.{World}
use Rattle.mw_simulator.specs.Crashes.{CrashesDoNoHarm}
use Rattle.mw_simulator.specs.DisksOfCalls.{DisksFollow}
use Rattle.mw_simulator.specs.Representation.{Represents, Comes, Ends, IsLast, Leads}
use Rattle.mw_simulator.specs.UnchangedParts.{IsUnchanged, LeavesFiles}

-- a stop is of this tenant
abbrev pub is_of : ℕ → Stop → Bool
is_of tenant stop = stop.tenant == tenant

-- the stop of a tenant, if there is one
abbrev pub stop_of : List Stop → ℕ → Option Stop
stop_of stops tenant = find (is_of tenant) stops

-- each stop is of a tenant below this number, and no two stops are of one tenant
abbrev pub are_named : ℕ → List Stop → Bool
are_named tenants [] = true
are_named tenants (stop ∷ stops) = nat_lt stop.tenant tenants && not (list_any (is_of stop.tenant) stops) && are_named tenants stops

-- How a tenant's file was stopped and is opened again: the call that was under way, the bytes of the image at places
-- that weren't synced, the device call of the opening that fails, and the quota that the start gives. No quota: the
-- tenant keeps the one before.
pub record Outage : Type 0 where
  pub interrupted : Option Interrupted
  pub torn : List ℕ
  pub fails_at : Option ℕ
  pub quota : Option ℕ

-- the outage that a stop says; a tenant without a stop has none of these
abbrev pub outage_in : Option Stop → Outage
outage_in None = record { interrupted = None; torn = []; fails_at = None; quota = None }
outage_in (Some stop) = record { interrupted = stop.interrupted; torn = stop.torn.items; fails_at = stop.fails_at; quota = stop.quota }

-- the outage that a list of stops says for a tenant
abbrev pub outage_of : List Stop → ℕ → Outage
outage_of stops tenant = outage_in (stop_of stops tenant)

-- how many device calls the call under way had made; 0 if none was under way
abbrev pub made_in : Option Interrupted → ℕ
made_in None = 0
made_in (Some interrupted) = interrupted.made

-- the device calls, on this book, of the call on a file to which a request has come at a point; none if it has come to none
abbrev pub list_of : SimulatedFile → ActorState → Option Called → List DeviceCall
list_of book actor None = []
list_of book actor (Some called) = call_list book called.call called.change.slot (own_entries actor)

-- the same for a worker's request; none if the worker is idle
abbrev pub list_at : SimulatedFile → Option ActorState → List DeviceCall
list_at book None = []
list_at book (Some actor) = list_of book actor (called_at actor.point)

-- the device calls of the call that was under way on a book's file; none if none was under way
abbrev pub interrupted_list : State → SimulatedFile → Option Interrupted → List DeviceCall
interrupted_list state book None = []
interrupted_list state book (Some interrupted) = list_at book (state.worker_states interrupted.worker).actor

-- What a start found of a tenant's file agrees with the outage. The found words are those of an image, and the number
-- of device calls is that of an opening of this image. The image is the one that the torn bytes leave: of the tenant's own
-- disk if no device call was under way, else of the disk that came of it by those device calls of the call under way that
-- were made.
pub record IsFoundBy (state : State) (shown : TenantStateInMemory) (outage : Outage) (found : Found) : Type 0 where
  pub same_call : found.interrupted ≡ outage.interrupted
  pub same_failure : found.fails_at ≡ outage.fails_at
  pub same_quota : found.quota ≡ outage.quota
  pub image : List ℕ
  pub words : file_words image ≡ Some found.words
  pub calls : open_calls image ≡ found.opening_calls
  pub left : IsLeftOf (disk_under shown.book.device) (made_in outage.interrupted) outage.torn image
  pub exact : IsCutImage (disk_under shown.book.device) (made_in outage.interrupted) (interrupted_list state shown.book outage.interrupted) outage.torn image

-- A start found this of a tenant's file. The tenant's new disk came of that image by the device calls of its opening,
-- whether they went well or one failed.
pub record IsOpenedBy (state : State) (shown now : TenantStateInMemory) (outage : Outage) (found : Found) : Type 0 where
  pub found_so : IsFoundBy state shown outage found
  pub came : CameOfBytes found_so.image found.words outage.fails_at (disk_under now.book.device)

-- A start went well. Each named tenant exists and is named once, the start found and opened each tenant's file so, and
-- the new world in memory represents the world after this start.
pub record Started (old new : World) (state : State) (stops : List Stop) : Type 0 where
  pub named : are_named (tenants_of old.config) stops ≡ true
  pub founds : List Found
  pub found : (tenant : ℕ) (shown now : TenantStateInMemory) → slice_get old.tenant_states.items tenant ≡ Some shown → slice_get new.tenant_states.items tenant ≡ Some now
      → IsOpenedBy state shown now (outage_of stops tenant) (found_of founds tenant)
  pub leads : Leads (restart old.config state founds) new

-- words that a start may find of a tenant's file, by the call that was under way
abbrev pub may_have : File → Option UnderWay → List ℕ → Bool
may_have file call words = may_find (is_sealed_then call) file.contents (doubt_then file call) words

-- The opening of an image that a start may find makes no device call with the number that must fail.
pub record CannotFail (world : World) (state : State) (tenant : ℕ) (outage : Outage) : Type 0 where
  pub shown : TenantStateInMemory
  pub is : slice_get world.tenant_states.items tenant ≡ Some shown
  pub found : Found
  pub found_so : IsFoundBy state shown outage found
  pub may : may_have (state.tenant_states tenant).file (under_way world.config state outage.interrupted) found.words ≡ true
  pub fails : may_fail found.opening_calls found.fails_at ≡ false

-- A tenant's file can't have been stopped so. The call wasn't under way, or made fewer device calls, or the opening
-- can't fail so.
pub record CannotStop (world : World) (state : State) (tenant : ℕ) (outage : Outage) : Type 0 where
  pub there : tenant < tenants_of world.config
  pub why : (may_interrupt world.config state tenant outage.interrupted ≡ false) ⊎ CannotFail world state tenant outage

-- the quotas that a start gives: to each tenant the one that its stop says, else the one before
abbrev pub quotas_told : State → List Stop → ℕ → ℕ
quotas_told state stops tenant = unwrap_or (outage_of stops tenant).quota (state.tenant_states tenant).quota

-- The start can't give these quotas. One is outside its limits or above the places of the tenant's file, or their sum
-- is above the pool.
abbrev pub CannotGive : World → State → List Stop → Type 0
CannotGive world state stops = may_be_quotas world.config (quotas_told state stops) (places_of state) ≡ false

-- The world can't be stopped and started so. A named tenant doesn't exist or is named twice, the quotas don't fit, or a
-- tenant can't have been stopped so.
abbrev pub CannotRestart : World → State → List Stop → Type 0
CannotRestart world state stops =
    (are_named (tenants_of world.config) stops ≡ false) ⊎ (CannotGive world state stops ⊎ ((tenant : ℕ) × CannotStop world state tenant (outage_of stops tenant)))

-- How a start ends, for each result. After an error the world in memory is unchanged.
abbrev pub Restarts : World → World → State → List Stop → Result (Unit {0}) WorldFault → Type 0
Restarts old new state stops (Ok x) = Started old new state stops
Restarts old new state stops (Err NotEnabled) = (new ≡ old) × CannotRestart old state stops
Restarts old new state stops (Err LastNumber) = ⊥
Restarts old new state stops (Err Memory) = new ≡ old

-- how an event ends in a world in memory that represented this world, for each result
abbrev pub Happens : World → World → State → Event → Result (Unit {0}) WorldFault → Type 0
Happens old new state (IsCome worker tenant job) result = Comes new state tenant (come old.config state worker tenant job) result
Happens old new state (IsStep worker) result = Ends new state (turn old.config state worker (state.worker_states worker).actor) result
Happens old new state (IsFile worker outcome) result = Ends new state (call old.config state worker (state.worker_states worker).actor outcome) result
Happens old new state (IsHand worker) result = Ends new state (hand state worker (state.worker_states worker).actor) result
Happens old new state (IsRestart stops) result = Restarts old new state stops.items result

-- What was found of each of these tenants has the interruption, the failing device call and the quota that the stops
-- say.
abbrev pub AreTold : List Stop → List Found → Type 0
AreTold stops founds = (tenant : ℕ) → tenant < length founds
    → ((found_of founds tenant).interrupted ≡ (outage_of stops tenant).interrupted) × ((found_of founds tenant).fails_at ≡ (outage_of stops tenant).fails_at)
    × ((found_of founds tenant).quota ≡ (outage_of stops tenant).quota)

-- An event in memory says that this event of the world happens.
abbrev pub Tells : Event → WorldEvent → Type 0
Tells (IsCome worker tenant job) world_event = world_event ≡ Come worker tenant job
Tells (IsStep worker) world_event = world_event ≡ Step worker
Tells (IsFile worker outcome) world_event = world_event ≡ FileCall worker outcome
Tells (IsHand worker) world_event = world_event ≡ Hand worker
Tells (IsRestart stops) world_event = (founds : List Found) × (world_event ≡ Restart founds) × AreTold stops.items founds

-- these events in memory say, one by one, that these events of the world happen
abbrev pub AllTell : List Event → List WorldEvent → Type 0
AllTell [] [] = Unit {0}
AllTell [] (world_event ∷ world_events) = ⊥
AllTell (event ∷ events) [] = ⊥
AllTell (event ∷ events) (world_event ∷ world_events) = Tells event world_event × AllTell events world_events

-- A run of these events from a new world leads to a world that the world in memory represents.
pub record IsAfterRun (world : World) (happened : List WorldEvent) : Type 0 where
  pub state : State
  pub runs : run world.config (new_world world.config) happened ≡ Some state
  pub shows : Represents world state

-- The world in memory represents the world after these events of the world, and then after what those events in memory
-- say.
pub record GoesOn (world : World) (happened : List WorldEvent) (events : List Event) : Type 0 where
  pub more : List WorldEvent
  pub tell : AllTell events more
  pub stands : IsAfterRun world (happened ++ more)

-- After the event, the world in memory represents the world after these events and what the event says; after an error,
-- the one after these.
abbrev pub IsAfterEvent : World → List WorldEvent → Event → Result (Unit {0}) WorldFault → Type 0
IsAfterEvent new happened event (Ok x) = GoesOn new happened (event ∷ [])
IsAfterEvent new happened event (Err fault) = IsAfterRun new happened

-- An event can't happen in this state: a start can't be as it says, or no event of the world that it says can happen.
abbrev pub Cannot : World → State → Event → Type 0
Cannot world state (IsRestart stops) = CannotRestart world state stops.items
Cannot world state event = (world_event : WorldEvent) → Tells event world_event → step world.config state world_event ≡ None

-- An event is a request that can come, and its number would be `MOST_REQUESTS`, which a world in memory doesn't give.
abbrev pub ComesLast : World → State → Event → Type 0
ComesLast world state (IsCome worker tenant job) = IsLast state tenant (come world.config state worker tenant job)
ComesLast world state event = ⊥

-- Why an event was refused. If memory isn't out, there is such an event. It can't happen in the state that the world in
-- memory represents, or it is a request with a number that a world in memory doesn't give.
abbrev pub IsRefused : World → List WorldEvent → Option Event → WorldFault → Type 0
IsRefused world happened event Memory = Unit {0}
IsRefused world happened None NotEnabled = ⊥
IsRefused world happened None LastNumber = ⊥
IsRefused world happened (Some event) NotEnabled = (state : State) × Represents world state × Cannot world state event
IsRefused world happened (Some event) LastNumber = (state : State) × Represents world state × ComesLast world state event

-- The events before the one with this index have happened, and that one was refused for this reason.
pub record StopsAt (world : World) (happened : List WorldEvent) (events : List Event) (index : ℕ) (fault : WorldFault) : Type 0 where
  pub there : index < length events
  pub goes : GoesOn world happened (take index events)
  pub refused : IsRefused world happened (slice_get events index) fault

-- How a run of events ends, for each result: all events have happened, or those before the one that was refused.
abbrev pub Runs : World → List WorldEvent → List Event → Result (Unit {0}) (ℕ × WorldFault) → Type 0
Runs new happened events (Ok x) = GoesOn new happened events
Runs new happened events (Err stop) = StopsAt new happened events stop.0 stop.1

-- A world in memory, and the world in memory after an event that happened.
pub record Steps (old : World) (event : Event) (new : World) : Type 0 where
  pub config : new.config ≡ old.config
  pub happens : (state : State) → Represents old state → Happens old new state event (Ok tt)
  pub files : LeavesFiles old new event
  pub moments : (state : State) → Represents old state → CrashesDoNoHarm old new state event (Ok tt)
  pub disks : (state : State) → Represents old state → DisksFollow old new state event (Ok tt)

-- the same after these events, one by one
abbrev pub AllStep : World → List Event → World → Type 0
AllStep old [] new = new ≡ old
AllStep old (event ∷ events) new = (next : World) × Steps old event next × AllStep next events new

-- The events before the one with this index happened, one by one. The world that they led to refused that one, and is
-- unchanged except for the room of its lists.
pub record StepsUpTo (old new : World) (events : List Event) (index : ℕ) (fault : WorldFault) : Type 0 where
  pub last : World
  pub steps : AllStep old (take index events) last
  pub event : Event
  pub there : slice_get events index ≡ Some event
  pub refused : (state : State) → Represents last state → Happens last new state event (Err fault)
  pub unchanged : IsUnchanged last new

-- How a run of events ends, for each result: the events happened one after the other, or they stopped at the one that
-- was refused.
abbrev pub RunsBySteps : World → World → List Event → Result (Unit {0}) (ℕ × WorldFault) → Type 0
RunsBySteps old new events (Ok x) = AllStep old events new
RunsBySteps old new events (Err stop) = StepsUpTo old new events stop.0 stop.1
