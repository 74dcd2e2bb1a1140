-- Defines what was under way on the tenants' files when all stopped, and the simulated tenants after the start.
-- Used by: src/world/restarts.rt, src/world/stopped_calls.rt.
use Rattle.std.specs.Prelude.{ℕ, ◌≡◌, ◌≤◌, ◌++◌, true, false, List, Vec, length, nat_le, slice_get, Option, Some, None, Result, Ok, Err}
use Rattle.std.specs.Option.{option_map}
use Rattle.std.specs.declared.alloc.Global.{Global}
use Rattle.mw_look.specs.declared.steps.Call.{Call}
use Rattle.mw_look.specs.declared.steps.Call.TheVariants.{Seal as SealCall}
use Rattle.mw_actor.specs.ActorState.{ActorState}
use Rattle.mw_world_file.specs.declared.faults.BookFault.{BookFault}
use Rattle.mw_world_file.specs.declared.faults.BookFault.TheVariants.{NotEnabled, Memory}
use Rattle.mw_world_file.specs.declared.simulated_file.SimulatedFile.{SimulatedFile}
use Rattle.mw_world_file.specs.DeviceCalls.{cut_list}
use Rattle.mw_world.specs.Files.State.{File}
use Rattle.mw_world_file.specs.Recovery.{doubt_left, is_sealed_left, made_of, may_be_made}
use Rattle.mw_world.specs.declared.config.Config.{Config}
use Rattle.mw_world.specs.declared.events.Interrupted.{Interrupted}
use Rattle.mw_world.specs.declared.events.Stop.{Stop}
use Rattle.mw_world.specs.Definition.Calls.{Called}
use Rattle.mw_world.specs.Definition.Events.{Found}
use Rattle.mw_world.specs.Definition.Restarts.{UnderWay, doubt_then, interrupted_request, is_sealed_then, may_be_found, may_interrupt, reopened, stopped_call, under_way}
use Rattle.mw_world.specs.Definition.State.{State, tenant_at}
use Rattle.mw_world_memory.specs.declared.tenants.TenantState.{TenantState as TenantStateInMemory}
use Rattle.mw_world_memory.specs.Lines.{OneHasRoom}
use Rattle.mw_simulator.specs.declared.world.halts.StoppedCall.{StoppedCall}
use Rattle.mw_simulator.specs.declared.world.World.{World}
use Rattle.mw_simulator.specs.Events.{CannotStop, IsOpenedBy, Outage, interrupted_list, list_of, made_in, outage_of}
use Rattle.mw_simulator.specs.Representation.{Represents, RepresentsTenant}
use Rattle.mw_simulator.specs.Starts.{EachOf}

-- the request whose change was being sealed, if the call is a seal
abbrev pub sealed_request : Call → ℕ → Option ℕ
sealed_request SealCall request = Some request
sealed_request call request = None

-- The halt agrees with the call under way, on a file with `places` places in use: on the change in doubt, on whether it
-- was sealed, and on the interrupted request.
pub record IsOf (file : File) (places : ℕ) (call : Option UnderWay) (halt : StoppedCall) : Type 0 where
  pub doubt : doubt_then file call ≡ doubt_left file places halt.cut
  pub sealed : is_sealed_then call ≡ is_sealed_left file places halt.cut
  pub request : interrupted_request call ≡ halt.sealing

-- The halt is that of a request's call after `made` device calls. It may be made if, and only if, the call makes that
-- many.
pub record IsCut (config : Config) (state : State) (actor : ActorState) (called : Called) (made : ℕ) (halt : StoppedCall) : Type 0 where
  pub may : nat_le made (stopped_call config state actor made called).calls ≡ may_be_made (state.tenant_states actor.tenant).file (state.tenant_states actor.tenant).quota halt.cut
  pub is : IsOf (state.tenant_states actor.tenant).file (state.tenant_states actor.tenant).quota (Some (stopped_call config state actor made called)) halt
  pub made_so : made_of halt.cut ≡ made
  pub list_so : (book : SimulatedFile) → cut_list book halt.cut ≡ list_of book actor (Some called)

-- How a call is cut, for each result: the halt is that of the call, or the call makes fewer device calls.
abbrev pub Cuts : Config → State → ActorState → Called → ℕ → Option StoppedCall → Type 0
Cuts config state actor called made (Some halt) = IsCut config state actor called made halt
Cuts config state actor called made None = nat_le made (stopped_call config state actor made called).calls ≡ false

-- The halt is that of this interruption of a tenant's file. It may be made if, and only if, the file may be interrupted
-- so.
pub record IsHalted (config : Config) (state : State) (tenant : ℕ) (interrupted : Option Interrupted) (halt : StoppedCall) : Type 0 where
  pub may : may_interrupt config state tenant interrupted ≡ may_be_made (state.tenant_states tenant).file (state.tenant_states tenant).quota halt.cut
  pub is : IsOf (state.tenant_states tenant).file (state.tenant_states tenant).quota (under_way config state interrupted) halt
  pub made_so : made_of halt.cut ≡ made_in interrupted
  -- its device calls are those of the call under way
  pub list_so : (book : SimulatedFile) → 1 ≤ made_in interrupted → cut_list book halt.cut ≡ interrupted_list state book interrupted

-- How a tenant's file is halted, for each result: the halt is that of the interruption, or the file can't be
-- interrupted so.
abbrev pub Halts : Config → State → ℕ → Option Interrupted → Option StoppedCall → Type 0
Halts config state tenant interrupted (Some halt) = IsHalted config state tenant interrupted halt
Halts config state tenant interrupted None = may_interrupt config state tenant interrupted ≡ false

-- A tenant in memory before and after a start. The start found this of its file, which it may find, and the new tenant
-- represents the tenant state that was reopened so.
pub record IsReopened (config : Config) (state : State) (tenant : ℕ) (outage : Outage) (old new : TenantStateInMemory) : Type 0 where
  pub found : Found
  pub opened : IsOpenedBy state old new outage found
  pub may : may_be_found config state tenant found ≡ true
  pub shows : RepresentsTenant (tenant_at config tenant).words new (reopened (state.tenant_states tenant) found (under_way config state found.interrupted))

-- The new tenant is the part that a start made, with the old tenant's marks up to the last start put before its own.
pub record Follows (old part new : TenantStateInMemory) : Type 0 where
  pub book : new.book ≡ part.book
  pub quota : new.quota ≡ part.quota
  pub asked : new.asked ≡ part.asked
  pub closed : new.lines.closed.items ≡ old.lines.closed.items ++ part.lines.closed.items
  pub lines : new.lines.lines ≡ part.lines.lines

-- the same of all tenants, in order
abbrev pub AllFollow : List TenantStateInMemory → List TenantStateInMemory → List TenantStateInMemory → Type 0
AllFollow olds parts afters = (tenant : ℕ) (old part new : TenantStateInMemory) → slice_get olds tenant ≡ Some old → slice_get parts tenant ≡ Some part
    → slice_get afters tenant ≡ Some new → Follows old part new

-- the marks of each old tenant, or those of its new part, have room for both together
abbrev pub EachHasRoom : List TenantStateInMemory → List TenantStateInMemory → Type 0
EachHasRoom olds parts = EachOf (λ tenant old part. OneHasRoom old.lines part.lines) olds parts

-- the tenants of two lists have the same files
abbrev pub SameBooksIn : List TenantStateInMemory → List TenantStateInMemory → Type 0
SameBooksIn parts afters = (tenant : ℕ) → option_map (λ tenant_state. tenant_state.book) (slice_get afters tenant) ≡ option_map (λ tenant_state. tenant_state.book) (slice_get parts tenant)

-- A tenant in memory and the part that a start makes of it. After this part has taken over the old marks, it is
-- reopened so.
abbrev pub IsReopening : Config → State → ℕ → Outage → TenantStateInMemory → TenantStateInMemory → Type 0
IsReopening config state tenant outage old part = (new : TenantStateInMemory) → Follows old part new → IsReopened config state tenant outage old new

-- how a tenant is reopened, for each result
abbrev pub Reopens : World → State → ℕ → TenantStateInMemory → Outage → Result TenantStateInMemory BookFault → Type 0
Reopens world state tenant shown outage (Ok part) = IsReopening world.config state tenant outage shown part
Reopens world state tenant shown outage (Err NotEnabled) = CannotStop world state tenant outage
Reopens world state tenant shown outage (Err Memory) = Unit {0}

-- these tenants in memory, in order, are what the world's tenants are after a start
abbrev pub AreReopened : World → List Stop → List TenantStateInMemory → Type 0
AreReopened world stops afters = EachOf (λ tenant old new. (state : State) → Represents world state
    → IsReopened world.config state tenant (outage_of stops tenant) old new) world.tenant_states.items afters

-- the same, of parts that haven't taken over the old marks yet
abbrev pub AreReopening : World → List Stop → List TenantStateInMemory → Type 0
AreReopening world stops parts = EachOf (λ tenant old part. (state : State) → Represents world state
    → IsReopening world.config state tenant (outage_of stops tenant) old part) world.tenant_states.items parts

-- how all tenants are reopened, for each result
abbrev pub AllReopen : World → List Stop → Result (Vec TenantStateInMemory Global) BookFault → Type 0
AllReopen world stops (Ok parts) = (length parts.items ≡ length world.tenant_states.items) × AreReopening world stops parts.items
AllReopen world stops (Err NotEnabled) = (state : State) → Represents world state
    → (tenant : ℕ) × CannotStop world state tenant (outage_of stops tenant)
AllReopen world stops (Err Memory) = Unit {0}
