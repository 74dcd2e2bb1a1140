-- States what of a tenant's file stays over all events but a start and calls on that file. Used by: src/call_laws.rt.
use Rattle.std.specs.Prelude.{ℕ, ◌≡◌, ◌≢◌, List, [], ◌∷◌, Some}
use Rattle.mw_actor.specs.ActorState.{ActorState}
use Rattle.mw_world.specs.declared.config.Config.{Config}
use Rattle.mw_world.specs.Definition.Events.{WorldEvent, File as FileEvent, Restart}
use Rattle.mw_world.specs.Definition.State.{State, TenantState}
use Rattle.mw_world.specs.Definition.World.{run, step}

-- The event is no start, and no call on this tenant's file.
abbrev pub IsBesideFile : State → ℕ → WorldEvent → Type 0
IsBesideFile state tenant (FileEvent worker outcome) = (actor : ActorState) → (state.worker_states worker).actor ≡ Some actor → actor.tenant ≢ tenant
IsBesideFile state tenant (Restart founds) = ⊥
IsBesideFile state tenant event = Unit {0}

-- Each of these events is so, in the world in which it happens.
abbrev pub AreBesideFile : Config → ℕ → State → List WorldEvent → Type 0
AreBesideFile config tenant state [] = Unit {0}
AreBesideFile config tenant state (event ∷ events) = IsBesideFile state tenant event × ((next : State) → step config state event ≡ Some next → AreBesideFile config tenant next events)

-- The tenant has the same file, with as many places, the same quota, and its file opened at the last start or not, as before.
pub record KeepsFile (old new : TenantState) : Type 0 where
  pub file : new.file ≡ old.file
  pub quota : new.quota ≡ old.quota
  pub places : new.places ≡ old.places
  pub is_up : new.is_up ≡ old.is_up

-- An event that is no start and no call on a tenant's file leaves the file.
abbrev pub OthersLeaveFiles : Type 0
OthersLeaveFiles = (config : Config) (state next : State) (event : WorldEvent) (tenant : ℕ) → IsBesideFile state tenant event → step config state event ≡ Some next
    → KeepsFile (state.tenant_states tenant) (next.tenant_states tenant)

-- So do any number of such events.
abbrev pub OthersLeaveFilesLong : Type 0
OthersLeaveFilesLong = (config : Config) (events : List WorldEvent) (state last : State) (tenant : ℕ) → AreBesideFile config tenant state events → run config state events ≡ Some last
    → KeepsFile (state.tenant_states tenant) (last.tenant_states tenant)
