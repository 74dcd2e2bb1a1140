-- States that a tenant's file has an empty record place while a slot is taken for the tenant without its change in the file.
-- Used by: src/file_laws.rt.
use Rattle.std.specs.Prelude.{ℕ, ◌≡◌, ◌<◌, ◌≤◌, true, false}
use Rattle.mw_world.specs.Files.State.{File, is_empty, empty_from}
use Rattle.mw_world.specs.declared.config.Config.{Config}
use Rattle.mw_world.specs.Claim.Invariant.{placed}
use Rattle.mw_world.specs.Definition.State.{State, tenants_of}
use Rattle.mw_law_runs.specs.RunInvariant.{IsSound}
use Rattle.mw_law_store.specs.Files.Files.{HasFiles, places_of}

-- One of the first so many places of a file is empty. The lowest such place is the lowest empty one of the whole file, however
-- many places it has beyond these.
pub record HasEmptyPlace (file : File) (places : ℕ) : Type 0 where
  pub within : empty_from file 0 places < places
  pub empty : is_empty (file.places (empty_from file 0 places)) ≡ true
  pub lowest : (place : ℕ) → place < empty_from file 0 places → is_empty (file.places place) ≡ false
  pub of_all : (most : ℕ) → places ≤ most → empty_from file 0 most ≡ empty_from file 0 places

-- A slot is taken for a change of this tenant that is not in the tenant's file.
pub record IsOutside (state : State) (tenant slot : ℕ) : Type 0 where
  pub taken : (state.cells.gates slot).taken ≡ true
  pub same_tenant : state.history.tenant slot (state.cells.gates slot).seq ≡ tenant
  pub outside : is_empty (placed (state.history.fate slot (state.cells.gates slot).seq) (state.history.change slot (state.cells.gates slot).seq)) ≡ true

-- While there is such a slot, one of the places that the tenant may use is empty.
abbrev pub OutsideLeavesRoom : Type 0
OutsideLeavesRoom = (config : Config) (state : State) (tenant slot : ℕ) → IsSound config state → HasFiles config state → tenant < tenants_of config → IsOutside state tenant slot
    → HasEmptyPlace (state.tenant_states tenant).file (places_of config state tenant)
