-- Defines which shared words a world has, by its configuration. Used by: many crates from mw_law_runs on.
use Rattle.std.specs.Prelude.{ℕ, ◌&&◌, Bool, nat_lt}
use Rattle.mw_words.specs.declared.limits.TheConstants.{MAX_ENTRIES}
use Rattle.mw_words.specs.declared.places.At.{At}
use Rattle.mw_words.specs.declared.places.At.TheVariants.{Door as AtDoor, Gate as AtGate, Row as AtRow, Data, Status as AtStatus, Count, Addr, Expected, New}
use Rattle.mw_world.specs.declared.config.Config.{Config}
use Rattle.mw_world.specs.Definition.State.{tenant_at, tenants_of}

-- the pool has a slot of this number
abbrev pub has_slot : Config → ℕ → Bool
has_slot config slot = nat_lt slot config.pool

-- the pool has this slot, and a slot has an entry of this index
abbrev pub has_entry : Config → ℕ → ℕ → Bool
has_entry config slot entry = has_slot config slot && nat_lt entry MAX_ENTRIES

-- the world has a shared word at this place
abbrev pub has_place : Config → At → Bool
has_place config (AtDoor tenant) = nat_lt tenant (tenants_of config)
has_place config (AtGate slot) = has_slot config slot
has_place config (AtRow worker) = nat_lt worker config.workers
has_place config (Data tenant address) = nat_lt address (tenant_at config tenant).words
has_place config (AtStatus slot) = has_slot config slot
has_place config (Count slot) = has_slot config slot
has_place config (Addr slot entry) = has_entry config slot entry
has_place config (Expected slot entry) = has_entry config slot entry
has_place config (New slot entry) = has_entry config slot entry
