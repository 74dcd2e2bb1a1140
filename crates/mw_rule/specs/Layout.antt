-- Defines the index of each shared word in the table, the array of atomic words that threads share.
-- Used by: src/indexes.rt, src/laws.rt, mw_table, mw_table_tests.
use Rattle.std.specs.Prelude.{ℕ, ◌≡◌, ◌+◌, ◌-◌, ◌*◌, ◌/◌, ◌<◌, true}
use Rattle.mw_words.specs.declared.limits.TheConstants.{MAX_ENTRIES, MAX_TENANTS, MAX_WORDS, MAX_WORKERS}
use Rattle.mw_words.specs.declared.places.At.{At}
use Rattle.mw_words.specs.declared.places.At.TheVariants.{Door as AtDoor, Gate as AtGate, Row as AtRow, Data, Status as AtStatus, Count, Addr, Expected, New}
use Rattle.mw_rule.specs.declared.indexes.TheConstants.{LINE}
use Rattle.mw_world.specs.declared.config.Config.{Config}
use Rattle.mw_world.specs.Definition.Extent.{has_place}
use Rattle.mw_world.specs.Definition.State.{IsConfig, tenants_of}

-- The index of the first slot's first word. The doors and the rows are before it, each with a line of its own.
abbrev pub slots_from : ℕ
slots_from = LINE * (MAX_TENANTS + MAX_WORKERS)

-- How many words a slot takes, in whole lines: its gate, its status, its count, and three words for each entry.
abbrev pub slot_wide : ℕ
slot_wide = (3 + 3 * MAX_ENTRIES + (LINE - 1)) / LINE * LINE

-- The index of a word, in a table of so many slots. The order is doors, rows, slots, then the tenants' words. Each
-- tenant has room for as many words as a tenant may have.
abbrev pub index_of : ℕ → At → ℕ
index_of pool (AtDoor tenant) = LINE * tenant
index_of pool (AtRow worker) = LINE * (MAX_TENANTS + worker)
index_of pool (AtGate slot) = slots_from + slot_wide * slot
index_of pool (AtStatus slot) = slots_from + slot_wide * slot + 1
index_of pool (Count slot) = slots_from + slot_wide * slot + 2
index_of pool (Addr slot entry) = slots_from + slot_wide * slot + (3 + entry)
index_of pool (Expected slot entry) = slots_from + slot_wide * slot + (3 + MAX_ENTRIES + entry)
index_of pool (New slot entry) = slots_from + slot_wide * slot + (3 + 2 * MAX_ENTRIES + entry)
index_of pool (Data tenant address) = slots_from + slot_wide * pool + MAX_WORDS * tenant + address

-- how many words the table has
abbrev pub words_of : Config → ℕ
words_of config = slots_from + slot_wide * config.pool + MAX_WORDS * tenants_of config

-- The place is within the limits: its slot is one of the pool, and its tenant, worker, entry or address is below the
-- limit. (For a tenant's word only the address is limited.)
abbrev pub Within : ℕ → At → Type 0
Within pool (AtDoor tenant) = tenant < MAX_TENANTS
Within pool (AtRow worker) = worker < MAX_WORKERS
Within pool (AtGate slot) = slot < pool
Within pool (AtStatus slot) = slot < pool
Within pool (Count slot) = slot < pool
Within pool (Addr slot entry) = (slot < pool) × (entry < MAX_ENTRIES)
Within pool (Expected slot entry) = (slot < pool) × (entry < MAX_ENTRIES)
Within pool (New slot entry) = (slot < pool) × (entry < MAX_ENTRIES)
Within pool (Data tenant address) = address < MAX_WORDS

-- Each place of the world is within the limits.
abbrev pub PlacesAreWithin : Type 0
PlacesAreWithin = (config : Config) (at : At) → IsConfig config → has_place config at ≡ true → Within config.pool at

-- Each place of the world has an index in the table.
abbrev pub PlacesAreInTable : Type 0
PlacesAreInTable = (config : Config) (at : At) → IsConfig config → has_place config at ≡ true → index_of config.pool at < words_of config

-- Two places within the limits have two indexes.
abbrev pub PlacesStandApart : Type 0
PlacesStandApart = (pool : ℕ) (one other : At) → Within pool one → Within pool other → index_of pool one ≡ index_of pool other → one ≡ other
