-- Defines the shared word at each index of the table. Used by: src/at_start.rt, src/places.rt, mw_table_tests.
use Rattle.std.specs.Prelude.{ℕ, ◌≡◌, ◌+◌, ◌-◌, ◌*◌, ◌/◌, ◌%◌, ◌==◌, nat_lt, true, if◌then◌else◌}
use Rattle.mw_words.specs.declared.limits.TheConstants.{MAX_ENTRIES, MAX_TENANTS, MAX_WORDS}
use Rattle.mw_words.specs.declared.places.At.{At}
use Rattle.mw_words.specs.declared.places.At.TheVariants.{Door as AtDoor, Gate as AtGate, Row as AtRow, Data, Status as AtStatus, Count, Addr, Expected, New}
use Rattle.mw_look.specs.Places.{pack}
use Rattle.mw_world.specs.declared.config.Config.{Config}
use Rattle.mw_world.specs.Definition.Cells.{Cells, read}
use Rattle.mw_world.specs.Definition.Extent.{has_place}
use Rattle.mw_rule.specs.declared.indexes.TheConstants.{LINE}
use Rattle.mw_rule.specs.Layout.{index_of, slot_wide, slots_from}

-- the place at an index within a slot's words
abbrev pub slot_place : ℕ → ℕ → At
slot_place slot index =
    if index == 0 then AtGate slot
    else (if index == 1 then AtStatus slot
    else (if index == 2 then Count slot
    else (if nat_lt index (3 + MAX_ENTRIES) then Addr slot (index - 3)
    else (if nat_lt index (3 + 2 * MAX_ENTRIES) then Expected slot (index - (3 + MAX_ENTRIES))
    else New slot (index - (3 + 2 * MAX_ENTRIES))))))

-- the place that begins a line before the slots
abbrev pub line_place : ℕ → At
line_place line = if nat_lt line MAX_TENANTS then AtDoor line else AtRow (line - MAX_TENANTS)

-- a place that no world has
abbrev pub nowhere : At
nowhere = AtDoor MAX_TENANTS

-- The place at an index, whether a world has a word there or not. Unused are the indexes of tenants, workers and
-- slots that the world doesn't have, and the rest of the lines of doors and rows.
abbrev pub place_at : ℕ → ℕ → At
place_at pool index =
    if nat_lt index slots_from then (if index % LINE == 0 then line_place (index / LINE) else nowhere)
    else (if nat_lt index (slots_from + slot_wide * pool) then slot_place ((index - slots_from) / slot_wide) ((index - slots_from) % slot_wide)
    else Data ((index - (slots_from + slot_wide * pool)) / MAX_WORDS) ((index - (slots_from + slot_wide * pool)) % MAX_WORDS))

-- These are the bits at an index, if a shared word is there.
abbrev pub IsAt : Config → Cells → ℕ → ℕ → Type 0
IsAt config cells index bits = (at : At) → has_place config at ≡ true → index_of config.pool at ≡ index → bits ≡ pack at (read cells at)
