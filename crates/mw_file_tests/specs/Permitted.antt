-- Defines the tests by which these tests know that a call on a file may be made. Used by: src/calls.rt.
use Rattle.std.specs.Prelude.{ℕ, ◌+◌, ◌&&◌, Bool, true, false, not, List, [], ◌∷◌, Option, Some, None, slice_get, nat_le}
use Rattle.std.specs.List.{list_all}
use Rattle.mw_words.specs.Change.{is_change}
use Rattle.mw_record.specs.Records.{Pairs, holds}
use Rattle.mw_file.specs.declared.new_changes.NewChange.{NewChange}
use Rattle.mw_file.specs.declared.place_states.PlaceState.{PlaceState}
use Rattle.mw_file.specs.declared.place_states.Stage.{Stage}
use Rattle.mw_file.specs.declared.place_states.Stage.TheVariants.{Free, Prepared, Sealed}
use Rattle.mw_file.specs.PlaceStates.{is_free}

-- these writes share no address with the others
abbrev pub are_apart : Pairs → Pairs → Bool
are_apart writes others = list_all (λ write. not (holds others write.0)) writes

-- the result of a test for a sealed change, true for any other
abbrev pub if_sealed : Stage → Bool → Bool
if_sealed Free test = true
if_sealed Prepared test = true
if_sealed Sealed test = test

-- if this place's change is sealed, these writes share no address with it
abbrev pub is_apart : Pairs → PlaceState → Bool
is_apart writes state = if_sealed state.stage (are_apart writes state.writes.items)

-- there is a place, and it is free
abbrev pub is_free_in : Option PlaceState → Bool
is_free_in None = false
is_free_in (Some state) = is_free state

-- The place of this change is one of a file's and free, and the change is well formed for the file's words.
abbrev pub has_room : ℕ → List PlaceState → NewChange → Bool
has_room words states change = is_free_in (slice_get states change.place.0) && is_change words change.entries.items

-- the place of each change is at or above a lowest one, and above the one before it
abbrev pub places_rise : ℕ → List NewChange → Bool
places_rise lowest [] = true
places_rise lowest (c ∷ changes) = nat_le lowest c.place.0 && places_rise (c.place.0 + 1) changes
