-- Defines when a call on a tenant's file can be made, which device calls it makes, and the file after it.
-- Used by: many crates from mw_book on.
use Rattle.std.specs.Prelude.{ℕ, ◌+◌, ◌&&◌, Bool, true, false, List, [], length, nat_le, nat_lt}
use Rattle.mw_words.specs.declared.jobs.Entry.{Entry}
use Rattle.mw_words.specs.Change.{is_change}
use Rattle.mw_look.specs.declared.steps.Call.{Call}
use Rattle.mw_look.specs.declared.steps.Call.TheVariants.{Prepare as PrepareCall, Seal as SealCall, Settle as SettleCall, Cancel as CancelCall}
use Rattle.mw_world.specs.Files.State.{File, empty_from, entries_at, is_prepared, is_sealed, is_apart, prepared, sealed, emptied}

-- A call fails on a file that failed before, except a cancel, which makes no device call.
abbrev pub fails_on : Call → File → Bool
fails_on CancelCall file = false
fails_on call file = file.has_failed

-- the place of a call: for a prepare the lowest empty place, else the place of the slot's change
abbrev pub place_for : Call → File → ℕ → ℕ → ℕ
place_for PrepareCall file places slot = empty_from file 0 places
place_for call file places slot = file.place_of slot

-- The place is one of those that the book uses, and suits the call. A prepare needs an empty one. A seal needs a
-- prepared change that has no word in common with a sealed one. A settle needs a sealed change, and a cancel a prepared
-- one.
abbrev pub suits : Call → File → ℕ → ℕ → Bool
suits PrepareCall file places place = nat_lt place places
suits SealCall file places place = nat_lt place places && is_prepared (file.places place) && is_apart file (entries_at file place) places
suits SettleCall file places place = nat_lt place places && is_sealed (file.places place)
suits CancelCall file places place = nat_lt place places && is_prepared (file.places place)

-- a change to write down is a well-formed change of the file's words
abbrev pub is_formed : Call → File → List Entry → Bool
is_formed PrepareCall file entries = is_change (length file.contents) entries
is_formed call file entries = true

-- the call can be made for a change with these entries
abbrev pub can_be_made : Call → File → ℕ → ℕ → List Entry → Bool
can_be_made call file places place entries = is_formed call file entries && suits call file places place

-- How many device calls a call makes. A prepare writes the record and syncs. A seal sets the commit byte and syncs. A
-- settle writes each word, syncs, clears the commit byte and syncs. A cancel makes none.
abbrev pub device_calls : Call → List Entry → ℕ
device_calls PrepareCall entries = 2
device_calls SealCall entries = 2
device_calls SettleCall entries = length entries + 3
device_calls CancelCall entries = 0

-- a call of `calls` device calls makes one with this number, counted from 1
abbrev pub is_made : ℕ → ℕ → Bool
is_made calls number = nat_le 1 number && nat_le number calls

-- the file after a call that went well
abbrev pub filed : Call → File → ℕ → ℕ → List Entry → File
filed PrepareCall file slot place entries = prepared file slot place entries
filed SealCall file slot place entries = sealed file place
filed SettleCall file slot place entries = emptied file place
filed CancelCall file slot place entries = emptied file place

-- the change in doubt after a device call of this call failed: the one that a seal sealed, else none
abbrev pub doubt_of : Call → List Entry → List Entry
doubt_of SealCall entries = entries
doubt_of call entries = []
