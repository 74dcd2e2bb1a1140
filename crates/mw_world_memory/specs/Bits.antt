-- Defines the bits of a world's shared words, as lists of numbers, and how to read one at a place.
-- Used by: src/cells.rt, src/cells/steps.rt, mw_simulator.
use Rattle.std.specs.Prelude.{ℕ, ◌≡◌, ◌+◌, ◌*◌, Bool, cond, nat_lt, List, [], None, is_some, slice_get, slice_set, slice_index_or}
use Rattle.std.specs.declared.option.Option.{Option}
use Rattle.mw_words.specs.declared.limits.TheConstants.{MAX_ENTRIES}
use Rattle.mw_words.specs.declared.places.At.{At}
use Rattle.mw_words.specs.declared.places.At.TheVariants.{Door as AtDoor, Gate as AtGate, Row as AtRow, Data, Status as AtStatus, Count, Addr, Expected, New}

-- The bits of each shared word.
pub record Bits : Type 0 where
  -- by tenant
  pub doors : List ℕ
  -- by slot
  pub gates : List ℕ
  -- by worker
  pub rows : List ℕ
  -- by tenant and address
  pub words : List (List ℕ)
  -- by slot
  pub statuses : List ℕ
  pub counts : List ℕ
  -- by entry, the entries of one slot after those of the slot before it; the last list has the new values
  pub addrs : List ℕ
  pub expecteds : List ℕ
  pub new_values : List ℕ

-- the bits of an entry of a slot; a slot has MAX_ENTRIES entries
abbrev pub entry_at : List ℕ → ℕ → ℕ → Option ℕ
entry_at entries slot entry = cond (nat_lt entry MAX_ENTRIES) (slice_get entries (slot * MAX_ENTRIES + entry)) None

-- the entries with these bits at an entry of a slot
abbrev pub with_entry : List ℕ → ℕ → ℕ → ℕ → List ℕ
with_entry entries slot entry bits = cond (nat_lt entry MAX_ENTRIES) (slice_set entries (slot * MAX_ENTRIES + entry) bits) entries

-- the bits of a word of a tenant
abbrev pub word_bits : List (List ℕ) → ℕ → ℕ → Option ℕ
word_bits words tenant address = slice_get (slice_index_or words tenant []) address

-- the tenants' words with these bits at an address of a tenant
abbrev pub with_word : List (List ℕ) → ℕ → ℕ → ℕ → List (List ℕ)
with_word words tenant address bits = slice_set words tenant (slice_set (slice_index_or words tenant []) address bits)

-- the bits at a place; None: there is no such place
abbrev pub bits_at : Bits → At → Option ℕ
bits_at bits (AtDoor tenant) = slice_get bits.doors tenant
bits_at bits (AtGate slot) = slice_get bits.gates slot
bits_at bits (AtRow worker) = slice_get bits.rows worker
bits_at bits (Data tenant address) = word_bits bits.words tenant address
bits_at bits (AtStatus slot) = slice_get bits.statuses slot
bits_at bits (Count slot) = slice_get bits.counts slot
bits_at bits (Addr slot entry) = entry_at bits.addrs slot entry
bits_at bits (Expected slot entry) = entry_at bits.expecteds slot entry
bits_at bits (New slot entry) = entry_at bits.new_values slot entry

-- the bits with these put at a place; if there is no such place, nothing changes
abbrev pub put_bits : Bits → At → ℕ → Bits
put_bits bits (AtDoor tenant) put = record bits { doors = slice_set bits.doors tenant put }
put_bits bits (AtGate slot) put = record bits { gates = slice_set bits.gates slot put }
put_bits bits (AtRow worker) put = record bits { rows = slice_set bits.rows worker put }
put_bits bits (Data tenant address) put = record bits { words = with_word bits.words tenant address put }
put_bits bits (AtStatus slot) put = record bits { statuses = slice_set bits.statuses slot put }
put_bits bits (Count slot) put = record bits { counts = slice_set bits.counts slot put }
put_bits bits (Addr slot entry) put = record bits { addrs = with_entry bits.addrs slot entry put }
put_bits bits (Expected slot entry) put = record bits { expecteds = with_entry bits.expecteds slot entry put }
put_bits bits (New slot entry) put = record bits { new_values = with_entry bits.new_values slot entry put }

-- there is such a place
abbrev pub is_there : Bits → At → Bool
is_there bits at = is_some (bits_at bits at)

-- the places are the same
abbrev pub SamePlaces : Bits → Bits → Type 0
SamePlaces old new = (at : At) → is_there new at ≡ is_there old at
