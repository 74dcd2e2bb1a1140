-- Defines the shared words as values in place of bits. `pack` of mw_look gives their bits.
-- Used by: many crates from mw_law_runs on.
use Rattle.std.specs.Prelude.{ℕ}
use Rattle.mw_words.specs.declared.places.At.{At}
use Rattle.mw_words.specs.declared.places.At.TheVariants.{Door as AtDoor, Gate as AtGate, Row as AtRow, Data, Status as AtStatus, Count, Addr, Expected, New}
use Rattle.mw_words.specs.declared.doors.Door.{Door}
use Rattle.mw_words.specs.declared.gates.Gate.{Gate}
use Rattle.mw_words.specs.declared.rows.Row.{Row}
use Rattle.mw_words.specs.declared.statuses.Status.{Status}
use Rattle.mw_words.specs.declared.words.Word.{Word}
use Rattle.mw_look.specs.Places.{Fits, Val}
use Rattle.mw_world.specs.Maps.{upd, upd_two}

-- The value at each place. Past the last tenant, slot or worker, a place has its first value, and nothing changes it.
pub record Cells : Type 0 where
  -- by tenant: how many slots it uses, and whether its file has failed
  pub doors : ℕ → Door
  -- by slot: whether it is taken, how many pins it has, and its sequence number
  pub gates : ℕ → Gate
  -- by worker: the entry of its latest attempt
  pub rows : ℕ → Row
  -- by tenant and address: the tenant's words
  pub words : ℕ → ℕ → Word
  -- by slot: its change's status, and how many entries the change has
  pub statuses : ℕ → Status
  pub counts : ℕ → ℕ
  -- by slot and entry: the entry's address, the value that it expects, and the value that it writes
  pub addrs : ℕ → ℕ → ℕ
  pub expecteds : ℕ → ℕ → ℕ
  pub new_values : ℕ → ℕ → ℕ

-- the value at a place
abbrev pub read : Cells → (at : At) → Val at
read cells (AtDoor tenant) = cells.doors tenant
read cells (AtGate slot) = cells.gates slot
read cells (AtRow worker) = cells.rows worker
read cells (Data tenant address) = cells.words tenant address
read cells (AtStatus slot) = cells.statuses slot
read cells (Count slot) = cells.counts slot
read cells (Addr slot entry) = cells.addrs slot entry
read cells (Expected slot entry) = cells.expecteds slot entry
read cells (New slot entry) = cells.new_values slot entry

-- the shared words with this value at a place
abbrev pub write : Cells → (at : At) → Val at → Cells
write cells (AtDoor tenant) door = record cells { doors = upd cells.doors tenant door }
write cells (AtGate slot) gate = record cells { gates = upd cells.gates slot gate }
write cells (AtRow worker) row = record cells { rows = upd cells.rows worker row }
write cells (Data tenant address) word = record cells { words = upd_two cells.words tenant address word }
write cells (AtStatus slot) status = record cells { statuses = upd cells.statuses slot status }
write cells (Count slot) number = record cells { counts = upd cells.counts slot number }
write cells (Addr slot entry) number = record cells { addrs = upd_two cells.addrs slot entry number }
write cells (Expected slot entry) number = record cells { expecteds = upd_two cells.expecteds slot entry number }
write cells (New slot entry) number = record cells { new_values = upd_two cells.new_values slot entry number }

-- the value at each place is in range
abbrev pub AllFit : Cells → Type 0
AllFit cells = (at : At) → Fits at (read cells at)
