-- Defines how an opening makes a tenant's new disk from the bytes that a start found. Used by: mw_simulator.
use Rattle.std.specs.Prelude.{ℕ, ◌≡◌, ◌+◌, List, Option, Some, None}
use Rattle.mw_disk.specs.Facts.{IsSynced}
use Rattle.mw_memory_disk.specs.Memory.{Memory as Disk, memory_facts}
use Rattle.mw_disk.specs.Runs.{LeavesOnly, Good as AllWell, Bad as OneFailed}
use Rattle.mw_record.specs.Damages.{file_words}
use Rattle.mw_file.specs.OpeningEnds.{open_calls}

-- How one disk came of another by an opening of `calls` device calls. All went well; or those before the one with the
-- failing number did, that one failed, and none was made after it.
abbrev pub OpeningRan : ℕ → Option ℕ → Disk → Disk → Type 0
OpeningRan calls None before after = AllWell calls (memory_facts before) (memory_facts after)
OpeningRan calls (Some number) before after = (failed : OneFailed calls (memory_facts before) (memory_facts after)) × (failed.well + 1 ≡ number)

-- The disk came of a new one with these bytes, all synced, by the device calls of their opening. A crash at any moment
-- of the disk left a file of these words.
pub record CameOfBytes (image words : List ℕ) (fails_at : Option ℕ) (after : Disk) : Type 0 where
  pub first : Disk
  pub reads : (memory_facts first).reads ≡ image
  pub rest : IsSynced (memory_facts first)
  pub begins : (memory_facts first).moment ≡ 0
  pub ran : OpeningRan (open_calls image) fails_at first after
  pub moments : LeavesOnly (memory_facts first) (memory_facts after) (λ bytes. file_words bytes ≡ Some words)
