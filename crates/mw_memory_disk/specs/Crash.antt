-- Defines which bytes a crash of a disk in memory leaves if a test chooses the bytes of unsynced writes.
-- Used by: mw_world_file, laws.rt, memory.rt, memory_file.rt, spans.rt. A change here changes MemDisk, and no real disk.
use Rattle.std.specs.Prelude.{min, Option, Some, None, ◌≡◌, ◌<◌, ◌≤◌, ℕ, ◌+◌, zero, suc, Bool, ◌&&◌, List, [], ◌∷◌, ◌++◌, length, nat_lt, nat_le, slice_index, IsTrue, if◌then◌else◌}
use Rattle.std.specs.List.{list_any}
use Rattle.mw_memory_disk.specs.Memory.{bytes_of}
use Rattle.mw_memory_disk.specs.declared.spans.Span.{Span}
use Rattle.mw_memory_disk.specs.declared.event.Event.{Event}
use Rattle.mw_memory_disk.specs.declared.event.Call.{Call}
use Rattle.mw_memory_disk.specs.declared.event.Call.TheVariants.{Quiet, Wrote, Tore, Synced}

-- the ranges written since the last sync, after this call too
abbrev pub spans_after : List Span → Call → List Span
spans_after spans (Quiet well) = spans
spans_after spans (Wrote at block) = spans ++ record { at = at; len = length block } ∷ []
spans_after spans (Tore at len) = spans ++ record { at = at; len = len } ∷ []
spans_after spans Synced = []

-- the same after a list of calls
abbrev pub spans_from : List Span → List Event → List Span
spans_from spans [] = spans
spans_from spans (e ∷ es) = spans_from (spans_after spans e.call) es

-- the ranges written since the last sync, also by failed writes
abbrev pub unsynced : List Event → List Span
unsynced log = spans_from [] log

-- A disk that had the first bytes has these bytes after these calls, and these are the ranges written since the last sync.
pub record IsLeftBy (first : List ℕ) (log : List Event) (bytes : List ℕ) (spans : List Span) : Type 0 where
  pub seen : bytes ≡ bytes_of first log
  pub written : spans ≡ unsynced log

-- the offset is in the range
abbrev pub covers : ℕ → Span → Bool
covers k span = nat_le span.at k && nat_lt k (span.at + span.len)

-- the offset is in one of the ranges
abbrev pub is_within : List Span → ℕ → Bool
is_within spans k = list_any (covers k) spans

-- how many offsets below this one are in the ranges
abbrev pub count_within : List Span → ℕ → ℕ
count_within spans zero = 0
count_within spans (suc k) = count_within spans k + (if is_within spans k then 1 else 0)

-- this is the least offset in the ranges that is not below `from`; None: there is no such offset
abbrev pub IsNext : List Span → ℕ → Option ℕ → Type 0
IsNext spans from None = (k : ℕ) → from ≤ k → IsTrue (is_within spans k) → ⊥
IsNext spans from (Some k) = (from ≤ k) × IsTrue (is_within spans k) × ((j : ℕ) → from ≤ j → j < k → IsTrue (is_within spans j) → ⊥)

-- the lesser of two offsets, if there are two
abbrev pub nearer : Option ℕ → Option ℕ → Option ℕ
nearer None other = other
nearer (Some one) None = Some one
nearer (Some one) (Some other) = Some (min one other)

-- The offset is one of the first n offsets of the ranges.
pub record IsTorn (spans : List Span) (n k : ℕ) : Type 0 where
  pub within : IsTrue (is_within spans k)
  pub early : count_within spans k < n

-- The first n offsets of the ranges, in rising order, have the torn bytes. The bytes at all other offsets stay. The file ends where it
-- ended, or after the last torn byte past that end, with zeros in a gap.
pub record Tears (spans : List Span) (torn : List ℕ) (n : ℕ) (old new : List ℕ) : Type 0 where
  pub taken : (k : ℕ) → IsTorn spans n k → (k < length new) × (slice_index new k ≡ slice_index torn (count_within spans k))
  pub stays : (k : ℕ) → (IsTorn spans n k → ⊥) → slice_index new k ≡ slice_index old k
  pub no_shorter : length old ≤ length new
  pub ends : (k : ℕ) → k + 1 ≡ length new → length old ≤ k → IsTorn spans n k
