-- Defines a disk in memory for contracts: its facts, which follow from the calls that it remembers, and how each call ends.
-- Used by: mw_world_file, mw_simulator, mw_engine_tests, edits.rt, event.rt, laws.rt, memory.rt, memory_file.rt, spans.rt. A
-- change here changes MemDisk, and no real disk.
use Rattle.std.specs.Prelude.{◌⊎◌, ◌==◌, ◌&&◌, nat_lt, nat_le, Some, None, ◌≡◌, ◌<◌, ℕ, ◌+◌, ◌-◌, Bool, true, false, List, [], ◌∷◌, ◌++◌, length, take, min, replicate, if◌then◌else◌, Option}
use Rattle.std.specs.List.{flat_map, list_any}
use Rattle.mw_disk.specs.DeviceCalls.{DeviceCall, ReadAt, WriteAt, Sync, Length}
use Rattle.mw_disk.specs.Facts.{Facts, Torn, patched, most_counted}
use Rattle.mw_memory_disk.specs.declared.event.Event.{Event}
use Rattle.mw_memory_disk.specs.declared.event.Call.{Call}
use Rattle.mw_memory_disk.specs.declared.event.Call.TheVariants.{Quiet, Wrote, Tore, Synced}
use Rattle.mw_memory_disk.specs.declared.event.Turn.{Turn}
use Rattle.mw_memory_disk.specs.declared.event.Turn.TheVariants.{Goes, Fails, Stopped}

-- the bytes that a read gives, and those that a crash may leave
pub record State : Type 1 where
  pub bytes : List ℕ
  pub left : List ℕ → Type 0

-- a read gives these bytes, and a crash leaves nothing else
abbrev pub only : List ℕ → State
only bytes = record { bytes = bytes; left = λ c. c ≡ bytes }

-- a crash may leave what it might have left, with a write of n bytes cut short
abbrev pub cut_short : ℕ → ℕ → (List ℕ → Type 0) → List ℕ → Type 0
cut_short at n left c = (d : List ℕ) × left d × Torn at n d c

-- the bytes, with zeros after them up to an offset
abbrev pub padded : List ℕ → ℕ → List ℕ
padded bytes at = bytes ++ replicate (at - length bytes) 0

-- the state after one call
abbrev pub after : State → Call → State
after s (Quiet well) = s
after s (Wrote at block) = record { bytes = patched (padded s.bytes at) at block; left = cut_short at (length block) s.left }
after s (Tore at len) = record { bytes = s.bytes; left = cut_short at len s.left }
after s Synced = only s.bytes

-- the state after these calls
abbrev pub run : State → List Event → State
run s [] = s
run s (e ∷ es) = run (after s e.call) es

-- the call went well
abbrev pub went_well : Call → Bool
went_well (Quiet well) = well
went_well (Wrote at block) = true
went_well (Tore at len) = false
went_well Synced = true

-- how the calls of this event ended: those before it that failed without a trace, and the call itself
abbrev pub outcomes_of : Event → List Bool
outcomes_of e = replicate e.missed false ++ went_well e.call ∷ []

-- A disk in memory, as contracts see it.
pub record Memory : Type 0 where
  -- the bytes with which it was made
  pub first : List ℕ
  -- the calls that it remembers, the oldest first
  pub log : List Event
  -- how many calls have failed without a trace since the last of them
  pub missed : ℕ
  -- how many calls have failed, and how many of these because memory was out
  pub faults : ℕ
  pub refused : ℕ
  -- how many calls were made
  pub calls : ℕ
  -- the numbers of the calls that are to fail, and how many calls are left before every call fails
  pub script : List ℕ
  pub stop : Option ℕ

-- the disk has stopped when call k of the calls to come is made
abbrev pub stops_by : Option ℕ → ℕ → Bool
stops_by None k = false
stops_by (Some left) k = nat_le left k

-- the script names call k of the calls to come
abbrev pub names : Memory → ℕ → Bool
names m k = nat_lt (m.calls + k) most_counted && list_any (λ n. n == m.calls + k + 1) m.script

-- what is known of call k of the calls to come; the next one is number 0
abbrev pub plan_of : Memory → ℕ → Option Bool
plan_of m k = if stops_by m.stop k then Some false else (if names m k then Some false else Some true)

-- the state at the moment at which so many calls were remembered
abbrev pub state_at : Memory → ℕ → State
state_at m k = run (only m.first) (take k m.log)

-- the bytes that a read gives after these calls
abbrev pub bytes_of : List ℕ → List Event → List ℕ
bytes_of first log = (run (only first) log).bytes

-- the facts of a disk in memory: it is honest, and its moment is the number of calls that it remembers
abbrev pub memory_facts : Memory → Facts
memory_facts m = record {
  reads = bytes_of m.first m.log;
  moment = length m.log;
  image = λ k c. (state_at m k).left c;
  honest = true;
  outcomes = flat_map outcomes_of m.log ++ replicate m.missed false;
  faults = m.faults;
  refused = m.refused;
  plan = plan_of m;
}

-- no call is left before the stop
abbrev pub is_stopped : Option ℕ → Bool
is_stopped None = false
is_stopped (Some left) = left == 0

-- one call less is left before the stop
abbrev pub one_less : Option ℕ → Option ℕ
one_less None = None
one_less (Some left) = Some (left - 1)

-- the script names the next call
abbrev pub is_named : Memory → Bool
is_named m = nat_lt m.calls most_counted && list_any (λ n. n == m.calls + 1) m.script

-- how the next call will end
abbrev pub next_turn : Memory → Turn
next_turn m = if is_stopped m.stop then Stopped else (if is_named m then Fails else Goes)

-- the disk after one more call was begun
abbrev pub begun : Memory → Memory
begun m = record m { calls = min (m.calls + 1) most_counted; stop = one_less m.stop }

-- the disk after it remembered a call
abbrev pub logged : Memory → Call → Memory
logged m call = record m {
  log = m.log ++ record { missed = m.missed; call = call } ∷ [];
  missed = 0;
  faults = if went_well call then m.faults else min (m.faults + 1) most_counted;
}

-- the disk after a call failed without a trace
abbrev pub missed_once : Memory → Memory
missed_once m = record m { missed = min (m.missed + 1) most_counted; faults = min (m.faults + 1) most_counted }

-- the same, if the call failed because memory was out
abbrev pub refused_once : Memory → Memory
refused_once m = record (missed_once m) { refused = min (m.refused + 1) most_counted }

-- How a write that failed ends, by its turn. Stopped: without a trace. Fails: the disk remembers it, or memory was out. Goes: memory
-- was out.
abbrev pub FailsAs : Call → Turn → Memory → Memory → Type 0
FailsAs call Stopped old new = new ≡ missed_once old
FailsAs call Fails old new = (new ≡ logged old call) ⊎ (new ≡ refused_once old)
FailsAs call Goes old new = new ≡ refused_once old

-- a call with this turn goes well
abbrev pub goes_well : Turn → Bool
goes_well Goes = true
goes_well Fails = false
goes_well Stopped = false

-- The disk after a call with this turn that was begun, and was not refused memory. Goes: it remembers the call as one that went
-- well. Fails: as one that failed. Stopped: the call failed without a trace.
abbrev pub ended : Turn → Call → Call → Memory → Memory
ended Goes well failed m = logged m well
ended Fails well failed m = logged m failed
ended Stopped well failed m = missed_once m

-- how a call ends that is not refused memory: its turn alone says whether it goes well, and which disk it leaves
pub record Ends (ok : Bool) (turn : Turn) (well failed : Call) (old new : Memory) : Type 0 where
  pub outcome : ok ≡ goes_well turn
  pub leaves : new ≡ ended turn well failed (begun old)

-- a call was refused memory, before the disk had stopped
pub record IsRefused (ok : Bool) (turn : Turn) (old new : Memory) : Type 0 where
  pub outcome : ok ≡ false
  pub runs : turn ≡ Stopped → ⊥
  pub leaves : new ≡ refused_once (begun old)

-- the turn of a call that can go well only if this holds
abbrev pub only_if : Bool → Turn → Turn
only_if true turn = turn
only_if false Goes = Fails
only_if false Fails = Fails
only_if false Stopped = Stopped

-- how a read will end: past the end it fails
abbrev pub read_turn : Memory → ℕ → ℕ → Turn
read_turn m at len = only_if (nat_le (at + len) (length (bytes_of m.first m.log))) (next_turn m)

-- the script with the k-th call from now added, if its number can be counted
abbrev pub with_name : Memory → ℕ → List ℕ
with_name m k = if nat_le (m.calls + k) most_counted then m.script ++ (m.calls + k) ∷ [] else m.script

-- how many calls are left if the disk stops after k more calls at the latest
abbrev pub sooner : Option ℕ → ℕ → ℕ
sooner None k = k
sooner (Some left) k = min left k

-- what this script tells of call k of a new disk
abbrev pub scripted : List ℕ → ℕ → Option Bool
scripted script k = if list_any (λ n. n == k + 1) script && nat_lt k most_counted then Some false else Some true

-- what is known of call j of the calls to come after the k-th is made to fail, if its number can be counted
abbrev pub with_fault : Memory → ℕ → ℕ → Option Bool
with_fault m k j = if (j + 1 == k) && nat_le (m.calls + k) most_counted then Some false else plan_of m j

-- what is known of call j of the calls to come after all after the next k are made to fail
abbrev pub with_stop : Memory → ℕ → ℕ → Option Bool
with_stop m k j = if nat_le k j then Some false else plan_of m j

-- How each call on a disk in memory ends. Only a write takes memory: it ends as its turn says, or is refused memory.
abbrev pub memory_made : DeviceCall → Bool → Memory → Memory → Type 0
memory_made (ReadAt at len) ok old new = Ends ok (read_turn old at len) (Quiet true) (Quiet false) old new
memory_made (WriteAt at bytes) ok old new =
    Ends ok (next_turn old) (Wrote at bytes) (Tore at (length bytes)) old new ⊎ IsRefused ok (next_turn old) old new
memory_made Sync ok old new = Ends ok (next_turn old) Synced (Quiet false) old new
memory_made Length ok old new = Ends ok (next_turn old) (Quiet true) (Quiet false) old new

-- Calls led from one disk in memory to another, and none of them was refused memory. The count of those that were has not risen. It is
-- below its last value, so a refusal would have raised it.
pub record NoneRefused (old new : Memory) : Type 0 where
  pub room : old.refused < most_counted
  pub none : new.refused ≡ old.refused
