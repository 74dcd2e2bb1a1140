-- Defines what is recorded of a peer's stream: the bytes that were read and written, and how often a call ended otherwise.
-- Used by: many crates from mw_http on, transcript.rt, recorded_stream.rt. A change here changes what a session promises of its
-- stream.
use Rattle.std.specs.Prelude.{ℕ, ◌+◌, ◌==◌, ◌++◌, List, [], take, Result, Ok, Err, if◌then◌else◌}
use Rattle.mw_session.specs.declared.stream_call.StreamCall.{StreamCall}
use Rattle.mw_session.specs.declared.stream_call.StreamCall.TheVariants as call

-- What reads of a stream gave: all their bytes in order, how many reads found the stream at its end, and how many failed.
pub record ReadRecord : Type 0 where
  pub bytes : List ℕ
  pub ends : ℕ
  pub faults : ℕ

-- What writes to a stream took: all their bytes in order, and how many writes failed or took no byte.
pub record WriteRecord : Type 0 where
  pub bytes : List ℕ
  pub faults : ℕ

-- before the first read
abbrev pub no_reads : ReadRecord
no_reads = record { bytes = []; ends = 0; faults = 0 }

-- before the first write
abbrev pub no_writes : WriteRecord
no_writes = record { bytes = []; faults = 0 }

-- these bytes were read too
abbrev pub with_read : ReadRecord → List ℕ → ReadRecord
with_read old bytes = record { bytes = old.bytes ++ bytes; ends = old.ends; faults = old.faults }

-- one more read found the end
abbrev pub with_end : ReadRecord → ReadRecord
with_end old = record { bytes = old.bytes; ends = old.ends + 1; faults = old.faults }

-- one more read failed
abbrev pub with_read_fault : ReadRecord → ReadRecord
with_read_fault old = record { bytes = old.bytes; ends = old.ends; faults = old.faults + 1 }

-- these bytes were written too
abbrev pub with_written : WriteRecord → List ℕ → WriteRecord
with_written old bytes = record { bytes = old.bytes ++ bytes; faults = old.faults }

-- one more write failed or took no byte
abbrev pub with_write_fault : WriteRecord → WriteRecord
with_write_fault old = record { bytes = old.bytes; faults = old.faults + 1 }

-- The record after a read that answered so, into a piece with room. A read that gives no byte found the end.
abbrev pub reads_after : {E : Type 0} → ReadRecord → Result ℕ E → List ℕ → ReadRecord
reads_after old (Ok count) piece = if count == 0 then with_end old else with_read old (take count piece)
reads_after old (Err fault) piece = with_read_fault old

-- The record after a write of a text that answered so. The text isn't empty.
abbrev pub writes_after : {E : Type 0} → WriteRecord → Result ℕ E → List ℕ → WriteRecord
writes_after old (Ok count) text = if count == 0 then with_write_fault old else with_written old (take count text)
writes_after old (Err fault) text = with_write_fault old

-- The record of reads after one more call of a read or a write.
abbrev pub reads_with : StreamCall → ReadRecord → ReadRecord
reads_with (call.Read bytes) old = with_read old bytes
reads_with call.AtEnd old = with_end old
reads_with call.ReadFault old = with_read_fault old
reads_with (call.Written bytes) old = old
reads_with call.WriteFault old = old

-- The record of writes after it.
abbrev pub writes_with : StreamCall → WriteRecord → WriteRecord
writes_with (call.Read bytes) old = old
writes_with call.AtEnd old = old
writes_with call.ReadFault old = old
writes_with (call.Written bytes) old = with_written old bytes
writes_with call.WriteFault old = with_write_fault old
