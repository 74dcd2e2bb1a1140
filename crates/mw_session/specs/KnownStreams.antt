-- Defines the parts of a recorded stream, and how its record agrees with what the stream's own contract tells of its bytes.
-- Used by: mw_http, mw_connections, mw_service, mw_serving_tests, recorded_stream.rt, session.rt, writer.rt. A change here
-- changes what the record says of the stream.
use Rattle.std.specs.Prelude.{◌≡◌, ℕ, ◌++◌, List, Option}
use Rattle.std.specs.Io.KnownBytes.{Appends, Consumes}
use Rattle.mw_session.specs.StreamRecords.{ReadRecord, WriteRecord}
use Rattle.mw_session.specs.declared.recorded_stream.RecordedStream.{RecordedStream}

-- what was read from the stream
abbrev pub reads_of : {T : Type 0} → RecordedStream T → ReadRecord
reads_of stream = stream.transcript.reads

-- what was written to the stream
abbrev pub writes_of : {T : Type 0} → RecordedStream T → WriteRecord
writes_of stream = stream.transcript.writes

-- the stream itself
abbrev pub inner_of : {T : Type 0} → RecordedStream T → T
inner_of stream = stream.inner

-- Where it is known what a stream will give and what it has taken: it lost what was read meanwhile, and gained what was written.
-- It had `left` to give and had taken `held` before, and has `new_left` and `new_held` now.
pub record Agrees (left new_left held new_held : Option (List ℕ)) (reads new_reads : ReadRecord) (writes new_writes : WriteRecord) : Type 0 where
  pub read : List ℕ
  pub written : List ℕ
  pub is_read : new_reads.bytes ≡ reads.bytes ++ read
  pub is_written : new_writes.bytes ≡ writes.bytes ++ written
  pub lost : Consumes left new_left read
  pub gained : Appends held new_held written

-- The record of a stream agrees so with what its contract tells, from one state of the stream to another.
abbrev pub IsTied : {T : Type 0} → (T → Option (List ℕ)) → (T → Option (List ℕ)) → RecordedStream T → RecordedStream T → Type 0
IsTied remaining contents old new =
    Agrees (remaining (inner_of old)) (remaining (inner_of new)) (contents (inner_of old)) (contents (inner_of new))
    (reads_of old) (reads_of new) (writes_of old) (writes_of new)
