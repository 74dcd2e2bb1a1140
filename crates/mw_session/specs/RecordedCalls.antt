-- Defines that calls of a stream led from one of its states to another, and that its record has grown by just their outcomes.
-- Used by: mw_service, session.rt, writer.rt. A change here changes what the record says of the stream.
use Rattle.std.specs.Prelude.{◌≡◌, List, [], ◌∷◌}
use Rattle.mw_session.specs.StreamRecords.{ReadRecord, WriteRecord, reads_after, writes_after}
use Rattle.mw_session.specs.PeerCalls.{PeerCall, Reads, Writes, EndsWriting}
use Rattle.mw_session.specs.Transitions.{GoesThrough}
use Rattle.mw_session.specs.KnownStreams.{inner_of, reads_of, writes_of}
use Rattle.mw_session.specs.declared.recorded_stream.RecordedStream.{RecordedStream}

-- the record of reads after these calls
abbrev pub reads_after_all : ReadRecord → List PeerCall → ReadRecord
reads_after_all old [] = old
reads_after_all old (Reads piece outcome ∷ later) = reads_after_all (reads_after old outcome piece) later
reads_after_all old (Writes text outcome ∷ later) = reads_after_all old later
reads_after_all old (EndsWriting outcome ∷ later) = reads_after_all old later

-- the record of writes after these calls
abbrev pub writes_after_all : WriteRecord → List PeerCall → WriteRecord
writes_after_all old [] = old
writes_after_all old (Reads piece outcome ∷ later) = writes_after_all old later
writes_after_all old (Writes text outcome ∷ later) = writes_after_all (writes_after old outcome text) later
writes_after_all old (EndsWriting outcome ∷ later) = writes_after_all old later

-- Some calls of the stream itself, in order, led from its old state to the new one, each as the stream tells of its calls
-- (`called`). The record has grown by just their outcomes.
pub record HasMade {T : Type 0} (called : T → PeerCall → T → Type 0) (old new : RecordedStream T) : Type 0 where
  pub calls : List PeerCall
  pub made : GoesThrough called (inner_of old) calls (inner_of new)
  pub read : reads_of new ≡ reads_after_all (reads_of old) calls
  pub written : writes_of new ≡ writes_after_all (writes_of old) calls
