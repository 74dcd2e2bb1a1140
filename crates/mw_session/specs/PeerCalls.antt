-- Defines a call of a peer's stream with its outcome, and what a stream of a reader and a writer tells of its calls.
-- Used by: stream.rt, recorded_stream.rt, mw_connections. A new call of PeerStream needs a case here.
use Rattle.std.specs.Prelude.{◌≡◌, ℕ, List, Result, Ok}
use Rattle.std.specs.declared.io.Error.{Error}
use Rattle.mw_session.specs.declared.stream.Duplex.{Duplex}

-- A call of a stream with its outcome, which has the error itself if the call failed. A read has the bytes that its piece holds
-- afterwards.
pub data PeerCall : Type 0 where
  Reads : (piece : List ℕ) → Result ℕ Error → PeerCall
  Writes : (text : List ℕ) → Result ℕ Error → PeerCall
  EndsWriting : Result (Unit {0}) Error → PeerCall

-- A read leaves the writer as it was, and a write the reader. The end of the writing goes well, and changes neither.
abbrev pub IsCallOfDuplex : {I O : Type 0} → Duplex I O → PeerCall → Duplex I O → Type 0
IsCallOfDuplex old (Reads piece outcome) new = new.writer ≡ old.writer
IsCallOfDuplex old (Writes text outcome) new = new.reader ≡ old.reader
IsCallOfDuplex old (EndsWriting outcome) new = (outcome ≡ Ok tt) × (new ≡ old)
