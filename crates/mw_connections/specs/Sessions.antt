-- Defines what it is to serve a connection by one session.
-- Used by: mw_workers, peer.rt. A change here changes what `Connection::serve` and a worker promise.
use Rattle.std.specs.Prelude.{ℕ, ◌≡◌, List, Option}
use Rattle.std.specs.Io.KnownBytes.{IsAtEnd}
use Rattle.mw_session.specs.declared.session.Ended.{Ended}
use Rattle.mw_session.specs.declared.session.Ended.TheVariants.{PeerEnd}
use Rattle.mw_session.specs.KnownStreams.{Agrees}
use Rattle.mw_session.specs.StreamRecords.{ReadRecord, WriteRecord}
use Rattle.mw_session.specs.Talk.{Call}
use Rattle.mw_session.specs.WholeSessions.{Holds}

-- One session held over a connection, which ended so. Its record says what was read and written. Where it is known what the
-- client had left to send and what it was sent, the connection lost what was read and gained what was written; if the client
-- sends no more, nothing is left.
pub record IsSessionOf (left new_left sent new_sent : Option (List ℕ)) (reads new_reads : ReadRecord) (writes new_writes : WriteRecord) (Asked : List Call → Type 0) (ended : Ended) : Type 0 where
  pub holds : Holds reads new_reads writes new_writes Asked ended
  pub tied : Agrees left new_left sent new_sent reads new_reads writes new_writes
  pub at_end : ended ≡ PeerEnd → IsAtEnd new_left
