-- Defines a session between two reads: all complete lines that have come were answered.
-- Used by: proofs of this crate. It is the loop invariant of Session::run, and may change with that loop.
use Rattle.std.specs.Prelude.{◌≡◌, ℕ, ◌++◌, List, []}
use Rattle.mw_frame.specs.declared.lines.Line.{Line}
use Rattle.mw_frame.specs.Lines.{lines}
use Rattle.mw_frame.specs.Stream.{Stream, fed, lines_of}
use Rattle.mw_session.specs.declared.steps.Bound.{Bound}
use Rattle.mw_session.specs.declared.steps.Bound.TheVariants.{Nobody}
use Rattle.mw_session.specs.StreamRecords.{ReadRecord, WriteRecord, with_read}
use Rattle.mw_session.specs.Talk.{Call}
use Rattle.mw_session.specs.SessionParts.{On, Talked}

-- All complete lines that have come were answered, and no other call was made.
pub record UnderWay (reads new_reads : ReadRecord) (writes new_writes : WriteRecord) (Asked : List Call → Type 0) (feed : Stream) (bound : Bound) (written : ℕ) : Type 0 where
  pub read : List ℕ
  pub is_read : new_reads ≡ with_read reads read
  pub seen : List Line
  pub gives : (more : List ℕ) → lines (read ++ more) ≡ seen ++ lines_of (fed feed more)
  pub talked : Talked writes new_writes Asked 0 written seen Nobody (On bound) []
  pub waits : lines_of feed ≡ []
