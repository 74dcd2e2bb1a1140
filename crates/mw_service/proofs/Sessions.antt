-- A session that a worker served is one of the worker's pass (its handle to the engine), with the same calls.
-- Used by: Worker::run, mw_programs.
use Rattle.std.specs.Prelude.{List, [], ◌∷◌}
use Rattle.std.proofs.Common.{ap}
use Rattle.mw_session.specs.declared.session.Ended.{Ended}
use Rattle.mw_session.specs.StreamRecords.{ReadRecord, WriteRecord}
use Rattle.mw_session.specs.Talk.{Call}
use Rattle.mw_session.specs.Transitions.{GoesThrough}
use Rattle.mw_session.specs.WholeSessions.{Holds}

-- a chain of steps of the whole is a chain of steps of its part
pub part_goes : {S P X : Type 0} (part : S → P) (steps : P → X → P → Type 0) (old : S) (items : List X) (new : S) → GoesThrough (λ before item after. steps (part before) item (part after)) old items new
    → GoesThrough steps (part old) items (part new)
part_goes part steps old [] new same = ap part same
part_goes part steps old (item ∷ later) new goes = (part goes.0, goes.1, part_goes part steps goes.0 later new goes.2)

-- a session whose calls are as Asked says is one whose calls are as Told says, if Asked implies Told
pub told_otherwise : (reads new_reads : ReadRecord) (writes new_writes : WriteRecord) (Asked Told : List Call → Type 0) (ended : Ended) → ((calls : List Call) → Asked calls → Told calls)
    → Holds reads new_reads writes new_writes Asked ended → Holds reads new_reads writes new_writes Told ended
told_otherwise reads new_reads writes new_writes Asked Told ended tell holds = record {
  read = holds.read;
  seen = holds.seen;
  unseen = holds.unseen;
  heard = holds.heard;
  answers = holds.answers;
  calls = holds.calls;
  text = holds.text;
  is_read = holds.is_read;
  are_lines = holds.are_lines;
  runs_out = holds.runs_out;
  is_heard = holds.is_heard;
  is_asked = tell holds.calls holds.is_asked;
  is_written = holds.is_written;
  ends = holds.ends;
}
