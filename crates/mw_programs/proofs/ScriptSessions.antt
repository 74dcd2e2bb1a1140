-- A worker's session on a stream of which nothing was recorded before, and which gives what a script does, is one of this script. The
-- console printed what the stream's writer took.
-- Used by: Printed::run.
use Rattle.std.specs.Prelude.{◌≡◌, ℕ, ◌++◌, List, Option}
use Rattle.std.proofs.Common.{ap, subst, sym, ◌∙◌}
use Rattle.std.specs.Io.KnownBytes.{Appends, Consumes, IsAtEnd}
use Rattle.mw_session.specs.StreamRecords.{ReadRecord, WriteRecord, no_reads, no_writes}
use Rattle.mw_session.specs.declared.session.Ended.{Ended}
use Rattle.mw_session.specs.declared.session.Ended.TheVariants.{PeerEnd}
use Rattle.mw_engine.specs.Brand.{Identity}
use Rattle.mw_engine.specs.Passes.{IsPassOf}
use Rattle.mw_service.specs.EngineAnswers.{Pass}
use Rattle.mw_service.specs.Served.{IsSession}
use Rattle.mw_programs.specs.ScriptSession.{IsOfScript}

pub of_session : (script given left printed now_printed : Option (List ℕ)) (identity : Identity) (old new : Pass) (ended : Ended) (reads new_reads : ReadRecord) (writes new_writes : WriteRecord) (read written : List ℕ) → given ≡ script → reads ≡ no_reads → writes ≡ no_writes
    → IsPassOf identity old → IsSession identity reads new_reads writes new_writes old new ended → new_reads.bytes ≡ reads.bytes ++ read → Consumes given left read → (ended ≡ PeerEnd → IsAtEnd left)
    → new_writes.bytes ≡ writes.bytes ++ written → Appends printed now_printed written → IsOfScript script printed now_printed identity old new ended
of_session script given left printed now_printed identity old new ended reads new_reads writes new_writes read written same no_read no_write own session is_read lost at_end is_written gained = record {
  own = own;
  reads = new_reads;
  writes = new_writes;
  session = subst (λ (before : ReadRecord). IsSession identity before new_reads no_writes new_writes old new ended) no_read
      (subst (λ (before : WriteRecord). IsSession identity reads new_reads before new_writes old new ended) no_write session);
  left = left;
  is_read = subst (λ (bytes : List ℕ). Consumes script left bytes) (sym (is_read ∙ ap (λ (before : ReadRecord). before.bytes ++ read) no_read))
      (subst (λ (one : Option (List ℕ)). Consumes one left read) same lost);
  at_end = at_end;
  is_printed = subst (λ (bytes : List ℕ). Appends printed now_printed bytes) (sym (is_written ∙ ap (λ (before : WriteRecord). before.bytes ++ written) no_write)) gained;
}
