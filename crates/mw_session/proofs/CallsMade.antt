-- The record of a stream tells of its calls: after no call, after one call, and after two parts in turn.
-- Used by: write_counted, Session::answer_all, Session::run.
use Rattle.std.proofs.Common.{◌≡◌, ℕ, List, [], ◌∷◌, ◌++◌, Result, refl, ap, subst, ◌∙◌}
use Rattle.std.specs.declared.io.Error.{Error}
use Rattle.mw_session.specs.StreamRecords.{ReadRecord, WriteRecord, reads_after, writes_after}
use Rattle.mw_session.specs.PeerCalls.{PeerCall, Reads, Writes, EndsWriting}
use Rattle.mw_session.specs.Transitions.{GoesThrough}
use Rattle.mw_session.specs.KnownStreams.{inner_of, reads_of, writes_of}
use Rattle.mw_session.specs.RecordedCalls.{HasMade, reads_after_all, writes_after_all}
use Rattle.mw_session.specs.declared.recorded_stream.RecordedStream.{RecordedStream}

goes_then : {S X : Type 0} (steps : S → X → S → Type 0) (s t u : S) (xs ys : List X) → GoesThrough steps s xs t → GoesThrough steps t ys u → GoesThrough steps s (xs ++ ys) u
goes_then steps s t u [] ys h k = subst (λ state. GoesThrough steps state ys u) h k
goes_then steps s t u (x ∷ xs) ys h k = (h.0, h.1, goes_then steps h.0 t u xs ys h.2 k)

reads_then : (r : ReadRecord) (xs ys : List PeerCall) → reads_after_all (reads_after_all r xs) ys ≡ reads_after_all r (xs ++ ys)
reads_then r [] ys = refl
reads_then r (Reads piece outcome ∷ xs) ys = reads_then (reads_after r outcome piece) xs ys
reads_then r (Writes text outcome ∷ xs) ys = reads_then r xs ys
reads_then r (EndsWriting outcome ∷ xs) ys = reads_then r xs ys

writes_then : (w : WriteRecord) (xs ys : List PeerCall) → writes_after_all (writes_after_all w xs) ys ≡ writes_after_all w (xs ++ ys)
writes_then w [] ys = refl
writes_then w (Reads piece outcome ∷ xs) ys = writes_then w xs ys
writes_then w (Writes text outcome ∷ xs) ys = writes_then (writes_after w outcome text) xs ys
writes_then w (EndsWriting outcome ∷ xs) ys = writes_then w xs ys

module _ {T : Type 0} (called : T → PeerCall → T → Type 0) where
  -- no call was made
  pub made_nothing : (stream : RecordedStream T) → HasMade called stream stream
  made_nothing stream = record { calls = []; made = refl; read = refl; written = refl }

  -- one read
  pub made_read : (old new : RecordedStream T) (piece : List ℕ) (outcome : Result ℕ Error) → called (inner_of old) (Reads piece outcome) (inner_of new)
      → reads_of new ≡ reads_after (reads_of old) outcome piece → writes_of new ≡ writes_of old → HasMade called old new
  made_read old new piece outcome call is_read is_written = record { calls = Reads piece outcome ∷ []; made = (inner_of new, call, refl); read = is_read; written = is_written }

  -- one write
  pub made_write : (old new : RecordedStream T) (text : List ℕ) (outcome : Result ℕ Error) → called (inner_of old) (Writes text outcome) (inner_of new)
      → reads_of new ≡ reads_of old → writes_of new ≡ writes_after (writes_of old) outcome text → HasMade called old new
  made_write old new text outcome call is_read is_written = record { calls = Writes text outcome ∷ []; made = (inner_of new, call, refl); read = is_read; written = is_written }

  -- two parts in turn
  pub made_then : (old middle new : RecordedStream T) → HasMade called old middle → HasMade called middle new → HasMade called old new
  made_then old middle new a b = record {
    calls = a.calls ++ b.calls;
    made = goes_then called (inner_of old) (inner_of middle) (inner_of new) a.calls b.calls a.made b.made;
    read = b.read ∙ ap (λ r. reads_after_all r b.calls) a.read ∙ reads_then (reads_of old) a.calls b.calls;
    written = b.written ∙ ap (λ w. writes_after_all w b.calls) a.written ∙ writes_then (writes_of old) a.calls b.calls;
  }
