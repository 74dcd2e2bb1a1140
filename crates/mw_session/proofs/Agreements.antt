-- A stream's record agrees with what the stream's contract tells: after no call, after one call, and after two parts in turn.
-- Used by: Duplex, RecordedStream, write_counted, Session::answer_all, Session::run.
use Rattle.std.proofs.Common.{◌≡◌, ℕ, List, [], ◌++◌, Option, Some, None, refl, sym, ap, ◌∙◌, append_assoc, append-nil}
use Rattle.std.specs.Io.KnownBytes.{Appends, Consumes, Keeps}
use Rattle.mw_session.specs.StreamRecords.{ReadRecord, WriteRecord}
use Rattle.mw_session.specs.KnownStreams.{Agrees, IsTied, inner_of, reads_of, writes_of}
use Rattle.mw_session.specs.declared.recorded_stream.RecordedStream.{RecordedStream}

pub keeps_same : (a : Option (List ℕ)) → Keeps a a
keeps_same None = tt
keeps_same (Some xs) = refl

keeps_appends : (a b : Option (List ℕ)) → Keeps a b → Appends a b []
keeps_appends None b h = tt
keeps_appends (Some xs) None h = absurd h
keeps_appends (Some xs) (Some ys) h = h ∙ sym (append-nil xs)

keeps_consumes : (a b : Option (List ℕ)) → Keeps a b → Consumes a b []
keeps_consumes None b h = tt
keeps_consumes (Some xs) None h = absurd h
keeps_consumes (Some xs) (Some ys) h = sym h

appends_then : (a b c : Option (List ℕ)) (s t : List ℕ) → Appends a b s → Appends b c t → Appends a c (s ++ t)
appends_then None b c s t h k = tt
appends_then (Some xs) None c s t h k = absurd h
appends_then (Some xs) (Some ys) None s t h k = absurd k
appends_then (Some xs) (Some ys) (Some zs) s t h k = k ∙ ap (λ l. l ++ t) h ∙ append_assoc xs s t

consumes_then : (a b c : Option (List ℕ)) (s t : List ℕ) → Consumes a b s → Consumes b c t → Consumes a c (s ++ t)
consumes_then None b c s t h k = tt
consumes_then (Some xs) None c s t h k = absurd h
consumes_then (Some xs) (Some ys) None s t h k = absurd k
consumes_then (Some xs) (Some ys) (Some zs) s t h k = h ∙ ap (λ l. s ++ l) k ∙ sym (append_assoc s t zs)

-- no call was made
pub agree_nothing : (left held : Option (List ℕ)) (reads : ReadRecord) (writes : WriteRecord) → Agrees left left held held reads reads writes writes
agree_nothing left held reads writes = record {
  read = [];
  written = [];
  is_read = sym (append-nil reads.bytes);
  is_written = sym (append-nil writes.bytes);
  lost = keeps_consumes left left (keeps_same left);
  gained = keeps_appends held held (keeps_same held);
}

-- one call read these bytes, and none were written
pub agree_read : (left new_left held new_held : Option (List ℕ)) (reads new_reads : ReadRecord) (writes new_writes : WriteRecord) (bytes : List ℕ) → Consumes left new_left bytes → Keeps held new_held
    → new_reads.bytes ≡ reads.bytes ++ bytes → new_writes.bytes ≡ writes.bytes → Agrees left new_left held new_held reads new_reads writes new_writes
agree_read left new_left held new_held reads new_reads writes new_writes bytes lost kept is_read is_written = record {
  read = bytes;
  written = [];
  is_read = is_read;
  is_written = is_written ∙ sym (append-nil writes.bytes);
  lost = lost;
  gained = keeps_appends held new_held kept;
}

-- one call wrote these bytes, and none were read
pub agree_written : (left new_left held new_held : Option (List ℕ)) (reads new_reads : ReadRecord) (writes new_writes : WriteRecord) (bytes : List ℕ) → Keeps left new_left → Appends held new_held bytes
    → new_reads.bytes ≡ reads.bytes → new_writes.bytes ≡ writes.bytes ++ bytes → Agrees left new_left held new_held reads new_reads writes new_writes
agree_written left new_left held new_held reads new_reads writes new_writes bytes kept gained is_read is_written = record {
  read = [];
  written = bytes;
  is_read = is_read ∙ sym (append-nil reads.bytes);
  is_written = is_written;
  lost = keeps_consumes left new_left kept;
  gained = gained;
}

-- one call read and wrote nothing
pub agree_kept : (left new_left held new_held : Option (List ℕ)) (reads new_reads : ReadRecord) (writes new_writes : WriteRecord) → Keeps left new_left → Keeps held new_held
    → new_reads.bytes ≡ reads.bytes → new_writes.bytes ≡ writes.bytes → Agrees left new_left held new_held reads new_reads writes new_writes
agree_kept left new_left held new_held reads new_reads writes new_writes kept held_kept is_read is_written =
    agree_read left new_left held new_held reads new_reads writes new_writes [] (keeps_consumes left new_left kept) held_kept (is_read ∙ sym (append-nil reads.bytes)) is_written

-- two parts in turn
pub agree_then : (l1 l2 l3 h1 h2 h3 : Option (List ℕ)) (r1 r2 r3 : ReadRecord) (w1 w2 w3 : WriteRecord) → Agrees l1 l2 h1 h2 r1 r2 w1 w2 → Agrees l2 l3 h2 h3 r2 r3 w2 w3 → Agrees l1 l3 h1 h3 r1 r3 w1 w3
agree_then l1 l2 l3 h1 h2 h3 r1 r2 r3 w1 w2 w3 a b = record {
  read = a.read ++ b.read;
  written = a.written ++ b.written;
  is_read = b.is_read ∙ ap (λ l. l ++ b.read) a.is_read ∙ append_assoc r1.bytes a.read b.read;
  is_written = b.is_written ∙ ap (λ l. l ++ b.written) a.is_written ∙ append_assoc w1.bytes a.written b.written;
  lost = consumes_then l1 l2 l3 a.read b.read a.lost b.lost;
  gained = appends_then h1 h2 h3 a.written b.written a.gained b.gained;
}

pub tied_then : {T : Type 0} (remaining contents : T → Option (List ℕ)) (old middle new : RecordedStream T) → IsTied remaining contents old middle → IsTied remaining contents middle new
    → IsTied remaining contents old new
tied_then remaining contents old middle new a b =
    agree_then (remaining (inner_of old)) (remaining (inner_of middle)) (remaining (inner_of new)) (contents (inner_of old)) (contents (inner_of middle)) (contents (inner_of new))
    (reads_of old) (reads_of middle) (reads_of new) (writes_of old) (writes_of middle) (writes_of new) a b
