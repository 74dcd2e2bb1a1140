-- Defines what a whole session has read, written and asked for, by how it ended.
-- Used by: mw_connections, mw_service, session.rt. It is the contract of Session::run.
use Rattle.std.specs.Prelude.{◌≡◌, ℕ, ◌-◌, ◌^◌, ◌<◌, ◌++◌, min, List, [], ◌∷◌, length}
use Rattle.mw_frame.specs.declared.lines.Line.{Line}
use Rattle.mw_frame.specs.Lines.{lines}
use Rattle.mw_session.specs.declared.steps.Bound.TheVariants.{Nobody}
use Rattle.mw_session.specs.declared.session.Ended.{Ended}
use Rattle.mw_session.specs.declared.session.Ended.TheVariants.{Quit, PeerEnd, TooLong, ReadFault, WriteFault, Memory}
use Rattle.mw_session.specs.Talk.{Answer, Call, Cuts, End, Heard, Listens, Quits, Script, after, talk}
use Rattle.mw_session.specs.Lines.{HearsAll}
use Rattle.mw_session.specs.StreamRecords.{ReadRecord, WriteRecord, with_end, with_read, with_read_fault, with_write_fault, with_written}

-- The talk of what was heard is this text with these calls, and no line lacked its answer.
abbrev pub IsTalk : List Heard → List Answer → List ℕ → List Call → Type 0
IsTalk heard answers text calls = talk Nobody heard answers ≡ record { text = text; calls = calls; end = Listens }

-- The talk ends so with what was heard, whatever lines and answers would follow.
abbrev pub EndsTalk : List Heard → List Answer → List ℕ → List Call → End → Type 0
EndsTalk heard answers text calls end = (unheard : List Heard) (unused : List Answer)
    → talk Nobody (heard ++ unheard) (answers ++ unused) ≡ record { text = text; calls = calls; end = end }

-- The text is what the talk says to what was heard, without a last part that wasn't sent; the calls are those of the
-- talk. So every talk that goes on from what was heard begins with it. The replies to all lines but the last were sent
-- whole, and a part of the last line's reply.
pub record BeginsTalk (heard : List Heard) (answers : List Answer) (text : List ℕ) (calls : List Call) : Type 0 where
  pub unsent : List ℕ
  pub some : 0 < length unsent
  pub said : (talk Nobody heard answers).text ≡ text ++ unsent
  pub made : (talk Nobody heard answers).calls ≡ calls
  pub begins : (unheard : List Heard) (unused : List Answer)
      → (rest : Script) × (talk Nobody (heard ++ unheard) (answers ++ unused) ≡ after (text ++ unsent) calls rest)
  pub earlier : List Heard
  pub last : Heard
  pub heard_are : heard ≡ earlier ++ last ∷ []
  pub part : List ℕ
  pub replied : text ≡ (talk Nobody earlier answers).text ++ part

-- What was written, by how the session ended. If the peer sends no more or the reader failed, every line that was read
-- was answered. If the session ended at QUIT or at a line too long, or memory was out, every line that was looked at
-- was answered. If the writer failed, the text begins the talk.
abbrev pub EndsSo : List Line → List Heard → List Answer → List ℕ → List Call → Ended → Type 0
EndsSo unseen heard answers text calls PeerEnd = (unseen ≡ []) × IsTalk heard answers text calls
EndsSo unseen heard answers text calls ReadFault = (unseen ≡ []) × IsTalk heard answers text calls
EndsSo unseen heard answers text calls Quit = EndsTalk heard answers text calls Quits
EndsSo unseen heard answers text calls TooLong = EndsTalk heard answers text calls Cuts
EndsSo unseen heard answers text calls Memory = IsTalk heard answers text calls
EndsSo unseen heard answers text calls (WriteFault told) = (told ≡ min (length text) (2 ^ 64 - 1)) × BeginsTalk heard answers text calls

-- If memory was out, some last part of what was read was not looked at: at least one byte of it, or nothing was read at all. The
-- lines that were looked at are those that were complete before this part.
abbrev pub RunsOut : List ℕ → List Line → Ended → Type 0
RunsOut read seen Memory = (before : List ℕ) × (last : List ℕ) × (read ≡ before ++ last) × (0 < length read → 0 < length last) × (lines before ≡ seen)
RunsOut read seen PeerEnd = Unit {0}
RunsOut read seen ReadFault = Unit {0}
RunsOut read seen Quit = Unit {0}
RunsOut read seen TooLong = Unit {0}
RunsOut read seen (WriteFault told) = Unit {0}

-- The record of reads when a session has ended so: one read found the end exactly at PeerEnd, and one failed exactly at ReadFault.
abbrev pub reads_at_end : Ended → ReadRecord → ReadRecord
reads_at_end PeerEnd reads = with_end reads
reads_at_end ReadFault reads = with_read_fault reads
reads_at_end Quit reads = reads
reads_at_end TooLong reads = reads
reads_at_end Memory reads = reads
reads_at_end (WriteFault told) reads = reads

-- The record of writes when a session has ended so: one write failed or took no byte exactly at WriteFault.
abbrev pub writes_at_end : Ended → WriteRecord → WriteRecord
writes_at_end (WriteFault told) writes = with_write_fault writes
writes_at_end PeerEnd writes = writes
writes_at_end ReadFault writes = writes
writes_at_end Quit writes = writes
writes_at_end TooLong writes = writes
writes_at_end Memory writes = writes

-- What holds of a session. Its stream had these records of reads and writes before it, and the new ones after it. `Asked` says
-- that these calls led the service from its state before the session to the one after it.
pub record Holds (reads new_reads : ReadRecord) (writes new_writes : WriteRecord) (Asked : List Call → Type 0) (ended : Ended) : Type 0 where
  -- what was read, the lines of it that were looked at, the other lines, and what was heard
  pub read : List ℕ
  pub seen : List Line
  pub unseen : List Line
  pub heard : List Heard
  -- what the service answered, and its calls, both in order
  pub answers : List Answer
  pub calls : List Call
  -- what was written
  pub text : List ℕ
  pub is_read : new_reads ≡ reads_at_end ended (with_read reads read)
  pub are_lines : lines read ≡ seen ++ unseen
  pub runs_out : RunsOut read seen ended
  pub is_heard : HearsAll seen heard
  pub is_asked : Asked calls
  pub is_written : new_writes ≡ writes_at_end ended (with_written writes text)
  pub ends : EndsSo unseen heard answers text calls ended
