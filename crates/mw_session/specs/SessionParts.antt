-- Defines a part of a session: some lines, what was written for them, and how the session goes on.
-- Used by: replies.rt, session.rt, steps.rt, writer.rt. It may change with them, as long as WholeSessions still follows.
use Rattle.std.specs.Prelude.{◌≡◌, ℕ, ◌+◌, ◌-◌, ◌^◌, ◌<◌, ◌++◌, min, List, [], ◌∷◌, length, Option, Some, None, Result, Ok, Err}
use Rattle.mw_session.specs.StreamRecords.{WriteRecord, with_write_fault, with_written}
use Rattle.mw_frame.specs.declared.lines.Line.{Line}
use Rattle.mw_frame.specs.Stream.{Stream, fed, lines_of}
use Rattle.mw_session.specs.declared.steps.Bound.{Bound}
use Rattle.mw_session.specs.declared.steps.Step.{Step}
use Rattle.mw_session.specs.declared.steps.Step.TheVariants.{Refuse, Find, BindAdmin, Ask, Report, Leave, Overrun}
use Rattle.mw_session.specs.declared.session.Ended.{Ended}
use Rattle.mw_session.specs.declared.session.Ended.TheVariants.{Quit, PeerEnd, TooLong, ReadFault, WriteFault, Memory}
use Rattle.mw_session.specs.Talk.{Answer, Call, End, Quits, Cuts, Heard, Script, after, does, ends, talk}
use Rattle.mw_session.specs.Lines.{HearsAll}
use Rattle.mw_session.specs.StepOfLine.{Judges}

-- the count with the bytes of one more text; it stops at its greatest value
abbrev pub counted : ℕ → List ℕ → ℕ
counted count bytes = min (count + length bytes) (2 ^ 64 - 1)

-- these bytes were written, and the count includes them
pub record Sent (before now : WriteRecord) (old_count new_count : ℕ) (sent : List ℕ) : Type 0 where
  pub wrote : now ≡ with_written before sent
  pub count : old_count < 2 ^ 64 → new_count ≡ counted old_count sent

-- a first part of the text was written, and this rest was not
pub record Sending (before now : WriteRecord) (old_count new_count : ℕ) (text rest : List ℕ) : Type 0 where
  pub sent : List ℕ
  pub whole : text ≡ sent ++ rest
  pub is_sent : Sent before now old_count new_count sent

-- How the write of a text ended: the text was written whole; or a first part was written, not all, and one write failed
-- or took no byte.
abbrev pub Writes : WriteRecord → WriteRecord → ℕ → ℕ → List ℕ → Result (Unit {0}) Ended → Type 0
Writes before now count new_count text (Ok _) = Sent before now count new_count text
Writes before now count new_count text (Err (WriteFault told)) =
    (middle : WriteRecord) × (now ≡ with_write_fault middle)
    × (sent : List ℕ) × (unsent : List ℕ) × (text ≡ sent ++ unsent) × (0 < length unsent) × (told ≡ new_count) × Sent before middle count new_count sent
Writes before now count new_count text (Err Quit) = ⊥
Writes before now count new_count text (Err PeerEnd) = ⊥
Writes before now count new_count text (Err TooLong) = ⊥
Writes before now count new_count text (Err ReadFault) = ⊥
Writes before now count new_count text (Err Memory) = ⊥

-- how a session goes on after a part: bound so, or not at all
pub data Next : Type 0 where
  On : Bound → Next
  Over : End → Next

-- what follows a part
abbrev pub goes : Next → (Bound → List Answer → Script) → List Answer → Script
goes (On bound) rest answers = rest bound answers
goes (Over end) rest answers = ends end

-- how a session goes on after a step that leaves it bound so
abbrev pub next_of : Step → Bound → Next
next_of Leave bound = Over Quits
next_of Overrun bound = Over Cuts
next_of (Refuse wrong) bound = On bound
next_of (Find name) bound = On bound
next_of BindAdmin bound = On bound
next_of (Ask tenant wanted) bound = On bound
next_of Report bound = On bound

-- how a step ends the session, if it does
abbrev pub end_of : Step → Option Ended
end_of Leave = Some Quit
end_of Overrun = Some TooLong
end_of (Refuse wrong) = None
end_of (Find name) = None
end_of BindAdmin = None
end_of (Ask tenant wanted) = None
end_of Report = None

-- A step gives this text, and leaves the session bound so. The service was asked what the step needs, and nothing else.
pub record Performs (Asked : List Call → Type 0) (step : Step) (old new : Bound) (text : List ℕ) : Type 0 where
  pub answers : List Answer
  pub calls : List Call
  pub asked : Asked calls
  pub does : (unused : List Answer) (rest : Bound → List Answer → Script)
      → does step old (answers ++ unused) rest ≡ after text calls (goes (next_of step new) rest unused)

-- These lines were heard in a session bound so. Their text was sent without its last part `unsent`, which may be empty.
pub record Talked (before now : WriteRecord) (Asked : List Call → Type 0) (count new_count : ℕ) (lines : List Line) (bound : Bound) (next : Next) (unsent : List ℕ) : Type 0 where
  pub heard : List Heard
  pub hears : HearsAll lines heard
  pub answers : List Answer
  pub calls : List Call
  pub asked : Asked calls
  pub sent : List ℕ
  pub written : Sent before now count new_count sent
  pub talks : (unheard : List Heard) (unused : List Answer)
      → talk bound (heard ++ unheard) (answers ++ unused) ≡ after (sent ++ unsent) calls (goes next (λ bound left. talk bound unheard left) unused)

-- The text of these lines was not sent whole. The replies to all lines but the last were, and the last line's reply was not.
pub record Breaks (before now : WriteRecord) (Asked : List Call → Type 0) (count new_count : ℕ) (lines : List Line) (bound : Bound) : Type 0 where
  pub next : Next
  pub unsent : List ℕ
  pub some : 0 < length unsent
  pub talked : Talked before now Asked count new_count lines bound next unsent
  pub earlier : List Heard
  pub last : Heard
  pub heard : talked.heard ≡ earlier ++ last ∷ []
  pub part : List ℕ
  pub replied : talked.sent ≡ (talk bound earlier talked.answers).text ++ part

-- how a part ends: the session goes on, or it has ended; if by a fault of a write, one write failed or took no byte
abbrev pub Turned : WriteRecord → WriteRecord → (List Call → Type 0) → ℕ → ℕ → List Line → Bound → Bound → Result (Unit {0}) Ended → Type 0
Turned before now Asked count new_count lines bound new (Ok _) = Talked before now Asked count new_count lines bound (On new) []
Turned before now Asked count new_count lines bound new (Err Quit) = Talked before now Asked count new_count lines bound (Over Quits) []
Turned before now Asked count new_count lines bound new (Err TooLong) = Talked before now Asked count new_count lines bound (Over Cuts) []
Turned before now Asked count new_count lines bound new (Err (WriteFault told)) =
    (told ≡ new_count) × (middle : WriteRecord) × (now ≡ with_write_fault middle) × Breaks before middle Asked count new_count lines bound
Turned before now Asked count new_count lines bound new (Err PeerEnd) = ⊥
Turned before now Asked count new_count lines bound new (Err ReadFault) = ⊥
Turned before now Asked count new_count lines bound new (Err Memory) = ⊥

-- these are the next lines of a stream, whatever comes later, and the stream is left so
abbrev pub Gives : Stream → List Line → Stream → Type 0
Gives old lines new = (more : List ℕ) → lines_of (fed old more) ≡ lines ++ lines_of (fed new more)

-- The next line was taken from a stream, which is left so, and the line asks for this step; or no line is left to take.
abbrev pub Takes : Stream → Stream → Bound → Option Step → Type 0
Takes old new bound (Some step) = (line : Line) × Gives old (line ∷ []) new × Judges bound line step
Takes old new bound None = (new ≡ old) × (lines_of new ≡ [])

-- A session that goes on: it took these lines from its stream, and answered them whole.
pub record Spoken (before now : WriteRecord) (Asked : List Call → Type 0) (count new_count : ℕ) (old new : Stream) (bound new_bound : Bound) : Type 0 where
  pub lines : List Line
  pub gives : Gives old lines new
  pub talked : Talked before now Asked count new_count lines bound (On new_bound) []
