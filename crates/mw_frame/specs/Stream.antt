-- Defines what a caller knows of a feed: a stream of bytes, some of whose lines are left to be given.
-- Used by: mw_session, feed.rt. A change here changes what a feed promises to a session.
use Rattle.std.specs.Prelude.{ℕ, ◌+◌, ◌++◌, List, [], length, drop, Option, Some, None}
use Rattle.mw_frame.specs.declared.lines.Line.{Line}
use Rattle.mw_frame.specs.declared.lines.Line.TheVariants.{Text, TooLong}
use Rattle.mw_frame.specs.Lines.{IsText, lines}

-- A stream, by what of it is left.
pub data Stream : Type 0 where
  -- these bytes were fed and aren't given out yet
  Open : List ℕ → Stream
  -- a line was too long; whatever is fed, no line follows
  Ended : Stream

-- the lines that are left to be given
abbrev pub lines_of : Stream → List Line
lines_of (Open bytes) = lines bytes
lines_of Ended = []

-- the stream after one more piece was fed
abbrev pub fed : Stream → List ℕ → Stream
fed (Open bytes) piece = Open (bytes ++ piece)
fed Ended piece = Ended

-- the stream without its first n bytes
abbrev pub without : ℕ → Stream → Stream
without n (Open bytes) = Open (drop n bytes)
without n Ended = Ended

-- The stream after this was given: without a text and its line feed; ended by a line too long; the same if nothing was
-- given.
abbrev pub behind : Option Line → Stream → Stream
behind None stream = stream
behind (Some (Text text)) stream = without (length text.items + 1) stream
behind (Some TooLong) stream = Ended

-- What is left is at most a part of a line: a text that a line feed can still end, or nothing at all.
abbrev pub IsPart : Stream → Type 0
IsPart (Open bytes) = IsText bytes
IsPart Ended = Unit {0}
