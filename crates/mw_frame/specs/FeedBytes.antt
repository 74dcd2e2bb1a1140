-- Defines which stream of lines the bytes in a feed represent, and what the feed keeps true of them.
-- Used by: feed.rt, lines.rt. Callers see Stream alone: it may change with feed.rt and lines.rt.
use Rattle.std.specs.Prelude.{◌≡◌, ℕ, ◌≤◌, Bool, true, false, List, []}
use Rattle.std.specs.List.{prefix_len}
use Rattle.mw_frame.specs.Lines.{is_text_byte}
use Rattle.mw_frame.specs.Stream.{Stream, Open, Ended}

-- how many bytes are before the first line feed; all of them if there is none
unfoldable pub text_len : List ℕ → ℕ
text_len bytes = prefix_len is_text_byte bytes

-- the stream that a feed represents, by whether a line was too long and by the bytes that it keeps
abbrev pub stream_of : Bool → List ℕ → Stream
stream_of true bytes = Ended
stream_of false bytes = Open bytes

-- The bytes that were searched are no line feeds, and no byte is kept after a line was too long.
pub record IsKept (bytes : List ℕ) (searched : ℕ) (ended : Bool) : Type 0 where
  pub searched_text : searched ≤ text_len bytes
  pub dropped : ended ≡ true → bytes ≡ []
