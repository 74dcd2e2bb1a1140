-- Defines the lines of some bytes: the text before each line feed. A text that is too long ends the lines.
-- Used by: mw_session, mw_connections, lines.rt. A change here changes what a line is, for every session.
use Rattle.std.specs.Prelude.{ℕ, ◌==◌, ◌≤◌, ◌++◌, Bool, not, List, [], ◌∷◌, length, nat_lt, IsTrue, if◌then◌else◌}
use Rattle.std.specs.List.{list_all}
use Rattle.mw_words.specs.declared.limits.TheConstants.{MAX_LINE}
use Rattle.mw_frame.specs.declared.lines.Line.{Line}
use Rattle.mw_frame.specs.declared.lines.Line.TheVariants.{Text, TooLong}

-- the byte that ends a line
abbrev pub line_feed : ℕ
line_feed = 10

-- the line of this text
abbrev pub text_line : List ℕ → Line
text_line text = Text (record { items = text })

-- The lines of bytes that follow a text whose line feed hasn't come yet. A line feed ends the text, and the next text
-- begins. Any other byte is added to the text if there is room. If not, the line is too long, and nothing follows. A
-- text without its line feed is no line.
abbrev pub lines_behind : List ℕ → List ℕ → List Line
lines_behind text [] = []
lines_behind text (b ∷ bytes) =
    if b == line_feed then text_line text ∷ lines_behind [] bytes
    else (if nat_lt (length text) MAX_LINE then lines_behind (text ++ b ∷ []) bytes
    else TooLong ∷ [])

-- the lines of these bytes
unfoldable pub lines : List ℕ → List Line
lines bytes = lines_behind [] bytes

-- a byte of a text: any but the line feed
abbrev pub is_text_byte : ℕ → Bool
is_text_byte b = not (b == line_feed)

-- A text of a line: it has no line feed, and at most as many bytes as a line may have.
pub record IsText (text : List ℕ) : Type 0 where
  pub no_line_feed : IsTrue (list_all is_text_byte text)
  pub fits : length text ≤ MAX_LINE
