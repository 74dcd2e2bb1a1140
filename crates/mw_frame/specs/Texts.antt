-- Claims that the lines of some bytes are the texts between their line feeds, up to a text that is too long.
-- Used by: laws.rt. It says in another way what Lines says. Change it with these laws.
use Rattle.std.specs.Prelude.{ℕ, ◌≡◌, ◌<◌, ◌++◌, All, List, [], ◌∷◌, length, map, flat_map, ◌⊎◌, IsTrue}
use Rattle.std.specs.List.{list_all}
use Rattle.mw_words.specs.declared.limits.TheConstants.{MAX_LINE}
use Rattle.mw_frame.specs.declared.lines.Line.{Line}
use Rattle.mw_frame.specs.declared.lines.Line.TheVariants.{TooLong}
use Rattle.mw_frame.specs.Lines.{IsText, is_text_byte, line_feed, lines, text_line}

-- a text with the line feed that ends it
abbrev pub with_line_feed : List ℕ → List ℕ
with_line_feed text = text ++ line_feed ∷ []

-- the bytes begin with more bytes than a line may have, without a line feed
pub record BeginsTooLong (bytes : List ℕ) : Type 0 where
  pub long : List ℕ
  pub more : List ℕ
  pub whole : bytes ≡ long ++ more
  pub no_line_feed : IsTrue (list_all is_text_byte long)
  pub long_enough : MAX_LINE < length long

-- These bytes are texts, each with a line feed after it, and then this rest: a part of a text, or the beginning of a
-- line that is too long.
pub record IsCut (bytes : List ℕ) (texts : List (List ℕ)) (rest : List ℕ) : Type 0 where
  pub whole : bytes ≡ flat_map with_line_feed texts ++ rest
  pub each : All IsText texts
  pub ends : IsText rest ⊎ BeginsTooLong rest

-- All bytes are so.
abbrev pub EachIsCut : Type 0
EachIsCut = (bytes : List ℕ) → (texts : List (List ℕ)) × (rest : List ℕ) × IsCut bytes texts rest

-- Texts with a line feed after each are as many lines, and the part of a text after the last line feed is none.
abbrev pub TextsAreLines : Type 0
TextsAreLines = (texts : List (List ℕ)) (part : List ℕ) → All IsText texts → IsText part
    → lines (flat_map with_line_feed texts ++ part) ≡ map text_line texts

-- If a rest that begins too long comes after them, one line too long follows, and nothing else.
abbrev pub TooLongIsLast : Type 0
TooLongIsLast = (texts : List (List ℕ)) (rest : List ℕ) → All IsText texts → BeginsTooLong rest
    → lines (flat_map with_line_feed texts ++ rest) ≡ map text_line texts ++ TooLong ∷ []

-- Lines that are there stay, whatever comes later.
abbrev pub LinesStay : Type 0
LinesStay = (bytes more : List ℕ) → (later : List Line) × (lines (bytes ++ more) ≡ lines bytes ++ later)
