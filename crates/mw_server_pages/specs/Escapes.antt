-- Defines a text in HTML. Used by: text.rt. A change here changes each text that is shown.
use Rattle.std.specs.Prelude.{ℕ, ◌==◌, List, [], ◌∷◌, flat_map, codes, if◌then◌else◌}

-- a byte of a text in HTML: what would begin a tag, a reference or end a value is written as a reference
abbrev pub escape : ℕ → List ℕ
escape byte =
    if byte == 38 then codes "&amp;"
    else if byte == 60 then codes "&lt;"
    else if byte == 62 then codes "&gt;"
    else if byte == 34 then codes "&quot;"
    else byte ∷ []

-- a text in HTML
unfoldable pub escaped : List ℕ → List ℕ
escaped bytes = flat_map escape bytes
