-- Defines the text format of Prometheus, version 0.0.4, as far as figures need it: a family's header, a sample's line with
-- its labels, and a number of seconds. Source: "Exposition formats" of the Prometheus documentation.
-- Used by: histogram_lines.rt, samples.rt. A change here changes what a scraper reads.
use Rattle.std.specs.Prelude.{ℕ, ◌-◌, ◌/◌, ◌%◌, ◌==◌, ◌++◌, List, [], ◌∷◌, length, replicate, flat_map, codes, decimal, if◌then◌else◌}

-- a byte of a label's value: a backslash, a double quote and a line feed are written with a backslash before them
abbrev pub escape : ℕ → List ℕ
escape byte =
    if byte == 92 then 92 ∷ 92 ∷ []
    else if byte == 34 then 92 ∷ 34 ∷ []
    else if byte == 10 then 92 ∷ 110 ∷ []
    else byte ∷ []

-- a label's value, escaped
unfoldable pub escaped : List ℕ → List ℕ
escaped bytes = flat_map escape bytes

-- a label: its name, and its value before it is escaped
pub record Label : Type 0 where
  pub name : List ℕ
  pub value : List ℕ

-- a label of this name and value
abbrev pub label : List ℕ → List ℕ → Label
label name value = record { name = name; value = value }

-- a label's text: name="value"
abbrev pub label_text : Label → List ℕ
label_text l = l.name ++ codes "=\"" ++ escaped l.value ++ codes "\""

-- the labels of a sample with commas between them
abbrev pub joined : List Label → List ℕ
joined [] = []
joined (l ∷ ls) = label_text l ++ flat_map (λ m. codes "," ++ label_text m) ls

-- the labels of a sample in braces, or nothing if it has none
abbrev pub in_braces : List Label → List ℕ
in_braces [] = []
in_braces (l ∷ ls) = codes "{" ++ joined (l ∷ ls) ++ codes "}"

-- a sample's line: the metric's name, its labels, a space, the value and a line feed
abbrev pub sample : List ℕ → List Label → List ℕ → List ℕ
sample name labels value = name ++ in_braces labels ++ codes " " ++ value ++ codes "\n"

-- how many nanoseconds a second has
abbrev pub second : ℕ
second = 1000000000

-- a number of nanoseconds below a second in nine digits
unfoldable pub nine_digits : ℕ → List ℕ
nine_digits n = replicate (9 - length (decimal n)) 48 ++ decimal n

-- so many nanoseconds, in seconds: a decimal number with nine digits after the point
abbrev pub seconds : ℕ → List ℕ
seconds nanos = decimal (nanos / second) ++ codes "." ++ nine_digits (nanos % second)
