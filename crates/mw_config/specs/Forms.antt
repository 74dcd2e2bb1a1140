-- Defines which rules of its form the first line of a text breaks, and which of them the note about a refused tenants file
-- tells.
-- Used by: forms.rt. A new rule needs its case here, and in FormRule.
use Rattle.std.specs.Prelude.{ℕ, ◌≡◌, ◌<◌, ◌==◌, nat_le, ◌&&◌, Bool, false, not, List, ◌++◌, length, codes, Option, Some, None, IsTrue}
use Rattle.std.specs.List.{list_all}
use Rattle.mw_words.specs.declared.limits.TheConstants.{MAX_PATH}
use Rattle.mw_words.specs.Name.{is_name}
use Rattle.mw_line.specs.Number.{is_number_text}
use Rattle.mw_config.specs.declared.forms.FormRule.{FormRule}
use Rattle.mw_config.specs.declared.forms.FormRule.TheVariants as rule
use Rattle.mw_config.specs.LineTexts.{Line, IsLine, spelling}

-- no byte of the text is this one
abbrev pub lacks : ℕ → List ℕ → Bool
lacks byte text = list_all (λ b. not (b == byte)) text

-- The line is what comes before the text's first line feed.
pub record IsFirstLine (text line : List ℕ) : Type 0 where
  pub after : List ℕ
  pub spelled : text ≡ line ++ codes "\n" ++ after
  pub first : IsTrue (lacks 10 line)

-- four texts, as a line has them
pub record Fields : Type 0 where
  pub name : List ℕ
  pub words : List ℕ
  pub quota : List ℕ
  pub path : List ℕ

-- these four texts, in the order of a line
abbrev pub as_fields : List ℕ → List ℕ → List ℕ → List ℕ → Fields
as_fields name words quota path = record { name = name; words = words; quota = quota; path = path }

-- a field is a text that isn't empty and has no space
abbrev pub is_field : List ℕ → Bool
is_field text = nat_le 1 (length text) && lacks 32 text

-- The line is these four fields, with a single space between each two.
pub record AreFields (line : List ℕ) (fields : Fields) : Type 0 where
  pub spelled : line ≡ fields.name ++ codes " " ++ fields.words ++ codes " " ++ fields.quota ++ codes " " ++ fields.path
  pub name : IsTrue (is_field fields.name)
  pub words : IsTrue (is_field fields.words)
  pub quota : IsTrue (is_field fields.quota)
  pub path : IsTrue (is_field fields.path)

-- One of these fields breaks the rule that the rules have for it: the name is no name, the words or the quota are no number, or
-- the path has too many bytes.
abbrev pub FieldsBreak : FormRule → Fields → Type 0
FieldsBreak rule.LineFeed fields = ⊥
FieldsBreak rule.Bytes fields = ⊥
FieldsBreak rule.Fields fields = ⊥
FieldsBreak rule.Name fields = is_name fields.name ≡ false
FieldsBreak rule.Words fields = is_number_text fields.words ≡ false
FieldsBreak rule.Quota fields = is_number_text fields.quota ≡ false
FieldsBreak rule.Path fields = MAX_PATH < length fields.path

-- a space or a visible character
abbrev pub is_line_byte : ℕ → Bool
is_line_byte b = nat_le 32 b && nat_le b 126

-- the line is four fields, one of which breaks the rule
abbrev pub HasWrongField : FormRule → List ℕ → Type 0
HasWrongField rule line = (fields : Fields) × AreFields line fields × FieldsBreak rule fields

-- A line without its line feed breaks the rule: it has a byte that isn't permitted, it isn't four fields, or one of its fields is
-- wrong.
abbrev pub LineBreaks : FormRule → List ℕ → Type 0
LineBreaks rule.LineFeed line = ⊥
LineBreaks rule.Bytes line = list_all is_line_byte line ≡ false
LineBreaks rule.Fields line = (fields : Fields) → AreFields line fields → ⊥
LineBreaks rule.Name line = HasWrongField rule.Name line
LineBreaks rule.Words line = HasWrongField rule.Words line
LineBreaks rule.Quota line = HasWrongField rule.Quota line
LineBreaks rule.Path line = HasWrongField rule.Path line

-- the text has a first line, which breaks the rule
abbrev pub FirstLineBreaks : FormRule → List ℕ → Type 0
FirstLineBreaks rule text = (line : List ℕ) × IsFirstLine text line × LineBreaks rule line

-- A text breaks the rule: it has no line feed, or its first line breaks another rule.
abbrev pub Breaks : FormRule → List ℕ → Type 0
Breaks rule.LineFeed text = IsTrue (lacks 10 text)
Breaks rule.Bytes text = FirstLineBreaks rule.Bytes text
Breaks rule.Fields text = FirstLineBreaks rule.Fields text
Breaks rule.Name text = FirstLineBreaks rule.Name text
Breaks rule.Words text = FirstLineBreaks rule.Words text
Breaks rule.Quota text = FirstLineBreaks rule.Quota text
Breaks rule.Path text = FirstLineBreaks rule.Path text

-- the place of a rule in the order in which the rules are told
abbrev pub place_of : FormRule → ℕ
place_of rule.LineFeed = 0
place_of rule.Bytes = 1
place_of rule.Fields = 2
place_of rule.Name = 3
place_of rule.Words = 4
place_of rule.Quota = 5
place_of rule.Path = 6

-- the rule that is told is the first one that is broken; none is told exactly if none is broken
abbrev pub IsFirstBroken : (FormRule → Type 0) → Option FormRule → Type 0
IsFirstBroken broken None = (rule : FormRule) → broken rule → ⊥
IsFirstBroken broken (Some told) = broken told × ((rule : FormRule) → place_of rule < place_of told → broken rule → ⊥)

-- The text begins with a line.
pub record BeginsWithLine (text : List ℕ) : Type 0 where
  pub line : Line
  pub after : List ℕ
  pub formed : IsLine line
  pub spelled : text ≡ spelling line ++ after
