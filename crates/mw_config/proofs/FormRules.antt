-- The first broken rule of a line's fields is that of the line, and that of a text's first line is that of the text.
-- Used by: broken_rule, rule_of_line, fields_of.
use Rattle.std.proofs.Common.{◌≡◌, ℕ, ◌<◌, ◌≤◌, eqb, leb, leb-true, le-leb, eq-eqb, Bool, true, false, not, List, [], ◌∷◌, ◌++◌, length, Option, Some, None, MatchOption, refl, sym, ap, subst, ◌∙◌, inl, inr, ◌⊎◌, arith, append_assoc, ◌&&◌}
use Rattle.std.specs.Prelude.{codes}
use Rattle.std.specs.List.{list_all}
use Rattle.std.proofs.lemmas.Bool.{cases_lt}
use Rattle.std.proofs.lemmas.Bool.Decides.{nat_tests}
use Rattle.std.proofs.lemmas.List.{nil_from_length}
use Rattle.std.proofs.lemmas.List.Folds.{list_all-append}
use Rattle.std.proofs.lemmas.Option.{none-some, some_pair_parts}
use Rattle.mw_words.specs.declared.limits.TheConstants.{MAX_PATH}
use Rattle.mw_words.specs.Name.{is_name, is_name_byte, is_digit}
use Rattle.mw_line.specs.Number.{numeral, is_number_text}
use Rattle.mw_line.specs.LineReader.{◌>>=◌, field_at}
use Rattle.mw_line.proofs.Entries.{bind_some, cases_cond_is}
use Rattle.mw_line.proofs.Numerals.{number_texts_are}
use Rattle.mw_config.specs.declared.forms.FormRule.{FormRule}
use Rattle.mw_config.specs.declared.forms.FormRule.TheVariants as rule
use Rattle.mw_config.specs.LineTexts.{Line, IsLine, HasNoLine, spelling, is_path, is_path_byte}
use Rattle.mw_config.specs.LineReader.{line_at}
use Rattle.mw_config.specs.Forms.{lacks, IsFirstLine, Fields, as_fields, is_field, AreFields, FieldsBreak, is_line_byte, LineBreaks, Breaks, IsFirstBroken, BeginsWithLine}
use Rattle.mw_config.proofs.LineTextLaws.{both_true, field_again, field_found, line_found, none_there}

-- ---- tests

true_false : (b : Bool) → b ≡ true → b ≡ false → ⊥
true_false b t f = absurd cc

cases_bool : (b : Bool) → (b ≡ true) ⊎ (b ≡ false)
cases_bool true = inl refl
cases_bool false = inr refl

and_false : (b : Bool) → (b && false) ≡ false
and_false true = refl
and_false false = refl

eq_self : (n : ℕ) → eqb n n ≡ true
eq_self n = eq-eqb n n refl

-- ---- what comes before an end byte

lacks_again : (end : ℕ) (field after : List ℕ) → lacks end field ≡ true → field_at end (field ++ (end ∷ after)) ≡ Some (field, after)
lacks_again end field after h = field_again (λ b. not (eqb b end)) end field after (rw (eq_self end) refl) h

one_front : (end : ℕ) (a b r s : List ℕ) → lacks end a ≡ true → lacks end b ≡ true → a ++ (end ∷ r) ≡ b ++ (end ∷ s) → (a ≡ b) × (r ≡ s)
one_front end a b r s la lb e = some_pair_parts a b r s (sym (lacks_again end a r la) ∙ ap (field_at end) e ∙ lacks_again end b s lb)

field_lacks : (end : ℕ) (bytes field after : List ℕ) → field_at end bytes ≡ Some (field, after) → lacks end field ≡ true
field_lacks end [] field after e = absurd (none-some (field, after) e)
field_lacks end (b ∷ bs) field after e =
    elim (cases_cond_is (eqb b end) _ _ _ e) [
      | inl h ↦ subst (λ (x : List ℕ). lacks end x ≡ true) (some_pair_parts [] field bs after h.1).0 refl
      | inr h ↦
          let p = bind_some (field_at end bs) _ (field, after) h.1 in
          let others = field_lacks end bs p.0.0 p.0.1 p.1 in
          let parts = some_pair_parts (b ∷ p.0.0) field p.0.1 after p.2 in
          subst (λ (x : List ℕ). lacks end x ≡ true) parts.0 (rw (h.0, others) refl)
    ]

none_of : {A : Type 0} (o : Option A) (f : A → A) → (o >>= λ r. Some (f r)) ≡ None → o ≡ None
none_of (Some x) f e = absurd (none-some (f x) (sym e))
none_of None f e = refl

none_lacks : (end : ℕ) (bytes : List ℕ) → field_at end bytes ≡ None → lacks end bytes ≡ true
none_lacks end [] e = refl
none_lacks end (b ∷ bs) e =
    elim (cases_cond_is (eqb b end) _ _ _ e) [
      | inl h ↦ absurd (none-some ([], bs) (sym h.1))
      | inr h ↦ rw (h.0, none_lacks end bs (none_of (field_at end bs) (λ r. (b ∷ r.0, r.1)) h.1)) refl
    ]

not_lacks : (end : ℕ) (a r : List ℕ) → lacks end (a ++ (end ∷ r)) ≡ false
not_lacks end [] r = rw (eq_self end) refl
not_lacks end (b ∷ bs) r = rw (not_lacks end bs r) (and_false (not (eqb b end)))

-- ---- the first line of a text

pub first_line : (text line after : List ℕ) → field_at 10 text ≡ Some (line, after) → IsFirstLine text line
first_line text line after e = record {
  after = after;
  spelled = field_found 10 text line after e ∙ sym (append_assoc line (codes "\n") after);
  first = field_lacks 10 text line after e;
}

line_spelled : (text line : List ℕ) (first : IsFirstLine text line) → text ≡ line ++ (10 ∷ first.after)
line_spelled text line first = first.spelled ∙ append_assoc line (codes "\n") first.after

one_line : (text line other : List ℕ) → IsFirstLine text line → IsFirstLine text other → other ≡ line
one_line text line other f g =
    (one_front 10 other line g.after f.after g.first f.first (sym (line_spelled text other g) ∙ line_spelled text line f)).0

-- ---- the fields of a line

abbrev after_name : Fields → List ℕ
after_name f = f.words ++ (32 ∷ (f.quota ++ (32 ∷ f.path)))

abbrev after_words : Fields → List ℕ
after_words f = f.quota ++ (32 ∷ f.path)

grouped : (name words quota path : List ℕ) → ((((((name ++ codes " ") ++ words) ++ codes " ") ++ quota) ++ codes " ") ++ path) ≡ name ++ (32 ∷ (words ++ (32 ∷ (quota ++ (32 ∷ path)))))
grouped name words quota path = simp append_assoc

field_parts : (text : List ℕ) → is_field text ≡ true → (leb 1 (length text) ≡ true) × (lacks 32 text ≡ true)
field_parts text h = both_true (leb 1 (length text)) (lacks 32 text) h

name_read : (line : List ℕ) (f : Fields) → AreFields line f → field_at 32 line ≡ Some (f.name, after_name f)
name_read line f a = ap (field_at 32) (a.spelled ∙ grouped f.name f.words f.quota f.path) ∙ lacks_again 32 f.name (after_name f) (field_parts f.name a.name).1

words_read : (line : List ℕ) (f : Fields) → AreFields line f → field_at 32 (after_name f) ≡ Some (f.words, after_words f)
words_read line f a = lacks_again 32 f.words (after_words f) (field_parts f.words a.words).1

quota_read : (line : List ℕ) (f : Fields) → AreFields line f → field_at 32 (after_words f) ≡ Some (f.quota, f.path)
quota_read line f a = lacks_again 32 f.quota f.path (field_parts f.quota a.quota).1

pub no_name : (line : List ℕ) → field_at 32 line ≡ None → (f : Fields) → AreFields line f → ⊥
no_name line e f a = none-some (f.name, after_name f) (sym e ∙ name_read line f a)

pub name_is : (line name rest : List ℕ) (f : Fields) → AreFields line f → field_at 32 line ≡ Some (name, rest) → (name ≡ f.name) × (rest ≡ after_name f)
name_is line name rest f a e = some_pair_parts name f.name rest (after_name f) (sym e ∙ name_read line f a)

pub no_words : (line name rest : List ℕ) → field_at 32 line ≡ Some (name, rest) → field_at 32 rest ≡ None → (f : Fields) → AreFields line f → ⊥
no_words line name rest e none f a =
    none-some (f.words, after_words f) (sym none ∙ ap (field_at 32) (name_is line name rest f a e).1 ∙ words_read line f a)

words_are : (line name rest words third : List ℕ) (f : Fields) → AreFields line f → field_at 32 line ≡ Some (name, rest) → field_at 32 rest ≡ Some (words, third) → (words ≡ f.words) × (third ≡ after_words f)
words_are line name rest words third f a e e2 =
    some_pair_parts words f.words third (after_words f) (sym e2 ∙ ap (field_at 32) (name_is line name rest f a e).1 ∙ words_read line f a)

pub no_quota : (line name rest words third : List ℕ) → field_at 32 line ≡ Some (name, rest) → field_at 32 rest ≡ Some (words, third) → field_at 32 third ≡ None → (f : Fields) → AreFields line f → ⊥
no_quota line name rest words third e e2 none f a =
    none-some (f.quota, f.path) (sym none ∙ ap (field_at 32) (words_are line name rest words third f a e e2).1 ∙ quota_read line f a)

four : (a b c d : Bool) → a ≡ true → b ≡ true → c ≡ true → d ≡ true → (a && b && c && d) ≡ true
four a b c d p q r s = rw (p, q, r, s) refl

pub no_fields : (line name rest words third quota path : List ℕ) → field_at 32 line ≡ Some (name, rest) → field_at 32 rest ≡ Some (words, third) → field_at 32 third ≡ Some (quota, path) → (is_field name && is_field words && is_field quota && is_field path) ≡ false → (f : Fields) → AreFields line f → ⊥
no_fields line name rest words third quota path e e2 e3 no_field f a =
    let n = name_is line name rest f a e in
    let w = words_are line name rest words third f a e e2 in
    let q = some_pair_parts quota f.quota path f.path (sym e3 ∙ ap (field_at 32) w.1 ∙ quota_read line f a) in
    let to : (x y : List ℕ) → x ≡ y → is_field y ≡ true → is_field x ≡ true = λ x y s h. subst (λ (z : List ℕ). is_field z ≡ true) (sym s) h in
    true_false _ (four (is_field name) (is_field words) (is_field quota) (is_field path) (to name f.name n.0 a.name) (to words f.words w.0 a.words) (to quota f.quota q.0 a.quota) (to path f.path q.1 a.path)) no_field

pub fields_are : (line name rest words third quota path : List ℕ) → field_at 32 line ≡ Some (name, rest) → field_at 32 rest ≡ Some (words, third) → field_at 32 third ≡ Some (quota, path) → (is_field name && is_field words && is_field quota && is_field path) ≡ true → AreFields line (as_fields name words quota path)
fields_are line name rest words third quota path e e2 e3 h =
    let p = both_true (is_field name && is_field words && is_field quota) (is_field path) h in
    let p2 = both_true (is_field name && is_field words) (is_field quota) p.0 in
    let p3 = both_true (is_field name) (is_field words) p2.0 in
    let l1 : line ≡ name ++ (32 ∷ rest) = field_found 32 line name rest e in
    let l2 : rest ≡ words ++ (32 ∷ third) = field_found 32 rest words third e2 in
    let l3 : third ≡ quota ++ (32 ∷ path) = field_found 32 third quota path e3 in
    let whole : line ≡ name ++ (32 ∷ (words ++ (32 ∷ (quota ++ (32 ∷ path))))) = cc in
    record { spelled = whole ∙ sym (grouped name words quota path); name = p3.0; words = p3.1; quota = p2.1; path = p.1 }

same_fields : (a b c d e f g h : List ℕ) → a ≡ e → b ≡ f → c ≡ g → d ≡ h → as_fields a b c d ≡ as_fields e f g h
same_fields a b c d e f g h p q r s = rw (p, q, r, s) refl

one_four_fields : (line : List ℕ) (f g : Fields) → AreFields line f → AreFields line g → f ≡ g
one_four_fields line f g a b =
    let n = name_is line f.name (after_name f) g b (name_read line f a) in
    let w = words_are line f.name (after_name f) f.words (after_words f) g b (name_read line f a) (words_read line f a) in
    let q = some_pair_parts f.quota g.quota f.path g.path (sym (quota_read line f a) ∙ ap (field_at 32) w.1 ∙ quota_read line g b) in
    same_fields f.name f.words f.quota f.path g.name g.words g.quota g.path n.0 w.0 q.0 q.1

-- ---- the first broken rule

-- two ways to say which rules are broken have the same first one
lift : (P Q : FormRule → Type 0) → ((which : FormRule) → P which → Q which) → ((which : FormRule) → Q which → P which) → (told : Option FormRule) → IsFirstBroken P told → IsFirstBroken Q told
lift P Q up down None h = λ which b. h which (down which b)
lift P Q up down (Some told) h = (up told h.0, λ which low b. h.1 which low (down which b))

field_to_line : (line : List ℕ) (f : Fields) → AreFields line f → (which : FormRule) → FieldsBreak which f → LineBreaks which line
field_to_line line f a rule.LineFeed h = h
field_to_line line f a rule.Bytes h = absurd h
field_to_line line f a rule.Fields h = absurd h
field_to_line line f a rule.Name h = (f, a, h)
field_to_line line f a rule.Words h = (f, a, h)
field_to_line line f a rule.Quota h = (f, a, h)
field_to_line line f a rule.Path h = (f, a, h)

at_fields : (which : FormRule) (line : List ℕ) (f g : Fields) → AreFields line f → AreFields line g → FieldsBreak which g → FieldsBreak which f
at_fields which line f g a b h = subst (λ (x : Fields). FieldsBreak which x) (one_four_fields line g f b a) h

line_to_field : (line : List ℕ) (f : Fields) → AreFields line f → list_all is_line_byte line ≡ true → (which : FormRule) → LineBreaks which line → FieldsBreak which f
line_to_field line f a bytes rule.LineFeed h = h
line_to_field line f a bytes rule.Bytes h = true_false (list_all is_line_byte line) bytes h
line_to_field line f a bytes rule.Fields h = h f a
line_to_field line f a bytes rule.Name h = at_fields rule.Name line f h.0 a h.1 h.2
line_to_field line f a bytes rule.Words h = at_fields rule.Words line f h.0 a h.1 h.2
line_to_field line f a bytes rule.Quota h = at_fields rule.Quota line f h.0 a h.1 h.2
line_to_field line f a bytes rule.Path h = at_fields rule.Path line f h.0 a h.1 h.2

pub line_by_fields : (line : List ℕ) (f : Fields) → AreFields line f → list_all is_line_byte line ≡ true → (told : Option FormRule) → IsFirstBroken (λ which. FieldsBreak which f) told → IsFirstBroken (λ which. LineBreaks which line) told
line_by_fields line f a bytes told h = lift (λ which. FieldsBreak which f) (λ which. LineBreaks which line) (field_to_line line f a) (line_to_field line f a bytes) told h

line_to_text : (text line : List ℕ) → IsFirstLine text line → (which : FormRule) → LineBreaks which line → Breaks which text
line_to_text text line first rule.LineFeed h = absurd h
line_to_text text line first rule.Bytes h = (line, first, h)
line_to_text text line first rule.Fields h = (line, first, h)
line_to_text text line first rule.Name h = (line, first, h)
line_to_text text line first rule.Words h = (line, first, h)
line_to_text text line first rule.Quota h = (line, first, h)
line_to_text text line first rule.Path h = (line, first, h)

at_line : (which : FormRule) (text line other : List ℕ) → IsFirstLine text line → IsFirstLine text other → LineBreaks which other → LineBreaks which line
at_line which text line other f g h = subst (λ (x : List ℕ). LineBreaks which x) (one_line text line other f g) h

text_to_line : (text line : List ℕ) → IsFirstLine text line → (which : FormRule) → Breaks which text → LineBreaks which line
text_to_line text line first rule.LineFeed h = true_false (lacks 10 text) h (ap (lacks 10) (line_spelled text line first) ∙ not_lacks 10 line first.after)
text_to_line text line first rule.Bytes h = at_line rule.Bytes text line h.0 first h.1 h.2
text_to_line text line first rule.Fields h = at_line rule.Fields text line h.0 first h.1 h.2
text_to_line text line first rule.Name h = at_line rule.Name text line h.0 first h.1 h.2
text_to_line text line first rule.Words h = at_line rule.Words text line h.0 first h.1 h.2
text_to_line text line first rule.Quota h = at_line rule.Quota text line h.0 first h.1 h.2
text_to_line text line first rule.Path h = at_line rule.Path text line h.0 first h.1 h.2

pub text_by_line : (text line : List ℕ) → IsFirstLine text line → (told : Option FormRule) → IsFirstBroken (λ which. LineBreaks which line) told → IsFirstBroken (λ which. Breaks which text) told
text_by_line text line first told h = lift (λ which. LineBreaks which line) (λ which. Breaks which text) (line_to_text text line first) (text_to_line text line first) told h

pub no_line_feed : (text : List ℕ) → field_at 10 text ≡ None → IsFirstBroken (λ which. Breaks which text) (Some rule.LineFeed)
no_line_feed text e = (none_lacks 10 text e, λ which low b. absurd (omega (arith, low)))

-- ---- a line breaks no rule

weaker : (p q : ℕ → Bool) → ((b : ℕ) → p b ≡ true → q b ≡ true) → (bs : List ℕ) → list_all p bs ≡ true → list_all q bs ≡ true
weaker p q imp [] h = refl
weaker p q imp (b ∷ bs) h =
    let t = both_true (p b) (list_all p bs) h in
    rw (imp b t.0, weaker p q imp bs t.1) refl

name_line : (b : ℕ) → is_name_byte b ≡ true → is_line_byte b ≡ true
name_line b h = grind (arith, nat_tests)

digit_line : (b : ℕ) → is_digit b ≡ true → is_line_byte b ≡ true
digit_line b h = grind (arith, nat_tests)

path_line : (b : ℕ) → is_path_byte b ≡ true → is_line_byte b ≡ true
path_line b h = grind (arith, nat_tests)

name_space : (b : ℕ) → is_name_byte b ≡ true → not (eqb b 32) ≡ true
name_space b h = grind (arith, nat_tests)

digit_space : (b : ℕ) → is_digit b ≡ true → not (eqb b 32) ≡ true
digit_space b h = grind (arith, nat_tests)

path_space : (b : ℕ) → is_path_byte b ≡ true → not (eqb b 32) ≡ true
path_space b h = grind (arith, nat_tests)

line_end : (b : ℕ) → is_line_byte b ≡ true → not (eqb b 10) ≡ true
line_end b h = grind (arith, nat_tests)

digits_of : (text : List ℕ) → is_number_text text ≡ true → (list_all is_digit text ≡ true) × (leb 1 (length text) ≡ true)
digits_of [] h = absurd cc
digits_of (b ∷ bs) h =
    let some : leb 1 (length (b ∷ bs)) ≡ true = le-leb 1 _ (omega arith) in
    elim (cases_cond_is (eqb b 48) (eqb (length bs) 0) (is_digit b && list_all is_digit bs) true h) [
      | inl z ↦
          let digit : is_digit b ≡ true = grind (arith, nat_tests, z.0) in
          let alone : bs ≡ [] = nil_from_length bs (grind (arith, nat_tests, z.1)) in
          (rw (digit, alone) refl, some)
      | inr d ↦ (d.1, some)
    ]

numeral_is : (n : ℕ) → is_number_text (numeral n) ≡ true
numeral_is n = (number_texts_are (numeral n)).1 (n, refl)

letters_some : (name : List ℕ) → is_name name ≡ true → leb 1 (length name) ≡ true
letters_some [] h = absurd cc
letters_some (b ∷ bs) h = le-leb 1 _ (omega arith)

abbrev fields_in : Line → Fields
fields_in line = as_fields line.name (numeral line.words) (numeral line.quota) line.path

-- a line's text without its line feed
abbrev content : Line → List ℕ
content line = line.name ++ codes " " ++ numeral line.words ++ codes " " ++ numeral line.quota ++ codes " " ++ line.path

fields_in_line : (line : Line) → IsLine line → AreFields (content line) (fields_in line)
fields_in_line line formed =
    let name = both_true _ (list_all is_name_byte line.name) formed.0 in
    let path = both_true _ (list_all is_path_byte line.path) formed.1 in
    let some_path = both_true (leb 1 (length line.path)) _ path.0 in
    let w = digits_of (numeral line.words) (numeral_is line.words) in
    let q = digits_of (numeral line.quota) (numeral_is line.quota) in
    record {
      spelled = refl;
      name = rw (letters_some line.name formed.0, weaker is_name_byte (λ b. not (eqb b 32)) name_space line.name name.1) refl;
      words = rw (w.1, weaker is_digit (λ b. not (eqb b 32)) digit_space (numeral line.words) w.0) refl;
      quota = rw (q.1, weaker is_digit (λ b. not (eqb b 32)) digit_space (numeral line.quota) q.0) refl;
      path = rw (some_path.0, weaker is_path_byte (λ b. not (eqb b 32)) path_space line.path path.1) refl;
    }

bytes_of_parts : (a b c d : List ℕ) → list_all is_line_byte a ≡ true → list_all is_line_byte b ≡ true → list_all is_line_byte c ≡ true → list_all is_line_byte d ≡ true → list_all is_line_byte (a ++ (32 ∷ (b ++ (32 ∷ (c ++ (32 ∷ d)))))) ≡ true
bytes_of_parts a b c d p q r s =
    rw (list_all-append is_line_byte a (32 ∷ (b ++ (32 ∷ (c ++ (32 ∷ d))))), list_all-append is_line_byte b (32 ∷ (c ++ (32 ∷ d))), list_all-append is_line_byte c (32 ∷ d), p, q, r, s) refl

content_bytes : (line : Line) → IsLine line → list_all is_line_byte (content line) ≡ true
content_bytes line formed =
    let name = both_true _ (list_all is_name_byte line.name) formed.0 in
    let path = both_true _ (list_all is_path_byte line.path) formed.1 in
    let w = digits_of (numeral line.words) (numeral_is line.words) in
    let q = digits_of (numeral line.quota) (numeral_is line.quota) in
    ap (list_all is_line_byte) (grouped line.name (numeral line.words) (numeral line.quota) line.path)
    ∙ bytes_of_parts line.name (numeral line.words) (numeral line.quota) line.path (weaker is_name_byte is_line_byte name_line line.name name.1) (weaker is_digit is_line_byte digit_line (numeral line.words) w.0) (weaker is_digit is_line_byte digit_line (numeral line.quota) q.0) (weaker is_path_byte is_line_byte path_line line.path path.1)

fields_are_fine : (line : Line) → IsLine line → (which : FormRule) → FieldsBreak which (fields_in line) → ⊥
fields_are_fine line formed rule.LineFeed h = h
fields_are_fine line formed rule.Bytes h = h
fields_are_fine line formed rule.Fields h = h
fields_are_fine line formed rule.Name h = true_false (is_name line.name) formed.0 h
fields_are_fine line formed rule.Words h = true_false (is_number_text (numeral line.words)) (numeral_is line.words) h
fields_are_fine line formed rule.Quota h = true_false (is_number_text (numeral line.quota)) (numeral_is line.quota) h
fields_are_fine line formed rule.Path h =
    let path = both_true _ (list_all is_path_byte line.path) formed.1 in
    let some = both_true (leb 1 (length line.path)) (leb (length line.path) MAX_PATH) path.0 in
    absurd (omega (arith, leb-true (length line.path) MAX_PATH some.1, h))

breaks_none : (text after : List ℕ) (line : Line) → IsLine line → text ≡ spelling line ++ after → (which : FormRule) → Breaks which text → ⊥
breaks_none text after line formed spelled which h =
    let bytes = content_bytes line formed in
    let first : IsFirstLine text (content line) = record { after = after; spelled = spelled; first = weaker is_line_byte (λ b. not (eqb b 10)) line_end (content line) bytes } in
    let fields = fields_in_line line formed in
    fields_are_fine line formed which (line_to_field (content line) (fields_in line) fields bytes which (text_to_line text (content line) first which h))

-- ---- a text that breaks no rule begins with a line

path_bytes : (bs : List ℕ) → list_all is_line_byte bs ≡ true → lacks 32 bs ≡ true → list_all is_path_byte bs ≡ true
path_bytes [] h l = refl
path_bytes (b ∷ bs) h l =
    let t = both_true (is_line_byte b) (list_all is_line_byte bs) h in
    let s = both_true (not (eqb b 32)) (lacks 32 bs) l in
    let here : is_path_byte b ≡ true = grind (arith, nat_tests, t.0, s.0) in
    rw (here, path_bytes bs t.1 s.1) refl

all_after : (p : ℕ → Bool) (a b : List ℕ) → list_all p (a ++ b) ≡ true → list_all p b ≡ true
all_after p a b h = (both_true (list_all p a) (list_all p b) (sym (list_all-append p a b) ∙ h)).1

path_within : (line : List ℕ) (f : Fields) → AreFields line f → list_all is_line_byte line ≡ true → list_all is_line_byte f.path ≡ true
path_within line f a h = all_after is_line_byte (((((f.name ++ codes " ") ++ f.words) ++ codes " ") ++ f.quota) ++ codes " ") f.path (sym (ap (list_all is_line_byte) a.spelled) ∙ h)

spelled_of : (text line after : List ℕ) (f : Fields) (w q : ℕ) → text ≡ (line ++ codes "\n") ++ after → line ≡ ((((((f.name ++ codes " ") ++ f.words) ++ codes " ") ++ f.quota) ++ codes " ") ++ f.path) → f.words ≡ numeral w → f.quota ≡ numeral q → text ≡ (((((((f.name ++ codes " ") ++ numeral w) ++ codes " ") ++ numeral q) ++ codes " ") ++ f.path) ++ codes "\n") ++ after
spelled_of text line after f w q t l ew eq = t ∙ ap (λ (x : List ℕ). (x ++ codes "\n") ++ after) (l ∙ rw (ew, eq) refl)

kept_number : (text : List ℕ) → (is_number_text text ≡ false → ⊥) → (n : ℕ) × (text ≡ numeral n)
kept_number text h = elim (cases_bool (is_number_text text)) [ inl t ↦ (number_texts_are text).0 t | inr f ↦ absurd (h f) ]

kept_test : (b : Bool) → (b ≡ false → ⊥) → b ≡ true
kept_test b h = elim (cases_bool b) [ inl t ↦ t | inr f ↦ absurd (h f) ]

not_above : (n : ℕ) → (MAX_PATH < n → ⊥) → n ≤ MAX_PATH
not_above n h = elim (cases_lt MAX_PATH n) [ inl above ↦ absurd (h above) | inr within ↦ within ]

line_of_fields : (text line : List ℕ) (f : Fields) → IsFirstLine text line → AreFields line f → ((which : FormRule) → Breaks which text → ⊥) → BeginsWithLine text
line_of_fields text line f first a none =
    let bytes = kept_test (list_all is_line_byte line) (λ h. none rule.Bytes (line, first, h)) in
    let name = kept_test (is_name f.name) (λ h. none rule.Name (line, first, (f, a, h))) in
    let w = kept_number f.words (λ h. none rule.Words (line, first, (f, a, h))) in
    let q = kept_number f.quota (λ h. none rule.Quota (line, first, (f, a, h))) in
    let short = not_above (length f.path) (λ h. none rule.Path (line, first, (f, a, h))) in
    let field = field_parts f.path a.path in
    let path : is_path f.path ≡ true = rw (field.0, le-leb (length f.path) MAX_PATH short, path_bytes f.path (path_within line f a bytes) field.1) refl in
    record {
      line = record { name = f.name; words = w.0; quota = q.0; path = f.path };
      after = first.after;
      formed = (name, path);
      spelled = spelled_of text line first.after f w.0 q.0 first.spelled a.spelled w.1 q.1;
    }

none_gives : (text : List ℕ) (found : Option (List ℕ × List ℕ)) → field_at 10 text ≡ found → ((which : FormRule) → Breaks which text → ⊥) → HasNoLine text → ⊥
none_gives text None e none no_line = none rule.LineFeed (none_lacks 10 text e)
none_gives text (Some found) e none no_line =
    let first = first_line text found.0 found.1 e in
    none rule.Fields (
      found.0,
      first,
      λ f a.
          let begins = line_of_fields text found.0 f first a none in
          no_line begins.line begins.after begins.formed begins.spelled,
    )

begins_if : (text : List ℕ) (read : Option (Line × List ℕ)) → line_at (λ n. n) text ≡ read → ((which : FormRule) → Breaks which text → ⊥) → BeginsWithLine text
begins_if text None e none = absurd (none_gives text (field_at 10 text) refl none (none_there (λ n. n) text e))
begins_if text (Some read) e none =
    let f = line_found (λ n. n) text read.0 read.1 e in
    record { line = f.line; after = read.1; formed = f.formed; spelled = f.text }

pub begins : (text : List ℕ) (told : Option FormRule) → IsFirstBroken (λ which. Breaks which text) told → MatchOption told (BeginsWithLine text) (λ which. HasNoLine text)
begins text None h = begins_if text (line_at (λ n. n) text) refl h
begins text (Some told) h = λ line after formed spelled. breaks_none text after line formed spelled told h.0
