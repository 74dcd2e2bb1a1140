-- The text of a tenants file's line is read as that line, and what is read as a line is its text.
-- Used by: tenants::read_line, read_path.
use Rattle.std.proofs.Common.{◌≡◌, ℕ, Bool, Option, true, false, eqb, List, [], ◌∷◌, ◌++◌, Some, None, refl, sym, ap, subst, ◌∙◌, inl, inr, append_assoc, eqb-true, ◌&&◌, eq-eqb}
use Rattle.std.specs.Prelude.{codes}
use Rattle.std.specs.List.{list_all}
use Rattle.std.proofs.lemmas.Option.{none-some, same_Some, some_pair_parts}
use Rattle.mw_words.specs.Name.{is_name, is_name_byte}
use Rattle.mw_line.specs.Number.{numeral}
use Rattle.mw_line.specs.LineReader.{◌>>=◌, behind, field_at, number_at}
use Rattle.mw_line.proofs.Entries.{bind_some, cases_cond_is}
use Rattle.mw_line.proofs.Fronts.{behind_found, cases_eqb}
use Rattle.mw_line.proofs.Numerals.{number_again, number_found, IsNumberRead}
use Rattle.mw_config.specs.LineTexts.{Line, IsLine, HasNoLine, spelling, is_path, is_path_byte}
use Rattle.mw_config.specs.LineReader.{line_at, line_by, number_field}

pub both_true : (a b : Bool) → (a && b) ≡ true → (a ≡ true) × (b ≡ true)
both_true true b h = (refl, h)
both_true false b h = absurd cc

true_false : (b : Bool) → b ≡ true → b ≡ false → ⊥
true_false b t f = absurd cc

-- ---- a field

eq_self : (n : ℕ) → eqb n n ≡ true
eq_self n = eq-eqb n n refl

-- a field is read if a test holds of all its bytes and fails for the byte that ends it
pub field_again : (p : ℕ → Bool) (end : ℕ) (field after : List ℕ) → p end ≡ false → list_all p field ≡ true → field_at end (field ++ (end ∷ after)) ≡ Some (field, after)
field_again p end [] after ends all = rw (eq_self end) refl
field_again p end (b ∷ bs) after ends all =
    let h = both_true (p b) (list_all p bs) all in
    elim (cases_eqb b end) [
      | inl same ↦ absurd (true_false (p end) (subst (λ (x : ℕ). p x ≡ true) (eqb-true b end same) h.0) ends)
      | inr other ↦ rw (other, field_again p end bs after ends h.1) refl
    ]

joined : (end b : ℕ) (bs front back field after : List ℕ) → b ∷ front ≡ field → back ≡ after → bs ≡ front ++ (end ∷ back) → b ∷ bs ≡ field ++ (end ∷ after)
joined end b bs front back field after f a others = rw (← f, ← a) (ap (λ (x : List ℕ). b ∷ x) others)

pub field_found : (end : ℕ) (bytes field after : List ℕ) → field_at end bytes ≡ Some (field, after) → bytes ≡ field ++ (end ∷ after)
field_found end [] field after e = absurd (none-some (field, after) e)
field_found end (b ∷ bs) field after e =
    elim (cases_cond_is (eqb b end) _ _ _ e) [
      | inl h ↦
          let parts = some_pair_parts [] field bs after h.1 in
          rw (← parts.0, eqb-true b end h.0, parts.1) refl
      | inr h ↦
          let p = bind_some (field_at end bs) _ (field, after) h.1 in
          let others = field_found end bs p.0.0 p.0.1 p.1 in
          let parts = some_pair_parts (b ∷ p.0.0) field p.0.1 after p.2 in
          joined end b bs p.0.0 p.0.1 field after parts.0 parts.1 others
    ]

-- ---- a line

-- a line as a reader sees it
abbrev pub seen_line : (ℕ → ℕ) → Line → Line
seen_line see line = record { name = line.name; words = see line.words; quota = see line.quota; path = line.path }

regrouped : (name words quota path after : List ℕ) → ((((((((name ++ codes " ") ++ words) ++ codes " ") ++ quota) ++ codes " ") ++ path) ++ codes "\n") ++ after) ≡ name ++ (32 ∷ (words ++ (32 ∷ (quota ++ (32 ∷ (path ++ (10 ∷ after)))))))
regrouped name words quota path after = simp append_assoc

name_bytes : (name : List ℕ) → is_name name ≡ true → list_all is_name_byte name ≡ true
name_bytes name h = (both_true _ (list_all is_name_byte name) h).1

path_bytes : (path : List ℕ) → is_path path ≡ true → list_all is_path_byte path ≡ true
path_bytes path h = (both_true _ (list_all is_path_byte path) h).1

pub line_again : (see : ℕ → ℕ) (line : Line) (after : List ℕ) → IsLine line → line_at see (spelling line ++ after) ≡ Some (seen_line see line, after)
unfolding line_at
line_again see line after formed =
    let w = numeral line.words in
    let q = numeral line.quota in
    let tail = line.path ++ (10 ∷ after) in
    let name : field_at 32 (line.name ++ (32 ∷ (w ++ (32 ∷ (q ++ (32 ∷ tail)))))) ≡ Some (line.name, w ++ (32 ∷ (q ++ (32 ∷ tail)))) = field_again is_name_byte 32 line.name _ refl (name_bytes line.name formed.0) in
    let path : field_at 10 tail ≡ Some (line.path, after) = field_again is_path_byte 10 line.path after refl (path_bytes line.path formed.1) in
    ap (line_at see) (regrouped line.name w q line.path after)
    ∙ rw (name, number_again see line.words (32 ∷ (q ++ (32 ∷ tail))) (inr refl), number_again see line.quota (32 ∷ tail) (inr refl), path, formed.0, formed.1) refl

-- what is read as a line is the text of a line
pub record IsLineRead (see : ℕ → ℕ) (bytes : List ℕ) (read : Line) (after : List ℕ) : Type 0 where
  pub line : Line
  pub formed : IsLine line
  pub value : read ≡ seen_line see line
  pub text : bytes ≡ spelling line ++ after

-- what is read as a number and a space is the text of a number and a space
number_field_found : (see : ℕ → ℕ) (bytes : List ℕ) (m : ℕ) (after : List ℕ) → number_field see bytes ≡ Some (m, after) → IsNumberRead see bytes m (32 ∷ after)
number_field_found see bytes m after e =
    let p = bind_some (number_at see bytes) _ (m, after) e in
    let q = bind_some (behind (codes " ") p.0.1) _ (m, after) p.2 in
    let parts = some_pair_parts p.0.0 m q.0 after q.2 in
    let read = number_found see bytes p.0.0 p.0.1 p.1 in
    let space = behind_found (codes " ") p.0.1 q.0 q.1 in
    record {
      number = read.number;
      value = sym parts.0 ∙ read.value;
      text = read.text ∙ ap (λ (rest : List ℕ). numeral read.number ++ rest) (space ∙ ap (λ (rest : List ℕ). 32 ∷ rest) parts.1);
    }

text_of_parts : (a w q p text r1 r2 r3 after : List ℕ) → text ≡ a ++ (32 ∷ r1) → r1 ≡ w ++ (32 ∷ r2) → r2 ≡ q ++ (32 ∷ r3) → r3 ≡ p ++ (10 ∷ after) → text ≡ ((((((((a ++ codes " ") ++ w) ++ codes " ") ++ q) ++ codes " ") ++ p) ++ codes "\n") ++ after)
text_of_parts a w q p text r1 r2 r3 after e1 e2 e3 e4 =
    let whole : text ≡ a ++ (32 ∷ (w ++ (32 ∷ (q ++ (32 ∷ (p ++ (10 ∷ after))))))) = cc in
    whole ∙ sym (regrouped a w q p after)

abbrev made : List ℕ → ℕ → ℕ → List ℕ → List ℕ → Line × List ℕ
made name words quota path after = (record { name = name; words = words; quota = quota; path = path }, after)

made_of : (see : ℕ → ℕ) (name path : List ℕ) (m1 m2 n1 n2 : ℕ) (after : List ℕ) → m1 ≡ see n1 → m2 ≡ see n2 → made name m1 m2 path after ≡ made name (see n1) (see n2) path after
made_of see name path m1 m2 n1 n2 after p q = rw (p, q) refl

line_from : (see : ℕ → ℕ) (text a p r1 r2 r3 after : List ℕ) (m1 m2 : ℕ) → is_name a ≡ true → is_path p ≡ true → text ≡ a ++ (32 ∷ r1) → IsNumberRead see r1 m1 (32 ∷ r2) → IsNumberRead see r2 m2 (32 ∷ r3) → r3 ≡ p ++ (10 ∷ after) → IsLineRead see text (made a m1 m2 p after).0 after
line_from see text a p r1 r2 r3 after m1 m2 name path e1 n1 n2 e4 = record {
  line = record { name = a; words = n1.number; quota = n2.number; path = p };
  formed = (name, path);
  value = ap (λ (x : Line × List ℕ). x.0) (made_of see a p m1 m2 n1.number n2.number after n1.value n2.value);
  text = text_of_parts a (numeral n1.number) (numeral n2.number) p text r1 r2 r3 after e1 n1.text n2.text e4;
}

as_found : (see : ℕ → ℕ) (text : List ℕ) (x y : Line × List ℕ) → Some x ≡ Some y → IsLineRead see text x.0 x.1 → IsLineRead see text y.0 y.1
as_found see text x y e read = subst (λ (r : Line × List ℕ). IsLineRead see text r.0 r.1) (same_Some x y e) read

pub line_found : (see : ℕ → ℕ) (text : List ℕ) (m : Line) (after : List ℕ) → line_at see text ≡ Some (m, after) → IsLineRead see text m after
unfolding line_at
line_found see text m after e =
    let p1 = bind_some (field_at 32 text) _ (m, after) e in
    let p2 = bind_some (number_field see p1.0.1) _ (m, after) p1.2 in
    let p3 = bind_some (number_field see p2.0.1) _ (m, after) p2.2 in
    let p4 = bind_some (field_at 10 p3.0.1) _ (m, after) p3.2 in
    let p5 = bind_some (line_by p1.0.0 p2.0.0 p3.0.0 p4.0.0) _ (m, after) p4.2 in
    elim (cases_cond_is (is_name p1.0.0 && is_path p4.0.0) _ _ _ p5.1) [
      | inl h ↦
          let ok = both_true (is_name p1.0.0) (is_path p4.0.0) h.0 in
          let n1 = number_field_found see p1.0.1 p2.0.0 p2.0.1 p2.1 in
          let n2 = number_field_found see p2.0.1 p3.0.0 p3.0.1 p3.1 in
          let same = ap (λ (line : Option Line). line >>= (λ line. Some (line, p4.0.1))) h.1 ∙ p5.2 in
          as_found see text (made p1.0.0 p2.0.0 p3.0.0 p4.0.0 p4.0.1) (m, after) same (line_from see text p1.0.0 p4.0.0 p1.0.1 p2.0.1 p3.0.1 p4.0.1 p2.0.0 p3.0.0 ok.0 ok.1 (field_found 32 text p1.0.0 p1.0.1 p1.1) n1 n2 (field_found 10 p3.0.1 p4.0.0 p4.0.1 p4.1))
      | inr h ↦ absurd (none-some p5.0 h.1)
    ]

-- if no line is read, the text doesn't begin with a line
pub none_there : (see : ℕ → ℕ) (text : List ℕ) → line_at see text ≡ None → HasNoLine text
none_there see text none line after formed spelled =
    absurd (none-some (seen_line see line, after) (sym none ∙ ap (line_at see) spelled ∙ line_again see line after formed))
