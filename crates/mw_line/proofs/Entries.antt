-- The text of a change's entries is read as those entries, and what is read as entries is their text.
-- Used by: mw_config, mw_client.
use Rattle.std.proofs.Common.{◌≡◌, ℕ, zero, suc, ◌≤◌, Bool, true, false, cond, eqb, List, [], ◌∷◌, ◌++◌, length, map, Option, Some, None, ◌⊎◌, inl, inr, refl, sym, ap, subst, ◌∙◌, arith, append_assoc, eqb-true, ne_eqb, ap₂}
use Rattle.std.specs.Prelude.{codes, flat_map}
use Rattle.std.proofs.lemmas.List.{length-append}
use Rattle.std.proofs.lemmas.Option.{none-some, same_Some}
use Rattle.mw_words.specs.declared.jobs.Entry.{Entry}
use Rattle.mw_line.specs.Number.{numeral}
use Rattle.mw_line.specs.Grammar.{entry_text, spaced}
use Rattle.mw_line.specs.LineReader.{◌>>=◌, Sight, behind, number_at, entry_at, entries_of}
use Rattle.mw_line.proofs.Digits.{Ends}
use Rattle.mw_line.proofs.Fronts.{behind_found}
use Rattle.mw_line.proofs.Numerals.{number_again, number_found, IsNumberRead}

-- the value of a step that found something
pub bind_some : {A B : Type 0} (o : Option A) (f : A → Option B) (y : B) → (o >>= f) ≡ Some y → (x : A) × (o ≡ Some x) × (f x ≡ Some y)
bind_some (Some x) f y e = (x, refl, e)
bind_some None f y e = absurd (none-some y e)

-- an entry as a reader sees it
abbrev pub seen_entry : Sight → Entry → Entry
seen_entry s e = record { addr = s.addr e.addr; expected = s.value e.expected; new = s.value e.new }

-- ---- one entry

regrouped : (a b c rest : List ℕ) → (((((a ++ codes ":") ++ b) ++ codes ":") ++ c) ++ rest) ≡ a ++ (58 ∷ (b ++ (58 ∷ (c ++ rest))))
regrouped a b c rest = simp append_assoc

pub entry_again : (s : Sight) (e : Entry) (rest : List ℕ) → Ends rest → entry_at s (entry_text e ++ rest) ≡ Some (seen_entry s e, rest)
unfolding entry_at
entry_again s e rest end =
    let a = numeral e.addr in
    let b = numeral e.expected in
    let c = numeral e.new in
    ap (entry_at s) (regrouped a b c rest)
    ∙ rw (number_again s.addr e.addr (58 ∷ (b ++ (58 ∷ (c ++ rest)))) (inr refl), number_again s.value e.expected (58 ∷ (c ++ rest)) (inr refl), number_again s.value e.new rest end) refl

made_of : (s : Sight) (e : Entry) (a x n : ℕ) → a ≡ s.addr e.addr → x ≡ s.value e.expected → n ≡ s.value e.new → (record { addr = a; expected = x; new = n }) ≡ seen_entry s e
made_of s e a x n p q r = rw (p, q, r) refl

pub record IsEntryRead (s : Sight) (bytes : List ℕ) (m : Entry) (rest : List ℕ) : Type 0 where
  pub entry : Entry
  pub value : m ≡ seen_entry s entry
  pub text : bytes ≡ entry_text entry ++ rest

text_of_parts : (a b c bytes r1 r2 r3 r4 r5 : List ℕ) → bytes ≡ a ++ r1 → r1 ≡ 58 ∷ r2 → r2 ≡ b ++ r3 → r3 ≡ 58 ∷ r4 → r4 ≡ c ++ r5 → bytes ≡ (((a ++ codes ":") ++ b) ++ codes ":") ++ c ++ r5
text_of_parts a b c bytes r1 r2 r3 r4 r5 e1 e2 e3 e4 e5 =
    let whole : bytes ≡ a ++ (58 ∷ (b ++ (58 ∷ (c ++ r5)))) = cc in
    whole ∙ sym (regrouped a b c r5)

entry_from : (s : Sight) (bytes r1 r2 r3 r4 r5 : List ℕ) (m1 m2 m3 : ℕ) → IsNumberRead s.addr bytes m1 r1 → r1 ≡ 58 ∷ r2 → IsNumberRead s.value r2 m2 r3 → r3 ≡ 58 ∷ r4 → IsNumberRead s.value r4 m3 r5 → IsEntryRead s bytes (record { addr = m1; expected = m2; new = m3 }) r5
entry_from s bytes r1 r2 r3 r4 r5 m1 m2 m3 a colon1 b colon2 c =
    let e : Entry = record { addr = a.number; expected = b.number; new = c.number } in
    record {
      entry = e;
      value = made_of s e m1 m2 m3 a.value b.value c.value;
      text = text_of_parts (numeral a.number) (numeral b.number) (numeral c.number) bytes r1 r2 r3 r4 r5 a.text colon1 b.text colon2 c.text;
    }

abbrev made : ℕ → ℕ → ℕ → List ℕ → Entry × List ℕ
made a x n after = (record { addr = a; expected = x; new = n }, after)

as_found : (s : Sight) (bytes : List ℕ) (a x n : ℕ) (m : Entry) (after rest : List ℕ) → Some (made a x n after) ≡ Some (m, rest) → IsEntryRead s bytes (record { addr = a; expected = x; new = n }) after → IsEntryRead s bytes m rest
as_found s bytes a x n m after rest e read =
    subst (λ (r : Entry × List ℕ). IsEntryRead s bytes r.0 r.1) (same_Some (made a x n after) (m, rest) e) read

pub entry_found : (s : Sight) (bytes : List ℕ) (m : Entry) (rest : List ℕ) → entry_at s bytes ≡ Some (m, rest) → IsEntryRead s bytes m rest
unfolding entry_at
entry_found s bytes m rest e =
    let p1 = bind_some (number_at s.addr bytes) _ (m, rest) e in
    let p2 = bind_some (behind (codes ":") p1.0.1) _ (m, rest) p1.2 in
    let p3 = bind_some (number_at s.value p2.0) _ (m, rest) p2.2 in
    let p4 = bind_some (behind (codes ":") p3.0.1) _ (m, rest) p3.2 in
    let p5 = bind_some (number_at s.value p4.0) _ (m, rest) p4.2 in
    let n1 = number_found s.addr bytes p1.0.0 p1.0.1 p1.1 in
    let n2 = number_found s.value p2.0 p3.0.0 p3.0.1 p3.1 in
    let n3 = number_found s.value p4.0 p5.0.0 p5.0.1 p5.1 in
    let read = entry_from s bytes p1.0.1 p2.0 p3.0.1 p4.0 p5.0.1 p1.0.0 p3.0.0 p5.0.0 n1 (behind_found (codes ":") p1.0.1 p2.0 p2.1) n2 (behind_found (codes ":") p3.0.1 p4.0 p4.1) n3 in
    as_found s bytes p1.0.0 p3.0.0 p5.0.0 m p5.0.1 rest p5.2 read

-- ---- entries to the end

ends_entries : (es : List Entry) → Ends (flat_map spaced es)
ends_entries [] = inl refl
ends_entries (e ∷ es) = inr refl

pub entries_again : (s : Sight) (k : ℕ) (es : List Entry) → length es ≤ k → entries_of s k (flat_map spaced es) ≡ Some (map (seen_entry s) es)
unfolding entries_of
entries_again s zero [] fits = refl
entries_again s zero (e ∷ es) fits = absurd (omega arith)
entries_again s (suc k) [] fits = refl
entries_again s (suc k) (e ∷ es) fits =
    let others = flat_map spaced es in
    let some : eqb (suc (length (entry_text e ++ others))) 0 ≡ false = ne_eqb _ 0 (omega arith) in
    rw (some, entry_again s e others (ends_entries es), entries_again s k es (omega arith)) refl

pub record AreEntriesRead (s : Sight) (bytes : List ℕ) (ms : List Entry) : Type 0 where
  pub entries : List Entry
  pub values : ms ≡ map (seen_entry s) entries
  pub text : bytes ≡ flat_map spaced entries

none_left : (bytes : List ℕ) (s : Sight) (ms : List Entry) → length bytes ≡ 0 → [] ≡ ms → AreEntriesRead s bytes ms
none_left [] s ms h e = record { entries = []; values = sym e; text = refl }
none_left (b ∷ bs) s ms h e = absurd (omega arith)

pub cases_cond_is : {A : Type 0} (b : Bool) (x y z : A) → cond b x y ≡ z → ((b ≡ true) × (x ≡ z)) ⊎ ((b ≡ false) × (y ≡ z))
cases_cond_is true x y z e = inl (refl, e)
cases_cond_is false x y z e = inr (refl, e)

entries_from : (s : Sight) (bytes inner after : List ℕ) (m : Entry) (others ms : List Entry) → Some (m ∷ others) ≡ Some ms → bytes ≡ 32 ∷ inner → IsEntryRead s inner m after → AreEntriesRead s after others → AreEntriesRead s bytes ms
entries_from s bytes inner after m others ms e space first rest = record {
  entries = first.entry ∷ rest.entries;
  values = sym (same_Some (m ∷ others) ms e) ∙ ap₂ (λ (x : Entry) (xs : List Entry). x ∷ xs) first.value rest.values;
  text = space ∙ ap (λ (x : List ℕ). 32 ∷ x) (first.text ∙ ap (λ (x : List ℕ). entry_text first.entry ++ x) rest.text);
}

pub entries_found : (s : Sight) (k : ℕ) (bytes : List ℕ) (ms : List Entry) → entries_of s k bytes ≡ Some ms → AreEntriesRead s bytes ms
unfolding entries_of
entries_found s zero bytes ms e =
    elim (cases_cond_is (eqb (length bytes) 0) _ _ _ e) [
      | inl h ↦ none_left bytes s ms (eqb-true _ 0 h.0) (same_Some [] ms h.1)
      | inr h ↦ absurd (none-some ms h.1)
    ]
entries_found s (suc k) bytes ms e =
    elim (cases_cond_is (eqb (length bytes) 0) _ _ _ e) [
      | inl h ↦ none_left bytes s ms (eqb-true _ 0 h.0) (same_Some [] ms h.1)
      | inr h ↦
          let p1 = bind_some (behind (codes " ") bytes) _ ms h.1 in
          let p2 = bind_some (entry_at s p1.0) _ ms p1.2 in
          let p3 = bind_some (entries_of s k p2.0.1) _ ms p2.2 in
          let first = entry_found s p1.0 p2.0.0 p2.0.1 p2.1 in
          let others = entries_found s k p2.0.1 p3.0 p3.1 in
          let space = behind_found (codes " ") bytes p1.0 p1.1 in
          entries_from s bytes p1.0 p2.0.1 p2.0.0 p3.0 ms p3.2 space first others
    ]

-- a list of entries has no more entries than its text has bytes
pub length_entries : (es : List Entry) → length es ≤ length (flat_map spaced es)
length_entries [] = omega arith
length_entries (e ∷ es) =
    omega (arith, length_entries es, length-append (entry_text e) (flat_map spaced es))
