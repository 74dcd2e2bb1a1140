-- A command's text is read as that command, and what is read as a command is its text. So a line says one command.
-- Used by: one_spelling.
use Rattle.std.proofs.Common.{◌≡◌, ℕ, ◌<◌, eqb, List, [], ◌∷◌, ◌++◌, length, map, Option, Some, None, ◌⊎◌, inl, inr, refl, sym, ap, ◌∙◌, arith, append-nil, eqb-true, ne_eqb, map-id}
use Rattle.std.specs.Prelude.{codes, flat_map, bytes_eq}
use Rattle.std.proofs.lemmas.Bool.{eqb-false}
use Rattle.std.proofs.lemmas.List.{nil_from_length}
use Rattle.std.proofs.lemmas.Option.{none-some, same_Some, cond_some}
use Rattle.std.proofs.lemmas.Slice.Eq.{bytes_eq-Decides}
use Rattle.mw_words.specs.declared.jobs.Entry.{Entry}
use Rattle.mw_words.specs.Name.{is_name}
use Rattle.mw_line.specs.Number.{numeral}
use Rattle.mw_line.specs.Grammar.{Command, Tenant, Admin, Get, Cas, Report, Quit, spaced, spelling, IsCommand, Spells}
use Rattle.mw_line.specs.LineReader.{Sight, plain, behind, number_at, entries_of, tenant_of, get_of, cas_of, word_of, read_behind, reading}
use Rattle.mw_line.proofs.Fronts.{behind_found}
use Rattle.mw_line.proofs.Numerals.{number_again, number_found}
use Rattle.mw_line.proofs.Entries.{seen_entry, bind_some, entries_again, entries_found, length_entries, cases_cond_is}

-- a command as a reader sees it
abbrev pub seen_command : Sight → Command → Command
seen_command s (Tenant name) = Tenant name
seen_command s Admin = Admin
seen_command s (Get addr) = Get (s.addr addr)
seen_command s (Cas entries) = Cas (map (seen_entry s) entries)
seen_command s Report = Report
seen_command s Quit = Quit

-- ---- the text of a command is read

get_again : (s : Sight) (addr : ℕ) → get_of s (numeral addr) ≡ Some (Get (s.addr addr))
unfolding get_of
get_again s addr = ap (get_of s) (sym (append-nil (numeral addr))) ∙ rw (number_again s.addr addr [] (inl refl)) refl

cas_again : (s : Sight) (es : List Entry) → 0 < length es → cas_of s (flat_map spaced es) ≡ Some (Cas (map (seen_entry s) es))
unfolding cas_of
cas_again s es some =
    let long = length_entries es in
    rw (ne_eqb (length (flat_map spaced es)) 0 (omega arith), entries_again s (length (flat_map spaced es)) es long) refl

again : (s : Sight) (c : Command) → IsCommand c → reading s (spelling c) ≡ Some (seen_command s c)
unfolding reading tenant_of word_of
again s (Tenant name) h = rw h refl
again s Admin h = refl
again s (Get addr) h = get_again s addr
again s (Cas entries) h = cas_again s entries h
again s Report h = refl
again s Quit h = refl

pub reading_again : (s : Sight) (c : Command) (line : List ℕ) → Spells c line → reading s line ≡ Some (seen_command s c)
reading_again s c line h = ap (reading s) h.1 ∙ again s c h.0

-- ---- what is read is the text of a command

pub record IsRead (s : Sight) (line : List ℕ) (m : Command) : Type 0 where
  pub command : Command
  pub value : m ≡ seen_command s command
  pub spells : Spells command line

read_behind_is : (o : Option (List ℕ)) (read : List ℕ → Option Command) (other : Option Command) (m : Command) → read_behind o read other ≡ Some m → ((rest : List ℕ) × (o ≡ Some rest) × (read rest ≡ Some m)) ⊎ (other ≡ Some m)
read_behind_is (Some rest) read other m e = inl (rest, refl, e)
read_behind_is None read other m e = inr e

tenant_found : (s : Sight) (line rest : List ℕ) (m : Command) → line ≡ codes "TENANT " ++ rest → tenant_of rest ≡ Some m → IsRead s line m
unfolding tenant_of
tenant_found s line rest m text e =
    let h = cond_some (is_name rest) (Tenant rest) m e in
    record { command = Tenant rest; value = sym h.1; spells = (h.0, text) }

get_found : (s : Sight) (line rest : List ℕ) (m : Command) → line ≡ codes "GET " ++ rest → get_of s rest ≡ Some m → IsRead s line m
unfolding get_of
get_found s line rest m text e =
    let p = bind_some (number_at s.addr rest) _ m e in
    let h = cond_some (eqb (length p.0.1) 0) (Get p.0.0) m p.2 in
    let n = number_found s.addr rest p.0.0 p.0.1 p.1 in
    let nothing : p.0.1 ≡ [] = nil_from_length p.0.1 (eqb-true _ 0 h.0) in
    let number : rest ≡ numeral n.number = n.text ∙ ap (λ (x : List ℕ). numeral n.number ++ x) nothing ∙ append-nil (numeral n.number) in
    record { command = Get n.number; value = sym h.1 ∙ ap Get n.value; spells = (tt, text ∙ ap (λ (x : List ℕ). codes "GET " ++ x) number) }

some_entries : (rest : List ℕ) (es : List Entry) → (length rest ≡ 0 → ⊥) → rest ≡ flat_map spaced es → 0 < length es
some_entries rest [] some text = absurd (some (ap length text))
some_entries rest (e ∷ es) some text = omega arith

cas_found : (s : Sight) (line rest : List ℕ) (m : Command) → line ≡ codes "CAS" ++ rest → cas_of s rest ≡ Some m → IsRead s line m
unfolding cas_of
cas_found s line rest m text e =
    elim (cases_cond_is (eqb (length rest) 0) _ _ _ e) [
      | inl h ↦ absurd (none-some m h.1)
      | inr h ↦
          let p = bind_some (entries_of s (length rest) rest) _ m h.1 in
          let es = entries_found s (length rest) rest p.0 p.1 in
          record {
            command = Cas es.entries;
            value = sym (same_Some (Cas p.0) m p.2) ∙ ap Cas es.values;
            spells = (some_entries rest es.entries (eqb-false (length rest) 0 h.0) es.text, text ∙ ap (λ (x : List ℕ). codes "CAS" ++ x) es.text);
          }
    ]

word_found : (s : Sight) (line : List ℕ) (m : Command) → word_of line ≡ Some m → IsRead s line m
unfolding word_of
word_found s line m e =
    elim (cases_cond_is (bytes_eq line (codes "ADMIN")) _ _ _ e) [
      | inl h ↦ record { command = Admin; value = sym (same_Some Admin m h.1); spells = (tt, (bytes_eq-Decides line (codes "ADMIN")).0 h.0) }
      | inr h ↦
          elim (cases_cond_is (bytes_eq line (codes "REPORT")) _ _ _ h.1) [
            | inl g ↦ record { command = Report; value = sym (same_Some Report m g.1); spells = (tt, (bytes_eq-Decides line (codes "REPORT")).0 g.0) }
            | inr g ↦
                let q = cond_some (bytes_eq line (codes "QUIT")) Quit m g.1 in
                record { command = Quit; value = sym q.1; spells = (tt, (bytes_eq-Decides line (codes "QUIT")).0 q.0) }
          ]
    ]

pub reading_found : (s : Sight) (line : List ℕ) (m : Command) → reading s line ≡ Some m → IsRead s line m
unfolding reading
reading_found s line m e =
    elim (read_behind_is (behind (codes "TENANT ") line) tenant_of _ m e) [
      | inl h ↦ tenant_found s line h.0 m (behind_found (codes "TENANT ") line h.0 h.1) h.2
      | inr e1 ↦
          elim (read_behind_is (behind (codes "GET ") line) (get_of s) _ m e1) [
            | inl h ↦ get_found s line h.0 m (behind_found (codes "GET ") line h.0 h.1) h.2
            | inr e2 ↦
                elim (read_behind_is (behind (codes "CAS") line) (cas_of s) _ m e2) [
                  | inl h ↦ cas_found s line h.0 m (behind_found (codes "CAS") line h.0 h.1) h.2
                  | inr e3 ↦ word_found s line m e3
                ]
          ]
    ]

-- ---- a line says one command

as_it_is : (c : Command) → seen_command plain c ≡ c
as_it_is (Tenant name) = refl
as_it_is Admin = refl
as_it_is (Get addr) = refl
as_it_is (Cas entries) = ap Cas (map-id entries)
as_it_is Report = refl
as_it_is Quit = refl

pub one_command : (c d : Command) (line : List ℕ) → Spells c line → Spells d line → c ≡ d
one_command c d line hc hd =
    let both : Some (seen_command plain c) ≡ Some (seen_command plain d) = sym (reading_again plain c line hc) ∙ reading_again plain d line hd in
    sym (as_it_is c) ∙ same_Some _ _ both ∙ as_it_is d
