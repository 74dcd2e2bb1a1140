-- A store alone stays sound (its jobs well formed, its change in doubt of words that are there) when one of its parts
-- changes.
-- Used by: KeptRuns, many crates from mw_plain on.
use Rattle.std.specs.Prelude.{ℕ, zero, suc, ◌≡◌, ◌≢◌, ◌<◌, ◌≤◌, ◌&&◌, Bool, true, false, cond, List, [], ◌∷◌, length, nat_le, Some, IsTrue}
use Rattle.std.proofs.Common.{refl, sym, ap, subst, ◌∙◌, arith, inl, inr, eqb}
use Rattle.std.proofs.Math.ListN.{set, length-set}
use Rattle.std.proofs.lemmas.Bool.{cases_eq}
use Rattle.std.proofs.lemmas.Bool.Decides.{nat_tests}
use Rattle.std.proofs.lemmas.Cmp.{nat_cmp_total}
use Rattle.std.proofs.lemmas.Option.{none-some, same_Some}
use Rattle.std.specs.Cmp.{unsigned_tied}
use Rattle.std.specs.List.{list_all, slice_get}
use Rattle.std.specs.Ordering.{nat_cmp}
use Rattle.std.specs.FinMap as map
use Rattle.mw_words.specs.declared.jobs.Entry.{Entry}
use Rattle.mw_words.specs.declared.jobs.Job.{Job}
use Rattle.mw_words.specs.declared.jobs.Job.TheVariants.{Get, Cas}
use Rattle.mw_words.specs.declared.limits.TheConstants.{MAX_ENTRIES, MAX_VALUE}
use Rattle.mw_words.specs.Change.{is_in_range, is_well_formed, put, rises}
use Rattle.mw_lone.specs.Store.{RequestState, entries_of}
use Rattle.mw_lone.specs.Sound.{IsSound}

-- requests under their numbers
abbrev pub Requests : Type 0
Requests = map.FinMap nat_cmp RequestState

-- the number that was inserted has what was inserted
pub get-insert_same : (m : Requests) (k q : ℕ) (r : RequestState) → q ≡ k → map.get (map.insert m k r) q ≡ Some r
get-insert_same m k q r e =
    let same : eqb q k ≡ true = grind (arith, nat_tests) in
    map.get-insert nat_cmp_total m k r q ∙ ap (λ b. cond b (Some r) (map.get m q)) (unsigned_tied q k ∙ same)

-- any other number has what it had
pub get-insert_other : (m : Requests) (k q : ℕ) (r : RequestState) → q ≢ k → map.get (map.insert m k r) q ≡ map.get m q
get-insert_other m k q r e =
    let other : eqb q k ≡ false = grind (arith, nat_tests) in
    map.get-insert nat_cmp_total m k r q ∙ ap (λ b. cond b (Some r) (map.get m q)) (unsigned_tied q k ∙ other)

-- nothing was asked, and nothing is in doubt
pub sound-new_store : (words : List ℕ) (in_doubt : List Entry) → in_doubt ≡ [] → IsSound words map.empty in_doubt
sound-new_store words in_doubt e = record {
  jobs = λ n r h. absurd (none-some r (sym (map.get-empty nat_cmp n) ∙ h));
  doubts = subst (λ es. IsTrue (list_all (is_in_range (length words)) es)) (sym e) refl;
}

-- a request whose job is well formed is written
pub sound-insert : (words : List ℕ) (m : Requests) (in_doubt : List Entry) (n : ℕ) (r : RequestState) → IsTrue (is_well_formed (length words) r.job) → IsSound words m in_doubt → IsSound words (map.insert m n r) in_doubt
sound-insert words m in_doubt n r fine s = record {
  jobs = λ q x h. elim (cases_eq q n) [
    | inl e ↦ let same : r ≡ x = same_Some r x (sym (get-insert_same m n q r e) ∙ h) in subst (λ (y : RequestState). IsTrue (is_well_formed (length words) y.job)) same fine
    | inr other ↦ s.jobs q x (sym (get-insert_other m n q r other) ∙ h)
  ];
  doubts = s.doubts;
}

-- the words change, but not how many they are
pub sound-words : (words after : List ℕ) (m : Requests) (in_doubt : List Entry) → length after ≡ length words → IsSound words m in_doubt → IsSound after m in_doubt
sound-words words after m in_doubt e s = record {
  jobs = λ n r h. subst (λ k. IsTrue (is_well_formed k r.job)) (sym e) (s.jobs n r h);
  doubts = subst (λ k. IsTrue (list_all (is_in_range k) in_doubt)) (sym e) s.doubts;
}

-- other entries are in doubt
pub sound-in_doubt : (words : List ℕ) (m : Requests) (in_doubt after : List Entry) → IsTrue (list_all (is_in_range (length words)) after) → IsSound words m in_doubt → IsSound words m after
sound-in_doubt words m in_doubt after fine s = record { jobs = s.jobs; doubts = fine }

-- a change leaves as many words
pub length-put : (words : List ℕ) (es : List Entry) → length (put words es) ≡ length words
length-put words [] = refl
length-put words (e ∷ es) = length-put (set words e.addr e.new) es ∙ length-set words e.addr e.new

and_third : (a b c d : Bool) → IsTrue (a && b && c && d) → IsTrue c
and_third true true true d h = refl
and_third true true false d h = absurd (cc)
and_third true false c d h = absurd (cc)
and_third false b c d h = absurd (cc)

-- the entries of a well-formed job are of words that are there
pub entries-fit : (n : ℕ) (job : Job) → IsTrue (is_well_formed n job) → IsTrue (list_all (is_in_range n) (entries_of job))
entries-fit n (Get addr) h = refl
entries-fit n (Cas entries) h = and_third (nat_le 1 (length entries.items)) (nat_le (length entries.items) MAX_ENTRIES) (list_all (is_in_range n) entries.items) (rises entries.items) h

-- the new value of an entry in range is a value of a word
pub new_fits : (n : ℕ) (e : Entry) → is_in_range n e ≡ true → e.new ≤ MAX_VALUE
new_fits n e h = grind (arith, nat_tests)

addr_fits : (n : ℕ) (e : Entry) → is_in_range n e ≡ true → e.addr < n
addr_fits n e h = grind (arith, nat_tests)

-- each of the entries is of a word that is there
pub entry-fits : (n : ℕ) (es : List Entry) (i : ℕ) (e : Entry) → IsTrue (list_all (is_in_range n) es) → slice_get es i ≡ Some e → e.addr < n
entry-fits n [] i e h at = absurd (none-some e at)
entry-fits n (x ∷ es) zero e h at =
    let same : x ≡ e = same_Some x e at in
    let fits : is_in_range n x ≡ true = grind arith in
    subst (λ (y : Entry). y.addr < n) same (addr_fits n x fits)
entry-fits n (x ∷ es) (suc i) e h at =
    let rest : list_all (is_in_range n) es ≡ true = grind arith in
    entry-fits n es i e rest at
