-- A job that some tenant may ask for is well formed for a tenant if its last address is below the tenant's number of words.
-- Used by: `reaches`.
use Rattle.std.proofs.Common.{◌≡◌, ℕ, zero, suc, ◌+◌, ◌-◌, ◌<◌, ◌≤◌, Bool, true, false, ◌&&◌, List, [], ◌∷◌, length, nat_le, nat_lt, Some, slice_get, IsTrue, refl, sym, ap, subst, ◌∙◌, inl, inr, arith, leb-true, lt-ltb, le-ltb}
use Rattle.std.specs.List.{list_all}
use Rattle.std.proofs.lemmas.Bool.{and_parts, cases_lt}
use Rattle.std.proofs.lemmas.Option.{same_Some}
use Rattle.arrayvec.specs.ArrayVec.{ArrayVec}
use Rattle.mw_words.specs.declared.limits.TheConstants.{MAX_ENTRIES, MAX_VALUE, MAX_WORDS}
use Rattle.mw_words.specs.declared.jobs.Entry.{Entry}
use Rattle.mw_words.specs.declared.jobs.Job.{Job}
use Rattle.mw_words.specs.declared.jobs.Job.TheVariants.{Get, Cas}
use Rattle.mw_words.specs.Change.{is_in_range, is_well_formed, rises, rises_from}
use Rattle.mw_session.specs.Talk.{reaches}

abbrev is_below : ℕ → Entry → Bool
is_below words e = nat_lt e.addr words

and_true : (b : Bool) → (b && true) ≡ b
and_true true = refl
and_true false = refl

in_range : (words : ℕ) (e : Entry) → is_in_range MAX_WORDS e ≡ true → is_in_range words e ≡ is_below words e
in_range words e h =
    let parts = and_parts (nat_lt e.addr MAX_WORDS && nat_le e.expected MAX_VALUE) (nat_le e.new MAX_VALUE) h in
    let more = and_parts (nat_lt e.addr MAX_WORDS) (nat_le e.expected MAX_VALUE) parts.0 in
    rw (more.1, parts.1) (and_true (nat_lt e.addr words && true) ∙ and_true (nat_lt e.addr words))

all_in_range : (words : ℕ) (es : List Entry) → list_all (is_in_range MAX_WORDS) es ≡ true → list_all (is_in_range words) es ≡ list_all (is_below words) es
all_in_range words [] h = refl
all_in_range words (e ∷ es) h =
    let parts = and_parts (is_in_range MAX_WORDS e) (list_all (is_in_range MAX_WORDS) es) h in
    rw (in_range words e parts.0, all_in_range words es parts.1) refl

formed : (words : ℕ) (wanted : Job) → is_well_formed MAX_WORDS wanted ≡ true → is_well_formed words wanted ≡ reaches words wanted
formed words (Get addr) h = refl
formed words (Cas entries) h =
    let es = entries.items in
    let a = nat_le 1 (length es) in
    let b = nat_le (length es) MAX_ENTRIES in
    let c = list_all (is_in_range MAX_WORDS) es in
    let last = and_parts (a && b && c) (rises es) h in
    let third = and_parts (a && b) c last.0 in
    let first = and_parts a b third.0 in
    rw (last.1, first.0, first.1) (and_true (list_all (is_in_range words) es) ∙ all_in_range words es third.1)

-- a job that is well formed for the most words, with addresses below a tenant's words, is well formed for these words
pub reaching_is_formed : (words : ℕ) (wanted : Job) → IsTrue (is_well_formed MAX_WORDS wanted) → reaches words wanted ≡ true → IsTrue (is_well_formed words wanted)
reaching_is_formed words wanted h is = formed words wanted h ∙ is

-- ---- the last address decides

and_false : (b : Bool) → (b && false) ≡ false
and_false true = refl
and_false false = refl

lower_is_below : (a b words : ℕ) → a < b → (nat_lt a words && nat_lt b words) ≡ nat_lt b words
lower_is_below a b words h =
    elim (cases_lt b words) [
      | inl low ↦ rw (lt-ltb a words (omega arith), lt-ltb b words low) refl
      | inr high ↦ rw (le-ltb b words high) (and_false (nat_lt a words))
    ]

last_is_above : (lowest : ℕ) (es : List Entry) (k : ℕ) (last : Entry) → suc k ≡ length es → slice_get es k ≡ Some last → rises_from lowest es ≡ true → lowest ≤ last.addr
last_is_above lowest [] k last long found rise = absurd (omega arith)
last_is_above lowest (e ∷ es) zero last long found rise =
    let parts = and_parts (nat_le lowest e.addr) (rises_from (e.addr + 1) es) rise in
    subst (λ (x : Entry). lowest ≤ x.addr) (same_Some e last found) (leb-true lowest e.addr parts.0)
last_is_above lowest (e ∷ es) (suc k) last long found rise =
    let parts = and_parts (nat_le lowest e.addr) (rises_from (e.addr + 1) es) rise in
    omega (arith, leb-true lowest e.addr parts.0, last_is_above (e.addr + 1) es k last (omega arith) found parts.1)

last_decides : (words lowest : ℕ) (es : List Entry) (k : ℕ) (last : Entry) → suc k ≡ length es → slice_get es k ≡ Some last → rises_from lowest es ≡ true → list_all (is_below words) es ≡ nat_lt last.addr words
last_decides words lowest [] k last long found rise = absurd (omega arith)
last_decides words lowest (e ∷ []) zero last long found rise = and_true (nat_lt e.addr words) ∙ ap (λ (x : Entry). nat_lt x.addr words) (same_Some e last found)
last_decides words lowest (e ∷ f ∷ es) zero last long found rise = absurd (omega arith)
last_decides words lowest (e ∷ es) (suc k) last long found rise =
    let parts = and_parts (nat_le lowest e.addr) (rises_from (e.addr + 1) es) rise in
    let others = last_decides words (e.addr + 1) es k last (omega arith) found parts.1 in
    let higher = last_is_above (e.addr + 1) es k last (omega arith) found parts.1 in
    ap (λ (b : Bool). nat_lt e.addr words && b) others ∙ lower_is_below e.addr last.addr words (omega arith)

-- a change has an entry, and its addresses rise
some_that_rise : (words : ℕ) (entries : ArrayVec Entry) → is_well_formed words (Cas entries) ≡ true → (1 ≤ length entries.items) × (rises entries.items ≡ true)
some_that_rise words entries h =
    let es = entries.items in
    let a = nat_le 1 (length es) in
    let b = nat_le (length es) MAX_ENTRIES in
    let c = list_all (is_in_range words) es in
    let last = and_parts (a && b && c) (rises es) h in
    let third = and_parts (a && b) c last.0 in
    (leb-true 1 (length es) (and_parts a b third.0).0, last.1)

pub last_tells : (words : ℕ) (wanted : Job) (entries : ArrayVec Entry) (last : Entry) → IsTrue (is_well_formed MAX_WORDS wanted) → wanted ≡ Cas entries
    → Some last ≡ slice_get entries.items (length entries.items - 1) → nat_lt last.addr words ≡ reaches words wanted
last_tells words wanted entries last h is found =
    let some = some_that_rise MAX_WORDS entries (subst (λ (j : Job). is_well_formed MAX_WORDS j ≡ true) is h) in
    sym (ap (reaches words) is ∙ last_decides words 0 entries.items (length entries.items - 1) last (omega (arith, some.0)) (sym found) some.1)
