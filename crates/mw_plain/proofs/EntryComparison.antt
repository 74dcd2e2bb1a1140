-- If the first entries of a change have their expected values, and the next one has, then one more has.
-- Used by: `first_miss`.
use Rattle.std.proofs.Common.{◌≡◌, ℕ, zero, suc, ◌+◌, ◌<◌, ◌==◌, true, List, [], ◌∷◌, length, take, get_or, refl, sym, subst, add-one, arith}
use Rattle.std.proofs.lemmas.Bool.{and_parts, and_from}
use Rattle.std.proofs.lemmas.Bool.Decides.{nat_tests}
use Rattle.mw_words.specs.declared.jobs.Entry.{Entry}
use Rattle.mw_words.specs.Change.{fits, word_at}

all_before : (words : List ℕ) (entries : List Entry) (i : ℕ) (d : Entry) → i < length entries → fits words (take i entries) ≡ true
    → word_at words (get_or entries i d).addr ≡ (get_or entries i d).expected → fits words (take (suc i) entries) ≡ true
all_before words [] i d lt before here = absurd (let no : ⊥ = omega (arith, lt) in no)
all_before words (e ∷ entries) zero d lt before here = let same : word_at words e.addr == e.expected ≡ true = grind (arith, nat_tests) in and_from _ _ same refl
all_before words (e ∷ entries) (suc i) d lt before here =
    let parts = and_parts _ _ before in
    and_from _ _ parts.0 (all_before words entries i d (omega (arith, lt)) parts.1 here)

-- if the first entries fit and the next one does, one more fits
pub one_more_fits : (words : List ℕ) (entries : List Entry) (i : ℕ) (d : Entry) → i < length entries → fits words (take i entries) ≡ true
    → word_at words (get_or entries i d).addr ≡ (get_or entries i d).expected → fits words (take (i + 1) entries) ≡ true
one_more_fits words entries i d lt before here = subst (λ n. fits words (take n entries) ≡ true) (sym (add-one i)) (all_before words entries i d lt before here)
