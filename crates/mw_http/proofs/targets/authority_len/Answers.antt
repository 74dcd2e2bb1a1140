-- Goals of `authority_len` (src/targets.rt): of what comes before the query, it measures what comes before a slash.
use Rattle.std.proofs.Common.{◌≡◌, ℕ, suc, ◌+◌, ◌==◌, ◌≤◌, Bool, true, false, not, ◌&&◌, List, [], ◌∷◌, length, take, refl, sym, ap, ◌∙◌, subst, arith}
use Rattle.std.proofs.lemmas.List.Sums.{prefix_len-le-length}
use Rattle.std.specs.List.{prefix_len}
use Rattle.mw_http.specs.Targets.{authority_len, before_query}
use Rattle.mw_http.proofs.targets.authority_len.Goals as goal

both_pass : (p q : ℕ → Bool) (xs : List ℕ) → prefix_len p (take (prefix_len q xs) xs) ≡ prefix_len (λ x. p x && q x) xs
both_pass p q [] = refl
both_pass p q (x ∷ xs) = first (p x) (q x) refl refl (both_pass p q xs)
  where
    first : (s t : Bool) → p x ≡ s → q x ≡ t → prefix_len p (take (prefix_len q xs) xs) ≡ prefix_len (λ y. p y && q y) xs
        → prefix_len p (take (prefix_len q (x ∷ xs)) (x ∷ xs)) ≡ prefix_len (λ y. p y && q y) (x ∷ xs)
    first true true ps qs rest =
        let next : 1 + prefix_len q xs ≡ suc (prefix_len q xs) = omega arith in
        rw (qs, next, ps) (ap (λ (n : ℕ). 1 + n) rest)
    first false true ps qs rest =
        let next : 1 + prefix_len q xs ≡ suc (prefix_len q xs) = omega arith in
        rw (qs, next, ps) refl
    first true false ps qs rest = rw (qs, ps) refl
    first false false ps qs rest = rw (qs, ps) refl

authority : (rest : List ℕ) → prefix_len (λ byte. not (byte == 47)) (before_query rest) ≡ authority_len rest
unfolding before_query
authority rest = both_pass (λ byte. not (byte == 47)) (λ byte. not (byte == 63)) rest

pub returns-clause-authority : goal.returns-clause-authority
returns-clause-authority c =
    c.len_before.ensures.before ∙ ap (λ (text : List ℕ). prefix_len (λ byte. not (byte == 47)) text) c.before_query.ensures ∙ authority c.args.rest.now

pub returns-clause-within : goal.returns-clause-within
returns-clause-within c =
    let rest = c.args.rest.now in
    let is : c.len_before.result ≡ authority_len rest
    = c.len_before.ensures.before ∙ ap (λ (text : List ℕ). prefix_len (λ byte. not (byte == 47)) text) c.before_query.ensures ∙ authority rest in
    subst (λ (n : ℕ). n ≤ length rest) (sym is) (prefix_len-le-length (λ byte. not (byte == 47) && not (byte == 63)) rest)
