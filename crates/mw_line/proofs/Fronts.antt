-- `behind` gives the rest exactly if the bytes begin with the text. `field_at` gives the field before its first end byte, and
-- the rest.
-- Used by: `behind`, `field`, mw_config, mw_client.
use Rattle.std.proofs.Common.{◌≡◌, ℕ, suc, Bool, true, false, cond, eqb, ltb, List, [], ◌∷◌, ◌++◌, length, take, drop, Option, Some, None, MatchOption, refl, sym, ap, ◌⊎◌, inl, inr, arith, ◌&&◌, ◌+◌, Bor, eqb-true, eq-eqb, lt-ltb, le-ltb}
use Rattle.std.specs.Prelude.{option_map, position}
use Rattle.std.specs.List.{position_or_len}
use Rattle.std.specs.Cmp.Lexicographic.{pointwise}
use Rattle.std.proofs.lemmas.Bool.{cases_lt}
use Rattle.mw_line.specs.LineReader.{◌>>=◌, Gives, behind, field_at}

one_more : {A : Type 0} (same rest : Bool) (x : A) (read : Option A) → read ≡ cond rest (Some x) None → cond same read None ≡ cond (same && rest) (Some x) None
one_more true rest x read e = e
one_more false rest x read e = refl

pub behind_is : (t b : List ℕ) → behind t b ≡ cond (pointwise eqb (take (length t) b) t) (Some (drop (length t) b)) None
behind_is [] b = refl
behind_is (t ∷ ts) [] = refl
behind_is (t ∷ ts) (b ∷ bs) = one_more (eqb b t) (pointwise eqb (take (length ts) bs) ts) (drop (length ts) bs) (behind ts bs) (behind_is ts bs)

pub gives_behind : (t b : List ℕ) (r : Option (Bor (List ℕ))) → MatchOption r (pointwise eqb (take (length t) b) t ≡ false) (λ x. (pointwise eqb (take (length t) b) t ≡ true) × (x.now ≡ drop (length t) b) × (length x.now + length t ≡ length b)) → Gives (λ x. x.now) r (behind t b)
gives_behind t b None h = rw (behind_is, h) refl
gives_behind t b (Some x) h = rw (behind_is, h.0, h.1) refl

taken : {A : Type 0} (same : Bool) (read : Option A) (x : A) → cond same read None ≡ Some x → (same ≡ true) × (read ≡ Some x)
taken true read x e = (refl, e)
taken false read x e = absurd cc

-- what is read after a text follows it
pub behind_found : (t b rest : List ℕ) → behind t b ≡ Some rest → b ≡ t ++ rest
behind_found [] b rest e = cc
behind_found (t ∷ ts) [] rest e = absurd cc
behind_found (t ∷ ts) (b ∷ bs) rest e =
    let h = taken (eqb b t) (behind ts bs) rest e in
    let same : b ≡ t = eqb-true b t h.0 in
    let others : bs ≡ ts ++ rest = behind_found ts bs rest h.1 in
    cc

pub behind_text : (t rest : List ℕ) → behind t (t ++ rest) ≡ Some rest
behind_text [] rest = refl
behind_text (t ∷ ts) rest = rw (eq-eqb t t refl) (behind_text ts rest)

pub cases_eqb : (a b : ℕ) → (eqb a b ≡ true) ⊎ (eqb a b ≡ false)
cases_eqb a b = elim (eqb a b) as (λ v. (v ≡ true) ⊎ (v ≡ false)) [ true ↦ inl refl | false ↦ inr refl ]

-- ---- a field, by the place of its end

-- the field before the end at this place, and the bytes after the end
abbrev pub cut_at : List ℕ → ℕ → List ℕ × List ℕ
cut_at bytes k = (take k bytes, drop (k + 1) bytes)

one_further : (b : ℕ) (bs : List ℕ) (n k : ℕ) → k ≡ suc n → (option_map (cut_at bs) (cond (ltb n (length bs)) (Some n) None) >>= λ r. Some (b ∷ r.0, r.1)) ≡ option_map (cut_at (b ∷ bs)) (cond (ltb k (length (b ∷ bs))) (Some k) None)
one_further b bs n k next =
    let place : suc n + 1 ≡ suc (n + 1) = omega arith in
    elim (cases_lt n (length bs)) [
      | inl low ↦ rw (next, lt-ltb n (length bs) low, lt-ltb (suc n) (suc (length bs)) (omega arith)) (ap (λ (k : ℕ). Some (b ∷ take n bs, drop k (b ∷ bs))) (sym place))
      | inr high ↦ rw (next, le-ltb n (length bs) high, le-ltb (suc n) (suc (length bs)) (omega arith)) refl
    ]

pub field_by_place : (end : ℕ) (bytes : List ℕ) → field_at end bytes ≡ option_map (cut_at bytes) (position (λ b. eqb b end) bytes)
field_by_place end [] = refl
field_by_place end (b ∷ bs) =
    elim (cases_eqb b end) [
      | inl same ↦ rw (same, lt-ltb 0 (suc (length bs)) (omega arith)) refl
      | inr other ↦ rw (other, field_by_place end bs) (one_further b bs (position_or_len (λ x. eqb x end) bs) _ (omega arith))
    ]
