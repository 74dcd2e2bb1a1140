-- A change of the list of requests that `Requests` keeps is the same change of the map from request numbers in `specs/Store`.
-- Used by: calls of Requests.
use Rattle.std.proofs.Common.{◌≡◌, ◌≢◌, ℕ, zero, suc, ◌+◌, ◌-◌, ◌<◌, ◌≤◌, Bool, true, false, cond, ◌&&◌, List, [], ◌∷◌, ◌++◌, length, refl, sym, ap, ◌∙◌, arith, Option, Some, None, inl, inr, length-append, get_or, IsSome, IsSomeAnd, IfSome, subst}
use Rattle.std.proofs.lemmas.Option.{none-some, same_Some, slice_get_within, slice_get_past, slice_get_read, get_or_from_slice_get}
use Rattle.std.proofs.lemmas.Bool.{cases_lt, cases_eq}
use Rattle.std.proofs.Math.ListN.{set, length-set}
use Rattle.std.specs.List.{slice_get}
use Rattle.std.specs.Slice.{IsItemAt}
use Rattle.std.specs.Borrow.{Bor}
use Rattle.std.specs.Option.{option_map}
use Rattle.std.specs.Ordering.{nat_cmp}
use Rattle.std.proofs.lemmas.Cmp.{nat_cmp_total}
use Rattle.std.proofs.lemmas.Bool.Decides.{nat_tests}
use Rattle.std.specs.FinMap as map
use Rattle.std.specs.FinMap.{nat_cmp-IsAntisymmetric}
use Rattle.mw_plain.specs.declared.asked.Request.{Request as Kept}
use Rattle.mw_lone.specs.Store.{RequestState}
use Rattle.mw_lone.proofs.SoundStores.{Requests, get-insert_same, get-insert_other}
use Rattle.mw_plain.specs.Asked.{Asked, seen, numbered, holds_slot}
use Rattle.std.proofs.lemmas.List.Sums.{sum_by-set}
use Rattle.std.specs.List.{count_by}

-- a number below the first has no request
pub numbered-below : (first : ℕ) (rs : List Kept) (n : ℕ) → n < first → map.get (numbered first rs) n ≡ None
numbered-below first [] n h = map.get-empty nat_cmp n
numbered-below first (r ∷ rs) n h = get-insert_other (numbered (first + 1) rs) first n (seen r) (omega arith) ∙ numbered-below (first + 1) rs n (omega arith)

-- the numbers from the first on have the list's requests, in order
pub numbered-at : (first : ℕ) (rs : List Kept) (i : ℕ) → map.get (numbered first rs) (first + i) ≡ option_map seen (slice_get rs i)
numbered-at first [] i = map.get-empty nat_cmp (first + i)
numbered-at first (r ∷ rs) zero = get-insert_same (numbered (first + 1) rs) first (first + 0) (seen r) (omega arith)
numbered-at first (r ∷ rs) (suc i) =
    let same : first + suc i ≡ (first + 1) + i = omega arith in
    get-insert_other (numbered (first + 1) rs) first (first + suc i) (seen r) (omega arith) ∙ ap (map.get (numbered (first + 1) rs)) same ∙ numbered-at (first + 1) rs i

pub numbered-get : (first : ℕ) (rs : List Kept) (n : ℕ) → first ≤ n → map.get (numbered first rs) n ≡ option_map seen (slice_get rs (n - first))
numbered-get first rs n h = let e : n ≡ first + (n - first) = omega arith in ap (map.get (numbered first rs)) e ∙ numbered-at first rs (n - first)

-- a map with these answers is the list's map
same_answers : (first : ℕ) (rs : List Kept) (m : Requests) → ((n : ℕ) → n < first → map.get m n ≡ None) → ((i : ℕ) → map.get m (first + i) ≡ option_map seen (slice_get rs i)) → (q : ℕ) → map.get (numbered first rs) q ≡ map.get m q
same_answers first rs m below at q =
    elim (cases_lt q first) [
      | inl h ↦ numbered-below first rs q h ∙ sym (below q h)
      | inr h ↦ let e : q ≡ first + (q - first) = omega arith in ap (map.get (numbered first rs)) e ∙ numbered-at first rs (q - first) ∙ sym (at (q - first)) ∙ sym (ap (map.get m) e)
    ]

numbered-is : (first : ℕ) (rs : List Kept) (m : Requests) → ((n : ℕ) → n < first → map.get m n ≡ None) → ((i : ℕ) → map.get m (first + i) ≡ option_map seen (slice_get rs i)) → numbered first rs ≡ m
numbered-is first rs m below at = map.same_map nat_cmp_total nat_cmp-IsAntisymmetric (numbered first rs) m (same_answers first rs m below at)

slice_get-set_same : (rs : List Kept) (i : ℕ) (r : Kept) → i < length rs → slice_get (set rs i r) i ≡ Some r
slice_get-set_same [] i r h = absurd (omega arith)
slice_get-set_same (x ∷ rs) zero r h = refl
slice_get-set_same (x ∷ rs) (suc i) r h = slice_get-set_same rs i r (omega arith)

slice_get-set_other : (rs : List Kept) (i j : ℕ) (r : Kept) → j ≢ i → slice_get (set rs i r) j ≡ slice_get rs j
slice_get-set_other [] i j r h = refl
slice_get-set_other (x ∷ rs) zero zero r h = absurd (h refl)
slice_get-set_other (x ∷ rs) zero (suc j) r h = refl
slice_get-set_other (x ∷ rs) (suc i) zero r h = refl
slice_get-set_other (x ∷ rs) (suc i) (suc j) r h = slice_get-set_other rs i j r (λ e. h (omega arith))

slice_get-push_last : (rs : List Kept) (r : Kept) → slice_get (rs ++ r ∷ []) (length rs) ≡ Some r
slice_get-push_last [] r = refl
slice_get-push_last (x ∷ rs) r = slice_get-push_last rs r

slice_get-push_other : (rs : List Kept) (j : ℕ) (r : Kept) → j ≢ length rs → slice_get (rs ++ r ∷ []) j ≡ slice_get rs j
slice_get-push_other [] zero r h = absurd (h refl)
slice_get-push_other [] (suc j) r h = refl
slice_get-push_other (x ∷ rs) zero r h = refl
slice_get-push_other (x ∷ rs) (suc j) r h = slice_get-push_other rs j r (λ e. h (omega arith))

-- a write into the list is a write under the number
pub numbered-set : (first : ℕ) (rs : List Kept) (i : ℕ) (r : Kept) → i < length rs → numbered first (set rs i r) ≡ map.insert (numbered first rs) (first + i) (seen r)
numbered-set first rs i r h =
    numbered-is first (set rs i r) (map.insert (numbered first rs) (first + i) (seen r))
    (λ n l. get-insert_other (numbered first rs) (first + i) n (seen r) (omega arith) ∙ numbered-below first rs n l)
    (λ j. elim (cases_eq j i) [
      | inl e ↦ get-insert_same (numbered first rs) (first + i) (first + j) (seen r) (omega arith) ∙ sym (ap (λ k. option_map seen (slice_get (set rs i r) k)) e ∙ ap (option_map seen) (slice_get-set_same rs i r h))
      | inr n ↦ get-insert_other (numbered first rs) (first + i) (first + j) (seen r) (λ e. n (omega arith)) ∙ numbered-at first rs j ∙ sym (ap (option_map seen) (slice_get-set_other rs i j r n))
    ])

-- a push of a request gives it the next number
pub numbered-push : (first : ℕ) (rs : List Kept) (r : Kept) → numbered first (rs ++ r ∷ []) ≡ map.insert (numbered first rs) (first + length rs) (seen r)
numbered-push first rs r =
    numbered-is first (rs ++ r ∷ []) (map.insert (numbered first rs) (first + length rs) (seen r))
    (λ n l. get-insert_other (numbered first rs) (first + length rs) n (seen r) (omega arith) ∙ numbered-below first rs n l)
    (λ j. elim (cases_eq j (length rs)) [
      | inl e ↦ get-insert_same (numbered first rs) (first + length rs) (first + j) (seen r) (omega arith) ∙ sym (ap (λ k. option_map seen (slice_get (rs ++ r ∷ []) k)) e ∙ ap (option_map seen) (slice_get-push_last rs r))
      | inr n ↦ get-insert_other (numbered first rs) (first + length rs) (first + j) (seen r) (λ e. n (omega arith)) ∙ numbered-at first rs j ∙ sym (ap (option_map seen) (slice_get-push_other rs j r n))
    ])

-- the place of a request in the list
pub record Found (first : ℕ) (rs : List Kept) (n : ℕ) (r : RequestState) : Type 0 where
  pub low : first ≤ n
  pub within : n - first < length rs
  pub is : (d : Kept) → r ≡ seen (get_or rs (n - first) d)

found_at : (first : ℕ) (rs : List Kept) (n : ℕ) (r : RequestState) → first ≤ n → (o : Option Kept) → slice_get rs (n - first) ≡ o → option_map seen o ≡ Some r → Found first rs n r
found_at first rs n r low None at e = absurd (none-some r e)
found_at first rs n r low (Some x) at e = record {
  low = low;
  within = slice_get_within rs (n - first) x at;
  is = λ d. let same : get_or rs (n - first) d ≡ x = get_or_from_slice_get rs (n - first) x d at in sym (ap seen same ∙ same_Some (seen x) r e);
}

pub found : (first : ℕ) (rs : List Kept) (n : ℕ) (r : RequestState) → map.get (numbered first rs) n ≡ Some r → Found first rs n r
found first rs n r h =
    elim (cases_lt n first) [
      | inl l ↦ absurd (none-some r (sym (numbered-below first rs n l) ∙ h))
      | inr l ↦ found_at first rs n r l (slice_get rs (n - first)) refl (sym (numbered-get first rs n l) ∙ h)
    ]

-- a fact of the request at that place
of_found : (first : ℕ) (rs : List Kept) (n : ℕ) (o : Option RequestState) → map.get (numbered first rs) n ≡ o → (P : RequestState → Type 0) → IsSomeAnd o P → (r : RequestState) × Found first rs n r × P r
of_found first rs n None e P h = absurd h
of_found first rs n (Some r) e P h = (r, found first rs n r e, h)

pub stands : (first : ℕ) (rs : List Kept) (n : ℕ) (P : RequestState → Type 0) → IsSomeAnd (map.get (numbered first rs) n) P → (first ≤ n) × (n - first < length rs) × ((d : Kept) → P (seen (get_or rs (n - first) d)))
stands first rs n P h =
    let f = of_found first rs n (map.get (numbered first rs) n) refl P h in
    (f.1.low, f.1.within, λ d. subst P (f.1.is d) f.2)

any : (o : Option RequestState) → IsSome o → IsSomeAnd o (λ _. Unit {0})
any None e = absurd (cc)
any (Some r) e = tt

pub stands_there : (first : ℕ) (rs : List Kept) (n : ℕ) → IsSome (map.get (numbered first rs) n) → (first ≤ n) × (n - first < length rs)
stands_there first rs n h = let s = stands first rs n (λ _. Unit {0}) (any (map.get (numbered first rs) n) h) in (s.0, s.1)

if_found_at : (first : ℕ) (rs : List Kept) (n : ℕ) (x : Kept) (P : RequestState → Type 0) → x ≡ get_or rs (n - first) x → P (seen x) → (o : Option RequestState) → map.get (numbered first rs) n ≡ o → IfSome o P
if_found_at first rs n x P at h None e = tt
if_found_at first rs n x P at h (Some r) e = subst P (ap seen at ∙ sym ((found first rs n r e).is x)) h

-- a fact of the request in the list is a fact of the request of that number
pub if_found : (first : ℕ) (rs : List Kept) (n : ℕ) (x : Kept) (P : RequestState → Type 0) → x ≡ get_or rs (n - first) x → P (seen x) → IfSome (map.get (numbered first rs) n) P
if_found first rs n x P at h = if_found_at first rs n x P at h (map.get (numbered first rs) n) refl

-- a write into the list is a write under the number, and the next number stays
pub written : (first n used : ℕ) (rs : List Kept) (y : Kept) → first ≤ n → n - first < length rs → ◌≡◌ {A = Asked} (record { next = first + length (set rs (n - first) y); used = used; requests = numbered first (set rs (n - first) y) }) (record { next = first + length rs; used = used; requests = map.insert (numbered first rs) n (seen y) })
written first n used rs y low h =
    let e : first + (n - first) ≡ n = omega arith in
    let len : length (set rs (n - first) y) ≡ length rs = length-set rs (n - first) y in
    let same : numbered first (set rs (n - first) y) ≡ map.insert (numbered first rs) n (seen y) = numbered-set first rs (n - first) y h ∙ ap (λ k. map.insert (numbered first rs) k (seen y)) e in
    λ i. record { next = first + len i; used = used; requests = same i }

one_at_most : (b : Bool) → cond b 1 0 ≤ 1
one_at_most true = omega arith
one_at_most false = omega arith

-- a written request has at most one slot more
pub slots-taken : (rs : List Kept) (i : ℕ) (y : Kept) → i < length rs → count_by holds_slot (set rs i y) ≤ count_by holds_slot rs + 1
slots-taken rs i y h = omega (arith, sum_by-set (λ (r : Kept). cond (holds_slot r) 1 0) rs i y y h, one_at_most (holds_slot y))

-- one slot less if a request gives one back
pub slots-given : (rs : List Kept) (i : ℕ) (x y : Kept) → i < length rs → x ≡ get_or rs i x → holds_slot x ≡ true → holds_slot y ≡ false → count_by holds_slot (set rs i y) + 1 ≡ count_by holds_slot rs
slots-given rs i x y h at with without =
    let f = λ (r : Kept). cond (holds_slot r) 1 0 in
    let e = sum_by-set f rs i y x h in
    let a : f (get_or rs i x) ≡ 1 = ap f (sym at) ∙ ap (λ b. cond b 1 0) with in
    let b : f y ≡ 0 = ap (λ b. cond b 1 0) without in
    omega (arith, e, a, b)

-- what a read of the list answers
pub read-is : (rs : List Kept) (i : ℕ) (r : Option (Bor Kept)) → IsItemAt rs i r → option_map (λ x. seen x.now) r ≡ option_map seen (slice_get rs i)
read-is rs i None h = let past : length rs ≤ i = grind (arith, nat_tests, h.0) in sym (ap (option_map seen) (slice_get_past rs i past))
read-is rs i (Some x) h = let within : i < length rs = grind (arith, nat_tests, h.0) in sym (ap (option_map seen) (slice_get_read rs (length rs) i x.now refl within h.1))

-- a push of a request gives it the next number, and the next number rises by one
pub pushed : (first used : ℕ) (rs : List Kept) (y : Kept) → ◌≡◌ {A = Asked} (record { next = first + length (rs ++ y ∷ []); used = used; requests = numbered first (rs ++ y ∷ []) }) (record { next = first + length rs + 1; used = used; requests = map.insert (numbered first rs) (first + length rs) (seen y) })
pushed first used rs y =
    let len : first + length (rs ++ y ∷ []) ≡ first + length rs + 1 = simp length-append (omega arith) in
    let same = numbered-push first rs y in
    λ i. record { next = len i; used = used; requests = same i }

pub and_false : (b : Bool) → b && false ≡ false
and_false true = refl
and_false false = refl
