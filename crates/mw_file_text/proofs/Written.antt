-- The pieces of the text, written one after the other, make the whole text. Used by: show_image, show_records, show_words.
use Rattle.std.proofs.Common.{◌≡◌, ℕ, zero, suc, ◌+◌, ◌≤◌, List, [], ◌∷◌, ◌++◌, Option, Some, Result, Ok, Err, OnOk, length, take, slice_get, sym, ap, ◌∙◌, subst, arith, add-one, append-nil}
use Rattle.std.proofs.lemmas.List.{take_all}
use Rattle.std.proofs.lemmas.Grind.{flat_map-append}
use Rattle.std.specs.List.{flat_map, range_with_len}
use Rattle.std.specs.Io.KnownBytes.{Appends}
use Rattle.std.proofs.KnownBytes.{Appends-trans}

range_more : (a n j : ℕ) → a + n ≡ j → range_with_len a (suc n) ≡ range_with_len a n ++ j ∷ []
range_more a zero j is = ap (λ k. k ∷ []) (omega (arith, is))
range_more a (suc n) j is = ap (λ ks. a ∷ ks) (range_more (a + 1) n j (omega (arith, is)))

-- the texts of the numbers below n + 1 are those below n and that of n
texts_more : (f : ℕ → List ℕ) (n : ℕ) → flat_map f (range_with_len 0 (n + 1)) ≡ flat_map f (range_with_len 0 n) ++ f n
texts_more f n =
    ap (λ k. flat_map f (range_with_len 0 k)) (add-one n)
    ∙ ap (flat_map f) (range_more 0 n n (omega arith))
    ∙ flat_map-append f (range_with_len 0 n) (n ∷ [])
    ∙ ap (λ t. flat_map f (range_with_len 0 n) ++ t) (append-nil (f n))

pub text_more : (a b c : Option (List ℕ)) (f : ℕ → List ℕ) (n : ℕ) → Appends a b (flat_map f (range_with_len 0 n)) → Appends b c (f n)
    → Appends a c (flat_map f (range_with_len 0 (n + 1)))
text_more a b c f n so next = subst (Appends a c) (sym (texts_more f n)) (Appends-trans a b c _ _ so next)

-- a number without a text adds nothing
pub text_none : (a b : Option (List ℕ)) (f : ℕ → List ℕ) (n : ℕ) → Appends a b (flat_map f (range_with_len 0 n)) → f n ≡ []
    → Appends a b (flat_map f (range_with_len 0 (n + 1)))
text_none a b f n so none =
    subst (Appends a b) (sym (texts_more f n ∙ ap (λ t. flat_map f (range_with_len 0 n) ++ t) none ∙ append-nil _)) so

take_read : {X : Type 0} (xs : List X) (i : ℕ) (x : X) → slice_get xs i ≡ Some x → take (suc i) xs ≡ take i xs ++ x ∷ []
take_read [] i x read = cc
take_read (y ∷ xs) zero x read = (let e : y ≡ x = cc in ap (λ z. z ∷ []) e)
take_read (y ∷ xs) (suc i) x read = ap (λ ys. y ∷ ys) (take_read xs i x read)

-- one more item of a list
pub item_more : {X : Type 0} (a b c : Option (List ℕ)) (f : X → List ℕ) (xs : List X) (i : ℕ) (x : X) → slice_get xs i ≡ Some x
    → Appends a b (flat_map f (take i xs)) → Appends b c (f x) → Appends a c (flat_map f (take (i + 1) xs))
item_more a b c f xs i x read so next =
    let more : flat_map f (take (i + 1) xs) ≡ flat_map f (take i xs) ++ f x =
    ap (λ k. flat_map f (take k xs)) (add-one i) ∙ ap (flat_map f) (take_read xs i x read) ∙ flat_map-append f (take i xs) (x ∷ [])
    ∙ ap (λ t. flat_map f (take i xs) ++ t) (append-nil (f x)) in
    subst (Appends a c) (sym more) (Appends-trans a b c _ _ so next)

-- all items of a list
pub items_all : {X : Type 0} (a b : Option (List ℕ)) (f : X → List ℕ) (xs : List X) (i : ℕ) → length xs ≤ i → Appends a b (flat_map f (take i xs)) → Appends a b (flat_map f xs)
items_all a b f xs i all so = subst (λ ys. Appends a b (flat_map f ys)) (take_all i xs all) so

-- a last piece after what was written, if it didn't fail
pub last_piece : {X E : Type 0} (r : Result X E) (a b c : Option (List ℕ)) (xs ys : List ℕ) → Appends a b xs → OnOk r (Appends b c ys) → OnOk r (Appends a c (xs ++ ys))
last_piece (Ok x) a b c xs ys so last = Appends-trans a b c xs ys so last
last_piece (Err e) a b c xs ys so last = last
