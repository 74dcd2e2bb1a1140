-- A writer that is lent has the name of its loan before its bytes: each call keeps the name, and what the name says at the end.
-- Used by: LentWriter, Printed::run.
use Rattle.std.proofs.Common.{◌≡◌, ℕ, List, [], ◌∷◌, Option, Some, None, Result, Ok, Err, ap, subst, sym, take}
use Rattle.std.specs.Io.KnownBytes.{Appends, Keeps, WriteAppends, prepend_known}

appends_named : (name : ℕ) (a b : Option (List ℕ)) (s : List ℕ) → Appends a b s → Appends (prepend_known (name ∷ []) a) (prepend_known (name ∷ []) b) s
appends_named name None b s h = tt
appends_named name (Some xs) None s h = absurd h
appends_named name (Some xs) (Some ys) s h = ap (λ l. name ∷ l) h

-- a flush keeps the bytes and the name
pub keeps_named : (name : ℕ) (a b : Option (List ℕ)) → Keeps a b → Keeps (prepend_known (name ∷ []) a) (prepend_known (name ∷ []) b)
keeps_named name None b h = tt
keeps_named name (Some xs) None h = absurd h
keeps_named name (Some xs) (Some ys) h = ap (λ l. name ∷ l) h

-- a write appends to the bytes, and keeps the name
pub writes_named : {E : Type 0} (name : ℕ) (a b : Option (List ℕ)) (result : Result ℕ E) (text : List ℕ) → WriteAppends a b result text
    → WriteAppends (prepend_known (name ∷ []) a) (prepend_known (name ∷ []) b) result text
writes_named name a b (Ok count) text h = appends_named name a b (take count text) h
writes_named name a b (Err fault) text h = keeps_named name a b h

abbrev first_of : List ℕ → ℕ
first_of [] = 0
first_of (x ∷ xs) = x

abbrev rest_of : List ℕ → List ℕ
rest_of [] = []
rest_of (x ∷ xs) = xs

-- What was appended to a writer that was lent was appended to what its lender has, which is that writer if the name is the same.
pub given_back : (name new_name : ℕ) (old new back : Option (List ℕ)) (s : List ℕ) → (new_name ≡ name → back ≡ new)
    → Appends (prepend_known (name ∷ []) old) (prepend_known (new_name ∷ []) new) s → Appends old back s
given_back name new_name None new back s same h = tt
given_back name new_name (Some xs) None back s same h = absurd h
given_back name new_name (Some xs) (Some ys) back s same h =
    subst (λ (one : Option (List ℕ)). Appends (Some xs) one s) (sym (same (ap first_of h))) (ap rest_of h)
