-- Two small facts for the calls of the store alone: about an element that was found, and about a list that is written back.
-- Used by: calls of Lone.
use Rattle.std.proofs.Common.{◌≡◌, ℕ, List, ◌++◌, length, sym, subst, arith, Option, Some, IfSome, take, drop, length-append, length-drop, length-take}

-- a fact of the value that is there
pub at_some : {A : Type 0} (o : Option A) (x : A) (P : A → Type 0) → Some x ≡ o → IfSome o P → P x
at_some o x P e h = subst (λ p. IfSome p P) (sym e) h

-- a slice of a whole vector that is written back leaves its length
pub length-back : (n : ℕ) (ws items : List ℕ) → length ws ≡ length items → n ≡ length items → length (take n (ws ++ drop (length ws) items)) ≡ length items
length-back n ws items e f = simp (length-take, length-append, length-drop) (omega arith)
