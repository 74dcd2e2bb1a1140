-- What holds of each pass holds of those that are taken from the end, and of those that are left.
-- Used by: found_by_two, found_by_idle, take, take_idle.
use Rattle.std.specs.Prelude.{◌≡◌, ◌++◌, List, All, IfSome, Option, Some, option_to_list}
use Rattle.std.proofs.Common.{subst}
use Rattle.std.proofs.lemmas.List.Elements.{All-pop}

-- it holds of those that are left
pub left_are : {X : Type 0} (P : X → Type 0) (xs ys : List X) (taken : Option X) → xs ≡ ys ++ option_to_list taken → All P xs → All P ys
left_are P xs ys taken popped are = (All-pop P xs ys taken popped are).0

-- it holds of the one that is taken
pub taken_is : {X : Type 0} (P : X → Type 0) (xs ys : List X) (taken : Option X) (x : X) → xs ≡ ys ++ option_to_list taken → taken ≡ Some x → All P xs → P x
taken_is {X} P xs ys taken x popped is are = subst (λ (one : Option X). IfSome one P) is (All-pop P xs ys taken popped are).1

-- it holds of the one that is taken then
pub next_is : {X : Type 0} (P : X → Type 0) (xs ys zs : List X) (taken next : Option X) (x : X) → xs ≡ ys ++ option_to_list taken → ys ≡ zs ++ option_to_list next → next ≡ Some x → All P xs → P x
next_is P xs ys zs taken next x popped again is are = taken_is P ys zs next x again is (left_are P xs ys taken popped are)
