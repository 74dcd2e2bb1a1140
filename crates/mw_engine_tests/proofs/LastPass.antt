-- If all values are so, the last one is and the others are. Used by: last_pass.
use Rattle.std.specs.Prelude.{◌≡◌, ◌++◌, All, IfSome, List, Option, option_to_list}
use Rattle.std.proofs.lemmas.List.Elements.{All-pop}

module _ {X : Type 0} (P : X → Type 0) where
  pub last_is : (all rest : List X) (last : Option X) → all ≡ rest ++ option_to_list last → All P all → IfSome last P
  last_is all rest last popped are = (All-pop P all rest last popped are).1

  pub others_are : (all rest : List X) (last : Option X) → all ≡ rest ++ option_to_list last → All P all → All P rest
  others_are all rest last popped are = (All-pop P all rest last popped are).0
