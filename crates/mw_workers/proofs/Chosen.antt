-- If one more connection comes, it is served if the desk is open, and left out if not. Used by: serve_in_turn.
use Rattle.std.proofs.Common.{◌≡◌, Bool, true, false, List, [], ◌∷◌, ◌++◌, length, refl, ap, arith, length-append}
use Rattle.mw_workers.specs.ServedConnections.{chosen}

pub chosen_more : {C : Type 0} (turns : List Bool) (connections : List C) (connection : C) → length turns ≡ length connections
    → chosen (turns ++ true ∷ []) (connections ++ connection ∷ []) ≡ chosen turns connections ++ connection ∷ []
chosen_more [] [] connection is = refl
chosen_more [] (first ∷ later) connection is = absurd (omega (arith, is))
chosen_more (turn ∷ turns) [] connection is = absurd (omega (arith, is))
chosen_more (true ∷ turns) (first ∷ later) connection is = ap (λ l. first ∷ l) (chosen_more turns later connection (omega (arith, is)))
chosen_more (false ∷ turns) (first ∷ later) connection is = chosen_more turns later connection (omega (arith, is))

pub chosen_same : {C : Type 0} (turns : List Bool) (connections : List C) (connection : C) → length turns ≡ length connections
    → chosen (turns ++ false ∷ []) (connections ++ connection ∷ []) ≡ chosen turns connections
chosen_same [] [] connection is = refl
chosen_same [] (first ∷ later) connection is = absurd (omega (arith, is))
chosen_same (turn ∷ turns) [] connection is = absurd (omega (arith, is))
chosen_same (true ∷ turns) (first ∷ later) connection is = ap (λ l. first ∷ l) (chosen_same turns later connection (omega (arith, is)))
chosen_same (false ∷ turns) (first ∷ later) connection is = chosen_same turns later connection (omega (arith, is))

pub one_more : {X Y : Type 0} (xs : List X) (ys : List Y) (x : X) (y : Y) → length xs ≡ length ys → length (xs ++ x ∷ []) ≡ length (ys ++ y ∷ [])
one_more xs ys x y is = omega (arith, length-append xs (x ∷ []), length-append ys (y ∷ []), is)
