-- In each turn of a loop over a list, the rest of the list is its next element and what follows.
-- Used by: FormedFile::is_apart, loops of Record.
use Rattle.std.proofs.Common.{◌≡◌, ℕ, ◌+◌, ◌≤◌, List, [], ◌∷◌, length, Some, drop, ap, ◌∙◌, slice_get}
use Rattle.std.proofs.lemmas.List.{at_drop_more, at_drop_all}
use Rattle.std.proofs.lemmas.Option.{slice_get_within, get_or_from_slice_get}

pub turn : {X Y : Type 0} (F : List X → Y) (xs : List X) (i : ℕ) (x : X) → slice_get xs i ≡ Some x → F (drop i xs) ≡ F (x ∷ drop (i + 1) xs)
turn F xs i x read =
    at_drop_more F xs i x (slice_get_within xs i x read)
    ∙ ap (λ y. F (y ∷ drop (i + 1) xs)) (get_or_from_slice_get xs i x x read)

pub turns_end : {X Y : Type 0} (F : List X → Y) (xs : List X) (i : ℕ) → length xs ≤ i → F (drop i xs) ≡ F []
turns_end F xs i past = at_drop_all F xs i past
