-- A path through states (one step for each item of a list), with one more step at its end, is a path.
-- Used by: mw_server_pages, mw_workers.
use Rattle.std.proofs.Common.{List, [], ◌∷◌, ◌++◌, refl, subst}
use Rattle.mw_session.specs.Transitions.{GoesThrough}

pub goes_further : {S X : Type 0} (steps : S → X → S → Type 0) (old : S) (items : List X) (between : S) (item : X) (new : S)
    → GoesThrough steps old items between → steps between item new → GoesThrough steps old (items ++ item ∷ []) new
goes_further steps old [] between item new goes last = (new, subst (λ s. steps s item new) goes last, refl)
goes_further steps old (first ∷ later) between item new goes last =
    (goes.0, goes.1, goes_further steps goes.0 later between item new goes.2 last)
