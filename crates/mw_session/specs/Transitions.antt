-- Defines a path from one state to another: one step for each item of a list, in order.
-- Used by: mw_http, mw_server_pages, mw_workers, mw_service, mw_law_threads. A change here changes what services and streams
-- promise of their states.
use Rattle.std.specs.Prelude.{◌≡◌, List, [], ◌∷◌}

-- A path from one state to another: one step for each item of the list, in order, and no other step.
abbrev pub GoesThrough : {S X : Type 0} → (S → X → S → Type 0) → S → List X → S → Type 0
GoesThrough steps old [] new = new ≡ old
GoesThrough {S = S} steps old (first ∷ later) new = (between : S) × steps old first between × GoesThrough steps between later new
