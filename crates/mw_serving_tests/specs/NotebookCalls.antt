-- Defines what a test's service (`Notebook`) writes down: each job that it is asked for.
-- Used by: src/notebook.rt. Change both together.
use Rattle.std.specs.Prelude.{◌≡◌, Bool, List, [], ◌∷◌, ◌++◌, Some, IsTrue}
use Rattle.mw_session.specs.Talk.{Call, Finds, Asks, Counts}

-- Any name is that of tenant 0, with two words. As long as all calls are recorded, each job is recorded with its reply
-- after those before it. A request for figures isn't recorded, so after one not all calls are.
abbrev pub Notes : Bool → List Call → Call → Bool → List Call → Type 0
Notes complete notes (Finds name found) now_complete now = (found ≡ Some (0, 2)) × (now ≡ notes) × (now_complete ≡ complete)
Notes complete notes (Asks tenant job reply) now_complete now = IsTrue now_complete → IsTrue complete × (now ≡ notes ++ Asks tenant job reply ∷ [])
Notes complete notes (Counts figures) now_complete now = IsTrue now_complete → ⊥
