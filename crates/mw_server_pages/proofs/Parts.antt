-- A text that was put in parts is the text with the joined parts after it. Used by: recents.rt, status.rt, tenant_rows.rt.
use Rattle.std.proofs.Common.{◌≡◌, ℕ, ◌++◌, List, ap, ◌∙◌, append_assoc}

-- a part was put, and then the rest
pub before : {middle new : List ℕ} (old part rest : List ℕ) → middle ≡ old ++ part → new ≡ middle ++ rest → new ≡ old ++ (part ++ rest)
before old part rest h k = k ∙ ap (λ (l : List ℕ). l ++ rest) h ∙ append_assoc old part rest
