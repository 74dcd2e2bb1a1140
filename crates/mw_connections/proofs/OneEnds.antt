-- The first bytes of some, no more than a line with its line feed, have one line feed at most, as their last byte.
-- Used by: copy_line.
use Rattle.std.proofs.Common.{◌≡◌, ℕ, zero, suc, ◌+◌, ◌<◌, ◌≤◌, ◌++◌, ◌==◌, Bool, true, false, not, List, [], ◌∷◌, length, take, refl, ap, ◌∙◌, arith}
use Rattle.std.proofs.lemmas.List.{length-take-le}
use Rattle.std.specs.List.{prefix_len}
use Rattle.mw_frame.specs.Lines.{line_feed}
use Rattle.mw_connections.specs.FaultLimits.{HasOneEnd, text_len}

-- one byte at most is not of the kind, and it is the last one
front_passes : (p : ℕ → Bool) (bytes : List ℕ) (count : ℕ) → count ≤ prefix_len p bytes + 1 → length (take count bytes) ≤ prefix_len p (take count bytes) + 1
front_passes p bytes zero h = omega arith
front_passes p [] (suc count) h = omega arith
front_passes p (b ∷ bytes) (suc count) h = one_passed p b bytes count (p b) refl h (λ k. front_passes p bytes count k)
  where
    one_passed : (p : ℕ → Bool) (b : ℕ) (bytes : List ℕ) (count : ℕ) (t : Bool) → p b ≡ t → suc count ≤ prefix_len p (b ∷ bytes) + 1
        → (count ≤ prefix_len p bytes + 1 → length (take count bytes) ≤ prefix_len p (take count bytes) + 1)
        → length (take (suc count) (b ∷ bytes)) ≤ prefix_len p (take (suc count) (b ∷ bytes)) + 1
    one_passed p b bytes count true is h rest = rw is (let k : suc count ≤ 1 + prefix_len p bytes + 1 = rw is at h in let e = rest (omega arith) in omega arith)
    one_passed p b bytes zero false is h rest = omega arith
    one_passed p b bytes (suc count) false is h rest = let k : suc (suc count) ≤ 0 + 1 = rw is at h in absurd (omega arith)

pub one_end : (bytes copied rest : List ℕ) (count : ℕ) → copied ≡ take count bytes → count ≤ length bytes → count ≤ text_len bytes + 1 → HasOneEnd (take count (copied ++ rest))
one_end bytes copied rest count is within line =
    rw is (rw (front_same bytes rest count within) (front_passes (λ b. not (b == line_feed)) bytes count line))
  where
    front_same : (bytes rest : List ℕ) (count : ℕ) → count ≤ length bytes → take count (take count bytes ++ rest) ≡ take count bytes
    front_same bytes rest zero h = refl
    front_same [] rest (suc count) h = absurd (omega arith)
    front_same (b ∷ bytes) rest (suc count) h = ap (λ l. b ∷ l) (front_same bytes rest count (omega arith))
