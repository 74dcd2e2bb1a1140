-- How many bytes at the beginning of a text pass a test, as a loop over its offsets finds it. Used by: hosts.rt, texts.rt.
use Rattle.std.proofs.Common.{ℕ, ◌≡◌, ◌≤◌, ◌<◌, ◌+◌, ◌==◌, Bool, not, true, false, List, length, get_or, drop, refl, arith}
use Rattle.std.proofs.lemmas.List.{drop_more}
use Rattle.std.proofs.lemmas.List.Sums.{prefix_len-drop_all, prefix_len-drop_no, prefix_len-le-length}
use Rattle.std.specs.List.{prefix_len}

-- the byte at `at` passes too
pub one_more : (p : ℕ → Bool) (bytes : List ℕ) (at : ℕ) → at < length bytes → p (get_or bytes at 0) ≡ true → at + prefix_len p (drop at bytes) ≡ prefix_len p bytes
    → at + 1 + prefix_len p (drop (at + 1) bytes) ≡ prefix_len p bytes
one_more p bytes at within passes so_far =
    let one : prefix_len p (drop at bytes) ≡ 1 + prefix_len p (drop (at + 1) bytes) = rw (drop_more bytes at 0 within, passes) refl in
    omega (arith, one, so_far)

-- the byte at `at` is the first that doesn't pass
pub first : (p : ℕ → Bool) (bytes : List ℕ) (at : ℕ) → at < length bytes → p (get_or bytes at 0) ≡ false → at + prefix_len p (drop at bytes) ≡ prefix_len p bytes
    → at ≡ prefix_len p bytes
first p bytes at within fails so_far =
    let none = prefix_len-drop_no p bytes at 0 within fails in
    omega (arith, none, so_far)

-- all bytes pass
pub whole : (p : ℕ → Bool) (bytes : List ℕ) (at : ℕ) → length bytes ≤ at → at + prefix_len p (drop at bytes) ≡ prefix_len p bytes → length bytes ≡ prefix_len p bytes
whole p bytes at over so_far =
    let none = prefix_len-drop_all p bytes at over in
    let most = prefix_len-le-length p bytes in
    omega (arith, none, so_far, over, most)

-- a byte that isn't the end passes the test for it
pub no_end : (byte end : ℕ) → (byte ≡ end → ⊥) → not (byte == end) ≡ true
no_end byte end apart = grind arith

pub is_end : (byte end : ℕ) → byte ≡ end → not (byte == end) ≡ false
is_end byte end same = grind arith
