-- Defines when the words are right after a load test of a server: each is its old value plus the number of changes of it that
-- were made.
-- Used by: src/sums.rt. It may change with src/sums.rt.
use Rattle.std.specs.Prelude.{◌≡◌, ℕ, ◌+◌, ◌-◌, ◌^◌, ◌<◌, ◌&&◌, min, List, [], ◌∷◌, length, nat_le, nat_lt, slice_index, if◌then◌else◌}
use Rattle.mwbench.specs.declared.crowd.Done.{Done}

-- a number, at most the greatest of 64 bits
abbrev pub capped : ℕ → ℕ
capped n = min n (2 ^ 64 - 1)

-- how many changes of the word at an address a client made
abbrev pub made_at : ℕ → Done → ℕ
made_at address done =
    if nat_le done.task.first address && nat_lt (address - done.task.first) done.task.words then done.counts.made else 0

-- how many all of them made, added to a sum
abbrev pub made_beside : ℕ → ℕ → List Done → ℕ
made_beside sum address [] = sum
made_beside sum address (d ∷ done) = made_beside (capped (sum + made_at address d)) address done

-- Each word is its old value plus the number of changes of it that were made. Sums stop at the greatest of 64 bits.
abbrev pub AreSums : List ℕ → List ℕ → List Done → Type 0
AreSums before after done = (address : ℕ) → address < length before
    → slice_index after address ≡ capped (slice_index before address + made_beside 0 address done)
