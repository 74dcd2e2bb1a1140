-- Defines maps from numbers, as functions, and how to change them at one place. Used by: many crates from mw_book on.
use Rattle.std.specs.Prelude.{ℕ, ◌==◌, if◌then◌else◌}

-- the map that gives x at i, and elsewhere what it gave
abbrev pub upd : {A : Type 0} → (ℕ → A) → ℕ → A → ℕ → A
upd f i x k = if k == i then x else f k

-- the same, for a map from two numbers
abbrev pub upd_two : {A : Type 0} → (ℕ → ℕ → A) → ℕ → ℕ → A → ℕ → ℕ → A
upd_two f i j x k l = if k == i then (if l == j then x else f k l) else f k l

-- the same, for a map from three numbers
abbrev pub upd_three : {A : Type 0} → (ℕ → ℕ → ℕ → A) → ℕ → ℕ → ℕ → A → ℕ → ℕ → ℕ → A
upd_three f i j m x k l n = if k == i then (if l == j then (if n == m then x else f k l n) else f k l n) else f k l n
