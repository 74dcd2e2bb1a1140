-- Defines that the marks of a tenant in memory have room for more. Used by: src/lines.rt, mw_simulator.
use Rattle.std.specs.Prelude.{ℕ, ◌+◌, ◌≡◌, ◌≤◌, Bool, false, nat_le, vec_len, vec_capacity}
use Rattle.mw_world_memory.specs.declared.lines.Lines.{Lines}

-- there is room for one more line
abbrev pub HasRoomForLine : Lines → Type 0
HasRoomForLine marks = vec_len marks.lines + 1 ≤ vec_capacity marks.lines

-- the marks are the same
pub record SameLines (old new : Lines) : Type 0 where
  pub closed : new.closed ≡ old.closed
  pub lines : new.lines.items ≡ old.lines.items

-- there is room for `count` more closed marks
abbrev pub has_room_for : Lines → ℕ → Bool
has_room_for marks count = nat_le (vec_len marks.closed + count) (vec_capacity marks.closed)

-- the older lines have room for the closed marks of the newer ones, or the newer ones have room for those of the older
-- ones
abbrev pub OneHasRoom : Lines → Lines → Type 0
OneHasRoom before since = has_room_for before (vec_len since.closed) ≡ false → vec_len since.closed + vec_len before.closed ≤ vec_capacity since.closed
