-- Defines two terms of the counts of a slot: 1 if its pin was left behind, and 1 if it is taken and has no pin.
-- Used by: proofs of this crate.
use Rattle.std.specs.Prelude.{ℕ, ◌==◌, ◌&&◌, if◌then◌else◌}
use Rattle.mw_world.specs.Definition.State.{State}

-- 1 if a pin of the slot was left behind under its number, else 0
abbrev pub left_pin : State → ℕ → ℕ
left_pin state slot = if state.history.stays slot (state.cells.gates slot).seq then 1 else 0

-- 1 if the slot is taken and has no pin, else 0
abbrev pub idle : State → ℕ → ℕ
idle state slot = if (state.cells.gates slot).taken && ((state.cells.gates slot).pins == 0) then 1 else 0
