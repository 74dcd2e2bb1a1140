-- Loop invariants of `copies_of` (src/command_line.rt).
use Rattle.std.proofs.Common.{◌≡◌, vec_len}
use Rattle.mw_config.proofs.command_line.copies_of.Given as goal

-- there is a copy of each name so far
abbrev pub invariant-loop-name : goal.invariant-loop-name
invariant-loop-name l = vec_len l.copies ≡ l.name-index
