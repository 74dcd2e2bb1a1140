-- Loop invariants of `len_before` (src/texts.rt).
use Rattle.std.proofs.Common.{◌≡◌, ◌+◌, ◌==◌, not, drop}
use Rattle.std.specs.List.{prefix_len}
use Rattle.mw_http.proofs.texts.len_before.Given as goal

-- none of the bytes so far is the end
abbrev pub invariant-loop-at : goal.invariant-loop-at
invariant-loop-at l = l.at + prefix_len (λ byte. not (byte == l.end)) (drop l.at l.text) ≡ prefix_len (λ byte. not (byte == l.end)) l.text
