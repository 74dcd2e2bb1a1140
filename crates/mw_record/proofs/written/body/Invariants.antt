-- Loop invariants of `body` (src/written.rt).
use Rattle.std.proofs.Common.{◌≡◌, ◌-◌, ◌*◌, ◌∷◌, ◌++◌, length, take, replicate}
use Rattle.std.specs.List.{flat_map}
use Rattle.mw_words.specs.declared.limits.TheConstants.{MAX_ENTRIES}
use Rattle.mw_record.specs.declared.layout.TheConstants.{ENTRY_SIZE}
use Rattle.mw_record.specs.Layout.{entry_bytes}
use Rattle.mw_record.proofs.written.body.Given as goal

-- the entries so far are after their number and the six zeros, and zeros follow them
abbrev pub invariant-loop-i : goal.invariant-loop-i
invariant-loop-i l =
    l.body ≡ (length l.entries.items ∷ (replicate 6 0 ++ flat_map entry_bytes (take l.i l.entries.items))) ++ replicate (ENTRY_SIZE * (MAX_ENTRIES - l.i)) 0
