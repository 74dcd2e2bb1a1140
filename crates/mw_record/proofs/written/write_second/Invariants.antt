-- Loop invariants of `write_second` (src/written.rt).
use Rattle.std.proofs.Common.{◌≡◌, ◌+◌, ◌-◌, ◌*◌, ◌++◌, length, take, replicate}
use Rattle.std.specs.List.{flat_map}
use Rattle.mw_record.specs.declared.layout.Layout.TheVariants.{Second}
use Rattle.mw_record.specs.declared.layout.TheConstants.{WORD_SIZE}
use Rattle.mw_record.specs.Layout.{header, number_bytes, place_size}
use Rattle.mw_record.proofs.written.write_second.Given as goal

-- the words so far are after the head, and zeros follow them
abbrev pub invariant-loop-addr : goal.invariant-loop-addr
invariant-loop-addr l =
    l.out
    ≡ (header Second (length l.words) l.places ++ flat_map (number_bytes WORD_SIZE) (take l.addr l.words))
    ++ replicate (WORD_SIZE * (length l.words - l.addr) + place_size Second * l.places) 0
