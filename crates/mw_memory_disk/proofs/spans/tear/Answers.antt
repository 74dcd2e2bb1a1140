-- Goals of `tear` (src/spans.rt).
use Rattle.std.proofs.Common.{◌∙◌, ap, ℕ, refl, arith}
use Rattle.mw_memory_disk.specs.Crash.{count_within}
use Rattle.mw_memory_disk.proofs.TornBytes.{tears_more, tears_all}
use Rattle.mw_memory_disk.proofs.spans.tear.Goals as goal

pub returns-in_default : goal.returns-in_default
returns-in_default c = tears_all _ _ _ _ _ _ _ c.loop-byte.invariant.torn c.loop-byte.invariant.count (omega arith) c.in_default.ensures

pub loop-byte-preserved : goal.loop-byte-preserved
loop-byte-preserved c =
    let t = tears_more _ _ _ _ _ _ _ _ _ c.loop-byte.invariant.torn c.loop-byte.invariant.count c.in-Some.ensures refl c.in_ok-from.ensures.bytes in
    record { torn = t.0; count = ap (λ (j : ℕ). count_within c.args.spans.now j) c.in_ok-from.ensures.behind ∙ t.1 }
