-- Goals of `opened` (src/starts.rt).
use Rattle.std.specs.Prelude.{IsTrue}
use Rattle.std.proofs.Common.{subst, arith}
use Rattle.mw_engine_tests.proofs.Fresh.{fits}
use Rattle.mw_engine_tests.proofs.starts.opened.Goals as goal

-- src/starts.rt
pub returns-then-from-places : goal.returns-then-from-places
returns-then-from-places g c =
    fits g.D.Disk.facts c.args.line.now c.sync.new.self c.in-Ok-open.opened.0 c.in-Ok-open.opened.1 c.in-Ok-open.ensures.opens
    (λ honest. c.in-Ok.ensures.durable (subst IsTrue c.in-Ok.ensures.call.honest honest))
    (omega (arith, c.len.ensures, c.from.ensures, c.if-len-from.true))
    (omega (arith, c.from-then-len-from.ensures, c.places.ensures, c.if-from-places.true))
