-- Loop invariants of `Core::try_look` (src/read_rounds.rt).
use Rattle.mw_table.specs.CarriedRequest.{IsCarried}
use Rattle.mw_table.specs.Passes.{IsOf, IsOfSameWorker}
use Rattle.mw_core.proofs.StepsLeft.{left}
use Rattle.mw_core.proofs.ReadRoundLaws.{IsUnder, look_at}
use Rattle.mw_core.proofs.calls.Core.try_look.Given as goal

-- what was told since the first step, and why the read turned back, if it did
abbrev pub invariant-loop-pass : goal.invariant-loop-pass
invariant-loop-pass l = record {
  own : IsOf l.self.shared l.pass;
  worker : IsOfSameWorker l.fn.pass l.pass;
  carried : IsCarried l.pass l.actor;
  goes : IsUnder l.fn.pass l.pass l.fn.actor l.actor l.why;
}

abbrev pub decreases-loop-pass : goal.decreases-loop-pass
decreases-loop-pass l = left (look_at l.actor.point)
