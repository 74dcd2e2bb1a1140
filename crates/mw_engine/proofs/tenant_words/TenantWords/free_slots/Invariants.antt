-- Loop invariants of `TenantWords::free_slots` (src/figures.rt).
use Rattle.std.specs.Prelude.{◌≤◌}
use Rattle.mw_engine.specs.Figures.{HasLooked, TellsFree}
use Rattle.mw_engine.specs.TenantWords.{HasPass}
use Rattle.mw_engine.proofs.tenant_words.TenantWords.free_slots.Given as goal

-- the slots so far
abbrev pub invariant-loop-slot : goal.invariant-loop-slot
invariant-loop-slot l = record {
  own : HasPass l.self l.pass;
  looked : HasLooked l.fn.pass l.pass;
  few : l.free ≤ l.slot;
  tells : TellsFree l.self.core.shared.pool l.slot l.free l.fn.pass.seat.me.0 l.pass.seat.me.0;
}
