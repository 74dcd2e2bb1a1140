-- Loop invariants of `accept_while` (src/desk.rt).
use Rattle.std.proofs.Common.{ℕ}
use Rattle.mw_workers.specs.ListenerCalls.{ArePut}
use Rattle.mw_workers.proofs.desk.accept_while.Given as goal

-- so many answers so far
abbrev pub invariant-loop : goal.invariant-loop
invariant-loop g l = (count : ℕ) × ArePut g.L.Listener.accepts g.W.Intake.puts l.initial.listener l.initial.waiting count l.listener l.waiting
