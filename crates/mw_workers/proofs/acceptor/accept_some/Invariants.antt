-- Loop invariants of `accept_some` (src/acceptor.rt).
use Rattle.mw_workers.specs.ListenerCalls.{ArePut}
use Rattle.mw_workers.proofs.acceptor.accept_some.Given as goal

-- one answer a round
abbrev pub invariant-loop : goal.invariant-loop
invariant-loop g l = ArePut g.L.Listener.accepts g.W.Intake.puts l.initial.listener l.initial.waiting l.counter l.listener l.waiting
