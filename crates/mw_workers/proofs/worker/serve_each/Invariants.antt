-- Loop invariants of `serve_each` (src/worker.rt).
use Rattle.mw_session.specs.ServiceCalls.{AreAnswered}
use Rattle.mw_workers.specs.ServedConnections.{AreServed}
use Rattle.mw_workers.proofs.worker.serve_each.Given as goal

-- those that came so far are served
abbrev pub invariant-loop-connection : goal.invariant-loop-connection
invariant-loop-connection g l =
    AreServed g.C.Connection.left g.C.Connection.sent g.C.Connection.reads g.C.Connection.writes (AreAnswered g.S.Service.answered) l.initial.service l.yielded l.service
