-- Goals of `serve_each` (src/worker.rt).
use Rattle.mw_session.specs.ServiceCalls.{AreAnswered}
use Rattle.mw_session.proofs.TransitionLaws.{goes_further}
use Rattle.mw_workers.specs.ServedConnections.{IsServed}
use Rattle.mw_workers.proofs.worker.serve_each.Goals as goal

pub loop-connection-preserved : goal.loop-connection-preserved
loop-connection-preserved g c =
    goes_further (IsServed g.C.Connection.left g.C.Connection.sent g.C.Connection.reads g.C.Connection.writes (AreAnswered g.S.Service.answered))
    c.args.service.now c.loop-connection.yielded c.loop-connection.service c.in-Some.connection c.serve.new.service
    c.loop-connection.invariant (c.serve.result, c.serve.new.self, c.serve.ensures)
