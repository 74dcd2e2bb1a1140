-- Goals of `serve_in_turn` (src/desk.rt).
use Rattle.std.proofs.Common.{true, false, [], ◌∷◌, ◌++◌, subst, sym}
use Rattle.mw_session.specs.ServiceCalls.{AreAnswered}
use Rattle.mw_session.proofs.TransitionLaws.{goes_further}
use Rattle.mw_workers.specs.ServedConnections.{AreServed, IsServed, chosen}
use Rattle.mw_workers.proofs.Chosen.{chosen_more, chosen_same, one_more}
use Rattle.mw_workers.proofs.desk.serve_in_turn.Goals as goal

pub loop-connection-preserved-then-is_open : goal.loop-connection-preserved-then-is_open
loop-connection-preserved-then-is_open g c =
    let so_far = c.loop-connection.invariant in (
      so_far.0 ++ true ∷ [],
      one_more so_far.0 c.loop-connection.yielded true c.in-Some.connection so_far.1,
      subst (λ l. AreServed g.C.Connection.left g.C.Connection.sent g.C.Connection.reads g.C.Connection.writes (AreAnswered g.S.Service.answered) c.args.service.now l c.serve.new.service)
          (sym (chosen_more so_far.0 c.loop-connection.yielded c.in-Some.connection so_far.1))
          (goes_further (IsServed g.C.Connection.left g.C.Connection.sent g.C.Connection.reads g.C.Connection.writes (AreAnswered g.S.Service.answered))
          c.args.service.now (chosen so_far.0 c.loop-connection.yielded) c.loop-connection.service c.in-Some.connection c.serve.new.service
          so_far.2 (c.serve.result, c.serve.new.self, c.serve.ensures)),
    )

pub loop-connection-preserved : goal.loop-connection-preserved
loop-connection-preserved g c =
    let so_far = c.loop-connection.invariant in (
      so_far.0 ++ false ∷ [],
      one_more so_far.0 c.loop-connection.yielded false c.in-Some.connection so_far.1,
      subst (λ l. AreServed g.C.Connection.left g.C.Connection.sent g.C.Connection.reads g.C.Connection.writes (AreAnswered g.S.Service.answered) c.args.service.now l c.loop-connection.service)
          (sym (chosen_same so_far.0 c.loop-connection.yielded c.in-Some.connection so_far.1)) so_far.2,
    )
