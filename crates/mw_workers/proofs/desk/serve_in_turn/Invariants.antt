-- Loop invariants of `serve_in_turn` (src/desk.rt).
use Rattle.std.proofs.Common.{◌≡◌, Bool, List, length}
use Rattle.mw_session.specs.ServiceCalls.{AreAnswered}
use Rattle.mw_workers.specs.ServedConnections.{AreServed, chosen}
use Rattle.mw_workers.proofs.desk.serve_in_turn.Given as goal

-- of those that came so far, those for which the desk was open are served
abbrev pub invariant-loop-connection : goal.invariant-loop-connection
invariant-loop-connection g l =
    (turns : List Bool) × (length turns ≡ length l.yielded)
    × AreServed g.C.Connection.left g.C.Connection.sent g.C.Connection.reads g.C.Connection.writes (AreAnswered g.S.Service.answered) l.initial.service (chosen turns l.yielded) l.service
