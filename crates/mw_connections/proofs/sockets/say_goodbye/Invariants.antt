-- Loop invariants of `say_goodbye` (src/sockets.rt).
use Rattle.std.proofs.Common.{◌≡◌}
use Rattle.mw_session.specs.KnownStreams.{writes_of}
use Rattle.mw_connections.proofs.sockets.say_goodbye.Given as goal

-- nothing more is written
abbrev pub invariant-loop : goal.invariant-loop
invariant-loop g l = writes_of l.stream ≡ writes_of l.initial.stream
