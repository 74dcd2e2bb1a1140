-- Loop invariants of `Player::go_to_reply` (src/player.rt).
use Rattle.std.proofs.Common.{Ok}
use Rattle.mwreplay.specs.PlayerSteps.{AreTurns, IsSame, Plays}
use Rattle.mwreplay.proofs.player.Player.go_to_reply.Given as goal

-- the worker has made steps, and nothing else has happened
abbrev pub invariant-loop : goal.invariant-loop
invariant-loop g l = record {
  same : IsSame l.initial.self l.self;
  plays : Plays l.initial.self l.self (g.W.Write.contents l.initial.out) (g.W.Write.contents l.out) (AreTurns l.worker) (Ok tt);
}
