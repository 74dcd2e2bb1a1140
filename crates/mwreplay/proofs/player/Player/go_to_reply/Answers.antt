-- Goals of `Player::go_to_reply` (src/player.rt).
use Rattle.std.proofs.Common.{Ok, Err}
use Rattle.mwreplay.specs.PlayerSteps.{AreTurns}
use Rattle.mwreplay.proofs.PlayerStepLaws.{is_same, plays_ends, plays_nothing, plays_turns, same_then}
use Rattle.mwreplay.proofs.player.Player.go_to_reply.Goals as goal

pub loop-init : goal.loop-init
loop-init g c = record {
  same = is_same c.args.self.now;
  plays = plays_nothing c.args.self.now (g.W.Write.contents c.args.out.now) (AreTurns c.args.worker) (Ok tt) tt;
}

pub returns-in_err-actor-clause-plays : goal.returns-in_err-actor-clause-plays
returns-in_err-actor-clause-plays g c =
    plays_ends c.args.self.now c.loop.self (g.W.Write.contents c.args.out.now) (g.W.Write.contents c.loop.out) (AreTurns c.args.worker) tt c.from_residual.result
    c.loop.invariant.plays

pub returns-in-Err-clause-plays : goal.returns-in-Err-clause-plays
returns-in-Err-clause-plays g c =
    plays_turns c.args.self.now c.loop.self c.go.new.self (g.W.Write.contents c.args.out.now) (g.W.Write.contents c.loop.out) (g.W.Write.contents c.go.new.out)
    c.args.worker tt (Err c.in-Err.halt) c.loop.invariant.same c.loop.invariant.plays c.in-Err.ensures.plays

pub loop-preserved : goal.loop-preserved
loop-preserved g c = record {
  same = same_then c.args.self.now c.loop.self c.go.new.self c.loop.invariant.same c.go.ensures.same;
  plays = plays_turns c.args.self.now c.loop.self c.go.new.self (g.W.Write.contents c.args.out.now) (g.W.Write.contents c.loop.out) (g.W.Write.contents c.go.new.out)
      c.args.worker tt (Ok tt) c.loop.invariant.same c.loop.invariant.plays c.in-Ok.ensures.plays;
}
