-- Goals of `Player::go` (src/player.rt).
use Rattle.std.proofs.Common.{refl, Err}
use Rattle.mwreplay.specs.PlayerSteps.{AreTurns}
use Rattle.mwreplay.proofs.PlayerStepLaws.{plays_call, plays_nothing, plays_step}
use Rattle.mwreplay.proofs.player.Player.go.Goals as goal

pub returns-in-Ok-File-clause-plays : goal.returns-in-Ok-File-clause-plays
returns-in-Ok-File-clause-plays g c =
    plays_call c.args.self.now c.happen.new.self (g.W.Write.contents c.args.out.now) (g.W.Write.contents c.happen.new.out) c.args.worker _ c.happen.result
    c.happen.ensures.plays (refl, refl)

pub returns-in-Ok-Load : goal.returns-in-Ok-Load
returns-in-Ok-Load g c = record {
  same = c.step.ensures.same;
  plays = plays_step c.args.self.now c.step.new.self (g.W.Write.contents c.args.out.now) (g.W.Write.contents c.step.new.out) c.args.worker c.step.result c.step.ensures.plays;
}

pub returns-in-Err-clause-plays : goal.returns-in-Err-clause-plays
returns-in-Err-clause-plays g c = plays_nothing c.args.self.now (g.W.Write.contents c.args.out.now) (AreTurns c.args.worker) (Err c.in-Err.halt) tt
