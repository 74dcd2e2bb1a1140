-- Goals of `Player::go_to` (src/player.rt).
use Rattle.mwreplay.proofs.PlayerStepLaws.{plays_turns}
use Rattle.mwreplay.proofs.player.Player.go_to.Goals as goal

pub returns-in-Ok-clause-plays : goal.returns-in-Ok-clause-plays
returns-in-Ok-clause-plays g c =
    plays_turns c.args.self.now c.go_before.new.self c.go.new.self (g.W.Write.contents c.args.out.now) (g.W.Write.contents c.go_before.new.out) (g.W.Write.contents c.go.new.out)
    c.args.worker c.in-Ok.field-0 c.go.result c.in-Ok.ensures.same c.in-Ok.ensures.plays c.go.ensures.plays
