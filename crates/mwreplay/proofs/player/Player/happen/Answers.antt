-- Goals of `Player::happen` (src/player.rt).
use Rattle.std.proofs.Common.{◌≡◌, ◌∷◌, [], Err}
use Rattle.mwreplay.proofs.PlayerStepLaws.{goes_nowhere, goes_once}
use Rattle.mwreplay.proofs.player.Player.happen.Goals as goal

pub returns-in-Ok-clause-plays : goal.returns-in-Ok-clause-plays
returns-in-Ok-clause-plays g c = λ happened stands.
    goes_once c.args.self.now.tells_claims c.args.self.now.world c.step.new.self (g.W.Write.contents c.args.out.now) (g.W.Write.contents c.write_whole.new.out)
    happened c.args.event c.args.text.now c.write_whole.result c.requires stands (c.in-Ok.ensures.stands happened stands) c.write_whole.ensures

pub returns-in-Err-clause-plays : goal.returns-in-Err-clause-plays
returns-in-Err-clause-plays g c = λ happened stands.
    goes_nowhere c.args.self.now.tells_claims c.args.self.now.world.config (g.W.Write.contents c.args.out.now) c.step.new.self happened
    (λ events. events ≡ c.args.event ∷ []) (Err c.from.result) (c.in-Err.ensures.stands happened stands) tt
