-- Goals of `Player::hand_out` (src/player.rt).
use Rattle.std.proofs.Common.{◌≡◌, ◌∷◌, [], Err}
use Rattle.mw_world.specs.declared.events.Event.TheVariants.{Hand}
use Rattle.mwreplay.proofs.PlayerStepLaws.{plays_nothing}
use Rattle.mwreplay.proofs.player.Player.hand_out.Goals as goal

pub returns-in-Err-clause-plays : goal.returns-in-Err-clause-plays
returns-in-Err-clause-plays g c =
    plays_nothing c.args.self.now (g.W.Write.contents c.args.out.now) (λ events. events ≡ Hand c.args.worker ∷ []) (Err c.in-Err.halt) tt
