-- Goals of `Player::step` (src/player.rt).
use Rattle.std.proofs.Common.{◌≡◌, ◌∷◌, [], Err}
use Rattle.mw_world.specs.declared.events.Event.TheVariants.{Step}
use Rattle.mwreplay.specs.declared.player.PlayFault.TheVariants.{Memory}
use Rattle.mwreplay.proofs.PlayerStepLaws.{plays_nothing}
use Rattle.mwreplay.proofs.player.Player.step.Goals as goal

pub returns-in-Err-clause-plays : goal.returns-in-Err-clause-plays
returns-in-Err-clause-plays g c =
    plays_nothing c.args.self.now (g.W.Write.contents c.args.out.now) (λ events. events ≡ Step c.args.worker ∷ []) (Err Memory) tt
