-- Goals of `Player::go_to_end` (src/player.rt).
use Rattle.mw_schedule.specs.declared.schedule.Command.TheVariants.{End}
use Rattle.mwreplay.specs.PlayerSteps.{AreTurns, Obeys}
use Rattle.mwreplay.proofs.PlayerStepLaws.{plays_ended, plays_halts}
use Rattle.mwreplay.proofs.player.Player.go_to_end.Goals as goal

pub returns-in-Ok-clause-plays : goal.returns-in-Ok-clause-plays
returns-in-Ok-clause-plays g c =
    plays_ended c.args.self.now c.go_to_reply.new.self c.hand_out.new.self (g.W.Write.contents c.args.out.now) (g.W.Write.contents c.go_to_reply.new.out)
    (g.W.Write.contents c.hand_out.new.out) c.args.worker c.in-Ok.field-0 c.hand_out.result c.in-Ok.ensures.same c.in-Ok.ensures.plays c.hand_out.ensures.plays

pub returns-in-Err-clause-plays : goal.returns-in-Err-clause-plays
returns-in-Err-clause-plays g c =
    plays_halts c.args.self.now c.go_to_reply.new.self (g.W.Write.contents c.args.out.now) (g.W.Write.contents c.go_to_reply.new.out) (AreTurns c.args.worker)
    (Obeys (End c.args.worker)) c.in-Err.halt c.in-Err.ensures.plays
