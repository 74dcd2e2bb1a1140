-- Goals of `Player::line_of_reply` (src/player.rt).
use Rattle.mwreplay.proofs.ToldLines.{reply_told}
use Rattle.mwreplay.proofs.player.Player.line_of_reply.Goals as goal

pub returns-in-Ok : goal.returns-in-Ok
returns-in-Ok c = λ state world_event shows hands.
    reply_told c.args.self.now.tells_claims c.args.self.now.world.config c.config.result.now state world_event c.args.worker c.tenant.result c.in_ok-actor.actor.now
    c.in-Some.reply c.in-Ok.line.items hands (c.in_ok-actor.ensures.request state shows) c.in-Some.ensures c.tenant.ensures c.config.ensures c.in-Ok.ensures
