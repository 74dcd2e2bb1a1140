-- Goals of `Player::line_of_gate` (src/player.rt): its text is the line of the slot's claim (allocation) if the claim is won,
-- else it is empty.
use Rattle.std.proofs.Common.{◌<◌, sym, subst, ◌∙◌}
use Rattle.mw_world.specs.declared.config.Config.{Config}
use Rattle.mwreplay.proofs.ToldLines.{claim_told, no_gate}
use Rattle.mwreplay.proofs.player.Player.line_of_gate.Goals as goal

pub returns-in-Some : goal.returns-in-Some
returns-in-Some c =
    let low : c.args.slot < c.args.self.now.world.config.pool =
    subst (λ k. k < c.args.self.now.world.config.pool) c.from.ensures (subst (λ (one : Config). c.from.result < one.pool) c.config-config.ensures c.if-from-config.false) in
    claim_told (λ line. line.items) c.args.self.now.world c.config-config.result.now c.args.tenant c.args.slot c.args.expected c.in-Some.gate c.claim_line.result
    low (λ state shows. sym (c.word.ensures state shows) ∙ c.if-word-expected.false) c.in-Some.ensures.is c.config-config.ensures c.claim_line.ensures

pub returns-in-None : goal.returns-in-None
returns-in-None c = λ state shows.
    absurd (no_gate c.args.self.now.world state c.args.slot c.args.expected shows (sym (c.word.ensures state shows) ∙ c.if-word-expected.false) c.in-None.ensures.is)
