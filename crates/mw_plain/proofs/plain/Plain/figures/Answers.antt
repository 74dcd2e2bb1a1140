-- Goals of `Plain::figures` (src/plain.rt).
use Rattle.mw_plain.proofs.UsedSlots.{within_limits}
use Rattle.mw_plain.proofs.plain.Plain.figures.Goals as goal

pub returns-clause-within : goal.returns-clause-within
returns-clause-within g c =
    let plain = c.args.self.now in
    within_limits plain.pool c.used.result plain.parts.items c.each_figures.result.items c.each_figures.ensures plain.few plain.small
