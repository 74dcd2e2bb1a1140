-- Goals of `Core::make_first` (src/read_rounds.rt).
use Rattle.std.proofs.Common.{sym, ◌∙◌}
use Rattle.mw_core.proofs.ReadRoundLaws.{first_came, first_stepped, is_first}
use Rattle.mw_core.proofs.calls.Core.make_first.Goals as goal

pub returns-then-idle-clause-made : goal.returns-then-idle-clause-made
returns-then-idle-clause-made c =
    λ look. first_came c.args.pass.now c.begin.new.pass c.args.actor.now c.begin.new.actor look.address (is_first c.args.actor.now look) (sym c.idle.ensures.is ∙ c.if-idle.true) c.begin.ensures.begins

pub returns-else-idle-clause-made : goal.returns-else-idle-clause-made
returns-else-idle-clause-made c =
    let idle = sym c.idle.ensures.is ∙ c.if-idle.false in
    λ look. first_stepped c.args.pass.now c.advance.new.pass c.args.actor.now c.advance.new.actor look.address c.advance.result (is_first c.args.actor.now look) idle (c.requires.goes_on idle)
    c.advance.ensures.advances
