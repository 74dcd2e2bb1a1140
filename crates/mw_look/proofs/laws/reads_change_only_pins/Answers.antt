-- Proves the law `reads_change_only_pins`.
use Rattle.mw_look.proofs.RunLaws.{reads-change-only-pins}
use Rattle.mw_look.proofs.laws.reads_change_only_pins.Goals as goal

pub returns : goal.returns
returns c = reads-change-only-pins
