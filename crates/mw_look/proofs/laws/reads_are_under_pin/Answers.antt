-- Proves the law `reads_are_under_pin`.
use Rattle.mw_look.proofs.RunLaws.{reads-are-under-pin, pins-are-held-until-taken-back}
use Rattle.mw_look.proofs.laws.reads_are_under_pin.Goals as goal

pub returns : goal.returns
returns c = record { under_pin = reads-are-under-pin; held = pins-are-held-until-taken-back }
