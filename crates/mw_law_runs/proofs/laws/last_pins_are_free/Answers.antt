-- Proves the law `last_pins_are_free`.
use Rattle.mw_law_runs.proofs.Obligations.LastPins.{last_pins_are_free}
use Rattle.mw_law_runs.proofs.laws.last_pins_are_free.Goals as goal

pub returns : goal.returns
returns c = last_pins_are_free
