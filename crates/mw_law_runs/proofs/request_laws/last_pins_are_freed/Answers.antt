-- Proves the law `last_pins_are_freed`.
use Rattle.mw_law_runs.proofs.Requests.RunLaws.{last-pins-are-freed}
use Rattle.mw_law_runs.proofs.request_laws.last_pins_are_freed.Goals as goal

pub returns : goal.returns
returns c = last-pins-are-freed
