-- Proves the law `live_slots_go_on`.
use Rattle.mw_law_runs.proofs.knowledge_laws.live_slots_go_on.Goals as goal
use Rattle.mw_law_runs.proofs.Knowledge.LiveSlotsOverSteps.{live_slots_go_on}

pub returns : goal.returns
returns c = live_slots_go_on
