-- Proves the law `live_slots_stay`.
use Rattle.mw_law_runs.proofs.knowledge_laws.live_slots_stay.Goals as goal
use Rattle.mw_law_runs.proofs.Knowledge.LiveSlots.{live_slots_stay}

pub returns : goal.returns
returns c = live_slots_stay
