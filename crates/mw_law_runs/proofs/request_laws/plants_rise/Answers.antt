-- Proves the law `plants_rise`.
use Rattle.mw_law_runs.proofs.Requests.RisingLaws.{plants-rise}
use Rattle.mw_law_runs.proofs.request_laws.plants_rise.Goals as goal

pub returns : goal.returns
returns c = plants-rise
