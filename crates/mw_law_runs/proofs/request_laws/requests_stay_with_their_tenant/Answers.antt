-- Proves the law `requests_stay_with_their_tenant`.
use Rattle.mw_law_runs.proofs.Requests.RunLaws.{requests-stay-with-their-tenant}
use Rattle.mw_law_runs.proofs.request_laws.requests_stay_with_their_tenant.Goals as goal

pub returns : goal.returns
returns c = requests-stay-with-their-tenant
