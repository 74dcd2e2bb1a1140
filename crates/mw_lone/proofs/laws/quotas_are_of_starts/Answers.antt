-- Proves the law `quotas_are_of_starts`.
use Rattle.mw_lone.proofs.Quotas.{quotas-are-of-starts}
use Rattle.mw_lone.proofs.laws.quotas_are_of_starts.Goals as goal

pub returns : goal.returns
returns c = quotas-are-of-starts
