-- Proves the law `requests_release_their_words`.
use Rattle.mw_law_runs.proofs.Obligations.RequestObligations.{requests_release_their_words}
use Rattle.mw_law_runs.proofs.laws.requests_release_their_words.Goals as goal

pub returns : goal.returns
returns c = requests_release_their_words
