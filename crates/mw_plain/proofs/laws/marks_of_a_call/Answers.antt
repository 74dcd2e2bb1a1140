-- Proves the law `marks_of_a_call`.
use Rattle.mw_plain.proofs.Joined.{runs-join, replies-join, one-more-fits}
use Rattle.mw_plain.proofs.Runs.{started, finished, answered, all-go, may-stop}
use Rattle.mw_plain.proofs.laws.marks_of_a_call.Goals as goal

pub returns : goal.returns
returns c = record { start = started; finish = finished; ask = answered; all = all-go; one_more = one-more-fits; stop = may-stop; runs = runs-join; replies = replies-join }
