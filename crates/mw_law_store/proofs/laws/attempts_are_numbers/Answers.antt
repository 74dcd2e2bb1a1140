-- Proves the law `attempts_are_numbers`.
use Rattle.mw_law_store.proofs.Attempts.{attempts_are_numbers}
use Rattle.mw_law_store.proofs.laws.attempts_are_numbers.Goals as goal

pub returns : goal.returns
returns c = attempts_are_numbers
