-- Proves the law `pinned_gates_keep_their_numbers`.
use Rattle.mw_law_runs.proofs.Pinned.{pinned_gates_keep_their_numbers}
use Rattle.mw_law_runs.proofs.laws.pinned_gates_keep_their_numbers.Goals as goal

pub returns : goal.returns
returns c = pinned_gates_keep_their_numbers
