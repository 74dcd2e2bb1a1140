-- Goals of `behind` (src/numbers.rt).
use Rattle.mw_line.proofs.Fronts.{gives_behind}
use Rattle.mw_line.proofs.numbers.behind.Goals as goal

pub returns : goal.returns
returns c = gives_behind c.args.text.now c.args.bytes.now c.strip_prefix.result c.strip_prefix.ensures.cases
