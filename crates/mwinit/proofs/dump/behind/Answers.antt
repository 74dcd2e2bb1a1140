-- Goals of `behind` (src/dump.rt).
use Rattle.std.proofs.Common.{eqb-true, eq-eqb}
use Rattle.std.proofs.lemmas.Slice.Eq.{strip_prefix_is}
use Rattle.mwinit.proofs.dump.behind.Goals as goal

pub returns : goal.returns
returns c = strip_prefix_is (λ a b. (eqb-true a b, eq-eqb a b)) c.args.text.now c.args.front.now c.strip_prefix.result c.strip_prefix.ensures.cases
