-- Goals of `path_of` (src/targets.rt).
use Rattle.std.proofs.Common.{arith}
use Rattle.std.proofs.lemmas.Grind.{common_steps}
use Rattle.mw_http.specs.Targets.{path_of}
use Rattle.mw_http.proofs.targets.path_of.Goals as goal

pub returns : goal.returns
unfolding path_of
returns c = grind (arith, common_steps)
