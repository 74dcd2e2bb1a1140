-- Goals of `two_at_a_time` (src/plain_tests.rt).
use Rattle.std.proofs.Common.{arith}
use Rattle.std.proofs.lemmas.Grind.{common_steps}
use Rattle.mw_words_tests.proofs.plain_tests.two_at_a_time.Goals as goal

pub finish-made-requires : goal.finish-made-requires
finish-made-requires c = grind (arith, common_steps)

pub finish-other-requires : goal.finish-other-requires
finish-other-requires c = grind (arith, common_steps)
