-- Goals of `text_end` (src/lines.rt).
use Rattle.std.proofs.Common.{arith}
use Rattle.std.proofs.lemmas.Grind.{common_steps}
use Rattle.mw_frame.proofs.Ends.{ends}
use Rattle.mw_frame.proofs.lines.text_end.Goals as goal

pub slice_bounds-text_len-count : goal.slice_bounds-text_len-count
slice_bounds-text_len-count c = grind (arith, common_steps, ends)

pub overflow_add-result : goal.overflow_add-result
overflow_add-result c = grind (arith, common_steps, ends)

pub returns-clause-within : goal.returns-clause-within
returns-clause-within c = grind (arith, common_steps, ends)

pub returns-clause-end : goal.returns-clause-end
returns-clause-end c = grind (arith, common_steps, ends)

pub slice_bounds-text_len-start : goal.slice_bounds-text_len-start
slice_bounds-text_len-start c = grind (arith, common_steps, ends)
