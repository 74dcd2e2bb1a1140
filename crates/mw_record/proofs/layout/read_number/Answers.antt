-- Goals of `read_number` (src/layout.rt).
use Rattle.std.proofs.Common.{◌∙◌, arith}
use Rattle.mw_record.specs.declared.layout.TheConstants.{WORD_SIZE}
use Rattle.mw_record.proofs.ReadBytes.{number_in_part}
use Rattle.mw_record.proofs.layout.read_number.Goals as goal

pub returns : goal.returns
returns c = c.read_u64.ensures ∙ number_in_part c.args.bytes.now c.args.at _ WORD_SIZE (omega arith)
