-- Goals of `put_word` (src/cells.rt).
use Rattle.std.proofs.Common.{arith}
use Rattle.mw_world_memory.proofs.BitsMatchLaws.{puts_word}
use Rattle.mw_world_memory.proofs.cells.put_word.Goals as goal

pub returns-then-tenant-len-clause-put : goal.returns-then-tenant-len-clause-put
returns-then-tenant-len-clause-put c =
    let words = c.args.words.now in
    puts_word (λ tenant. tenant.items) words.items c.from-tenant.result c.from.result c.args.tenant c.args.address c.args.bits c.index_mut.result.now c.put_at.new.words
    c.from-tenant.ensures c.from.ensures (omega (arith, words.ok.0)) c.index_mut.ensures.value c.put_at.ensures.put
