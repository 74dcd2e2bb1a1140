-- Goals of `write_second` (src/written.rt).
use Rattle.std.proofs.Common.{ℕ, ◌+◌, ◌-◌, ◌*◌, List, length, refl, ◌∙◌, arith}
use Rattle.mw_record.specs.declared.layout.Layout.TheVariants.{Second}
use Rattle.mw_record.specs.Layout.{header}
use Rattle.mw_record.proofs.ReadAgain.{length-header}
use Rattle.mw_record.proofs.WrittenBytes.{head_over_zeros, word_more, all_words}
use Rattle.mw_record.proofs.written.write_second.Goals as goal

-- the head goes over zeros
pub loop-addr-init : goal.loop-addr-init
loop-addr-init c =
    let n : ℕ = length c.args.words.now in
    let places : ℕ = c.args.places in
    c.write_head.ensures
    ∙ head_over_zeros c.clear.new.out (header Second n places) (8 * (n - 0) + 264 * places) (length c.args.out.now) c.clear.ensures (length-header Second n places) (omega (arith, c.requires.whole))

-- the word of this turn goes after those that were written
pub loop-addr-preserved : goal.loop-addr-preserved
loop-addr-preserved c =
    let ws : List ℕ = c.args.words.now in
    let places : ℕ = c.args.places in
    c.write_number.ensures
    ∙ word_more (header Second (length ws) places) ws c.loop-addr.addr _ (264 * places) c.loop-addr.out (length-header Second (length ws) places) c.loop-addr-test.true refl c.loop-addr.invariant

pub returns : goal.returns
returns c =
    let ws : List ℕ = c.args.words.now in
    let places : ℕ = c.args.places in
    c.loop-addr.invariant ∙ all_words (header Second (length ws) places) ws c.loop-addr.addr (264 * places) c.loop-addr-test.false
