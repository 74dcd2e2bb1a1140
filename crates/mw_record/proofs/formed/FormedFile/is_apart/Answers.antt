-- Goals of `FormedFile::is_apart` (src/formed.rt).
use Rattle.std.proofs.Common.{◌+◌, ◌&&◌, not, Bool, drop, sym, ap, ◌∙◌}
use Rattle.mw_record.specs.Records.{Pairs, record_at, is_apart}
use Rattle.mw_record.proofs.Turns.{turn}
use Rattle.mw_record.proofs.formed.FormedFile.is_apart.Goals as goal

pub returns-then-is_covered : goal.returns-then-is_covered
returns-then-is_covered c =
    let F = λ (xs : Pairs). is_apart (record_at c.args.self.now.layout c.args.self.now.bytes.now c.args.self.now.words) c.args.places xs in
    let rest : Bool = F (drop (c.loop-i.i + 1) c.args.entries.now) in
    sym (sym c.loop-i.invariant ∙ turn F c.args.entries.now c.loop-i.i c.entry.result c.entry.ensures ∙ ap (λ b. not b && rest) (sym c.is_covered.ensures ∙ c.if-is_covered.true))

pub loop-i-preserved : goal.loop-i-preserved
loop-i-preserved c =
    let F = λ (xs : Pairs). is_apart (record_at c.args.self.now.layout c.args.self.now.bytes.now c.args.self.now.words) c.args.places xs in
    let rest : Bool = F (drop (c.loop-i.i + 1) c.args.entries.now) in
    sym (turn F c.args.entries.now c.loop-i.i c.entry.result c.entry.ensures ∙ ap (λ b. not b && rest) (sym c.is_covered.ensures ∙ c.if-is_covered.false)) ∙ c.loop-i.invariant
