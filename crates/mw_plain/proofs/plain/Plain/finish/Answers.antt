-- Goals of `Plain::finish` (src/plain.rt).
use Rattle.std.proofs.Common.{refl, subst, IsTrue, arith}
use Rattle.mw_words.specs.Change.{is_change}
use Rattle.mw_plain.specs.Books.{IsPrepared}
use Rattle.mw_plain.proofs.Serves.{serves_one, part_here, has_words, has_book, finishes_as}
use Rattle.std.proofs.lemmas.Grind.{common_steps}
use Rattle.mw_plain.proofs.plain.Plain.finish.Goals as goal

pub returns-clause-answers : goal.returns-clause-answers
returns-clause-answers g c =
    let old = c.args.self.now in
    let tenant = c.args.ticket.tenant in
    let ends = c.finish.ensures.ends in
    let was = part_here old tenant c.index_mut.result.now c.requires.there c.index_mut.ensures.value in
    let one = serves_one old _ tenant c.index_mut.result.now c.finish.new.self c.requires.there was refl refl c.finish.ensures.line in
    (ends.0, finishes_as g.D.Disk.facts old _ c.args.ticket c.index_mut.result.now c.finish.new.self ends.0 c.finish.result was one.1 one.0 ends.1)

pub returns-clause-one : goal.returns-clause-one
returns-clause-one g c =
    let old = c.args.self.now in
    let tenant = c.args.ticket.tenant in
    let was = part_here old tenant c.index_mut.result.now c.requires.there c.index_mut.ensures.value in
    (serves_one old _ tenant c.index_mut.result.now c.finish.new.self c.requires.there was refl refl c.finish.ensures.line).0

-- what the ticket says of the tenant's words and file it says of those of its part
pub finish-requires-clause-formed : goal.finish-requires-clause-formed
finish-requires-clause-formed g c =
    let old = c.args.self.now in
    let tenant = c.args.ticket.tenant in
    let was = part_here old tenant c.index_mut.result.now c.requires.there c.index_mut.ensures.value in
    subst (λ n. IsTrue (is_change n c.args.ticket.entries.items)) (has_words old tenant c.index_mut.result.now was) c.requires.formed

pub finish-requires-clause-prepared : goal.finish-requires-clause-prepared
finish-requires-clause-prepared g c =
    let old = c.args.self.now in
    let tenant = c.args.ticket.tenant in
    let was = part_here old tenant c.index_mut.result.now c.requires.there c.index_mut.ensures.value in
    subst (λ book. IsPrepared book c.args.ticket.place.0 c.args.ticket.entries.items) (has_book old tenant c.index_mut.result.now was) c.requires.prepared

pub invariant_of-self : goal.invariant_of-self
invariant_of-self c = grind (arith, common_steps)
