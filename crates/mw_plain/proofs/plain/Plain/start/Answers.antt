-- Goals of `Plain::start` (src/plain.rt).
use Rattle.std.proofs.Common.{refl, ap, subst, IsTrue, arith}
use Rattle.mw_words.specs.Change.{is_well_formed}
use Rattle.mw_plain.proofs.Serves.{start_of, serves_one, part_here, has_words, starts_here}
use Rattle.std.proofs.lemmas.Grind.{common_steps}
use Rattle.mw_plain.proofs.plain.Plain.start.Goals as goal

pub returns-in-Done-clause-answers : goal.returns-in-Done-clause-answers
returns-in-Done-clause-answers g c =
    let ends = c.start.ensures.ends in (
      ends.0,
      starts_here g.D.Disk.facts c.args.self.now _ c.args.tenant c.index_mut.result.now c.start.new.self c.args.job.now ends.0 c.start.result _ (ap (start_of c.args.tenant) c.in-Done.is)
          c.requires.tenant c.index_mut.ensures.value refl refl c.start.ensures.line c.requires.formed ends.1,
    )

pub returns-in-Prepared-clause-one : goal.returns-in-Prepared-clause-one
returns-in-Prepared-clause-one g c =
    let old = c.args.self.now in
    let was = part_here old c.args.tenant c.index_mut.result.now c.requires.tenant c.index_mut.ensures.value in
    (serves_one old _ c.args.tenant c.index_mut.result.now c.start.new.self c.requires.tenant was refl refl c.start.ensures.line).0

pub returns-in-Prepared-clause-answers : goal.returns-in-Prepared-clause-answers
returns-in-Prepared-clause-answers g c =
    let ends = c.start.ensures.ends in (
      ends.0,
      starts_here g.D.Disk.facts c.args.self.now _ c.args.tenant c.index_mut.result.now c.start.new.self c.args.job.now ends.0 c.start.result _ (ap (start_of c.args.tenant) c.in-Prepared.is)
          c.requires.tenant c.index_mut.ensures.value refl refl c.start.ensures.line c.requires.formed ends.1,
    )

pub returns-in-Done-clause-one : goal.returns-in-Done-clause-one
returns-in-Done-clause-one g c =
    let old = c.args.self.now in
    let was = part_here old c.args.tenant c.index_mut.result.now c.requires.tenant c.index_mut.ensures.value in
    (serves_one old _ c.args.tenant c.index_mut.result.now c.start.new.self c.requires.tenant was refl refl c.start.ensures.line).0

pub start-requires : goal.start-requires
start-requires g c =
    let old = c.args.self.now in
    let was = part_here old c.args.tenant c.index_mut.result.now c.requires.tenant c.index_mut.ensures.value in
    record { formed = subst (λ n. IsTrue (is_well_formed n c.args.job.now)) (has_words old c.args.tenant c.index_mut.result.now was) c.requires.formed }

pub invariant_of-self : goal.invariant_of-self
invariant_of-self c = grind (arith, common_steps)
