-- Goals of `Part::finish` (src/tenant.rt).
use Rattle.std.proofs.Common.{Option, Some, sym, ap, subst, ◌∙◌, arith}
use Rattle.mw_plain.specs.declared.loaded_file.LoadedFile.{LoadedFile}
use Rattle.mw_plain.specs.Books.{used_in, words_in, places_in}
use Rattle.mw_plain.specs.CallEnds.{FinishEnds}
use Rattle.mw_plain.proofs.tenant.Part.finish.Goals as goal

pub returns-in-Some-clause-ends : goal.returns-in-Some-clause-ends
returns-in-Some-clause-ends g c =
    let ends = c.finish.ensures.ends in
    (ends.0, subst (λ (old : Option (LoadedFile g.row.D.Denot)). FinishEnds g.D.Disk.facts ends.0 old (Some c.finish.new.self) c.args.place.0 c.args.entries.now c.finish.result) (sym c.in-Some.is) ends.1)

pub invariant_of-self : goal.invariant_of-self
invariant_of-self g c =
    let part = c.args.self.now in
    let shape = c.finish.ensures.shape in
    record {
      few_words = part.few_words;
      few_slots = part.few_slots;
      same_words = shape.words ∙ sym (ap (words_in part.words) c.in-Some.is) ∙ part.same_words;
      room = omega (arith, part.room, ap (places_in part.quota) c.in-Some.is, shape.places);
      within = omega (arith, part.within, ap used_in c.in-Some.is, shape.within);
    }
