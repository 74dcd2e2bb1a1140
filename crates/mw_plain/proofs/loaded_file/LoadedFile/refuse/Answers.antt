-- Goals of `LoadedFile::refuse` (src/loaded_file.rt).
use Rattle.std.proofs.Common.{refl, sym, ap, ◌∙◌, arith}
use Rattle.std.proofs.lemmas.Grind.{common_steps}
use Rattle.mw_file.specs.File.{words_of, states_of, has_failed, disk_of}
use Rattle.mw_file.specs.declared.place_states.Stage.TheVariants.{Free}
use Rattle.mw_plain.specs.Cases.{Missed}
use Rattle.mw_plain.proofs.Ready.{one_less, none_sealed}
use Rattle.mw_plain.proofs.FinishEnds.{missed}
use Rattle.mw_plain.proofs.loaded_file.LoadedFile.refuse.Goals as goal

pub overflow_sub-self : goal.overflow_sub-self
overflow_sub-self g c =
    let book = c.args.self.now in
    let up = c.requires.up in
    let less = one_less (states_of book.file) (states_of c.cancel.new.self) _ _ (c.requires.prepared up).0 c.cancel.ensures.staged in
    omega (arith, less, book.counted up)

pub invariant_of-self : goal.invariant_of-self
invariant_of-self g c =
    let book = c.args.self.now in
    let up = c.requires.up in
    let less = one_less (states_of book.file) (states_of c.cancel.new.self) _ _ (c.requires.prepared up).0 c.cancel.ensures.staged in
    record {
      same_words = book.same_words ∙ sym (ap words_of c.cancel.ensures.rest);
      sound = λ _. ap has_failed c.cancel.ensures.rest ∙ book.sound up;
      counted = λ _. omega (arith, less, book.counted up);
      unsealed = λ _. none_sealed (states_of book.file) (states_of c.cancel.new.self) _ Free _ (λ e. cc) (book.unsealed up) c.cancel.ensures.staged;
    }

pub returns-clause-ends : goal.returns-clause-ends
returns-clause-ends g c =
    let book = c.args.self.now in
    let first = c.requires.first in (
      Missed first.index,
      missed g.D.Disk.facts book _ c.args.place.0 c.args.entries.now c.args.entry _ c.requires.up first (grind (arith, common_steps, c.index-value.ensures))
          refl refl refl (ap disk_of c.cancel.ensures.rest) c.cancel.ensures.staged c.cancel.ensures.safe,
    )
