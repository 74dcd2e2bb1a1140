-- Goals of `Book::cancel` (src/book.rt): its contract holds after a prepared change is cancelled.
use Rattle.std.proofs.Common.{refl, sym, ap, subst, arith}
use Rattle.mw_disk.specs.Runs.{Later}
use Rattle.mw_disk.proofs.RunLaws.{later_refl}
use Rattle.mw_file.specs.declared.place_states.Stage.TheVariants.{Free, Prepared}
use Rattle.mw_file.specs.File.{disk_of, states_of}
use Rattle.mw_file.specs.PlaceStates.{writes_of_place, IsStaged}
use Rattle.mw_book.proofs.FiledCalls.{busy_in, cancel_made}
use Rattle.mw_book.proofs.book.Book.cancel.Goals as goal

pub returns : goal.returns
returns g c entries most =
    let old = c.args.self.now in
    let facts = g.D.Disk.facts in
    let held = c.in-Some.file in
    cancel_made facts old _ held c.cancel.new.self c.in-Some.is
    (subst (λ d. Later (facts (disk_of held)) (facts d)) (sym (ap disk_of c.cancel.ensures.rest)) (later_refl (facts (disk_of held)))) c.cancel.ensures.safe
    c.args.slot (omega (arith, c.ranges.slot.fits)) (busy_in old held c.args.slot Prepared c.in-Some.is c.requires.may.prepared refl) c.requires.may.own (writes_of_place (states_of held) c.file_place-number.result)
    (subst (λ n. IsStaged (states_of held) (states_of c.cancel.new.self) n Free (writes_of_place (states_of held) c.file_place-number.result)) c.file_place-number.ensures c.cancel.ensures.staged)
    (record { is_held = refl; is_words = refl; is_places = refl; is_place_of = refl; is_table = refl; is_failed = refl }) entries most (ap disk_of c.cancel.ensures.rest)
