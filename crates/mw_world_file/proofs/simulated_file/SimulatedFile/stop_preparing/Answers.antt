-- Goals of `SimulatedFile::stop_preparing` (src/stops.rt).
use Rattle.std.proofs.Common.{get_or, ◌∙◌, true, false, sym, ap, refl, arith}
use Rattle.arrayvec.specs.ArrayVec.{ArrayVec}
use Rattle.mw_words.specs.declared.jobs.Entry.{Entry}
use Rattle.mw_look.specs.declared.steps.Call.TheVariants.{Prepare}
use Rattle.mw_world_file.proofs.WorkedFiles.{none_suits, some_empty, is_found, found}
use Rattle.mw_world_file.proofs.StoppedFiles.{not_suited, left_cut, left_of, stays_left}
use Rattle.mw_world_file.proofs.ExactDisks.{cut_image, prepare_listed}
use Rattle.mw_world_file.proofs.simulated_file.SimulatedFile.stop_preparing.Goals as goal

pub returns-then-not-has_empty : goal.returns-then-not-has_empty
returns-then-not-has_empty c file shows =
    not_suited c.args.self.now c.args.cut.now Prepare c.requires.call c.requires.some file shows
    (none_suits c.args.self.now c.in-Open.held c.args.cut.now.slot c.args.cut.now.entries c.in-Open.is
    (found c.args.self.now c.deref.result.now c.has_empty.result false c.deref.ensures.value c.has_empty.ensures c.if-not-has_empty.true) file shows)

pub prepare-requires-clause-room : goal.prepare-requires-clause-room
prepare-requires-clause-room c =
    is_found c.args.self.now c.in-Open.held c.args.cut.now.slot c.args.cut.now.entries c.in-Open.is
    (found c.args.self.now c.deref.result.now c.has_empty.result true c.deref.ensures.value c.has_empty.ensures c.if-not-has_empty.false) c.in_ok-file.file c.in_ok-file.ensures.states

pub returns : goal.returns
returns c file shows =
    let old = c.args.self.now in let cut = c.args.cut.now in
    let suits = some_empty old c.in-Open.held cut.slot cut.entries c.in-Open.is
    (found old c.deref.result.now c.has_empty.result true c.deref.ensures.value c.has_empty.ensures c.if-not-has_empty.false) file shows in
    let doubt = ap (λ (xs : ArrayVec Entry). xs.items) c.copy_of.ensures in
    left_cut old cut Prepare c.requires.call c.requires.some file shows (shows.same_failed ∙ c.requires.sound) suits c.args.torn.now (record { image = c.in_ok-crash.field-0; doubt = c.copy_of.result }) _
    (omega (arith, c.if-cut-device_calls.false, c.device_calls.ensures)) (doubt ∙ sym shows.same_doubt) refl
    (stays_left old c.in-Open.held c.in-Open.is c.in_ok-file.file c.prepare.new.self c.in_ok-file.ensures.states c.in_ok-file.ensures.keeps c.in_ok-crash.field-0.items c.in_ok-crash.ensures.image
    c.prepare.ensures.safe c.copy_of.result.items doubt file shows)
    (left_of old c.in-Open.held c.in_ok-file.file c.prepare.new.self cut.made _ c.args.torn.now c.in_ok-crash.field-0.items c.prepare.result c.in-Open.is c.requires.sound c.requires.some
    (omega (arith, c.if-cut-device_calls.false, c.device_calls.ensures)) c.in_ok-file.ensures.disk c.in_ok-file.ensures.plan c.in_ok-file.ensures.failed c.prepare.ensures.ends (omega (arith, c.refused.ensures, c.refused-2.ensures, c.if-refused.false))
    c.prepare.ensures.later (record { may = c.in_ok-crash.ensures.image; tears = c.in_ok-crash.ensures.torn }))
    (cut_image old cut Prepare c.in-Open.held c.in_ok-file.file c.prepare.new.self _ c.args.torn.now c.in_ok-crash.field-0.items c.prepare.result c.requires.call c.in-Open.is c.requires.sound c.requires.some
    c.in_ok-file.ensures.disk c.in_ok-file.ensures.at c.in_ok-file.ensures.words c.in_ok-file.ensures.states c.in_ok-file.ensures.failed c.prepare.ensures.ends
    (omega (arith, c.refused.ensures, c.refused-2.ensures, c.if-refused.false)) (prepare_listed c.in_ok-file.file c.prepare.new.self (get_or old.place_of cut.slot 0) cut.entries.items c.prepare.result (is_found old c.in-Open.held cut.slot cut.entries c.in-Open.is
    (found old c.deref.result.now c.has_empty.result true c.deref.ensures.value c.has_empty.ensures c.if-not-has_empty.false) c.in_ok-file.file c.in_ok-file.ensures.states) c.prepare.ensures.made)
    (record { may = c.in_ok-crash.ensures.image; tears = c.in_ok-crash.ensures.torn }))
