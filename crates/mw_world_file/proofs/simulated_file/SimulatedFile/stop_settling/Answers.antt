-- Goals of `SimulatedFile::stop_settling` (src/stops.rt).
use Rattle.std.proofs.Common.{◌∙◌, ap, sym, refl, arith, rules, get_or}
use Rattle.arrayvec.specs.ArrayVec.{ArrayVec}
use Rattle.mw_words.specs.declared.jobs.Entry.{Entry}
use Rattle.mw_world.specs.Files.State.{entries_in}
use Rattle.mw_world.specs.Files.Calls.{device_calls}
use Rattle.mw_look.specs.declared.steps.Call.TheVariants.{Settle}
use Rattle.mw_world_file.specs.declared.places.Place.TheVariants.{Sealed as KeptSealed}
use Rattle.mw_world_file.proofs.WorkedFiles.{IsAt, is_there, told_there}
use Rattle.mw_world_file.proofs.SealedFiles.{unsettled, settle_suits, is_sealed_in, sealed_writes}
use Rattle.mw_world_file.proofs.StoppedFiles.{not_suited, too_many, left_cut, left_of, stays_left}
use Rattle.mw_world_file.proofs.ExactDisks.{cut_image}
use Rattle.mw_world_file.proofs.simulated_file.SimulatedFile.stop_settling.Goals as goal

pub returns-in_default : goal.returns-in_default
returns-in_default c file shows =
    not_suited c.args.self.now c.args.cut.now Settle c.requires.call c.requires.some file shows
    (unsettled c.args.self.now c.args.cut.now.slot c.deref.result.now c.in_default.ensures c.deref.ensures.value (search rules) file shows)

pub returns-then-cut-device_calls : goal.returns-then-cut-device_calls
returns-then-cut-device_calls c file shows =
    let old = c.args.self.now in let es = c.in-Some.entries.now in
    let at : IsAt old c.args.cut.now.slot (get_or old.place_of c.args.cut.now.slot 0) (KeptSealed es) =
    is_there old c.args.cut.now.slot (KeptSealed es) c.deref.result.now c.in-Some.ensures c.deref.ensures.value (search rules) in
    let cut = c.args.cut.now in
    let suits = settle_suits old cut.slot (get_or old.place_of cut.slot 0) es at file shows in
    let calls = ap (λ xs. device_calls Settle xs) (ap entries_in (told_there old cut.slot (get_or old.place_of cut.slot 0) (KeptSealed es) at file shows)) in
    let counted = c.device_calls.ensures ∙ ap (λ xs. device_calls Settle xs) c.deref-2.ensures.0 in
    too_many old cut Settle c.requires.call c.requires.some file shows (shows.same_failed ∙ c.requires.sound) suits (omega (arith, calls, counted, c.if-cut-device_calls.true))

pub settle-requires : goal.settle-requires
settle-requires c =
    let old = c.args.self.now in let es = c.in-Some.entries.now in
    let at : IsAt old c.args.cut.now.slot (get_or old.place_of c.args.cut.now.slot 0) (KeptSealed es) =
    is_there old c.args.cut.now.slot (KeptSealed es) c.deref.result.now c.in-Some.ensures c.deref.ensures.value (search rules) in
    is_sealed_in old c.args.cut.now.slot (get_or old.place_of c.args.cut.now.slot 0) es at c.in-Open.held c.in-Open.is c.in_ok-file.file c.in_ok-file.ensures.states

pub returns : goal.returns
returns c file shows =
    let old = c.args.self.now in let es = c.in-Some.entries.now in
    let at : IsAt old c.args.cut.now.slot (get_or old.place_of c.args.cut.now.slot 0) (KeptSealed es) =
    is_there old c.args.cut.now.slot (KeptSealed es) c.deref.result.now c.in-Some.ensures c.deref.ensures.value (search rules) in
    let cut = c.args.cut.now in
    let suits = settle_suits old cut.slot (get_or old.place_of cut.slot 0) es at file shows in
    let calls = ap (λ xs. device_calls Settle xs) (ap entries_in (told_there old cut.slot (get_or old.place_of cut.slot 0) (KeptSealed es) at file shows)) in
    let counted = c.device_calls.ensures ∙ ap (λ xs. device_calls Settle xs) c.deref-2.ensures.0 in
    let doubt = ap (λ (xs : ArrayVec Entry). xs.items) c.copy_of.ensures in
    let writes = sealed_writes old cut.slot (get_or old.place_of cut.slot 0) es at c.in-Open.held c.in-Open.is c.in_ok-file.file c.in_ok-file.ensures.states in
    left_cut old cut Settle c.requires.call c.requires.some file shows (shows.same_failed ∙ c.requires.sound) suits c.args.torn.now (record { image = c.in_ok-crash.field-0; doubt = c.copy_of.result }) _
    (omega (arith, calls, counted, c.if-cut-device_calls.false)) (doubt ∙ sym shows.same_doubt) refl
    (stays_left old c.in-Open.held c.in-Open.is c.in_ok-file.file c.settle.new.self c.in_ok-file.ensures.states c.in_ok-file.ensures.keeps c.in_ok-crash.field-0.items c.in_ok-crash.ensures.image
    c.settle.ensures.safe c.copy_of.result.items doubt file shows)
    (left_of old c.in-Open.held c.in_ok-file.file c.settle.new.self cut.made _ c.args.torn.now c.in_ok-crash.field-0.items c.settle.result c.in-Open.is c.requires.sound c.requires.some
    (omega (arith, writes, counted, c.if-cut-device_calls.false)) c.in_ok-file.ensures.disk c.in_ok-file.ensures.plan c.in_ok-file.ensures.failed c.settle.ensures.ends (omega (arith, c.refused.ensures, c.refused-2.ensures, c.if-refused.false))
    c.settle.ensures.later (record { may = c.in_ok-crash.ensures.image; tears = c.in_ok-crash.ensures.torn }))
    (cut_image old cut Settle c.in-Open.held c.in_ok-file.file c.settle.new.self _ c.args.torn.now c.in_ok-crash.field-0.items c.settle.result c.requires.call c.in-Open.is c.requires.sound c.requires.some
    c.in_ok-file.ensures.disk c.in_ok-file.ensures.at c.in_ok-file.ensures.words c.in_ok-file.ensures.states c.in_ok-file.ensures.failed c.settle.ensures.ends
    (omega (arith, c.refused.ensures, c.refused-2.ensures, c.if-refused.false)) c.settle.ensures.made
    (record { may = c.in_ok-crash.ensures.image; tears = c.in_ok-crash.ensures.torn }))
