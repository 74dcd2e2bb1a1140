-- Goals of `SimulatedFile::stop_sealing` (src/stops.rt).
use Rattle.mw_world_file.specs.Books.{quota_of, places_of_file}
use Rattle.mw_world.specs.Files.Calls.{place_for}
use Rattle.mw_world_file.proofs.StoppedFiles.{Finds}
use Rattle.std.proofs.Common.{◌∙◌, List, true, false, sym, ap, subst, arith, rules, get_or}
use Rattle.arrayvec.specs.ArrayVec.{ArrayVec}
use Rattle.mw_words.specs.declared.jobs.Entry.{Entry}
use Rattle.mw_world.specs.Files.State.{entries_in, entries_at}
use Rattle.mw_look.specs.declared.steps.Call.TheVariants.{Seal}
use Rattle.mw_world_file.specs.declared.places.Place.TheVariants.{Prepared as KeptPrepared}
use Rattle.mw_world_file.proofs.WorkedFiles.{IsAt, is_there, told_there, unfailed_open}
use Rattle.mw_world_file.proofs.SealedFiles.{all_clear, may_seal_it, seal_suits, unprepared, writes_are}
use Rattle.mw_world_file.proofs.StoppedFiles.{not_suited, left_cut, left_of, sealed_left, sealed_whole, doubt_sealing, part_of_seal, whole_seal}
use Rattle.mw_world_file.proofs.ExactDisks.{cut_image}
use Rattle.mw_world_file.proofs.simulated_file.SimulatedFile.stop_sealing.Goals as goal

pub returns-in_default : goal.returns-in_default
returns-in_default c file shows =
    not_suited c.args.self.now c.args.cut.now Seal c.requires.call c.requires.some file shows
    (unprepared c.args.self.now c.args.cut.now.slot c.deref.result.now c.in_default.ensures c.deref.ensures.value (search rules) file shows)

pub returns-then-not-is_apart : goal.returns-then-not-is_apart
returns-then-not-is_apart c file shows =
    let old = c.args.self.now in let es = c.in-Some.entries.now in
    let at : IsAt old c.args.cut.now.slot (get_or old.place_of c.args.cut.now.slot 0) (KeptPrepared es) =
    is_there old c.args.cut.now.slot (KeptPrepared es) c.deref.result.now c.in-Some.ensures c.deref.ensures.value (search rules) in
    not_suited old c.args.cut.now Seal c.requires.call c.requires.some file shows
    (seal_suits old c.args.cut.now.slot (get_or old.place_of c.args.cut.now.slot 0) es at false
    (all_clear c.is_apart.result es.items c.deref-3.result.now old.places.items c.deref-2.result.now c.is_apart.ensures c.deref-3.ensures.0 c.deref-2.ensures.value ∙ c.if-not-is_apart.true) file shows)

pub seal-sealed-requires : goal.seal-sealed-requires
seal-sealed-requires c =
    let old = c.args.self.now in let es = c.in-Some.entries.now in
    let at : IsAt old c.args.cut.now.slot (get_or old.place_of c.args.cut.now.slot 0) (KeptPrepared es) =
    is_there old c.args.cut.now.slot (KeptPrepared es) c.deref.result.now c.in-Some.ensures c.deref.ensures.value (search rules) in
    let all = all_clear c.is_apart.result es.items c.deref-3.result.now old.places.items c.deref-2.result.now c.is_apart.ensures c.deref-3.ensures.0 c.deref-2.ensures.value ∙ c.if-not-is_apart.false in
    may_seal_it old c.args.cut.now.slot (get_or old.place_of c.args.cut.now.slot 0) es at c.in-Open.held c.in-Open.is c.in_ok-file.file c.in_ok-file.ensures.states all

pub returns-then-cut-device_calls-2 : goal.returns-then-cut-device_calls-2
returns-then-cut-device_calls-2 c file shows =
    let old = c.args.self.now in let es = c.in-Some.entries.now in
    let at : IsAt old c.args.cut.now.slot (get_or old.place_of c.args.cut.now.slot 0) (KeptPrepared es) =
    is_there old c.args.cut.now.slot (KeptPrepared es) c.deref.result.now c.in-Some.ensures c.deref.ensures.value (search rules) in
    let cut = c.args.cut.now in
    let all = all_clear c.is_apart.result es.items c.deref-3.result.now old.places.items c.deref-2.result.now c.is_apart.ensures c.deref-3.ensures.0 c.deref-2.ensures.value ∙ c.if-not-is_apart.false in
    let suits = seal_suits old cut.slot (get_or old.place_of cut.slot 0) es at true all file shows in
    let copied = ap (λ (xs : ArrayVec Entry). xs.items) c.copy_of.ensures in
    let there = ap entries_in (told_there old cut.slot (get_or old.place_of cut.slot 0) (KeptPrepared es) at file shows) in
    left_cut old cut Seal c.requires.call c.requires.some file shows (shows.same_failed ∙ c.requires.sound) suits c.args.torn.now (record { image = c.in_ok-crash.field-0; doubt = c.copy_of.result }) false
    (omega (arith, c.if-cut-device_calls.false, c.device_calls.ensures)) (copied ∙ sym there ∙ sym (doubt_sealing file.doubt (entries_at file (place_for Seal file (quota_of old) cut.slot)) cut.made c.requires.some))
    (part_of_seal cut.made 2 (omega (arith, c.if-cut-device_calls-2.true, c.device_calls-2.ensures)))
    (subst (λ (doubt : List Entry). Finds (places_of_file old) false old.contents.items doubt c.in_ok-crash.field-0.items) (sym copied)
    (sealed_left old c.in-Open.held c.in-Open.is c.in_ok-file.file c.seal-sealed.new.self c.in_ok-file.ensures.states c.in_ok-file.ensures.keeps c.in_ok-crash.field-0.items c.in_ok-crash.ensures.image
    c.requires.sound es.items _ (writes_are old cut.slot (get_or old.place_of cut.slot 0) es at c.in-Open.held c.in-Open.is c.in_ok-file.file c.in_ok-file.ensures.states) c.seal-sealed.result c.seal-sealed.ensures.safe
    (c.in_ok-file.ensures.failed ∙ unfailed_open old c.in-Open.held c.in-Open.is c.requires.sound) c.seal-sealed.ensures.ends file shows))
    (left_of old c.in-Open.held c.in_ok-file.file c.seal-sealed.new.self cut.made _ c.args.torn.now c.in_ok-crash.field-0.items c.seal-sealed.result c.in-Open.is c.requires.sound c.requires.some
    (omega (arith, c.if-cut-device_calls.false, c.device_calls.ensures)) c.in_ok-file.ensures.disk c.in_ok-file.ensures.plan c.in_ok-file.ensures.failed c.seal-sealed.ensures.ends (omega (arith, c.refused.ensures, c.refused-2.ensures, c.if-refused.false))
    c.seal-sealed.ensures.later (record { may = c.in_ok-crash.ensures.image; tears = c.in_ok-crash.ensures.torn }))
    (cut_image old cut Seal c.in-Open.held c.in_ok-file.file c.seal-sealed.new.self _ c.args.torn.now c.in_ok-crash.field-0.items c.seal-sealed.result c.requires.call c.in-Open.is c.requires.sound c.requires.some
    c.in_ok-file.ensures.disk c.in_ok-file.ensures.at c.in_ok-file.ensures.words c.in_ok-file.ensures.states c.in_ok-file.ensures.failed c.seal-sealed.ensures.ends
    (omega (arith, c.refused.ensures, c.refused-2.ensures, c.if-refused.false)) c.seal-sealed.ensures.made
    (record { may = c.in_ok-crash.ensures.image; tears = c.in_ok-crash.ensures.torn }))

pub returns : goal.returns
returns c file shows =
    let old = c.args.self.now in let es = c.in-Some.entries.now in
    let at : IsAt old c.args.cut.now.slot (get_or old.place_of c.args.cut.now.slot 0) (KeptPrepared es) =
    is_there old c.args.cut.now.slot (KeptPrepared es) c.deref.result.now c.in-Some.ensures c.deref.ensures.value (search rules) in
    let cut = c.args.cut.now in
    let all = all_clear c.is_apart.result es.items c.deref-3.result.now old.places.items c.deref-2.result.now c.is_apart.ensures c.deref-3.ensures.0 c.deref-2.ensures.value ∙ c.if-not-is_apart.false in
    let suits = seal_suits old cut.slot (get_or old.place_of cut.slot 0) es at true all file shows in
    let copied = ap (λ (xs : ArrayVec Entry). xs.items) c.copy_of-2.ensures in
    let there = ap entries_in (told_there old cut.slot (get_or old.place_of cut.slot 0) (KeptPrepared es) at file shows) in
    left_cut old cut Seal c.requires.call c.requires.some file shows (shows.same_failed ∙ c.requires.sound) suits c.args.torn.now (record { image = c.in_ok-crash-2.field-0; doubt = c.copy_of-2.result }) true
    (omega (arith, c.if-cut-device_calls.false, c.device_calls.ensures)) (copied ∙ sym there ∙ sym (doubt_sealing file.doubt (entries_at file (place_for Seal file (quota_of old) cut.slot)) cut.made c.requires.some))
    (whole_seal cut.made 2 c.requires.some (omega (arith, c.if-cut-device_calls.false, c.device_calls.ensures, c.if-cut-device_calls-2.false, c.device_calls-2.ensures)))
    (subst (λ (doubt : List Entry). Finds (places_of_file old) true old.contents.items doubt c.in_ok-crash-2.field-0.items) (sym copied)
    (sealed_whole old c.in-Open.held c.in-Open.is c.in_ok-file.file c.seal-sealed.new.self c.in_ok-file.ensures.states c.in_ok-file.ensures.keeps c.in_ok-crash-2.field-0.items c.in_ok-crash-2.ensures.image
    c.requires.sound es.items _ (writes_are old cut.slot (get_or old.place_of cut.slot 0) es at c.in-Open.held c.in-Open.is c.in_ok-file.file c.in_ok-file.ensures.states) c.seal-sealed.result (sym c.is_err.ensures.value ∙ c.if-is_err.false) c.seal-sealed.ensures.safe
    (c.in_ok-file.ensures.failed ∙ unfailed_open old c.in-Open.held c.in-Open.is c.requires.sound) c.seal-sealed.ensures.ends file shows))
    (left_of old c.in-Open.held c.in_ok-file.file c.seal-sealed.new.self cut.made _ c.args.torn.now c.in_ok-crash-2.field-0.items c.seal-sealed.result c.in-Open.is c.requires.sound c.requires.some
    (omega (arith, c.if-cut-device_calls.false, c.device_calls.ensures)) c.in_ok-file.ensures.disk c.in_ok-file.ensures.plan c.in_ok-file.ensures.failed c.seal-sealed.ensures.ends (omega (arith, c.refused.ensures, c.refused-2.ensures, c.if-refused.false))
    c.seal-sealed.ensures.later (record { may = c.in_ok-crash-2.ensures.image; tears = c.in_ok-crash-2.ensures.torn }))
    (cut_image old cut Seal c.in-Open.held c.in_ok-file.file c.seal-sealed.new.self _ c.args.torn.now c.in_ok-crash-2.field-0.items c.seal-sealed.result c.requires.call c.in-Open.is c.requires.sound c.requires.some
    c.in_ok-file.ensures.disk c.in_ok-file.ensures.at c.in_ok-file.ensures.words c.in_ok-file.ensures.states c.in_ok-file.ensures.failed c.seal-sealed.ensures.ends
    (omega (arith, c.refused.ensures, c.refused-2.ensures, c.if-refused.false)) c.seal-sealed.ensures.made
    (record { may = c.in_ok-crash-2.ensures.image; tears = c.in_ok-crash-2.ensures.torn }))
