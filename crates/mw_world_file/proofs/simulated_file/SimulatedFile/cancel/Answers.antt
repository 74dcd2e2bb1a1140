-- Goals of `SimulatedFile::cancel` (src/calls.rt).
use Rattle.std.proofs.Common.{◌∙◌, ◌≡◌, true, sym, ap, refl, arith, get_or, length}
use Rattle.mw_disk.proofs.RunLaws.{good_none, later_refl}
use Rattle.mw_memory_disk.specs.Memory.{memory_facts}
use Rattle.mw_file.specs.File.{disk_of, words_of}
use Rattle.mw_look.specs.declared.steps.Call.TheVariants.{Cancel}
use Rattle.mw_world_file.specs.declared.places.Place.TheVariants.{Prepared as KeptPrepared}
use Rattle.mw_world_file.specs.CallEffects.{may_end}
use Rattle.mw_world_file.proofs.WorkedFiles.{is_there, IsAt, places_open, sized_open, unsuited}
use Rattle.mw_world_file.proofs.SealedFiles.{ends_well, none_shut, is_prepared_in, emptied_kept, cancel_done, uncancelled}
use Rattle.mw_world.specs.declared.outcomes.Outcome.TheVariants.{Good, Fail}
use Rattle.mw_world_file.proofs.CalledDisks.{came_well}
use Rattle.mw_world_file.proofs.CrashedFiles.{stays_safe}
use Rattle.mw_world_file.proofs.ExactDisks.{exactly_none}
use Rattle.mw_world_file.specs.Books.{quota_of}
use Rattle.mw_world_file.proofs.simulated_file.SimulatedFile.cancel.Goals as goal

pub cancel-requires : goal.cancel-requires
cancel-requires c =
    let old = c.args.self.now in let es = c.in-Some.entries.now in
    let at : IsAt old c.args.slot (get_or old.place_of c.args.slot 0) (KeptPrepared es) =
    is_there old c.args.slot (KeptPrepared es) c.deref.result.now c.in-Some.ensures c.deref.ensures.value (omega (arith, c.ranges.slot.fits)) in
    is_prepared_in old c.args.slot (get_or old.place_of c.args.slot 0) es at c.in-Open.held c.in-Open.is c.in_ok-file.file c.in_ok-file.ensures.same.states

pub unreachable-requires : goal.unreachable-requires
unreachable-requires c =
    let old = c.args.self.now in let es = c.in-Some.entries.now in
    let at : IsAt old c.args.slot (get_or old.place_of c.args.slot 0) (KeptPrepared es) =
    is_there old c.args.slot (KeptPrepared es) c.deref.result.now c.in-Some.ensures c.deref.ensures.value (omega (arith, c.ranges.slot.fits)) in
    none_shut old c.args.slot (get_or old.place_of c.args.slot 0) es at c.in_default-device.field-0 c.in_default-device.is

pub emptied-requires-clause-kept : goal.emptied-requires-clause-kept
emptied-requires-clause-kept c =
    let old = c.args.self.now in let es = c.in-Some.entries.now in
    let at : IsAt old c.args.slot (get_or old.place_of c.args.slot 0) (KeptPrepared es) =
    is_there old c.args.slot (KeptPrepared es) c.deref.result.now c.in-Some.ensures c.deref.ensures.value (omega (arith, c.ranges.slot.fits)) in
    emptied_kept old c.args.slot (get_or old.place_of c.args.slot 0) (KeptPrepared es) at c.in-Open.held c.in-Open.is c.in_ok-file.file c.in_ok-file.ensures.same.states c.cancel.new.self _ c.cancel.ensures.staged

pub returns-clause-works : goal.returns-clause-works
returns-clause-works c others =
    let old = c.args.self.now in let es = c.in-Some.entries.now in
    let at : IsAt old c.args.slot (get_or old.place_of c.args.slot 0) (KeptPrepared es) =
    is_there old c.args.slot (KeptPrepared es) c.deref.result.now c.in-Some.ensures c.deref.ensures.value (omega (arith, c.ranges.slot.fits)) in
    let may : may_end 0 c.args.outcome ≡ true = ap (λ n. may_end n c.args.outcome) (sym c.device_calls.ensures) ∙ sym c.may_end.ensures ∙ c.if-not-may_end.false in
    cancel_done old c.args.slot (get_or old.place_of c.args.slot 0) es at c.in-Open.held c.in-Open.is c.cancel.new.self _ others c.args.outcome may
    (λ contents doubt keeps. (c.cancel.ensures.safe refl contents doubt (c.in_ok-file.ensures.keeps contents doubt keeps)).after) c.in_ok-emptied.ensures

pub returns-clause-disk : goal.returns-clause-disk
returns-clause-disk c =
    let may : may_end 0 c.args.outcome ≡ true = ap (λ n. may_end n c.args.outcome) (sym c.device_calls.ensures) ∙ sym c.may_end.ensures ∙ c.if-not-may_end.false in
    let now = memory_facts (disk_of c.cancel.new.self) in
    came_well c.args.self.now c.in_ok-emptied.field-0 c.in-Open.held c.cancel.new.self c.cancel.new.self Cancel c.args.slot 0 c.args.outcome c.in-Open.is c.in_ok-emptied.ensures.is_device (ends_well c.args.outcome may)
    (ap disk_of c.cancel.ensures.rest ∙ c.in_ok-file.ensures.same.disk) refl (good_none now) (later_refl now)

pub returns-clause-moments : goal.returns-clause-moments
returns-clause-moments c =
    stays_safe c.args.self.now c.in_ok-emptied.field-0 c.in-Open.held c.in_ok-file.file c.cancel.new.self c.args.slot Good c.in-Open.is c.in_ok-emptied.ensures.is_device
    (λ well. c.in_ok-file.ensures.same.disk) (λ number bad. absurd (let e : Good ≡ Fail number = bad in cc)) c.in_ok-file.ensures.keeps Cancel (λ file. refl) c.cancel.ensures.safe

pub returns-clause-exact : goal.returns-clause-exact
returns-clause-exact c others =
    let may : may_end 0 c.args.outcome ≡ true = ap (λ n. may_end n c.args.outcome) (sym c.device_calls.ensures) ∙ sym c.may_end.ensures ∙ c.if-not-may_end.false in
    exactly_none c.args.self.now c.in_ok-emptied.field-0 c.in-Open.held c.cancel.new.self c.args.slot others c.args.outcome c.in-Open.is c.in_ok-emptied.ensures.is_device (ends_well c.args.outcome may)
    (ap disk_of c.cancel.ensures.rest ∙ c.in_ok-file.ensures.same.disk)

pub emptied-requires-clause-has : goal.emptied-requires-clause-has
emptied-requires-clause-has c = c.cancel.ensures.staged.count ∙ ap (λ ss. length ss) c.in_ok-file.ensures.same.states ∙ places_open c.args.self.now c.in-Open.held c.in-Open.is

pub emptied-requires-clause-sized : goal.emptied-requires-clause-sized
emptied-requires-clause-sized c = ap words_of c.cancel.ensures.rest ∙ c.in_ok-file.ensures.same.words ∙ sized_open c.args.self.now c.in-Open.held c.in-Open.is

pub returns-in_default-clause-works : goal.returns-in_default-clause-works
returns-in_default-clause-works c others file shows =
    let old = c.args.self.now in
    unsuited Cancel file (quota_of old) c.args.slot (file.place_of c.args.slot) others c.args.outcome
    (uncancelled old c.args.slot c.deref.result.now c.in_default.ensures c.deref.ensures.value (omega (arith, c.ranges.slot.fits)) file shows)

pub emptied-requires-clause-within : goal.emptied-requires-clause-within
emptied-requires-clause-within c =
    let old = c.args.self.now in let es = c.in-Some.entries.now in
    let at : IsAt old c.args.slot (get_or old.place_of c.args.slot 0) (KeptPrepared es) =
    is_there old c.args.slot (KeptPrepared es) c.deref.result.now c.in-Some.ensures c.deref.ensures.value (omega (arith, c.ranges.slot.fits)) in
    at.within
