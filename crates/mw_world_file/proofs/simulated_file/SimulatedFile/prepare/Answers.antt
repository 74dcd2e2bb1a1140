-- Goals of `SimulatedFile::prepare` (src/calls.rt).
use Rattle.std.proofs.Common.{Ok, get_or, ◌∙◌, ◌≤◌, true, false, length, sym, ap, refl, arith, rules}
use Rattle.mw_words.specs.declared.limits.TheConstants.{MAX_POOL}
use Rattle.mw_look.specs.declared.steps.Call.TheVariants.{Prepare}
use Rattle.mw_record.specs.Layout.{pairs_of}
use Rattle.mw_file.specs.declared.place_states.Stage.TheVariants.{Prepared as PreparedStage}
use Rattle.mw_world_file.specs.declared.places.Place.TheVariants.{Prepared as KeptPrepared}
use Rattle.mw_world_file.specs.CallEffects.{may_end}
use Rattle.mw_world_file.proofs.WorkedFiles.{none_empty, found, is_found, place_within, kept_after, prepare_done, prepare_broken, refused, unfailed_open, places_open, sized_open}
use Rattle.mw_world_file.proofs.CalledDisks.{came_to_fault, came_well}
use Rattle.mw_world_file.proofs.CrashedFiles.{stays_safe}
use Rattle.mw_file.specs.File.{at_of, words_of, states_of}
use Rattle.mw_world_file.specs.DeviceCalls.{call_list_at}
use Rattle.mw_world_file.proofs.ExactDisks.{exactly_well, exactly_badly, prepare_listed, made_badly}
use Rattle.mw_world_file.proofs.FaultedFiles.{faulted}
use Rattle.mw_world_file.proofs.simulated_file.SimulatedFile.prepare.Goals as goal

pub returns-then-not-has_empty-clause-works : goal.returns-then-not-has_empty-clause-works
returns-then-not-has_empty-clause-works c =
    none_empty c.args.self.now c.in-Open.held c.args.slot c.args.entries.now c.in-Open.is c.args.outcome
    (found c.args.self.now c.deref.result.now c.has_empty.result false c.deref.ensures.value c.has_empty.ensures c.if-not-has_empty.true)

pub prepare-made-requires-clause-room : goal.prepare-made-requires-clause-room
prepare-made-requires-clause-room c =
    is_found c.args.self.now c.in-Open.held c.args.slot c.args.entries.now c.in-Open.is
    (found c.args.self.now c.deref.result.now c.has_empty.result true c.deref.ensures.value c.has_empty.ensures c.if-not-has_empty.false) c.in_ok-file.file c.in_ok-file.ensures.states

pub returns-in_err-file-clause-works : goal.returns-in_err-file-clause-works
returns-in_err-file-clause-works c = refused c.args.self.now Prepare c.args.slot c.args.entries.now.items c.args.outcome c.from_residual.result c.from_residual.ensures.1

pub prepared-requires-clause-within : goal.prepared-requires-clause-within
prepared-requires-clause-within c =
    place_within c.args.self.now c.in-Open.held c.args.slot c.args.entries.now c.in-Open.is
    (found c.args.self.now c.deref.result.now c.has_empty.result true c.deref.ensures.value c.has_empty.ensures c.if-not-has_empty.false)
    c.in_ok-file.file c.in_ok-file.ensures.states c.in-Ok.place.0 c.in-Ok.ensures.lowest

pub prepared-requires-clause-kept : goal.prepared-requires-clause-kept
prepared-requires-clause-kept c =
    kept_after c.args.self.now c.in-Open.held c.in-Open.is c.in_ok-file.file c.prepare-made.new.self c.in-Ok.place.0 (KeptPrepared c.args.entries.now) PreparedStage (pairs_of c.args.entries.now.items)
    c.in_ok-file.ensures.states (prepared-requires-clause-within c) c.in-Ok.ensures.staged refl (λ busy. refl)

pub returns-in_err-prepared-in-Ok-clause-works : goal.returns-in_err-prepared-in-Ok-clause-works
returns-in_err-prepared-in-Ok-clause-works c =
    refused c.args.self.now Prepare c.args.slot c.args.entries.now.items c.args.outcome c.from_residual-in_err-prepared-in-Ok.result c.from_residual-in_err-prepared-in-Ok.ensures.1

pub returns-in_err-broken-in-Fail-clause-works : goal.returns-in_err-broken-in-Fail-clause-works
returns-in_err-broken-in-Fail-clause-works c =
    refused c.args.self.now Prepare c.args.slot c.args.entries.now.items c.args.outcome c.from_residual-in_err-broken-in-Fail.result c.from_residual-in_err-broken-in-Fail.ensures.1

pub returns-in_ok-prepared-in-Ok-clause-works : goal.returns-in_ok-prepared-in-Ok-clause-works
returns-in_ok-prepared-in-Ok-clause-works c =
    let long : MAX_POOL ≤ length c.args.self.now.place_of = search rules in
    prepare_done c.args.self.now c.in-Open.held c.args.slot c.args.entries.now c.in-Open.is
    (found c.args.self.now c.deref.result.now c.has_empty.result true c.deref.ensures.value c.has_empty.ensures c.if-not-has_empty.false)
    c.in_ok-file.file c.in_ok-file.ensures.states c.prepare-made.new.self _ c.args.outcome c.in-Ok.place.0
    c.in-Good.is c.in-Ok.ensures.lowest (omega (arith, c.ranges.slot.fits)) long
    (λ contents doubt keeps. (c.prepare-made.ensures.safe refl contents doubt (c.in_ok-file.ensures.keeps contents doubt keeps)).after) c.in_ok-prepared-in-Ok.ensures

pub returns-in_ok-broken-in-Fail-clause-works : goal.returns-in_ok-broken-in-Fail-clause-works
returns-in_ok-broken-in-Fail-clause-works c =
    prepare_broken c.args.self.now c.in-Open.held c.args.slot c.args.entries.now c.in-Open.is
    (found c.args.self.now c.deref.result.now c.has_empty.result true c.deref.ensures.value c.has_empty.ensures c.if-not-has_empty.false)
    c.in_ok-file.file c.in_ok-file.ensures.states c.prepare-made.new.self _ c.args.outcome c.in-Fail.field-0 c.new.result
    c.in-Fail.is c.new.ensures (ap (λ n. may_end n c.args.outcome) (sym c.device_calls.ensures) ∙ sym c.may_end.ensures ∙ c.if-not-may_end.false)
    c.requires.sound
    (λ contents doubt keeps. (c.prepare-made.ensures.safe refl contents doubt (c.in_ok-file.ensures.keeps contents doubt keeps)).after) c.in_ok-broken-in-Fail.ensures

pub returns-in_ok-broken-in-Fail-clause-disk : goal.returns-in_ok-broken-in-Fail-clause-disk
returns-in_ok-broken-in-Fail-clause-disk c =
    came_to_fault c.args.self.now c.in_ok-broken-in-Fail.field-0 c.in-Open.held c.in_ok-file.file c.prepare-made.new.self Prepare c.args.slot 2 c.in-Fail.field-0 c.args.outcome c.prepare-made.result c.in-Open.is
    c.in_ok-broken-in-Fail.ensures.is_device c.requires.sound c.in-Fail.is (c.in_ok-file.ensures.failing c.in-Fail.field-0 c.in-Fail.is) (λ j. c.in_ok-file.ensures.plan c.in-Fail.field-0 j c.in-Fail.is)
    c.in_ok-file.ensures.failed refl (sym c.is_ok.ensures.value ∙ c.if-is_ok.false) c.prepare-made.ensures.ends (omega (arith, c.refused.ensures, c.refused-else-is_ok.ensures, c.if-refused.false)) c.prepare-made.ensures.later

pub returns-in_ok-prepared-in-Ok-clause-moments : goal.returns-in_ok-prepared-in-Ok-clause-moments
returns-in_ok-prepared-in-Ok-clause-moments c =
    stays_safe c.args.self.now c.in_ok-prepared-in-Ok.field-0 c.in-Open.held c.in_ok-file.file c.prepare-made.new.self c.args.slot c.args.outcome c.in-Open.is c.in_ok-prepared-in-Ok.ensures.is_device
    c.in_ok-file.ensures.disk c.in_ok-file.ensures.failing c.in_ok-file.ensures.keeps Prepare (λ file. refl) c.prepare-made.ensures.safe

pub returns-in_ok-broken-in-Fail-clause-moments : goal.returns-in_ok-broken-in-Fail-clause-moments
returns-in_ok-broken-in-Fail-clause-moments c =
    stays_safe c.args.self.now c.in_ok-broken-in-Fail.field-0 c.in-Open.held c.in_ok-file.file c.prepare-made.new.self c.args.slot c.args.outcome c.in-Open.is c.in_ok-broken-in-Fail.ensures.is_device
    c.in_ok-file.ensures.disk c.in_ok-file.ensures.failing c.in_ok-file.ensures.keeps Prepare (λ file. refl) c.prepare-made.ensures.safe

pub returns-in_ok-prepared-in-Ok-clause-exact : goal.returns-in_ok-prepared-in-Ok-clause-exact
returns-in_ok-prepared-in-Ok-clause-exact c =
    exactly_well c.args.self.now c.in_ok-prepared-in-Ok.field-0 c.in-Open.held c.in_ok-file.file c.prepare-made.new.self Prepare c.args.slot c.args.entries.now.items c.args.outcome c.in-Open.is c.in_ok-prepared-in-Ok.ensures.is_device c.requires.sound c.in-Good.is
    (c.in_ok-file.ensures.disk c.in-Good.is) c.in_ok-file.ensures.at c.in_ok-file.ensures.words c.in_ok-file.ensures.states c.in-Ok.ensures.ends.made.refused
    (prepare_listed c.in_ok-file.file c.prepare-made.new.self (get_or c.args.self.now.place_of c.args.slot 0) c.args.entries.now.items (Ok c.in-Ok.place) (is_found c.args.self.now c.in-Open.held c.args.slot c.args.entries.now c.in-Open.is
    (found c.args.self.now c.deref.result.now c.has_empty.result true c.deref.ensures.value c.has_empty.ensures c.if-not-has_empty.false) c.in_ok-file.file c.in_ok-file.ensures.states) c.in-Ok.ensures.made)

pub returns-in_ok-broken-in-Fail-clause-exact : goal.returns-in_ok-broken-in-Fail-clause-exact
returns-in_ok-broken-in-Fail-clause-exact c =
    exactly_badly c.args.self.now c.in_ok-broken-in-Fail.field-0 c.in-Open.held c.in_ok-file.file c.prepare-made.new.self Prepare c.args.slot c.args.entries.now.items c.args.outcome c.in-Fail.field-0 c.in-Open.is c.in_ok-broken-in-Fail.ensures.is_device c.requires.sound
    c.in-Fail.is (c.in_ok-file.ensures.failing c.in-Fail.field-0 c.in-Fail.is) c.in_ok-file.ensures.at c.in_ok-file.ensures.words c.in_ok-file.ensures.states
    (omega (arith, c.refused.ensures, c.refused-else-is_ok.ensures, c.if-refused.false))
    (made_badly (call_list_at (at_of c.in_ok-file.file) (words_of c.in_ok-file.file) (states_of c.in_ok-file.file) Prepare (get_or c.args.self.now.place_of c.args.slot 0) c.args.entries.now.items) c.in_ok-file.file c.prepare-made.new.self _ c.prepare-made.result (c.in_ok-file.ensures.failed ∙ unfailed_open c.args.self.now c.in-Open.held c.in-Open.is c.requires.sound) (sym c.is_ok.ensures.value ∙ c.if-is_ok.false)
    c.prepare-made.ensures.ends (prepare_listed c.in_ok-file.file c.prepare-made.new.self (get_or c.args.self.now.place_of c.args.slot 0) c.args.entries.now.items c.prepare-made.result (is_found c.args.self.now c.in-Open.held c.args.slot c.args.entries.now c.in-Open.is
    (found c.args.self.now c.deref.result.now c.has_empty.result true c.deref.ensures.value c.has_empty.ensures c.if-not-has_empty.false) c.in_ok-file.file c.in_ok-file.ensures.states) c.prepare-made.ensures.made))

pub broken-requires : goal.broken-requires
broken-requires c =
    let old = c.args.self.now in
    let unfailed = c.in_ok-file.ensures.failed ∙ unfailed_open old c.in-Open.held c.in-Open.is c.requires.sound in
    let met = faulted old c.in-Open.held c.in_ok-file.file c.prepare-made.new.self 2 c.prepare-made.result c.in-Open.is c.in_ok-file.ensures.states c.in_ok-file.ensures.words unfailed
    (sym c.is_ok.ensures.value ∙ c.if-is_ok.false) c.prepare-made.ensures.ends in
    record { sized = met.sized; has = met.has; kept = met.kept; failed = met.failed }

pub prepared-requires-clause-has : goal.prepared-requires-clause-has
prepared-requires-clause-has c = c.in-Ok.ensures.staged.count ∙ ap (λ ss. length ss) c.in_ok-file.ensures.states ∙ places_open c.args.self.now c.in-Open.held c.in-Open.is

pub prepared-requires-clause-sized : goal.prepared-requires-clause-sized
prepared-requires-clause-sized c = c.in-Ok.ensures.ends.words ∙ c.in_ok-file.ensures.words ∙ sized_open c.args.self.now c.in-Open.held c.in-Open.is

pub returns-in_ok-prepared-in-Ok-clause-disk : goal.returns-in_ok-prepared-in-Ok-clause-disk
returns-in_ok-prepared-in-Ok-clause-disk c =
    came_well c.args.self.now c.in_ok-prepared-in-Ok.field-0 c.in-Open.held c.in_ok-file.file c.prepare-made.new.self Prepare c.args.slot 2 c.args.outcome c.in-Open.is c.in_ok-prepared-in-Ok.ensures.is_device c.in-Good.is
    (c.in_ok-file.ensures.disk c.in-Good.is) refl c.in-Ok.ensures.ends.made c.prepare-made.ensures.later
