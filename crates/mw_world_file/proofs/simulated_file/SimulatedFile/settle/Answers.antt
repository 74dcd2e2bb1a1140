-- Goals of `SimulatedFile::settle` (src/calls.rt).
use Rattle.std.proofs.Common.{◌+◌, ◌∙◌, ◌≡◌, true, false, sym, ap, refl, arith, get_or, is_err, length}
use Rattle.mw_memory_disk.specs.Memory.{memory_facts}
use Rattle.mw_file.proofs.Ended.{ended_well, went_well}
use Rattle.mw_look.specs.declared.steps.Call.TheVariants.{Settle}
use Rattle.mw_world_file.specs.declared.places.Place.TheVariants.{Sealed as KeptSealed}
use Rattle.mw_world.specs.Files.State.{entries_in, entries_at}
use Rattle.mw_world_file.specs.Devices.{told_at}
use Rattle.mw_world.specs.Files.Calls.{device_calls}
use Rattle.mw_world_file.specs.CallEffects.{may_end}
use Rattle.mw_world_file.proofs.WorkedFiles.{is_there, IsAt, unfailed_open, places_open, sized_open, told_there, unending, unsuited, refused}
use Rattle.mw_world_file.proofs.CalledDisks.{came_well, came_to_fault}
use Rattle.mw_world_file.proofs.CrashedFiles.{stays_safe}
use Rattle.mw_world_file.proofs.SealedFiles.{is_sealed_in, sealed_writes, emptied_kept, settle_done, settle_broken, unsettled}
use Rattle.mw_file.specs.File.{at_of, words_of, states_of}
use Rattle.mw_world_file.specs.DeviceCalls.{call_list_at}
use Rattle.mw_world_file.proofs.ExactDisks.{exactly_well, exactly_badly, made_well, made_badly}
use Rattle.mw_world_file.specs.Books.{quota_of}
use Rattle.mw_world_file.proofs.FaultedFiles.{faulted}
use Rattle.mw_world_file.proofs.simulated_file.SimulatedFile.settle.Goals as goal

pub settle-made-requires : goal.settle-made-requires
settle-made-requires c =
    let old = c.args.self.now in let es = c.in-Some.entries.now in
    let at : IsAt old c.args.slot (get_or old.place_of c.args.slot 0) (KeptSealed es) =
    is_there old c.args.slot (KeptSealed es) c.deref.result.now c.in-Some.ensures c.deref.ensures.value (omega (arith, c.ranges.slot.fits)) in
    is_sealed_in old c.args.slot (get_or old.place_of c.args.slot 0) es at c.in-Open.held c.in-Open.is c.in_ok-file.file c.in_ok-file.ensures.states

pub emptied-requires-clause-kept : goal.emptied-requires-clause-kept
emptied-requires-clause-kept c =
    let old = c.args.self.now in let es = c.in-Some.entries.now in
    let at : IsAt old c.args.slot (get_or old.place_of c.args.slot 0) (KeptSealed es) =
    is_there old c.args.slot (KeptSealed es) c.deref.result.now c.in-Some.ensures c.deref.ensures.value (omega (arith, c.ranges.slot.fits)) in
    let fine : is_err c.settle-made.result ≡ false = sym c.is_err.ensures.value ∙ c.if-is_err.false in
    emptied_kept old c.args.slot (get_or old.place_of c.args.slot 0) (KeptSealed es) at c.in-Open.held c.in-Open.is c.in_ok-file.file c.in_ok-file.ensures.states c.settle-made.new.self _
    (went_well c.settle-made.result _ fine c.settle-made.ensures.staged)

pub returns-in_ok-emptied-in-Good-clause-works : goal.returns-in_ok-emptied-in-Good-clause-works
returns-in_ok-emptied-in-Good-clause-works c others =
    let old = c.args.self.now in let es = c.in-Some.entries.now in
    let at : IsAt old c.args.slot (get_or old.place_of c.args.slot 0) (KeptSealed es) =
    is_there old c.args.slot (KeptSealed es) c.deref.result.now c.in-Some.ensures c.deref.ensures.value (omega (arith, c.ranges.slot.fits)) in
    settle_done old c.args.slot (get_or old.place_of c.args.slot 0) es at c.in-Open.held c.in-Open.is c.settle-made.new.self _ others c.args.outcome c.requires
    (λ contents doubt keeps. (c.settle-made.ensures.safe refl contents doubt (c.in_ok-file.ensures.keeps contents doubt keeps)).after) c.in-Good.is c.in_ok-emptied-in-Good.ensures

pub returns-in_ok-broken-in-Fail-clause-works : goal.returns-in_ok-broken-in-Fail-clause-works
returns-in_ok-broken-in-Fail-clause-works c others =
    let old = c.args.self.now in let es = c.in-Some.entries.now in
    let at : IsAt old c.args.slot (get_or old.place_of c.args.slot 0) (KeptSealed es) =
    is_there old c.args.slot (KeptSealed es) c.deref.result.now c.in-Some.ensures c.deref.ensures.value (omega (arith, c.ranges.slot.fits)) in
    let may : may_end (device_calls Settle es.items) c.args.outcome ≡ true =
    ap (λ xs. may_end (device_calls Settle xs) c.args.outcome) (sym c.deref-2.ensures.0) ∙ ap (λ n. may_end n c.args.outcome) (sym c.device_calls.ensures) ∙ sym c.may_end.ensures ∙ c.if-not-may_end.false in
    settle_broken old c.args.slot (get_or old.place_of c.args.slot 0) es at c.in-Open.held c.in-Open.is c.settle-made.new.self _ others c.args.outcome c.requires
    (λ contents doubt keeps. (c.settle-made.ensures.safe refl contents doubt (c.in_ok-file.ensures.keeps contents doubt keeps)).after) c.in-Fail.field-0 c.new.result c.new.ensures c.in-Fail.is may
    c.in_ok-broken-in-Fail.ensures

pub returns-in_ok-emptied-in-Good-clause-disk : goal.returns-in_ok-emptied-in-Good-clause-disk
returns-in_ok-emptied-in-Good-clause-disk c =
    let old = c.args.self.now in let es = c.in-Some.entries.now in
    let at : IsAt old c.args.slot (get_or old.place_of c.args.slot 0) (KeptSealed es) =
    is_there old c.args.slot (KeptSealed es) c.deref.result.now c.in-Some.ensures c.deref.ensures.value (omega (arith, c.ranges.slot.fits)) in
    let many = sealed_writes old c.args.slot (get_or old.place_of c.args.slot 0) es at c.in-Open.held c.in-Open.is c.in_ok-file.file c.in_ok-file.ensures.states in
    let calls = ap (λ n. n + 3) many ∙ sym (ap (λ q. device_calls Settle (entries_in (told_at q))) at.there) in
    let fine : is_err c.settle-made.result ≡ false = sym c.is_err.ensures.value ∙ c.if-is_err.false in
    came_well old c.in_ok-emptied-in-Good.field-0 c.in-Open.held c.in_ok-file.file c.settle-made.new.self Settle c.args.slot _ c.args.outcome c.in-Open.is c.in_ok-emptied-in-Good.ensures.is_device c.in-Good.is
    (c.in_ok-file.ensures.disk c.in-Good.is) calls (ended_well memory_facts _ c.in_ok-file.file c.settle-made.new.self c.settle-made.result fine c.settle-made.ensures.ends).made c.settle-made.ensures.later

pub returns-in_ok-broken-in-Fail-clause-disk : goal.returns-in_ok-broken-in-Fail-clause-disk
returns-in_ok-broken-in-Fail-clause-disk c =
    let old = c.args.self.now in let es = c.in-Some.entries.now in
    let at : IsAt old c.args.slot (get_or old.place_of c.args.slot 0) (KeptSealed es) =
    is_there old c.args.slot (KeptSealed es) c.deref.result.now c.in-Some.ensures c.deref.ensures.value (omega (arith, c.ranges.slot.fits)) in
    let many = sealed_writes old c.args.slot (get_or old.place_of c.args.slot 0) es at c.in-Open.held c.in-Open.is c.in_ok-file.file c.in_ok-file.ensures.states in
    let calls = ap (λ n. n + 3) many ∙ sym (ap (λ q. device_calls Settle (entries_in (told_at q))) at.there) in
    came_to_fault old c.in_ok-broken-in-Fail.field-0 c.in-Open.held c.in_ok-file.file c.settle-made.new.self Settle c.args.slot _ c.in-Fail.field-0 c.args.outcome c.settle-made.result c.in-Open.is
    c.in_ok-broken-in-Fail.ensures.is_device c.requires c.in-Fail.is (c.in_ok-file.ensures.failing c.in-Fail.field-0 c.in-Fail.is) (λ j. c.in_ok-file.ensures.plan c.in-Fail.field-0 j c.in-Fail.is)
    c.in_ok-file.ensures.failed calls (sym c.is_ok.ensures.value ∙ c.if-is_ok.false) c.settle-made.ensures.ends (omega (arith, c.refused.ensures, c.refused-else-is_ok.ensures, c.if-refused.false)) c.settle-made.ensures.later

pub returns-in_ok-emptied-in-Good-clause-moments : goal.returns-in_ok-emptied-in-Good-clause-moments
returns-in_ok-emptied-in-Good-clause-moments c =
    stays_safe c.args.self.now c.in_ok-emptied-in-Good.field-0 c.in-Open.held c.in_ok-file.file c.settle-made.new.self c.args.slot c.args.outcome c.in-Open.is c.in_ok-emptied-in-Good.ensures.is_device
    c.in_ok-file.ensures.disk c.in_ok-file.ensures.failing c.in_ok-file.ensures.keeps Settle (λ file. refl) c.settle-made.ensures.safe

pub returns-in_ok-broken-in-Fail-clause-moments : goal.returns-in_ok-broken-in-Fail-clause-moments
returns-in_ok-broken-in-Fail-clause-moments c =
    stays_safe c.args.self.now c.in_ok-broken-in-Fail.field-0 c.in-Open.held c.in_ok-file.file c.settle-made.new.self c.args.slot c.args.outcome c.in-Open.is c.in_ok-broken-in-Fail.ensures.is_device
    c.in_ok-file.ensures.disk c.in_ok-file.ensures.failing c.in_ok-file.ensures.keeps Settle (λ file. refl) c.settle-made.ensures.safe

pub returns-in_ok-emptied-in-Good-clause-exact : goal.returns-in_ok-emptied-in-Good-clause-exact
returns-in_ok-emptied-in-Good-clause-exact c others =
    let fine : is_err c.settle-made.result ≡ false = sym c.is_err.ensures.value ∙ c.if-is_err.false in
    exactly_well c.args.self.now c.in_ok-emptied-in-Good.field-0 c.in-Open.held c.in_ok-file.file c.settle-made.new.self Settle c.args.slot others c.args.outcome c.in-Open.is c.in_ok-emptied-in-Good.ensures.is_device c.requires c.in-Good.is
    (c.in_ok-file.ensures.disk c.in-Good.is) c.in_ok-file.ensures.at c.in_ok-file.ensures.words c.in_ok-file.ensures.states (ended_well memory_facts _ c.in_ok-file.file c.settle-made.new.self c.settle-made.result fine c.settle-made.ensures.ends).made.refused
    (made_well (call_list_at (at_of c.in_ok-file.file) (words_of c.in_ok-file.file) (states_of c.in_ok-file.file) Settle (get_or c.args.self.now.place_of c.args.slot 0) others) c.in_ok-file.file c.settle-made.new.self c.settle-made.result fine c.settle-made.ensures.made)

pub returns-in_ok-broken-in-Fail-clause-exact : goal.returns-in_ok-broken-in-Fail-clause-exact
returns-in_ok-broken-in-Fail-clause-exact c others =
    exactly_badly c.args.self.now c.in_ok-broken-in-Fail.field-0 c.in-Open.held c.in_ok-file.file c.settle-made.new.self Settle c.args.slot others c.args.outcome c.in-Fail.field-0 c.in-Open.is c.in_ok-broken-in-Fail.ensures.is_device c.requires
    c.in-Fail.is (c.in_ok-file.ensures.failing c.in-Fail.field-0 c.in-Fail.is) c.in_ok-file.ensures.at c.in_ok-file.ensures.words c.in_ok-file.ensures.states
    (omega (arith, c.refused.ensures, c.refused-else-is_ok.ensures, c.if-refused.false))
    (made_badly (call_list_at (at_of c.in_ok-file.file) (words_of c.in_ok-file.file) (states_of c.in_ok-file.file) Settle (get_or c.args.self.now.place_of c.args.slot 0) others) c.in_ok-file.file c.settle-made.new.self _ c.settle-made.result (c.in_ok-file.ensures.failed ∙ unfailed_open c.args.self.now c.in-Open.held c.in-Open.is c.requires) (sym c.is_ok.ensures.value ∙ c.if-is_ok.false)
    c.settle-made.ensures.ends c.settle-made.ensures.made)

pub broken-requires : goal.broken-requires
broken-requires c =
    let old = c.args.self.now in
    let unfailed = c.in_ok-file.ensures.failed ∙ unfailed_open old c.in-Open.held c.in-Open.is c.requires in
    let met = faulted old c.in-Open.held c.in_ok-file.file c.settle-made.new.self _ c.settle-made.result c.in-Open.is c.in_ok-file.ensures.states c.in_ok-file.ensures.words unfailed
    (sym c.is_ok.ensures.value ∙ c.if-is_ok.false) c.settle-made.ensures.ends in
    record { sized = met.sized; has = met.has; kept = met.kept; failed = met.failed }

pub emptied-requires-clause-has : goal.emptied-requires-clause-has
emptied-requires-clause-has c =
    let fine : is_err c.settle-made.result ≡ false = sym c.is_err.ensures.value ∙ c.if-is_err.false in
    (went_well c.settle-made.result _ fine c.settle-made.ensures.staged).count ∙ ap (λ ss. length ss) c.in_ok-file.ensures.states ∙ places_open c.args.self.now c.in-Open.held c.in-Open.is

pub emptied-requires-clause-sized : goal.emptied-requires-clause-sized
emptied-requires-clause-sized c =
    let fine : is_err c.settle-made.result ≡ false = sym c.is_err.ensures.value ∙ c.if-is_err.false in
    (ended_well memory_facts _ c.in_ok-file.file c.settle-made.new.self c.settle-made.result fine c.settle-made.ensures.ends).words ∙ c.in_ok-file.ensures.words ∙ sized_open c.args.self.now c.in-Open.held c.in-Open.is

pub emptied-requires-clause-within : goal.emptied-requires-clause-within
emptied-requires-clause-within c =
    let old = c.args.self.now in let es = c.in-Some.entries.now in
    let at : IsAt old c.args.slot (get_or old.place_of c.args.slot 0) (KeptSealed es) =
    is_there old c.args.slot (KeptSealed es) c.deref.result.now c.in-Some.ensures c.deref.ensures.value (omega (arith, c.ranges.slot.fits)) in
    at.within

pub emptied-requires-clause-failed : goal.emptied-requires-clause-failed
emptied-requires-clause-failed c =
    let fine : is_err c.settle-made.result ≡ false = sym c.is_err.ensures.value ∙ c.if-is_err.false in
    (ended_well memory_facts _ c.in_ok-file.file c.settle-made.new.self c.settle-made.result fine c.settle-made.ensures.ends).after ∙ sym c.requires

pub returns-then-not-may_end-clause-works : goal.returns-then-not-may_end-clause-works
returns-then-not-may_end-clause-works c others file shows =
    let old = c.args.self.now in let es = c.in-Some.entries.now in
    let at : IsAt old c.args.slot (get_or old.place_of c.args.slot 0) (KeptSealed es) =
    is_there old c.args.slot (KeptSealed es) c.deref.result.now c.in-Some.ensures c.deref.ensures.value (omega (arith, c.ranges.slot.fits)) in
    let told = ap entries_in (told_there old c.args.slot (get_or old.place_of c.args.slot 0) (KeptSealed es) at file shows) in
    let not : may_end (device_calls Settle (entries_at file (file.place_of c.args.slot))) c.args.outcome ≡ false =
    ap (λ xs. may_end (device_calls Settle xs) c.args.outcome) (told ∙ sym c.deref-2.ensures.0) ∙ ap (λ n. may_end n c.args.outcome) (sym c.device_calls.ensures) ∙ sym c.may_end.ensures ∙ c.if-not-may_end.true in
    unending Settle file (quota_of old) c.args.slot (file.place_of c.args.slot) others c.args.outcome not

pub returns-in_default-clause-works : goal.returns-in_default-clause-works
returns-in_default-clause-works c others file shows =
    let old = c.args.self.now in
    unsuited Settle file (quota_of old) c.args.slot (file.place_of c.args.slot) others c.args.outcome
    (unsettled old c.args.slot c.deref.result.now c.in_default.ensures c.deref.ensures.value (omega (arith, c.ranges.slot.fits)) file shows)

pub returns-in_err-broken-in-Fail-clause-works : goal.returns-in_err-broken-in-Fail-clause-works
returns-in_err-broken-in-Fail-clause-works c others =
    refused c.args.self.now Settle c.args.slot others c.args.outcome c.from_residual-in_err-broken-in-Fail.result c.from_residual-in_err-broken-in-Fail.ensures.1

pub returns-in_err-emptied-in-Good-clause-works : goal.returns-in_err-emptied-in-Good-clause-works
returns-in_err-emptied-in-Good-clause-works c others =
    refused c.args.self.now Settle c.args.slot others c.args.outcome c.from_residual-in_err-emptied-in-Good.result c.from_residual-in_err-emptied-in-Good.ensures.1
