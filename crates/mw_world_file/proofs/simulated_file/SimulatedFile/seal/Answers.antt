-- Goals of `SimulatedFile::seal` (src/calls.rt).
use Rattle.std.proofs.Common.{◌∙◌, ◌≡◌, true, false, refl, sym, ap, arith, get_or, is_err, is_ok, length}
use Rattle.mw_words.specs.Change.{put}
use Rattle.mw_world_file.specs.declared.places.Place.TheVariants.{Prepared as KeptPrepared}
use Rattle.mw_world_file.specs.CallEffects.{may_end}
use Rattle.mw_world_file.proofs.WorkedFiles.{is_there, IsAt, unfailed_open, places_open, unsuited, refused}
use Rattle.mw_world_file.proofs.SealedFiles.{all_clear, not_apart, may_seal_it, sealed_kept, sealed_sized, seal_done, seal_broken, unprepared}
use Rattle.mw_look.specs.declared.steps.Call.TheVariants.{Seal}
use Rattle.mw_world_file.proofs.CalledDisks.{came_to_fault, came_well}
use Rattle.mw_world_file.proofs.CrashedFiles.{seal_safe}
use Rattle.mw_file.specs.File.{has_failed}
use Rattle.mw_file.proofs.Ended.{ended_well, went_well}
use Rattle.mw_memory_disk.specs.Memory.{memory_facts}
use Rattle.mw_file.specs.File.{at_of, words_of, states_of}
use Rattle.mw_world_file.specs.DeviceCalls.{call_list_at}
use Rattle.mw_world_file.proofs.ExactDisks.{exactly_well, exactly_badly, made_well, made_badly}
use Rattle.mw_world_file.proofs.FaultedFiles.{faulted}
use Rattle.mw_world_file.specs.Books.{quota_of}
use Rattle.mw_world_file.proofs.simulated_file.SimulatedFile.seal.Goals as goal

pub returns-then-not-is_apart-clause-works : goal.returns-then-not-is_apart-clause-works
returns-then-not-is_apart-clause-works c others =
    let old = c.args.self.now in let es = c.in-Some.entries.now in
    let at : IsAt old c.args.slot (get_or old.place_of c.args.slot 0) (KeptPrepared es) =
    is_there old c.args.slot (KeptPrepared es) c.deref.result.now c.in-Some.ensures c.deref.ensures.value (omega (arith, c.ranges.slot.fits)) in
    not_apart old c.args.slot (get_or old.place_of c.args.slot 0) es at others c.args.outcome
    (all_clear c.is_apart.result es.items c.deref-3.result.now old.places.items c.deref-2.result.now c.is_apart.ensures c.deref-3.ensures.0 c.deref-2.ensures.value ∙ c.if-not-is_apart.true)

pub seal-made-requires : goal.seal-made-requires
seal-made-requires c =
    let old = c.args.self.now in let es = c.in-Some.entries.now in
    let at : IsAt old c.args.slot (get_or old.place_of c.args.slot 0) (KeptPrepared es) =
    is_there old c.args.slot (KeptPrepared es) c.deref.result.now c.in-Some.ensures c.deref.ensures.value (omega (arith, c.ranges.slot.fits)) in
    let all = all_clear c.is_apart.result es.items c.deref-3.result.now old.places.items c.deref-2.result.now c.is_apart.ensures c.deref-3.ensures.0 c.deref-2.ensures.value ∙ c.if-not-is_apart.false in
    may_seal_it old c.args.slot (get_or old.place_of c.args.slot 0) es at c.in-Open.held c.in-Open.is c.in_ok-file.file c.in_ok-file.ensures.states all

pub with_place-requires-clause-sized : goal.with_place-requires-clause-sized
with_place-requires-clause-sized c =
    let old = c.args.self.now in let es = c.in-Some.entries.now in
    let at : IsAt old c.args.slot (get_or old.place_of c.args.slot 0) (KeptPrepared es) =
    is_there old c.args.slot (KeptPrepared es) c.deref.result.now c.in-Some.ensures c.deref.ensures.value (omega (arith, c.ranges.slot.fits)) in
    let fine : is_err c.seal-made.result ≡ false = sym c.is_err.ensures.value ∙ c.if-is_err.false in
    let words : c.in_ok-contents-in-Good.contents.items ≡ put old.contents.items es.items =
    c.in_ok-contents-in-Good.ensures ∙ ap (λ ws. put ws c.deref-in-Good-2.result.now) c.deref-in-Good.ensures.value ∙ ap (λ xs. put old.contents.items xs) c.deref-in-Good-2.ensures.0 in
    sealed_sized old c.args.slot (get_or old.place_of c.args.slot 0) es at c.in-Open.held c.in-Open.is c.in_ok-file.file c.in_ok-file.ensures.states c.seal-made.new.self c.in_ok-contents-in-Good.contents.items
    (ended_well memory_facts 2 c.in_ok-file.file c.seal-made.new.self c.seal-made.result fine c.seal-made.ensures.ends).words c.in_ok-file.ensures.words words

pub with_place-requires-clause-kept : goal.with_place-requires-clause-kept
with_place-requires-clause-kept c =
    let old = c.args.self.now in let es = c.in-Some.entries.now in
    let at : IsAt old c.args.slot (get_or old.place_of c.args.slot 0) (KeptPrepared es) =
    is_there old c.args.slot (KeptPrepared es) c.deref.result.now c.in-Some.ensures c.deref.ensures.value (omega (arith, c.ranges.slot.fits)) in
    let fine : is_err c.seal-made.result ≡ false = sym c.is_err.ensures.value ∙ c.if-is_err.false in
    sealed_kept old c.args.slot (get_or old.place_of c.args.slot 0) es at c.in-Open.held c.in-Open.is c.in_ok-file.file c.in_ok-file.ensures.states c.seal-made.new.self c.copy_of.result c.copy_of.ensures
    (went_well c.seal-made.result _ fine c.seal-made.ensures.staged)

pub returns-in_ok-with_place-in-Good-clause-works : goal.returns-in_ok-with_place-in-Good-clause-works
returns-in_ok-with_place-in-Good-clause-works c others =
    let old = c.args.self.now in let es = c.in-Some.entries.now in
    let at : IsAt old c.args.slot (get_or old.place_of c.args.slot 0) (KeptPrepared es) =
    is_there old c.args.slot (KeptPrepared es) c.deref.result.now c.in-Some.ensures c.deref.ensures.value (omega (arith, c.ranges.slot.fits)) in
    let all = all_clear c.is_apart.result es.items c.deref-3.result.now old.places.items c.deref-2.result.now c.is_apart.ensures c.deref-3.ensures.0 c.deref-2.ensures.value ∙ c.if-not-is_apart.false in
    let fine : is_err c.seal-made.result ≡ false = sym c.is_err.ensures.value ∙ c.if-is_err.false in
    let words : c.in_ok-contents-in-Good.contents.items ≡ put old.contents.items es.items =
    c.in_ok-contents-in-Good.ensures ∙ ap (λ ws. put ws c.deref-in-Good-2.result.now) c.deref-in-Good.ensures.value ∙ ap (λ xs. put old.contents.items xs) c.deref-in-Good-2.ensures.0 in
    seal_done old c.args.slot (get_or old.place_of c.args.slot 0) es at c.in-Open.held c.in-Open.is c.in_ok-file.file c.in_ok-file.ensures.states c.seal-made.new.self _ others c.args.outcome c.seal-made.result
    c.in_ok-file.ensures.keeps c.seal-made.ensures.safe all c.requires c.in_ok-contents-in-Good.contents.items c.copy_of.result words c.copy_of.ensures c.in-Good.is fine c.in_ok-with_place-in-Good.ensures

pub returns-in_ok-broken-in-Fail-clause-works : goal.returns-in_ok-broken-in-Fail-clause-works
returns-in_ok-broken-in-Fail-clause-works c others =
    let old = c.args.self.now in let es = c.in-Some.entries.now in
    let at : IsAt old c.args.slot (get_or old.place_of c.args.slot 0) (KeptPrepared es) =
    is_there old c.args.slot (KeptPrepared es) c.deref.result.now c.in-Some.ensures c.deref.ensures.value (omega (arith, c.ranges.slot.fits)) in
    let all = all_clear c.is_apart.result es.items c.deref-3.result.now old.places.items c.deref-2.result.now c.is_apart.ensures c.deref-3.ensures.0 c.deref-2.ensures.value ∙ c.if-not-is_apart.false in
    let bad : is_ok c.seal-made.result ≡ false = sym c.is_ok.ensures.value ∙ c.if-is_ok.false in
    let may : may_end 2 c.args.outcome ≡ true = ap (λ n. may_end n c.args.outcome) (sym c.device_calls.ensures) ∙ sym c.may_end.ensures ∙ c.if-not-may_end.false in
    let unfailed : has_failed c.in_ok-file.file ≡ false = c.in_ok-file.ensures.failed ∙ unfailed_open old c.in-Open.held c.in-Open.is c.requires in
    seal_broken old c.args.slot (get_or old.place_of c.args.slot 0) es at c.in-Open.held c.in-Open.is c.in_ok-file.file c.in_ok-file.ensures.states c.seal-made.new.self _ others c.args.outcome c.seal-made.result
    c.in_ok-file.ensures.keeps c.seal-made.ensures.safe all c.requires c.in-Fail.field-0 c.copy_of-in-Fail.result c.copy_of-in-Fail.ensures c.in-Fail.is may bad unfailed 2 c.seal-made.ensures.ends c.in_ok-broken-in-Fail.ensures

pub returns-in_ok-broken-in-Fail-clause-disk : goal.returns-in_ok-broken-in-Fail-clause-disk
returns-in_ok-broken-in-Fail-clause-disk c =
    came_to_fault c.args.self.now c.in_ok-broken-in-Fail.field-0 c.in-Open.held c.in_ok-file.file c.seal-made.new.self Seal c.args.slot 2 c.in-Fail.field-0 c.args.outcome c.seal-made.result c.in-Open.is
    c.in_ok-broken-in-Fail.ensures.is_device c.requires c.in-Fail.is (c.in_ok-file.ensures.failing c.in-Fail.field-0 c.in-Fail.is) (λ j. c.in_ok-file.ensures.plan c.in-Fail.field-0 j c.in-Fail.is)
    c.in_ok-file.ensures.failed refl (sym c.is_ok.ensures.value ∙ c.if-is_ok.false) c.seal-made.ensures.ends (omega (arith, c.refused.ensures, c.refused-else-is_ok.ensures, c.if-refused.false)) c.seal-made.ensures.later

pub returns-in_ok-with_place-in-Good-clause-moments : goal.returns-in_ok-with_place-in-Good-clause-moments
returns-in_ok-with_place-in-Good-clause-moments c =
    let old = c.args.self.now in let es = c.in-Some.entries.now in
    let at : IsAt old c.args.slot (get_or old.place_of c.args.slot 0) (KeptPrepared es) =
    is_there old c.args.slot (KeptPrepared es) c.deref.result.now c.in-Some.ensures c.deref.ensures.value (omega (arith, c.ranges.slot.fits)) in
    let unfailed : has_failed c.in_ok-file.file ≡ false = c.in_ok-file.ensures.failed ∙ unfailed_open old c.in-Open.held c.in-Open.is c.requires in
    seal_safe old c.in_ok-with_place-in-Good.field-0 c.in-Open.held c.in_ok-file.file c.seal-made.new.self c.args.slot c.args.outcome c.in-Open.is c.in_ok-with_place-in-Good.ensures.is_device
    c.in_ok-file.ensures.disk c.in_ok-file.ensures.failing c.in_ok-file.ensures.keeps (get_or old.place_of c.args.slot 0) es at c.in_ok-file.ensures.states c.seal-made.result unfailed 2
    c.seal-made.ensures.ends c.seal-made.ensures.safe

pub returns-in_ok-broken-in-Fail-clause-moments : goal.returns-in_ok-broken-in-Fail-clause-moments
returns-in_ok-broken-in-Fail-clause-moments c =
    let old = c.args.self.now in let es = c.in-Some.entries.now in
    let at : IsAt old c.args.slot (get_or old.place_of c.args.slot 0) (KeptPrepared es) =
    is_there old c.args.slot (KeptPrepared es) c.deref.result.now c.in-Some.ensures c.deref.ensures.value (omega (arith, c.ranges.slot.fits)) in
    let unfailed : has_failed c.in_ok-file.file ≡ false = c.in_ok-file.ensures.failed ∙ unfailed_open old c.in-Open.held c.in-Open.is c.requires in
    seal_safe old c.in_ok-broken-in-Fail.field-0 c.in-Open.held c.in_ok-file.file c.seal-made.new.self c.args.slot c.args.outcome c.in-Open.is c.in_ok-broken-in-Fail.ensures.is_device
    c.in_ok-file.ensures.disk c.in_ok-file.ensures.failing c.in_ok-file.ensures.keeps (get_or old.place_of c.args.slot 0) es at c.in_ok-file.ensures.states c.seal-made.result unfailed 2
    c.seal-made.ensures.ends c.seal-made.ensures.safe

pub returns-in_ok-with_place-in-Good-clause-exact : goal.returns-in_ok-with_place-in-Good-clause-exact
returns-in_ok-with_place-in-Good-clause-exact c others =
    let fine : is_err c.seal-made.result ≡ false = sym c.is_err.ensures.value ∙ c.if-is_err.false in
    exactly_well c.args.self.now c.in_ok-with_place-in-Good.field-0 c.in-Open.held c.in_ok-file.file c.seal-made.new.self Seal c.args.slot others c.args.outcome c.in-Open.is c.in_ok-with_place-in-Good.ensures.is_device c.requires c.in-Good.is
    (c.in_ok-file.ensures.disk c.in-Good.is) c.in_ok-file.ensures.at c.in_ok-file.ensures.words c.in_ok-file.ensures.states (ended_well memory_facts 2 c.in_ok-file.file c.seal-made.new.self c.seal-made.result fine c.seal-made.ensures.ends).made.refused
    (made_well (call_list_at (at_of c.in_ok-file.file) (words_of c.in_ok-file.file) (states_of c.in_ok-file.file) Seal (get_or c.args.self.now.place_of c.args.slot 0) others) c.in_ok-file.file c.seal-made.new.self c.seal-made.result fine c.seal-made.ensures.made)

pub returns-in_ok-broken-in-Fail-clause-exact : goal.returns-in_ok-broken-in-Fail-clause-exact
returns-in_ok-broken-in-Fail-clause-exact c others =
    exactly_badly c.args.self.now c.in_ok-broken-in-Fail.field-0 c.in-Open.held c.in_ok-file.file c.seal-made.new.self Seal c.args.slot others c.args.outcome c.in-Fail.field-0 c.in-Open.is c.in_ok-broken-in-Fail.ensures.is_device c.requires
    c.in-Fail.is (c.in_ok-file.ensures.failing c.in-Fail.field-0 c.in-Fail.is) c.in_ok-file.ensures.at c.in_ok-file.ensures.words c.in_ok-file.ensures.states
    (omega (arith, c.refused.ensures, c.refused-else-is_ok.ensures, c.if-refused.false))
    (made_badly (call_list_at (at_of c.in_ok-file.file) (words_of c.in_ok-file.file) (states_of c.in_ok-file.file) Seal (get_or c.args.self.now.place_of c.args.slot 0) others) c.in_ok-file.file c.seal-made.new.self _ c.seal-made.result (c.in_ok-file.ensures.failed ∙ unfailed_open c.args.self.now c.in-Open.held c.in-Open.is c.requires) (sym c.is_ok.ensures.value ∙ c.if-is_ok.false)
    c.seal-made.ensures.ends c.seal-made.ensures.made)

pub broken-requires : goal.broken-requires
broken-requires c =
    let old = c.args.self.now in
    let unfailed = c.in_ok-file.ensures.failed ∙ unfailed_open old c.in-Open.held c.in-Open.is c.requires in
    let met = faulted old c.in-Open.held c.in_ok-file.file c.seal-made.new.self 2 c.seal-made.result c.in-Open.is c.in_ok-file.ensures.states c.in_ok-file.ensures.words unfailed
    (sym c.is_ok.ensures.value ∙ c.if-is_ok.false) c.seal-made.ensures.ends in
    record { sized = met.sized; has = met.has; kept = met.kept; failed = met.failed }

pub with_place-requires-clause-has : goal.with_place-requires-clause-has
with_place-requires-clause-has c =
    let fine : is_err c.seal-made.result ≡ false = sym c.is_err.ensures.value ∙ c.if-is_err.false in
    (went_well c.seal-made.result _ fine c.seal-made.ensures.staged).count ∙ ap (λ ss. length ss) c.in_ok-file.ensures.states ∙ places_open c.args.self.now c.in-Open.held c.in-Open.is

pub with_place-requires-clause-within : goal.with_place-requires-clause-within
with_place-requires-clause-within c =
    let old = c.args.self.now in let es = c.in-Some.entries.now in
    let at : IsAt old c.args.slot (get_or old.place_of c.args.slot 0) (KeptPrepared es) =
    is_there old c.args.slot (KeptPrepared es) c.deref.result.now c.in-Some.ensures c.deref.ensures.value (omega (arith, c.ranges.slot.fits)) in
    at.within

pub with_place-requires-clause-failed : goal.with_place-requires-clause-failed
with_place-requires-clause-failed c =
    let fine : is_err c.seal-made.result ≡ false = sym c.is_err.ensures.value ∙ c.if-is_err.false in
    (ended_well memory_facts 2 c.in_ok-file.file c.seal-made.new.self c.seal-made.result fine c.seal-made.ensures.ends).after ∙ sym c.requires

pub returns-in_ok-with_place-in-Good-clause-disk : goal.returns-in_ok-with_place-in-Good-clause-disk
returns-in_ok-with_place-in-Good-clause-disk c =
    let fine : is_err c.seal-made.result ≡ false = sym c.is_err.ensures.value ∙ c.if-is_err.false in
    came_well c.args.self.now c.in_ok-with_place-in-Good.field-0 c.in-Open.held c.in_ok-file.file c.seal-made.new.self Seal c.args.slot 2 c.args.outcome c.in-Open.is c.in_ok-with_place-in-Good.ensures.is_device c.in-Good.is
    (c.in_ok-file.ensures.disk c.in-Good.is) refl (ended_well memory_facts 2 c.in_ok-file.file c.seal-made.new.self c.seal-made.result fine c.seal-made.ensures.ends).made c.seal-made.ensures.later

pub returns-in_default-clause-works : goal.returns-in_default-clause-works
returns-in_default-clause-works c others file shows =
    let old = c.args.self.now in
    unsuited Seal file (quota_of old) c.args.slot (file.place_of c.args.slot) others c.args.outcome
    (unprepared old c.args.slot c.deref.result.now c.in_default.ensures c.deref.ensures.value (omega (arith, c.ranges.slot.fits)) file shows)

pub returns-in_err-with_place-in-Good-clause-works : goal.returns-in_err-with_place-in-Good-clause-works
returns-in_err-with_place-in-Good-clause-works c others =
    refused c.args.self.now Seal c.args.slot others c.args.outcome c.from_residual-in_err-with_place-in-Good.result c.from_residual-in_err-with_place-in-Good.ensures.1

pub returns-in_err-broken-in-Fail-clause-works : goal.returns-in_err-broken-in-Fail-clause-works
returns-in_err-broken-in-Fail-clause-works c others =
    refused c.args.self.now Seal c.args.slot others c.args.outcome c.from_residual-in_err-broken-in-Fail.result c.from_residual-in_err-broken-in-Fail.ensures.1

pub returns-in_err-contents-in-Good-clause-works : goal.returns-in_err-contents-in-Good-clause-works
returns-in_err-contents-in-Good-clause-works c others =
    refused c.args.self.now Seal c.args.slot others c.args.outcome c.from_residual-in_err-contents-in-Good.result c.from_residual-in_err-contents-in-Good.ensures.1
