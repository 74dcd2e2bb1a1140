-- Goals of `TenantFile::settle_all` (src/tenant_file.rt).
use Rattle.std.proofs.Common.{◌≡◌, List, [], length, inl, ap, sym, ◌∙◌, refl, subst, arith, ◌+◌, ◌++◌, true, false, ◌≤◌}
use Rattle.std.specs.Vec.{with_items}
use Rattle.std.proofs.lemmas.List.{with_items_is}
use Rattle.mw_disk.specs.Runs.{LeavesOnly}
use Rattle.mw_disk.proofs.RunLaws.{leaves_wider}
use Rattle.mw_record.specs.Contents.{HasSecond}
use Rattle.mw_file.specs.declared.place_states.PlaceState.{PlaceState}
use Rattle.mw_file.specs.PlaceStates.{AreFreed, roll_calls}
use Rattle.mw_file.specs.NewChanges.{ArePrepared, CanPrepare}
use Rattle.mw_file.proofs.Ended.{went_well}
use Rattle.mw_file.proofs.NewPlaces.{durable_with, settled_with}
use Rattle.mw_file.proofs.RecordWrites.{can_prepare}
use Rattle.mw_file.proofs.Safety.{is_file, safe_failed, safe_well, safe_same, safe_untouched, first_untouched}
use Rattle.mw_file.proofs.Ran.{ran_well, ran_badly}
use Rattle.mw_file.proofs.OpeningCallLaws.{made_well, made_badly}
use Rattle.mw_disk.specs.DeviceCalls.{Makes}
use Rattle.mw_file.specs.DeviceCalls.{record_calls, roll_device_calls}
use Rattle.mw_words.specs.declared.limits.TheConstants.{MAX_PLACES}
use Rattle.mw_file.proofs.tenant_file.TenantFile.settle_all.Goals as goal

pub set_prepared-requires-clause-there : goal.set_prepared-requires-clause-there
set_prepared-requires-clause-there g c =
    let long = ap length c.deref_mut-2.ensures.value in
    let freed = c.free_sealed.ensures.count in
    let same = ap length c.deref_mut.ensures.value in
    let kept = ap length (with_items_is c.args.self.now.states c.free_sealed.new.states (omega (arith, freed, same))) in
    λ j d l. let low = c.requires.there j d l in omega (arith, low, long, freed, same, kept)

pub returns-then-is_err-clause-safe : goal.returns-then-is_err-clause-safe
returns-then-is_err-clause-safe g c honest contents doubt was =
    let old = g.D.Disk.facts c.args.self.now.disk in
    let new = g.D.Disk.facts c.sync_rolled.new.disk in
    let at = c.args.self.now.at in
    let words = c.args.self.now.words in
    let states = c.args.self.now.states.items in
    let durable = was.inside c.if-self.false in
    let is = c.deref.ensures.value in
    let can = subst (λ (ss : List PlaceState). CanPrepare old at words contents ss c.args.ahead.now) (sym is) (can_prepare old at words contents states c.args.ahead.now honest durable c.requires) in
    let moments = subst (λ (ss : List PlaceState). LeavesOnly old new (HasSecond at words (length ss) contents)) is (c.sync_rolled.ensures.moments contents can) in
    safe_failed g.D.Disk.facts c.args.self.now _ contents doubt doubt was refl refl refl
    (leaves_wider old new (λ image has. inl (is_file at words (length states) contents image has)) moments)

pub returns-clause-freed : goal.returns-clause-freed
returns-clause-freed g c =
    let states = c.args.self.now.states.items in
    let vec = c.args.self.now.states in
    let freed : List PlaceState = c.free_sealed.new.states in
    let are_freed = subst (λ (ss : List PlaceState). AreFreed ss freed) c.deref_mut.ensures.value c.free_sealed.ensures in
    let mid : List PlaceState = (with_items vec freed).items in
    let mid_is : mid ≡ freed = with_items_is vec freed (omega (arith, are_freed.count)) in
    let mid_freed : AreFreed states mid = subst (λ (ss : List PlaceState). AreFreed states ss) (sym mid_is) are_freed in
    let given : List PlaceState = c.set_prepared.new.states in
    let are : ArePrepared mid given c.args.ahead.now = subst (λ (ss : List PlaceState). ArePrepared ss given c.args.ahead.now) c.deref_mut-2.ensures.value c.set_prepared.ensures in
    let next : List PlaceState = (with_items (with_items vec freed) given).items in
    let next_is : next ≡ given = with_items_is (with_items vec freed) given (omega (arith, are.count)) in
    let now_are : ArePrepared mid next c.args.ahead.now = subst (λ (ss : List PlaceState). ArePrepared mid ss c.args.ahead.now) (sym next_is) are in
    settled_with states mid next c.args.ahead.now mid_freed now_are

pub returns-clause-safe : goal.returns-clause-safe
returns-clause-safe g c honest contents doubt was =
    let old = g.D.Disk.facts c.args.self.now.disk in
    let new = g.D.Disk.facts c.sync_rolled.new.disk in
    let at = c.args.self.now.at in
    let words = c.args.self.now.words in
    let states = c.args.self.now.states.items in
    let durable = was.inside c.if-self.false in
    let is = c.deref.ensures.value in
    let can = subst (λ (ss : List PlaceState). CanPrepare old at words contents ss c.args.ahead.now) (sym is) (can_prepare old at words contents states c.args.ahead.now honest durable c.requires) in
    let moments = subst (λ (ss : List PlaceState). LeavesOnly old new (HasSecond at words (length ss) contents)) is (c.sync_rolled.ensures.moments contents can) in
    let well = sym c.is_err.ensures.value ∙ c.if-is_err.false in
    let vec = c.args.self.now.states in
    let freed : List PlaceState = c.free_sealed.new.states in
    let are_freed = subst (λ (ss : List PlaceState). AreFreed ss freed) c.deref_mut.ensures.value c.free_sealed.ensures in
    let mid : List PlaceState = (with_items vec freed).items in
    let mid_is : mid ≡ freed = with_items_is vec freed (omega (arith, are_freed.count)) in
    let mid_freed : AreFreed states mid = subst (λ (ss : List PlaceState). AreFreed states ss) (sym mid_is) are_freed in
    let given : List PlaceState = c.set_prepared.new.states in
    let are : ArePrepared mid given c.args.ahead.now = subst (λ (ss : List PlaceState). ArePrepared ss given c.args.ahead.now) c.deref_mut-2.ensures.value c.set_prepared.ensures in
    let next : List PlaceState = (with_items (with_items vec freed) given).items in
    let next_is : next ≡ given = with_items_is (with_items vec freed) given (omega (arith, are.count)) in
    let now_are : ArePrepared mid next c.args.ahead.now = subst (λ (ss : List PlaceState). ArePrepared mid ss c.args.ahead.now) (sym next_is) are in
    let done = went_well c.sync_rolled.result _ well c.sync_rolled.ensures.done contents mid can (subst (λ (ss : List PlaceState). AreFreed ss mid) (sym is) mid_freed) in
    let now = durable_with new at words contents mid next c.args.ahead.now done now_are in
    safe_same g.D.Disk.facts c.args.self.now _ contents doubt (was.certain c.if-self.false)
    (safe_well g.D.Disk.facts c.args.self.now _ contents [] contents
    (leaves_wider old new (λ image has. inl (is_file at words (length states) contents image has)) moments) was.count now)

pub returns-then-is_err-clause-first : goal.returns-then-is_err-clause-first
returns-then-is_err-clause-first g c honest contents doubt was =
    let old = g.D.Disk.facts c.args.self.now.disk in
    let new = g.D.Disk.facts c.sync_rolled.new.disk in
    let at = c.args.self.now.at in
    let words = c.args.self.now.words in
    let states = c.args.self.now.states.items in
    let durable = was.inside c.if-self.false in
    let is = c.deref.ensures.value in
    let can = subst (λ (ss : List PlaceState). CanPrepare old at words contents ss c.args.ahead.now) (sym is) (can_prepare old at words contents states c.args.ahead.now honest durable c.requires) in
    c.sync_rolled.ensures.touched contents can

pub returns-clause-first : goal.returns-clause-first
returns-clause-first g c honest contents doubt was =
    let old = g.D.Disk.facts c.args.self.now.disk in
    let new = g.D.Disk.facts c.sync_rolled.new.disk in
    let at = c.args.self.now.at in
    let words = c.args.self.now.words in
    let states = c.args.self.now.states.items in
    let durable = was.inside c.if-self.false in
    let is = c.deref.ensures.value in
    let can = subst (λ (ss : List PlaceState). CanPrepare old at words contents ss c.args.ahead.now) (sym is) (can_prepare old at words contents states c.args.ahead.now honest durable c.requires) in
    c.sync_rolled.ensures.touched contents can

pub returns-then-self-clause-safe : goal.returns-then-self-clause-safe
returns-then-self-clause-safe g c honest contents doubt was = safe_untouched g.D.Disk.facts c.args.self.now contents doubt was

pub returns-then-self-clause-first : goal.returns-then-self-clause-first
returns-then-self-clause-first g c = first_untouched g.D.Disk.facts c.args.self.now

pub set_prepared-requires-clause-apart : goal.set_prepared-requires-clause-apart
set_prepared-requires-clause-apart g c = c.requires.apart

pub returns-then-is_err-clause-ends : goal.returns-then-is_err-clause-ends
returns-then-is_err-clause-ends g c =
    let calls = ap (λ ss. length c.args.ahead.now + roll_calls ss) c.deref.ensures.value in
    record {
      before = c.if-self.false;
      after = refl;
      at = refl;
      words = refl;
      states = refl;
      made = ran_badly _ _ _ _ _ calls (sym c.is_err.ensures.value ∙ c.if-is_err.true) c.sync_rolled.ensures.calls;
    }

pub returns-clause-ends : goal.returns-clause-ends
returns-clause-ends g c =
    let calls = ap (λ ss. length c.args.ahead.now + roll_calls ss) c.deref.ensures.value in
    record {
      before = c.if-self.false;
      after = c.if-self.false;
      at = refl;
      words = refl;
      made = ran_well _ _ _ _ _ calls (sym c.is_err.ensures.value ∙ c.if-is_err.false) c.sync_rolled.ensures.calls;
    }

pub returns-then-is_err-clause-made : goal.returns-then-is_err-clause-made
returns-then-is_err-clause-made g c =
    let file = c.args.self.now in
    subst (λ (ss : List PlaceState). Makes g.D.Disk.made (record_calls file.at file.words c.args.ahead.now ++ roll_device_calls file.at file.words 0 ss) false file.disk c.sync_rolled.new.disk)
    c.deref.ensures.value (made_badly g.D.Disk.made _ file.disk c.sync_rolled.new.disk c.sync_rolled.result (sym c.is_err.ensures.value ∙ c.if-is_err.true) c.sync_rolled.ensures.made)

pub returns-clause-made : goal.returns-clause-made
returns-clause-made g c =
    let file = c.args.self.now in
    subst (λ (ss : List PlaceState). Makes g.D.Disk.made (record_calls file.at file.words c.args.ahead.now ++ roll_device_calls file.at file.words 0 ss) true file.disk c.sync_rolled.new.disk)
    c.deref.ensures.value (made_well g.D.Disk.made _ file.disk c.sync_rolled.new.disk c.sync_rolled.result (sym c.is_err.ensures.value ∙ c.if-is_err.false) c.sync_rolled.ensures.made)

pub invariant_of-self-2 : goal.invariant_of-self-2
invariant_of-self-2 g c =
    let file = c.args.self.now in
    let freed = c.free_sealed.new.states in
    let mid_is = ap length (with_items_is file.states freed (c.free_sealed.ensures.count ∙ c.deref_mut.ensures.len)) in
    let freed_long = c.free_sealed.ensures.count ∙ ap length c.deref_mut.ensures.value in
    let long = c.set_prepared.ensures.count ∙ ap length c.deref_mut-2.ensures.value in
    let is = with_items_is (with_items file.states freed) c.set_prepared.new.states (c.set_prepared.ensures.count ∙ c.deref_mut-2.ensures.len) in
    record {
      few = subst (λ (ss : List PlaceState). length ss ≤ MAX_PLACES) (sym is) (omega (arith, long, mid_is, freed_long, file.few));
      near = file.near;
    }
