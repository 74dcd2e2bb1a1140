-- Goals of `TenantFile::settle` (src/tenant_file.rt).
use Rattle.std.proofs.Common.{List, Bool, true, false, [], inl, subst, arith, ◌+◌, ap, length, refl, ◌∙◌, sym}
use Rattle.mw_disk.proofs.RunLaws.{leaves_wider}
use Rattle.mw_file.specs.declared.place_states.PlaceState.{PlaceState}
use Rattle.mw_file.specs.declared.place_states.Stage.TheVariants.{Sealed, Free}
use Rattle.mw_file.specs.PlaceStates.{roll_calls, writes_of_place}
use Rattle.mw_file.specs.RollForward.{CanRoll, IsRolled}
use Rattle.mw_disk.specs.DeviceCalls.{DeviceCall, Makes}
use Rattle.mw_file.specs.DeviceCalls.{roll_device_calls}
use Rattle.mw_file.proofs.CallLoops.{alone_device_calls, ok_or_err}
use Rattle.mw_file.proofs.Ended.{went_well}
use Rattle.mw_file.proofs.Safety.{safe_failed, safe_well, safe_same, settle_can, settle_moments, settle_durable, safe_untouched, first_untouched}
use Rattle.mw_file.proofs.Places.{state_at, state_there, alone_calls, staged_as}
use Rattle.mw_file.proofs.Ran.{ran_well, ran_badly}
use Rattle.std.proofs.lemmas.List.{length-set}
use Rattle.mw_file.proofs.tenant_file.TenantFile.settle.Goals as goal

pub returns-then-is_err-clause-ends : goal.returns-then-is_err-clause-ends
returns-then-is_err-clause-ends g c =
    let states = c.args.self.now.states.items in
    let place = c.args.place.0 in
    let at = state_at states place c.index.result.now Sealed c.index.ensures c.requires (λ e. cc) in
    let calls = ap roll_calls c.from_ref-alone.ensures.value ∙ alone_calls states place c.index.result.now at c.requires in
    record {
      before = c.if-self.false;
      after = refl;
      at = refl;
      words = refl;
      states = refl;
      made = ran_badly (roll_calls c.from_ref-alone.result.now) (length (writes_of_place states place) + 3) _ _ _ calls
          (sym c.is_err.ensures.value ∙ c.if-is_err.true) c.roll_forward.ensures.calls;
    }

pub returns-clause-ends : goal.returns-clause-ends
returns-clause-ends g c =
    let states = c.args.self.now.states.items in
    let place = c.args.place.0 in
    let at = state_at states place c.index.result.now Sealed c.index.ensures c.requires (λ e. cc) in
    let calls = ap roll_calls c.from_ref-alone.ensures.value ∙ alone_calls states place c.index.result.now at c.requires in
    record {
      before = c.if-self.false;
      after = c.if-self.false;
      at = refl;
      words = refl;
      made = ran_well (roll_calls c.from_ref-alone.result.now) (length (writes_of_place states place) + 3) _ _ _ calls
          (sym c.is_err.ensures.value ∙ c.if-is_err.false) c.roll_forward.ensures.calls;
    }

pub returns-clause-staged : goal.returns-clause-staged
returns-clause-staged g c =
    let at = state_at c.args.self.now.states.items c.args.place.0 c.index_mut.result.now Sealed c.index_mut.ensures.value c.requires (λ e. cc) in
    staged_as c.args.self.now.states.items c.args.place.0 c.index_mut.result.now _ at refl

pub index_mut-requires : goal.index_mut-requires
index_mut-requires g c =
    let there = state_there c.args.self.now.states.items c.args.place.0 Sealed c.requires (λ e. cc) in
    omega (arith, there)

pub returns-then-is_err-clause-safe : goal.returns-then-is_err-clause-safe
returns-then-is_err-clause-safe g c honest contents doubt was =
    let old = g.D.Disk.facts c.args.self.now.disk in
    let new = g.D.Disk.facts c.roll_forward.new.disk in
    let at = c.args.self.now.at in
    let words = c.args.self.now.words in
    let states = c.args.self.now.states.items in
    let place = c.args.place.0 in
    let s = c.index.result.now in
    let durable = was.inside c.if-self.false in
    let there = state_there states place Sealed c.requires (λ e. cc) in
    let item = state_at states place s Sealed c.index.ensures c.requires (λ e. cc) in
    let is = c.from_ref-alone.ensures.value in
    let can = subst (λ (ss : List PlaceState). CanRoll old at words (length states) place ss contents) (sym is) (settle_can old new at words contents states place durable there honest s item) in
    let moments = settle_moments old new at words contents states place durable there honest s item (c.roll_forward.ensures.moments (length states) contents can) in
    safe_failed g.D.Disk.facts c.args.self.now _ contents doubt doubt was refl refl refl (leaves_wider old new (λ image file. inl file) moments)

pub returns-clause-safe : goal.returns-clause-safe
returns-clause-safe g c honest contents doubt was =
    let old = g.D.Disk.facts c.args.self.now.disk in
    let new = g.D.Disk.facts c.roll_forward.new.disk in
    let at = c.args.self.now.at in
    let words = c.args.self.now.words in
    let states = c.args.self.now.states.items in
    let place = c.args.place.0 in
    let s = c.index.result.now in
    let durable = was.inside c.if-self.false in
    let there = state_there states place Sealed c.requires (λ e. cc) in
    let item = state_at states place s Sealed c.index.ensures c.requires (λ e. cc) in
    let is = c.from_ref-alone.ensures.value in
    let can = subst (λ (ss : List PlaceState). CanRoll old at words (length states) place ss contents) (sym is) (settle_can old new at words contents states place durable there honest s item) in
    let moments = settle_moments old new at words contents states place durable there honest s item (c.roll_forward.ensures.moments (length states) contents can) in
    let well = sym c.is_err.ensures.value ∙ c.if-is_err.false in
    let done = went_well c.roll_forward.result _ well c.roll_forward.ensures.done (length states) contents can in
    let rolled = subst (λ (ss : List PlaceState). IsRolled at words place ss old new) is done in
    let has = c.roll_forward.ensures.read (length states) contents can in
    let is_staged = staged_as states place c.index_mut.result.now _ (state_at states place c.index_mut.result.now Sealed c.index_mut.ensures.value c.requires (λ e. cc)) refl in
    let now = settle_durable old new at words contents states place durable there honest s item _ has rolled c.requires is_staged in
    safe_same g.D.Disk.facts c.args.self.now _ contents doubt (was.certain c.if-self.false)
    (safe_well g.D.Disk.facts c.args.self.now _ contents [] contents (leaves_wider old new (λ image file. inl file) moments) was.count now)

pub returns-then-is_err-clause-first : goal.returns-then-is_err-clause-first
returns-then-is_err-clause-first g c honest contents doubt was =
    let old = g.D.Disk.facts c.args.self.now.disk in
    let new = g.D.Disk.facts c.roll_forward.new.disk in
    let at = c.args.self.now.at in
    let words = c.args.self.now.words in
    let states = c.args.self.now.states.items in
    let place = c.args.place.0 in
    let s = c.index.result.now in
    let durable = was.inside c.if-self.false in
    let there = state_there states place Sealed c.requires (λ e. cc) in
    let item = state_at states place s Sealed c.index.ensures c.requires (λ e. cc) in
    let is = c.from_ref-alone.ensures.value in
    let can = subst (λ (ss : List PlaceState). CanRoll old at words (length states) place ss contents) (sym is) (settle_can old new at words contents states place durable there honest s item) in
    c.roll_forward.ensures.touched (length states) contents can

pub returns-clause-first : goal.returns-clause-first
returns-clause-first g c honest contents doubt was =
    let old = g.D.Disk.facts c.args.self.now.disk in
    let new = g.D.Disk.facts c.roll_forward.new.disk in
    let at = c.args.self.now.at in
    let words = c.args.self.now.words in
    let states = c.args.self.now.states.items in
    let place = c.args.place.0 in
    let s = c.index.result.now in
    let durable = was.inside c.if-self.false in
    let there = state_there states place Sealed c.requires (λ e. cc) in
    let item = state_at states place s Sealed c.index.ensures c.requires (λ e. cc) in
    let is = c.from_ref-alone.ensures.value in
    let can = subst (λ (ss : List PlaceState). CanRoll old at words (length states) place ss contents) (sym is) (settle_can old new at words contents states place durable there honest s item) in
    c.roll_forward.ensures.touched (length states) contents can

pub returns-then-is_err-clause-made : goal.returns-then-is_err-clause-made
returns-then-is_err-clause-made g c =
    let file = c.args.self.now in
    let place = c.args.place.0 in
    let item = state_at file.states.items place c.index.result.now Sealed c.index.ensures c.requires (λ e. cc) in
    let calls = ap (λ (ss : List PlaceState). roll_device_calls file.at file.words place ss) c.from_ref-alone.ensures.value
    ∙ alone_device_calls file.at file.words place file.states.items c.index.result.now item c.requires in
    let failed = ok_or_err c.roll_forward.result true (sym c.is_err.ensures.value ∙ c.if-is_err.true) in
    subst (λ (l : List DeviceCall). Makes g.D.Disk.made l false file.disk c.roll_forward.new.disk) calls
    (subst (λ (b : Bool). Makes g.D.Disk.made (roll_device_calls file.at file.words place c.from_ref-alone.result.now) b file.disk c.roll_forward.new.disk) failed c.roll_forward.ensures.made)

pub returns-clause-made : goal.returns-clause-made
returns-clause-made g c =
    let file = c.args.self.now in
    let place = c.args.place.0 in
    let item = state_at file.states.items place c.index.result.now Sealed c.index.ensures c.requires (λ e. cc) in
    let calls = ap (λ (ss : List PlaceState). roll_device_calls file.at file.words place ss) c.from_ref-alone.ensures.value
    ∙ alone_device_calls file.at file.words place file.states.items c.index.result.now item c.requires in
    let went = ok_or_err c.roll_forward.result false (sym c.is_err.ensures.value ∙ c.if-is_err.false) in
    subst (λ (l : List DeviceCall). Makes g.D.Disk.made l true file.disk c.roll_forward.new.disk) calls
    (subst (λ (b : Bool). Makes g.D.Disk.made (roll_device_calls file.at file.words place c.from_ref-alone.result.now) b file.disk c.roll_forward.new.disk) went c.roll_forward.ensures.made)

pub returns-then-self-clause-safe : goal.returns-then-self-clause-safe
returns-then-self-clause-safe g c honest contents doubt was = safe_untouched g.D.Disk.facts c.args.self.now contents doubt was

pub returns-then-self-clause-first : goal.returns-then-self-clause-first
returns-then-self-clause-first g c = first_untouched g.D.Disk.facts c.args.self.now

pub roll_forward-requires-clause-few : goal.roll_forward-requires-clause-few
roll_forward-requires-clause-few g c =
    let file = c.args.self.now in
    let there = state_there file.states.items c.args.place.0 Sealed c.requires (λ e. cc) in
    omega (arith, there, file.few, ap length c.from_ref-alone.ensures.value)

pub index-requires : goal.index-requires
index-requires g c =
    let there = state_there c.args.self.now.states.items c.args.place.0 Sealed c.requires (λ e. cc) in
    omega (arith, there)

pub invariant_of-self-2 : goal.invariant_of-self-2
invariant_of-self-2 g c =
    let file = c.args.self.now in
    record {
      few = omega (arith, length-set file.states.items c.args.place.0 (record { stage = Free; writes = c.index_mut.result.now.writes }), file.few);
      near = file.near;
    }
