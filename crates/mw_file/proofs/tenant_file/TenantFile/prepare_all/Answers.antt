-- Goals of `TenantFile::prepare_all` (src/tenant_file.rt).
use Rattle.std.proofs.Common.{◌≡◌, List, [], length, inl, sym, ◌∙◌, refl, subst, arith, All, ◌<◌, ◌+◌, ◌≤◌, ap}
use Rattle.std.specs.Vec.{with_items}
use Rattle.std.proofs.lemmas.List.{with_items_is}
use Rattle.mw_disk.proofs.RunLaws.{leaves_wider}
use Rattle.mw_file.specs.declared.place_states.PlaceState.{PlaceState}
use Rattle.mw_file.specs.NewChanges.{ArePrepared}
use Rattle.mw_file.proofs.Ended.{went_well}
use Rattle.mw_file.proofs.NewPlaces.{durable_with}
use Rattle.mw_file.proofs.RecordWrites.{can_prepare}
use Rattle.mw_file.proofs.Safety.{is_file, safe_failed, safe_well, safe_same, safe_untouched, first_untouched}
use Rattle.mw_file.proofs.Ran.{ran_well, ran_badly}
use Rattle.mw_file.proofs.OpeningCallLaws.{made_well, made_badly}
use Rattle.mw_words.specs.declared.limits.TheConstants.{MAX_PLACES}
use Rattle.mw_file.proofs.tenant_file.TenantFile.prepare_all.Goals as goal

pub set_prepared-requires-clause-there : goal.set_prepared-requires-clause-there
set_prepared-requires-clause-there g c = subst (λ (ss : List PlaceState). All (λ d. d.place.0 < length ss) c.args.changes.now) (sym c.deref_mut.ensures.value) c.requires.there

pub returns-then-is_err-clause-safe : goal.returns-then-is_err-clause-safe
returns-then-is_err-clause-safe g c honest contents doubt was =
    let old = g.D.Disk.facts c.args.self.now.disk in
    let new = g.D.Disk.facts c.sync_records.new.disk in
    let at = c.args.self.now.at in
    let words = c.args.self.now.words in
    let states = c.args.self.now.states.items in
    let durable = was.inside c.if-self.false in
    let can = can_prepare old at words contents states c.args.changes.now honest durable c.requires in
    let kept = c.sync_records.ensures.kept contents states can in
    safe_failed g.D.Disk.facts c.args.self.now _ contents doubt doubt was refl refl refl
    (leaves_wider old new (λ image is. inl (is_file at words (length states) contents image is.has)) kept.moments)

pub returns-clause-staged : goal.returns-clause-staged
returns-clause-staged g c =
    let states = c.args.self.now.states.items in
    let given : List PlaceState = c.set_prepared.new.states in
    let next : List PlaceState = (with_items c.args.self.now.states given).items in
    let are : ArePrepared states given c.args.changes.now = subst (λ (ss : List PlaceState). ArePrepared ss given c.args.changes.now) c.deref_mut.ensures.value c.set_prepared.ensures in
    let next_is : next ≡ given = with_items_is c.args.self.now.states given (omega (arith, are.count)) in
    subst (λ (ss : List PlaceState). ArePrepared states ss c.args.changes.now) (sym next_is) are

pub returns-clause-safe : goal.returns-clause-safe
returns-clause-safe g c honest contents doubt was =
    let old = g.D.Disk.facts c.args.self.now.disk in
    let new = g.D.Disk.facts c.sync_records.new.disk in
    let at = c.args.self.now.at in
    let words = c.args.self.now.words in
    let states = c.args.self.now.states.items in
    let durable = was.inside c.if-self.false in
    let can = can_prepare old at words contents states c.args.changes.now honest durable c.requires in
    let kept = c.sync_records.ensures.kept contents states can in
    let well = sym c.is_err.ensures.value ∙ c.if-is_err.false in
    let done = went_well c.sync_records.result _ well c.sync_records.ensures.done contents states can in
    let given : List PlaceState = c.set_prepared.new.states in
    let next : List PlaceState = (with_items c.args.self.now.states given).items in
    let are : ArePrepared states given c.args.changes.now = subst (λ (ss : List PlaceState). ArePrepared ss given c.args.changes.now) c.deref_mut.ensures.value c.set_prepared.ensures in
    let next_is : next ≡ given = with_items_is c.args.self.now.states given (omega (arith, are.count)) in
    let now = durable_with new at words contents states next c.args.changes.now done (subst (λ (ss : List PlaceState). ArePrepared states ss c.args.changes.now) (sym next_is) are) in
    safe_same g.D.Disk.facts c.args.self.now _ contents doubt (was.certain c.if-self.false)
    (safe_well g.D.Disk.facts c.args.self.now _ contents [] contents
    (leaves_wider old new (λ image is. inl (is_file at words (length states) contents image is.has)) kept.moments) was.count now)

pub returns-then-is_err-clause-first : goal.returns-then-is_err-clause-first
returns-then-is_err-clause-first g c honest contents doubt was =
    let old = g.D.Disk.facts c.args.self.now.disk in
    let new = g.D.Disk.facts c.sync_records.new.disk in
    let at = c.args.self.now.at in
    let words = c.args.self.now.words in
    let states = c.args.self.now.states.items in
    let durable = was.inside c.if-self.false in
    let can = can_prepare old at words contents states c.args.changes.now honest durable c.requires in
    let kept = c.sync_records.ensures.kept contents states can in
    kept.alone

pub returns-clause-first : goal.returns-clause-first
returns-clause-first g c honest contents doubt was =
    let old = g.D.Disk.facts c.args.self.now.disk in
    let new = g.D.Disk.facts c.sync_records.new.disk in
    let at = c.args.self.now.at in
    let words = c.args.self.now.words in
    let states = c.args.self.now.states.items in
    let durable = was.inside c.if-self.false in
    let can = can_prepare old at words contents states c.args.changes.now honest durable c.requires in
    let kept = c.sync_records.ensures.kept contents states can in
    kept.alone

pub returns-then-self-clause-safe : goal.returns-then-self-clause-safe
returns-then-self-clause-safe g c honest contents doubt was = safe_untouched g.D.Disk.facts c.args.self.now contents doubt was

pub returns-then-self-clause-first : goal.returns-then-self-clause-first
returns-then-self-clause-first g c = first_untouched g.D.Disk.facts c.args.self.now

pub returns-then-is_err-clause-ends : goal.returns-then-is_err-clause-ends
returns-then-is_err-clause-ends g c =
    let calls = length c.args.changes.now + 1 in
    record {
      before = c.if-self.false;
      after = refl;
      at = refl;
      words = refl;
      states = refl;
      made = ran_badly calls calls _ _ _ refl (sym c.is_err.ensures.value ∙ c.if-is_err.true) c.sync_records.ensures.calls;
    }

pub returns-clause-ends : goal.returns-clause-ends
returns-clause-ends g c =
    let calls = length c.args.changes.now + 1 in
    record {
      before = c.if-self.false;
      after = c.if-self.false;
      at = refl;
      words = refl;
      made = ran_well calls calls _ _ _ refl (sym c.is_err.ensures.value ∙ c.if-is_err.false) c.sync_records.ensures.calls;
    }

pub set_prepared-requires-clause-apart : goal.set_prepared-requires-clause-apart
set_prepared-requires-clause-apart g c = c.requires.apart

pub returns-then-is_err-clause-made : goal.returns-then-is_err-clause-made
returns-then-is_err-clause-made g c =
    made_badly g.D.Disk.made _ c.args.self.now.disk c.sync_records.new.disk c.sync_records.result (sym c.is_err.ensures.value ∙ c.if-is_err.true) c.sync_records.ensures.made

pub returns-clause-made : goal.returns-clause-made
returns-clause-made g c =
    made_well g.D.Disk.made _ c.args.self.now.disk c.sync_records.new.disk c.sync_records.result (sym c.is_err.ensures.value ∙ c.if-is_err.false) c.sync_records.ensures.made

pub invariant_of-self-2 : goal.invariant_of-self-2
invariant_of-self-2 g c =
    let is = with_items_is c.args.self.now.states c.set_prepared.new.states (c.set_prepared.ensures.count ∙ c.deref_mut.ensures.len) in
    let long = c.set_prepared.ensures.count ∙ ap length c.deref_mut.ensures.value in
    record {
      few = subst (λ (ss : List PlaceState). length ss ≤ MAX_PLACES) (sym is) (omega (arith, long, c.args.self.now.few));
      near = c.args.self.now.near;
    }
