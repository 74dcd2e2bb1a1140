-- Goals of `TenantFile::seal_with` (src/tenant_file.rt).
use Rattle.std.proofs.Common.{◌≡◌, List, length, slice_set, sym, ◌∙◌, ap, refl, subst, arith, ◌+◌, ◌≤◌}
use Rattle.std.specs.Vec.{with_item, with_items}
use Rattle.std.proofs.lemmas.List.{with_items_is, length-set}
use Rattle.mw_record.specs.Records.{put_pairs}
use Rattle.mw_record.proofs.Changes.{length-put_pairs}
use Rattle.mw_file.specs.declared.place_states.PlaceState.{PlaceState}
use Rattle.mw_file.specs.declared.place_states.Stage.TheVariants.{Prepared, Sealed}
use Rattle.mw_file.specs.PlaceStates.{writes_of_place, IsStaged}
use Rattle.mw_file.specs.NewChanges.{ArePrepared}
use Rattle.mw_file.proofs.Ended.{went_well}
use Rattle.mw_file.proofs.NewPlaces.{durable_with, sealed_with}
use Rattle.mw_file.proofs.Places.{state_at, state_there, staged_as}
use Rattle.mw_file.proofs.RecordWrites.{can_prepare}
use Rattle.mw_file.proofs.Safety.{safe_failed, safe_well, safe_untouched, first_untouched}
use Rattle.mw_file.proofs.Ran.{ran_well, ran_badly}
use Rattle.mw_file.proofs.OpeningCallLaws.{made_well, made_badly}
use Rattle.mw_words.specs.declared.limits.TheConstants.{MAX_PLACES}
use Rattle.mw_file.proofs.tenant_file.TenantFile.seal_with.Goals as goal

pub index_mut-requires : goal.index_mut-requires
index_mut-requires g c =
    let there = state_there c.args.self.now.states.items c.args.place.0 Prepared c.requires.seal.prepared (λ e. cc) in
    omega (arith, there)

pub set_prepared-requires-clause-there : goal.set_prepared-requires-clause-there
set_prepared-requires-clause-there g c =
    let states = c.args.self.now.states.items in
    let long = ap length c.deref_mut.ensures.value ∙ length-set states c.args.place.0 _ in
    λ j d l. let low = c.requires.ahead.there j d l in omega (arith, low, long)

pub returns-then-is_err-clause-safe : goal.returns-then-is_err-clause-safe
returns-then-is_err-clause-safe g c honest contents doubt was =
    let old = g.D.Disk.facts c.args.self.now.disk in
    let new = g.D.Disk.facts c.sync_commit.new.disk in
    let at = c.args.self.now.at in
    let words = c.args.self.now.words in
    let states = c.args.self.now.states.items in
    let durable = was.inside c.if-self.false in
    let can = can_prepare old at words contents states c.args.ahead.now honest durable c.requires.ahead in
    let place = c.args.place.0 in
    let writes = writes_of_place states place in
    let moments = c.sync_commit.ensures.moments contents states can c.requires.seal in
    safe_failed g.D.Disk.facts c.args.self.now _ contents writes doubt was refl refl refl moments

pub returns-clause-staged : goal.returns-clause-staged
returns-clause-staged g c =
    let states = c.args.self.now.states.items in
    let place = c.args.place.0 in
    let at_place = state_at states place c.index_mut.result.now Prepared c.index_mut.ensures.value c.requires.seal.prepared (λ e. cc) in
    let s : PlaceState = record { stage = Sealed; writes = c.index_mut.result.now.writes } in
    let mid : List PlaceState = slice_set states place s in
    let step : IsStaged states mid place Sealed (writes_of_place states place) = staged_as states place c.index_mut.result.now s at_place refl in
    let given : List PlaceState = c.set_prepared.new.states in
    let are : ArePrepared mid given c.args.ahead.now = subst (λ (ss : List PlaceState). ArePrepared ss given c.args.ahead.now) c.deref_mut.ensures.value c.set_prepared.ensures in
    let next : List PlaceState = (with_items (with_item c.args.self.now.states place s) given).items in
    let next_is : next ≡ given = with_items_is (with_item c.args.self.now.states place s) given (omega (arith, are.count)) in
    let now_are : ArePrepared mid next c.args.ahead.now = subst (λ (ss : List PlaceState). ArePrepared mid ss c.args.ahead.now) (sym next_is) are in
    sealed_with states mid next place c.args.ahead.now step now_are

pub returns-clause-safe : goal.returns-clause-safe
returns-clause-safe g c honest contents doubt was =
    let old = g.D.Disk.facts c.args.self.now.disk in
    let new = g.D.Disk.facts c.sync_commit.new.disk in
    let at = c.args.self.now.at in
    let words = c.args.self.now.words in
    let states = c.args.self.now.states.items in
    let durable = was.inside c.if-self.false in
    let can = can_prepare old at words contents states c.args.ahead.now honest durable c.requires.ahead in
    let place = c.args.place.0 in
    let writes = writes_of_place states place in
    let moments = c.sync_commit.ensures.moments contents states can c.requires.seal in
    let well = sym c.is_err.ensures.value ∙ c.if-is_err.false in
    let at_place = state_at states place c.index_mut.result.now Prepared c.index_mut.ensures.value c.requires.seal.prepared (λ e. cc) in
    let s : PlaceState = record { stage = Sealed; writes = c.index_mut.result.now.writes } in
    let mid : List PlaceState = slice_set states place s in
    let step : IsStaged states mid place Sealed (writes_of_place states place) = staged_as states place c.index_mut.result.now s at_place refl in
    let given : List PlaceState = c.set_prepared.new.states in
    let are : ArePrepared mid given c.args.ahead.now = subst (λ (ss : List PlaceState). ArePrepared ss given c.args.ahead.now) c.deref_mut.ensures.value c.set_prepared.ensures in
    let next : List PlaceState = (with_items (with_item c.args.self.now.states place s) given).items in
    let next_is : next ≡ given = with_items_is (with_item c.args.self.now.states place s) given (omega (arith, are.count)) in
    let now_are : ArePrepared mid next c.args.ahead.now = subst (λ (ss : List PlaceState). ArePrepared mid ss c.args.ahead.now) (sym next_is) are in
    let done = went_well c.sync_commit.result _ well c.sync_commit.ensures.done contents states mid can c.requires.seal step in
    let now = durable_with new at words (put_pairs writes contents) mid next c.args.ahead.now done now_are in
    safe_well g.D.Disk.facts c.args.self.now _ contents writes (put_pairs writes contents) moments (length-put_pairs writes contents ∙ was.count) now

pub returns-then-is_err-clause-first : goal.returns-then-is_err-clause-first
returns-then-is_err-clause-first g c honest contents doubt was =
    let old = g.D.Disk.facts c.args.self.now.disk in
    let new = g.D.Disk.facts c.sync_commit.new.disk in
    let at = c.args.self.now.at in
    let words = c.args.self.now.words in
    let states = c.args.self.now.states.items in
    let durable = was.inside c.if-self.false in
    let can = can_prepare old at words contents states c.args.ahead.now honest durable c.requires.ahead in
    let place = c.args.place.0 in
    let writes = writes_of_place states place in
    let moments = c.sync_commit.ensures.moments contents states can c.requires.seal in
    c.sync_commit.ensures.touched contents states can c.requires.seal

pub returns-clause-first : goal.returns-clause-first
returns-clause-first g c honest contents doubt was =
    let old = g.D.Disk.facts c.args.self.now.disk in
    let new = g.D.Disk.facts c.sync_commit.new.disk in
    let at = c.args.self.now.at in
    let words = c.args.self.now.words in
    let states = c.args.self.now.states.items in
    let durable = was.inside c.if-self.false in
    let can = can_prepare old at words contents states c.args.ahead.now honest durable c.requires.ahead in
    let place = c.args.place.0 in
    let writes = writes_of_place states place in
    let moments = c.sync_commit.ensures.moments contents states can c.requires.seal in
    c.sync_commit.ensures.touched contents states can c.requires.seal

pub returns-then-self-clause-safe : goal.returns-then-self-clause-safe
returns-then-self-clause-safe g c honest contents doubt was = safe_untouched g.D.Disk.facts c.args.self.now contents doubt was

pub returns-then-self-clause-first : goal.returns-then-self-clause-first
returns-then-self-clause-first g c = first_untouched g.D.Disk.facts c.args.self.now

pub returns-then-is_err-clause-ends : goal.returns-then-is_err-clause-ends
returns-then-is_err-clause-ends g c =
    let calls = length c.args.ahead.now + 2 in
    record {
      before = c.if-self.false;
      after = refl;
      at = refl;
      words = refl;
      states = refl;
      made = ran_badly calls calls _ _ _ refl (sym c.is_err.ensures.value ∙ c.if-is_err.true) c.sync_commit.ensures.calls;
    }

pub returns-clause-ends : goal.returns-clause-ends
returns-clause-ends g c =
    let calls = length c.args.ahead.now + 2 in
    record {
      before = c.if-self.false;
      after = c.if-self.false;
      at = refl;
      words = refl;
      made = ran_well calls calls _ _ _ refl (sym c.is_err.ensures.value ∙ c.if-is_err.false) c.sync_commit.ensures.calls;
    }

pub set_prepared-requires-clause-apart : goal.set_prepared-requires-clause-apart
set_prepared-requires-clause-apart g c = c.requires.ahead.apart

pub returns-then-is_err-clause-made : goal.returns-then-is_err-clause-made
returns-then-is_err-clause-made g c =
    made_badly g.D.Disk.made _ c.args.self.now.disk c.sync_commit.new.disk c.sync_commit.result (sym c.is_err.ensures.value ∙ c.if-is_err.true) c.sync_commit.ensures.made

pub returns-clause-made : goal.returns-clause-made
returns-clause-made g c =
    made_well g.D.Disk.made _ c.args.self.now.disk c.sync_commit.new.disk c.sync_commit.result (sym c.is_err.ensures.value ∙ c.if-is_err.false) c.sync_commit.ensures.made

pub invariant_of-self-2 : goal.invariant_of-self-2
invariant_of-self-2 g c =
    let file = c.args.self.now in
    let s : PlaceState = record { stage = Sealed; writes = c.index_mut.result.now.writes } in
    let long = c.set_prepared.ensures.count ∙ ap length c.deref_mut.ensures.value in
    let is = with_items_is (with_item file.states c.args.place.0 s) c.set_prepared.new.states (c.set_prepared.ensures.count ∙ c.deref_mut.ensures.len) in
    record {
      few = subst (λ (ss : List PlaceState). length ss ≤ MAX_PLACES) (sym is) (omega (arith, long, length-set file.states.items c.args.place.0 s, file.few));
      near = file.near;
    }
