-- Goals of `set_prepared` (src/new_changes.rt).
use Rattle.std.proofs.Common.{◌≤◌, List, length, refl, subst, arith}
use Rattle.std.proofs.lemmas.List.{take_all}
use Rattle.mw_file.specs.declared.new_changes.NewChange.{NewChange}
use Rattle.mw_file.specs.declared.place_states.PlaceState.{PlaceState}
use Rattle.mw_file.specs.declared.place_states.Stage.TheVariants.{Prepared}
use Rattle.mw_file.specs.NewChanges.{ArePrepared}
use Rattle.mw_file.proofs.NewPlaces.{prepared_none, prepared_next}
use Rattle.mw_file.proofs.new_changes.set_prepared.Goals as goal

pub loop-change-init : goal.loop-change-init
loop-change-init c = prepared_none c.args.states.now

pub loop-change-preserved : goal.loop-change-preserved
loop-change-preserved c =
    let s : PlaceState = record { stage = Prepared; writes = c.writes_to.result } in
    prepared_next c.args.states.now c.loop-change.states c.args.changes.now c.loop-change.change-index c.change-item.result s c.loop-change.invariant c.requires.apart c.requires.there
    c.loop-change-test.true c.change-item.is refl c.writes_to.ensures

pub returns : goal.returns
returns c =
    let long : length c.args.changes.now ≤ c.loop-change.change-index = (let l = c.loop-change-test.false in omega arith) in
    subst (λ (l : List NewChange). ArePrepared c.args.states.now c.loop-change.states l) (take_all c.loop-change.change-index c.args.changes.now long) c.loop-change.invariant
