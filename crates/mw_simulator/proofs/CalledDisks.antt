-- A call on a tenant's file leads from its disk in memory, by the call's own device calls, to one disk.
-- Used by: World::end, World::work, file_calls_lead_to_one_disk.
use Rattle.std.specs.Prelude.{ℕ, ◌≡◌, ◌&&◌, not, Bool, true, false, List, Option, Some, Ok}
use Rattle.std.proofs.Common.{refl, sym, ap, subst, ◌∙◌}
use Rattle.mw_words.specs.declared.jobs.Entry.{Entry}
use Rattle.mw_actor.specs.ActorState.{ActorState, own_entries}
use Rattle.mw_world_file.specs.declared.simulated_file.SimulatedFile.{SimulatedFile}
use Rattle.mw_world.specs.declared.outcomes.Outcome.{Outcome}
use Rattle.mw_world_file.specs.DeviceCalls.{CameExactly}
use Rattle.mw_world_file.specs.Devices.{disk_under}
use Rattle.mw_world_file.proofs.ExactDisks.{one_disk}
use Rattle.mw_world.specs.Definition.Calls.{Called, called_at, fails_on, starts_from}
use Rattle.mw_world.specs.Definition.State.{State}
use Rattle.mw_simulator.specs.DisksOfCalls.{CameByCall, CameByCallOf, is_made_on_file}
use Rattle.mw_simulator.proofs.Crashes.{same_some}

-- a file that came of another by a call, if both are known by other names
pub came_so : (before after : Option SimulatedFile) (was now shown new : SimulatedFile) (called : Called) (entries own : List Entry) (outcome : Outcome) → before ≡ Some shown → after ≡ Some new
    → before ≡ Some was → after ≡ Some now → entries ≡ own → CameExactly shown called.call called.change.slot entries outcome (Ok new) → CameByCall true called own outcome was now
came_so before after was now shown new called entries own outcome is_shown is_new is_was is_now same came =
    subst (λ (f : SimulatedFile). CameByCall true called own outcome f now) (same_some before shown was is_shown is_was)
    (subst (λ (f : SimulatedFile). CameByCall true called own outcome shown f) (same_some after new now is_new is_now)
    (subst (λ (es : List Entry). CameByCall true called es outcome shown new) same came))

-- a file that stays, if the call is not made on it
pub not_made : (made : Bool) (called : Called) (entries : List Entry) (outcome : Outcome) (before after : Option SimulatedFile) (was now : SimulatedFile) → made ≡ false → after ≡ before → before ≡ Some was
    → after ≡ Some now → CameByCall made called entries outcome was now
not_made made called entries outcome before after was now is stays is_was is_now =
    subst (λ (b : Bool). CameByCall b called entries outcome was now) (sym is) (same_some after now was is_now (stays ∙ is_was))

-- a file that came by the call, if it is made on it
pub is_made : (made : Bool) (called : Called) (entries : List Entry) (outcome : Outcome) (was now : SimulatedFile) → made ≡ true → CameByCall true called entries outcome was now
    → CameByCall made called entries outcome was now
is_made made called entries outcome was now is came = subst (λ (b : Bool). CameByCall b called entries outcome was now) (sym is) came

-- when a call is made on its file, by what the code tests
module _ (state : State) (actor : ActorState) (called : Called) where
  pub does_not_start : starts_from called.call (state.cells.statuses called.change.slot) ≡ false → is_made_on_file state actor called ≡ false
  does_not_start is = ap (λ b. b && not (fails_on called.call (state.tenant_states actor.tenant).file)) is

  pub starts_by : (fails : Bool) → starts_from called.call (state.cells.statuses called.change.slot) ≡ true → fails_on called.call (state.tenant_states actor.tenant).file ≡ fails
      → is_made_on_file state actor called ≡ not fails
  starts_by fails is so = ap (λ b. b && not (fails_on called.call (state.tenant_states actor.tenant).file)) is ∙ ap not so

-- one disk, by whether the call was made
disk_by : (made : Bool) (called : Called) (entries : List Entry) (outcome : Outcome) (was one other : SimulatedFile) → CameByCall made called entries outcome was one
    → CameByCall made called entries outcome was other → disk_under one.device ≡ disk_under other.device
disk_by true called entries outcome was one other this that = one_disk was one other called.call called.change.slot entries outcome this that
disk_by false called entries outcome was one other this that = ap (λ (f : SimulatedFile). disk_under f.device) (this ∙ sym that)

-- two values of one option are one
same_value : {A : Type 0} (x y : A) → Some x ≡ Some y → x ≡ y
same_value x y same = same_some (Some y) x y (sym same) refl

pub one_called_disk : (state : State) (worker : ℕ) (outcome : Outcome) (was one other : SimulatedFile) → CameByCallOf state worker outcome was one → CameByCallOf state worker outcome was other
    → disk_under one.device ≡ disk_under other.device
one_called_disk state worker outcome was one other this that =
    let actor = same_value this.actor that.actor (sym this.is ∙ that.is) in
    let called = same_value this.called that.called (sym this.at ∙ ap (λ (a : ActorState). called_at a.point) actor ∙ that.at) in
    disk_by (is_made_on_file state that.actor that.called) that.called (own_entries that.actor) outcome was one other
    (subst (λ (c : Called). CameByCall (is_made_on_file state that.actor c) c (own_entries that.actor) outcome was one) called
    (subst (λ (a : ActorState). CameByCall (is_made_on_file state a this.called) this.called (own_entries a) outcome was one) actor this.came)) that.came
