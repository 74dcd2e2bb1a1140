-- The simulator's `cut` and the definition agree on a call on a file that a stop interrupts after `made` device calls. They
-- agree on whether it makes so many, which change is in doubt, and which request was being sealed.
-- Used by: World::cut.
use Rattle.std.specs.Prelude.{ℕ, ◌≡◌, ◌≤◌, ◌&&◌, Bool, true, false, not, List, if◌then◌else◌, nat_le, Some, None}
use Rattle.std.proofs.Common.{refl, ap, arith}
use Rattle.std.proofs.lemmas.Bool.Decides.{nat_tests}
use Rattle.arrayvec.specs.ArrayVec.{ArrayVec}
use Rattle.mw_words.specs.declared.jobs.Entry.{Entry}
use Rattle.mw_words.specs.declared.statuses.Status.{Status}
use Rattle.mw_look.specs.declared.steps.Call.{Call}
use Rattle.mw_look.specs.declared.steps.Call.TheVariants.{Prepare as PrepareCall, Seal as SealCall, Settle as SettleCall, Cancel as CancelCall}
use Rattle.mw_actor.specs.ActorState.{ActorState, own_entries}
use Rattle.mw_world_file.specs.DeviceCalls.{call_list}
use Rattle.mw_world.specs.Files.State.{entries_at}
use Rattle.mw_world.specs.declared.config.Config.{Config}
use Rattle.mw_world.specs.Definition.Calls.{Called, device_calls, fails_on, is_formed, place_for, starts_from, suits}
use Rattle.mw_world.specs.Definition.Extent.{has_slot}
use Rattle.mw_world.specs.Definition.Restarts.{is_whole_seal, sealing, stopped_call}
use Rattle.mw_world.specs.Definition.State.{State}
use Rattle.mw_simulator.specs.Stops.{IsCut, sealed_request}

-- the number of device calls, by the tests of a call
calls_same : (slot formed fits starts fails : Bool) (calls : ℕ) → slot ≡ true → formed ≡ true → starts ≡ true
    → (if slot && (formed && fits) then (if starts && not fails then calls else 0) else 0) ≡ (if fits && not fails then calls else 0)
calls_same true true true true fails calls s f t = refl
calls_same true true false true fails calls s f t = refl
calls_same true true fits false fails calls s f t = absurd (cc)
calls_same true false fits starts fails calls s f t = absurd (cc)
calls_same false formed fits starts fails calls s f t = absurd (cc)

none_made : (slot formed fits starts fails : Bool) (calls made : ℕ) → formed ≡ false → 1 ≤ made
    → nat_le made (if slot && (formed && fits) then (if starts && not fails then calls else 0) else 0) ≡ false
none_made true false fits starts fails calls made f some = grind (arith, nat_tests, some)
none_made false formed fits starts fails calls made f some = grind (arith, nat_tests, some)
none_made true true fits starts fails calls made f some = absurd (cc)

sealing_same : (call : Call) (made request given : ℕ) → 1 ≤ made → given ≡ request → sealing call made request ≡ sealed_request call given
sealing_same PrepareCall made request given some same = refl
sealing_same SealCall made request given some same = grind (arith, nat_tests, some, same)
sealing_same SettleCall made request given some same = refl
sealing_same CancelCall made request given some same = refl

pub in_slot : (there : Bool) (x y : Status) → Some x ≡ (if there then Some y else None) → (there ≡ true) × (x ≡ y)
in_slot true x y is = (refl, cc)
in_slot false x y is = absurd (cc)

module _ (config : Config) (state : State) (actor : ActorState) (called : Called) (made : ℕ) where
  pub not_formed : is_formed called.call (state.tenant_states actor.tenant).file (own_entries actor) ≡ false → 1 ≤ made → nat_le made (stopped_call config state actor made called).calls ≡ false
  not_formed formed some =
      let file = (state.tenant_states actor.tenant).file in
      let places = (state.tenant_states actor.tenant).quota in
      let place = place_for called.call file places called.change.slot in
      none_made (has_slot config called.change.slot) (is_formed called.call file (own_entries actor)) (suits called.call file places place)
      (starts_from called.call (state.cells.statuses called.change.slot)) (fails_on called.call file) (device_calls called.call (entries_at file place)) made formed some

  pub cut_is : (entries : ArrayVec Entry) (request : ℕ) → has_slot config called.change.slot ≡ true → is_formed called.call (state.tenant_states actor.tenant).file (own_entries actor) ≡ true
      → starts_from called.call (state.cells.statuses called.change.slot) ≡ true → 1 ≤ made → request ≡ state.history.request called.change.slot called.change.seq
      → entries.items ≡ own_entries actor → IsCut config state actor called made
      (record { cut = Some (record { call = called.call; slot = called.change.slot; entries = entries; made = made }); sealing = sealed_request called.call request })
  cut_is entries request slot formed starts some same own =
      let file = (state.tenant_states actor.tenant).file in
      let places = (state.tenant_states actor.tenant).quota in
      let place = place_for called.call file places called.change.slot in
      let calls = calls_same (has_slot config called.change.slot) (is_formed called.call file (own_entries actor)) (suits called.call file places place)
      (starts_from called.call (state.cells.statuses called.change.slot)) (fails_on called.call file) (device_calls called.call (entries_at file place)) slot formed starts in
      record {
        may = ap (nat_le made) calls;
        is = record {
          doubt = refl;
          sealed = ap (is_whole_seal called.call made) calls;
          request = sealing_same called.call made (state.history.request called.change.slot called.change.seq) request some same;
        };
        made_so = refl;
        list_so = λ book. ap (λ (es : List Entry). call_list book called.call called.change.slot es) own;
      }
