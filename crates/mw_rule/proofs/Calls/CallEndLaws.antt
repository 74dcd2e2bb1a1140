-- A call on a tenant's file ends by one step on one shared word, and this step is the call's event. Used by: calls_end.
use Rattle.std.specs.Prelude.{ℕ, ◌+◌, ◌^◌, ◌<◌, ◌≡◌, ◌==◌, ◌&&◌, Bool, true, false, not, cond, if◌then◌else◌, Option, Some, None}
use Rattle.std.specs.Int.Bits.{bit_or}
use Rattle.std.proofs.Common.{refl, sym, ap, subst, ◌∙◌, arith}
use Rattle.std.proofs.lemmas.Bool.Decides.{nat_tests}
use Rattle.std.proofs.lemmas.Nat.{or_block, or_comm, or_shifted}
use Rattle.mw_words.specs.declared.doors.Door.{Door}
use Rattle.mw_words.specs.declared.places.At.TheVariants.{Door as AtDoor, Status as AtStatus}
use Rattle.mw_words.specs.declared.statuses.Status.{Status}
use Rattle.mw_words.specs.declared.statuses.Status.TheVariants.{Draft, Open, YesDirty, Yes, No, DoneYes, DoneNo}
use Rattle.mw_words.specs.Patterns.{IsDoorInRange, packed_door, packed_status}
use Rattle.mw_look.specs.declared.observations.Observation.TheVariants.{Won, Lost}
use Rattle.mw_look.specs.declared.steps.Call.{Call}
use Rattle.mw_look.specs.declared.steps.Call.TheVariants.{Prepare as PrepareCall, Seal as SealCall, Settle as SettleCall, Cancel as CancelCall}
use Rattle.mw_look.specs.declared.steps.Kind.TheVariants.{Fault as FaultKind}
use Rattle.mw_look.specs.Observations.{seen}
use Rattle.mw_look.specs.Places.{Fits}
use Rattle.mw_look.proofs.PlaceLaws.{nil_is_zero}
use Rattle.mw_actor.specs.ActorState.{ActorState, own_entries}
use Rattle.mw_world.specs.declared.outcomes.Outcome.{Outcome}
use Rattle.mw_world.specs.declared.outcomes.Outcome.TheVariants.{Good, Fail}
use Rattle.mw_world.specs.Files.State.{File, entries_at}
use Rattle.mw_world.specs.declared.config.Config.{Config}
use Rattle.mw_world.specs.declared.step_labels.StepLabel.TheVariants.{Nothing}
use Rattle.mw_world.specs.Claim.BitExactness.{IsRightAs}
use Rattle.mw_world.specs.Definition.Calls.{Called, breaks, call, call_if, calling, calls_made, can_be_made, device_calls, ends, fails_on, faults, goes_well, is_made, moved_if, place_for, skips, starts_from, status_after}
use Rattle.mw_world.specs.Definition.Cells.{Cells, AllFit, write}
use Rattle.mw_look.specs.declared.steps.Shape.{Shape}
use Rattle.mw_look.specs.declared.steps.Shape.TheVariants.{Exchange, Fetch}
use Rattle.mw_look.specs.Shapes.{shape_of}
use Rattle.mw_world.specs.Definition.Changes.{fetched, changed}
use Rattle.mw_world.specs.Definition.Extent.{has_slot}
use Rattle.mw_world.specs.Definition.Events.{File as FileEvent}
use Rattle.mw_world.specs.Definition.State.{State}
use Rattle.mw_world.specs.Definition.Turns.{Made, moved}
use Rattle.mw_world.specs.Definition.World.{step}
use Rattle.mw_law_runs.proofs.RunsAreSound.{runs_are_sound}
use Rattle.mw_rule.specs.Calls.CallEnds.{CallsEndWell, CallsFindFaults, CallsMeetFaults, CallsSkip, IsMadeBy, exchange_of, fault_of, kind_of, load_of}
use Rattle.mw_rule.specs.Calls.CallStarts.{HasWords, IsAtCall}
use Rattle.mw_rule.proofs.Calls.CallStartLaws.{calls_can_start, calls_have_words}

-- The event of a call.

module _ (config : Config) (state : State) (worker : ℕ) (actor : ActorState) (called : Called) (at : IsAtCall state worker actor called) (there : has_slot config called.change.slot ≡ true) where
  pub happens : (outcome : Outcome) (made : Made) → calling config state actor called outcome ≡ Some made → step config state (FileEvent worker outcome) ≡ Some (moved state worker actor made)
  happens outcome made is =
      ap (λ (one : Option ActorState). call config state worker one outcome) at.sits
      ∙ ap (λ (one : Option Called). call_if config state worker actor one outcome) at.comes_to
      ∙ ap (λ (test : Bool). if test then moved_if state worker actor (calling config state actor called outcome) else None) there
      ∙ ap (moved_if state worker actor) is

-- What the event makes.

module _ (config : Config) (state : State) (actor : ActorState) (called : Called) where
  abbrev file : File
  file = (state.tenant_states actor.tenant).file

  abbrev places : ℕ
  places = (state.tenant_states actor.tenant).quota

  abbrev status : Status
  status = state.cells.statuses called.change.slot

  abbrev place : ℕ
  place = place_for called.call file places called.change.slot

  skipped : starts_from called.call status ≡ false → calling config state actor called Good ≡ Some (skips state actor called.change file)
  skipped unstarted = λ i.
      ends state actor called.change file (unstarted i) (fails_on called.call file) (can_be_made called.call file places place (own_entries actor)) called.call status place
      (calls_made called.call status file place) Good

  found_failed : starts_from called.call status ≡ true → fails_on called.call file ≡ true → calling config state actor called Good ≡ Some (faults state actor called.change file file Nothing)
  found_failed starts failed = λ i.
      ends state actor called.change file (starts i) (failed i) (can_be_made called.call file places place (own_entries actor)) called.call status place
      (calls_made called.call status file place) Good

  went_well : starts_from called.call status ≡ true → fails_on called.call file ≡ false → can_be_made called.call file places place (own_entries actor) ≡ true
      → calling config state actor called Good ≡ Some (goes_well state actor called.change file called.call status place)
  went_well starts fine can = λ i.
      ends state actor called.change file (starts i) (fine i) (can i) called.call status place (calls_made called.call status file place) Good

  met_fault : (number : ℕ) → starts_from called.call status ≡ true → fails_on called.call file ≡ false → can_be_made called.call file places place (own_entries actor) ≡ true
      → is_made (device_calls called.call (entries_at file place)) number ≡ true → calling config state actor called (Fail number) ≡ Some (breaks state actor called.change file called.call place)
  met_fault number starts fine can makes =
      (λ i.
      ends state actor called.change file (starts i) (fine i) (can i) called.call status place (if starts i && not (fine i) then device_calls called.call (entries_at file place) else 0) (Fail number))
      ∙ ap (λ (test : Bool). if test then Some (breaks state actor called.change file called.call place) else None) makes

-- The step on a shared word.

same_bits : (n : ℕ) → (n == n) ≡ true
same_bits n = grind (arith, nat_tests)

pub after_fits : (slot : ℕ) (call : Call) (status : Status) → Fits (AtStatus slot) status → Fits (AtStatus slot) (status_after call status)
after_fits slot PrepareCall _ fits = tt
after_fits slot SealCall _ fits = tt
after_fits slot SettleCall _ fits = tt
after_fits slot CancelCall (No entry value) fits = fits
after_fits slot CancelCall Draft fits = fits
after_fits slot CancelCall Open fits = fits
after_fits slot CancelCall YesDirty fits = fits
after_fits slot CancelCall Yes fits = fits
after_fits slot CancelCall DoneYes fits = fits
after_fits slot CancelCall (DoneNo entry value) fits = fits

exchanges : (call : Call) → shape_of (kind_of call) ≡ Exchange
exchanges PrepareCall = refl
exchanges SealCall = refl
exchanges SettleCall = refl
exchanges CancelCall = refl

-- the fault in bits, at a door without it and at a door that has it
low_used : (used : ℕ) → used < 2 ^ 16 → used < 2 ^ 63
low_used used low = omega (arith, low)

or_none : (used : ℕ) → used < 2 ^ 16 → bit_or used 0 ≡ used
or_none used low = or_comm used 0 ∙ or_shifted 0 63 used (low_used used low) ∙ omega arith

faulted_bits : (fault : Bool) (used : ℕ) → used < 2 ^ 16 → packed_door (record { fault = true; used = used }) ≡ bit_or (packed_door (record { fault = fault; used = used })) (2 ^ 63)
faulted_bits true used low = sym (or_block 63 1 1 used 0 (low_used used low) (omega arith) ∙ ap (λ (n : ℕ). 2 ^ 63 + n) (or_none used low))
faulted_bits false used low = sym (ap (λ (n : ℕ). bit_or n (2 ^ 63)) (none used) ∙ or_comm used (2 ^ 63) ∙ or_shifted 1 63 used (low_used used low))
  where
    none : (used : ℕ) → packed_door (record { fault = false; used = used }) ≡ used
    none used = omega arith

fault_right : (tenant : ℕ) (door : Door) → IsDoorInRange door → IsRightAs Fetch FaultKind (AtDoor tenant) door
fault_right tenant door low = faulted_bits door.fault door.used low

module _ (config : Config) (cells : Cells) (actor : ActorState) (called : Called) (words : HasWords config actor called) where
  loads : IsMadeBy config cells cells (load_of called) (seen (AtStatus called.change.slot) (cells.statuses called.change.slot))
  loads = record { there = words.status; fits = tt; right = tt; leaves = refl; finds = refl }

  exchanged : AllFit cells → let status = cells.statuses called.change.slot in
      IsMadeBy config cells (write cells (AtStatus called.change.slot) (status_after called.call status)) (exchange_of called status) Won
  exchanged fit =
      let slot = called.change.slot in
      let status = cells.statuses slot in
      let to = status_after called.call status in
      let shape = exchanges called.call in
      record {
        there = words.status;
        fits = (fit (AtStatus slot), after_fits slot called.call status (fit (AtStatus slot)));
        right = subst (λ (one : Shape). IsRightAs one (kind_of called.call) (AtStatus slot) status) (sym shape) tt;
        leaves = (λ i. changed (shape i) (kind_of called.call) (AtStatus slot) status to cells (λ after observation. after))
            ∙ ap (λ (test : Bool). cond test (write cells (AtStatus slot) to) cells) (same_bits (packed_status status));
        finds = (λ i. changed (shape i) (kind_of called.call) (AtStatus slot) status to cells (λ after observation. observation)) ∙ ap (λ (test : Bool). cond test Won Lost) (same_bits (packed_status status));
      }

  faulted : AllFit cells → IsMadeBy config cells (write cells (AtDoor actor.tenant) (fetched FaultKind (AtDoor actor.tenant) (cells.doors actor.tenant))) (fault_of actor) (seen (AtDoor actor.tenant) (cells.doors actor.tenant))
  faulted fit = record {
    there = words.door;
    fits = ((nil_is_zero (AtDoor actor.tenant)).0, (nil_is_zero (AtDoor actor.tenant)).0);
    right = fault_right actor.tenant (cells.doors actor.tenant) (fit (AtDoor actor.tenant));
    leaves = refl;
    finds = refl;
  }

pub calls_skip : CallsSkip
calls_skip config openings events state worker actor called played at unstarted =
    let words = calls_have_words config openings events state worker actor called played at in
    record {
      happens = happens config state worker actor called at words.slot Good _ (skipped config state actor called unstarted);
      words = loads config state.cells actor called words;
    }

pub calls_end_well : CallsEndWell
calls_end_well config openings events state worker actor called played at starts fine =
    let words = calls_have_words config openings events state worker actor called played at in
    let can = (calls_can_start config openings events state worker actor called played at starts fine).can in
    record {
      happens = happens config state worker actor called at words.slot Good _ (went_well config state actor called starts fine can);
      words = exchanged config state.cells actor called words (runs_are_sound config openings events state played).0.memory.fits;
    }

pub calls_meet_faults : CallsMeetFaults
calls_meet_faults config openings events state worker actor called number played at starts fine makes =
    let words = calls_have_words config openings events state worker actor called played at in
    let can = (calls_can_start config openings events state worker actor called played at starts fine).can in
    record {
      happens = happens config state worker actor called at words.slot (Fail number) _ (met_fault config state actor called number starts fine can makes);
      words = faulted config state.cells actor called words (runs_are_sound config openings events state played).0.memory.fits;
    }

pub calls_find_faults : CallsFindFaults
calls_find_faults config openings events state worker actor called played at starts failed =
    let words = calls_have_words config openings events state worker actor called played at in
    record {
      happens = happens config state worker actor called at words.slot Good _ (found_failed config state actor called starts failed);
      words = faulted config state.cells actor called words (runs_are_sound config openings events state played).0.memory.fits;
    }
