-- In every run, steps on words of 64 bits do what the definition says of values. What a request's next step expects and
-- leaves is in range.
-- Used by: runs_are_bit_exact, mw_rule.
use Rattle.std.specs.Prelude.{ℕ, ◌≡◌, ◌≤◌, ◌<◌, ◌+◌, ◌-◌, ◌*◌, ◌%◌, ◌^◌, Bool, true, false, All, Some}
use Rattle.std.proofs.Common.{refl, sym, ap, subst, ◌∙◌, arith}
use Rattle.mw_words.specs.declared.doors.Door.{Door}
use Rattle.mw_words.specs.declared.gates.Gate.{Gate}
use Rattle.mw_words.specs.declared.limits.TheConstants.{MAX_VALUE}
use Rattle.mw_words.specs.declared.places.At.TheVariants.{Door as AtDoor, Gate as AtGate, Row as AtRow, Data, Status as AtStatus, Count, Addr, Expected, New}
use Rattle.mw_words.specs.Patterns.{IsDoorInRange, IsGateInRange, IsWordInRange, packed_door, packed_gate}
use Rattle.mw_pool.specs.Moves.{after_unpin}
use Rattle.mw_look.specs.declared.points.Point.{Point as ReadPoint}
use Rattle.mw_look.specs.declared.points.Point.TheVariants.{Unpin as UnpinOfRead, LowerDoor as LowerOfRead}
use Rattle.mw_look.specs.declared.steps.Kind.TheVariants.{Unpin as UnpinKind, Drop as DropKind}
use Rattle.mw_look.specs.Program.{Reading, asks_at as read_asks_at}
use Rattle.mw_look.specs.Runs.{if_same}
use Rattle.mw_look.specs.Steps.{StepFits}
use Rattle.mw_look.proofs.PlaceLaws.{asks_in_range, nil_is_zero}
use Rattle.mw_actor.specs.declared.points.Point.{Point}
use Rattle.mw_actor.specs.declared.points.Point.TheVariants.{Read, Admit, Claim, FillStatus, FillCount, FillAddr, FillExpected, FillNew, AnnounceRow, Plant, DecideYes, DecideNo, Resolve, PinOther, Release, Clean, SweepResolve, Unpin, FreeSlot, LowerDoor}
use Rattle.mw_actor.specs.declared.points.Slot.{Slot}
use Rattle.mw_actor.specs.declared.points.Sweep.{Sweep}
use Rattle.mw_actor.specs.declared.points.Sweep.TheVariants.{Yes as SweepYes, No as SweepNo, DoneYes as SweepDoneYes, DoneNo as SweepDoneNo}
use Rattle.mw_actor.specs.declared.points.Task.{Task}
use Rattle.mw_actor.specs.ActorState.{ActorState, entries_of, entry_of, is_alone, own_entries}
use Rattle.mw_actor.specs.Asks.{asks, asks_at, released, resolved}
use Rattle.mw_actor.specs.Ranges.{IsEntryInRange}
use Rattle.mw_world.specs.declared.config.Config.{Config}
use Rattle.mw_world.specs.Claim.Headline.{IsExecution}
use Rattle.mw_world.specs.Claim.BitExactness.{EveryRunIsBitExact, IsRightAs, IsRightInBits, bits_fetched}
use Rattle.mw_look.specs.declared.steps.Shape.TheVariants.{Fetch}
use Rattle.mw_world.specs.Definition.Counts.{pins_held, waits_at}
use Rattle.mw_world.specs.Definition.State.{State}
use Rattle.mw_law_runs.proofs.Counts.GateSteps.{has_pin, has_waited}
use Rattle.mw_law_runs.specs.Knowledge.Facts.{AtEntry}
use Rattle.mw_law_runs.specs.Knowledge.Informed.{IsInformed}
use Rattle.mw_law_runs.specs.Knowledge.Points.{without_point}
use Rattle.mw_law_runs.specs.Moves.Guards.{IsLive}
use Rattle.mw_law_runs.specs.RunInvariant.{IsSound}
use Rattle.mw_law_runs.proofs.ExpectedInRange.{entry_in_range, expected_fits, held_fits, of_either, slot_fits}
use Rattle.mw_law_runs.proofs.Obligations.Pins.{counted_once}
use Rattle.mw_law_runs.proofs.Places.PlaceInvariant.{places_are_there}
use Rattle.mw_law_runs.proofs.RunsAreSound.{runs_are_sound}
use Rattle.mw_law_runs.proofs.RequestsInWorlds.{have_their_requests, rest_on}

-- What a step expects and leaves.
module _ (config : Config) (state : State) (actor : ActorState) where
  its_entry : (point : Point) (task : Task) (entry : ℕ) → IsInformed config state (record actor { point = point }) → AtEntry state (without_point actor) task entry
      → IsEntryInRange (entry_of actor task entry)
  its_entry point task entry informed at =
      entry_in_range (entries_of actor task) entry (of_either (All IsEntryInRange) (is_alone task) (own_entries actor) actor.others informed.in_range.job.1 informed.in_range.others.1) at.within

  resolved_fits : (point : Point) (task : Task) (entry : ℕ) (was_open : Bool) → IsInformed config state (record actor { point = point }) → IsLive state task.target
      → AtEntry state (without_point actor) task entry → task.target.seq < 2 ^ 48 - 1 → IsWordInRange (resolved was_open task.target (entry_of actor task entry))
  resolved_fits point task entry true informed live at low = (slot_fits config state actor point task.target informed live, omega (arith, low))
  resolved_fits point task entry false informed live at low = expected_fits config state actor point task entry informed at

  released_fits : (point : Point) (task : Task) (entry : ℕ) (sweep : Sweep) → IsInformed config state (record actor { point = point }) → IsLive state task.target
      → AtEntry state (without_point actor) task entry → IsWordInRange (released sweep task.target (entry_of actor task entry))
  released_fits point task entry SweepYes informed live at = (slot_fits config state actor point task.target informed live, (its_entry point task entry informed at).2)
  released_fits point task entry SweepNo informed live at = expected_fits config state actor point task entry informed at
  released_fits point task entry SweepDoneYes informed live at = expected_fits config state actor point task entry informed at
  released_fits point task entry (SweepDoneNo index value) informed live at = expected_fits config state actor point task entry informed at

  fits_at : (point : Point) → let me = record actor { point = point } in IsInformed config state me → StepFits (asks_at me point)
  fits_at (Read look) informed = asks_in_range look.tenant look.address look.point informed.look_in_range
  fits_at (Admit from to) informed = (informed.in_range.point.0, informed.in_range.point.1)
  fits_at (Claim slot saw_worn from to) informed = (informed.in_range.point.1, informed.in_range.point.2)
  fits_at (FillStatus own) informed = (tt, tt)
  fits_at (FillCount own) informed = ((nil_is_zero (Count own.slot)).0, omega (arith, informed.in_range.job.0))
  fits_at (FillAddr own entry) informed =
      ((nil_is_zero (Addr own.slot entry)).0, omega (arith, (entry_in_range (own_entries actor) entry informed.in_range.job.1 informed.knows.within).0))
  fits_at (FillExpected own entry) informed =
      ((nil_is_zero (Expected own.slot entry)).0, omega (arith, (entry_in_range (own_entries actor) entry informed.in_range.job.1 informed.knows.0.within).1))
  fits_at (FillNew own entry) informed =
      ((nil_is_zero (New own.slot entry)).0, omega (arith, (entry_in_range (own_entries actor) entry informed.in_range.job.1 informed.knows.0.within).2))
  fits_at (AnnounceRow task entry number) informed =
      ((nil_is_zero (AtRow actor.worker)).0, (slot_fits config state actor (AnnounceRow task entry number) task.target informed informed.live.1, informed.in_range.point.1, omega (arith, informed.in_range.point.0.1)))
  fits_at (Plant task entry number) informed =
      (expected_fits config state actor (Plant task entry number) task entry informed informed.knows.0, (informed.in_range.worker, omega (arith, informed.in_range.point.1)))
  fits_at (DecideYes task) informed = (tt, tt)
  fits_at (DecideNo task entry value) informed = (tt, (informed.in_range.point.1, informed.in_range.point.2))
  fits_at (Resolve task entry attempt was_open) informed =
      (informed.in_range.point.1, resolved_fits (Resolve task entry attempt was_open) task entry was_open informed informed.live.1 informed.knows.0 (omega (arith, informed.in_range.point.0.1)))
  fits_at (PinOther task other from to) informed = (informed.in_range.point.2, informed.in_range.point.3)
  fits_at (Release task sweep entry) informed = (
    held_fits config state actor (Release task sweep entry) task informed informed.live.1 informed.in_range.point.1,
    released_fits (Release task sweep entry) task entry sweep informed informed.live.1 informed.knows.0.at,
  )
  fits_at (Clean task entry value) informed = (
    (slot_fits config state actor (Clean task entry value) task.target informed informed.live.1, informed.in_range.point.1),
    informed.in_range.point.1,
  )
  fits_at (SweepResolve task sweep entry attempt) informed =
      (informed.in_range.point.1, expected_fits config state actor (SweepResolve task sweep entry attempt) task entry informed informed.knows.0.at)
  fits_at (Unpin slot onward) informed = ((nil_is_zero (AtGate slot.slot)).0, (nil_is_zero (AtGate slot.slot)).0)
  fits_at (FreeSlot slot onward) informed = ((nil_is_zero (AtGate slot.slot)).0, (omega arith, omega (arith, informed.in_range.point.0), λ e. refl))
  fits_at (LowerDoor onward) informed = ((nil_is_zero (AtDoor actor.tenant)).0, (nil_is_zero (AtDoor actor.tenant)).0)
  fits_at point informed = tt

-- What a fetch leaves, in bits.
unpinned_bits : (taken : Bool) (pins seq : ℕ) → let gate : Gate = record { taken = taken; pins = pins; seq = seq } in IsGateInRange gate → 1 ≤ pins
    → packed_gate (after_unpin gate) ≡ bits_fetched UnpinKind (packed_gate gate)
unpinned_bits true pins seq fits some = omega (arith, fits.0, fits.1, some)
unpinned_bits false pins seq fits some = omega (arith, fits.0, fits.1, some)

unpin_right : (slot : ℕ) (gate : Gate) → IsGateInRange gate → 1 ≤ gate.pins → IsRightAs Fetch UnpinKind (AtGate slot) gate
unpin_right slot gate fits some = unpinned_bits gate.taken gate.pins gate.seq fits some

dropped_bits : (fault : Bool) (used : ℕ) → let door : Door = record { fault = fault; used = used } in IsDoorInRange door → 1 ≤ used
    → packed_door (record door { used = used - 1 }) ≡ bits_fetched DropKind (packed_door door)
dropped_bits true used fits some = omega (arith, fits, some)
dropped_bits false used fits some = omega (arith, fits, some)

drop_right : (tenant : ℕ) (door : Door) → IsDoorInRange door → 1 ≤ door.used → IsRightAs Fetch DropKind (AtDoor tenant) door
drop_right tenant door fits some = dropped_bits door.fault door.used fits some

module _ (config : Config) (state : State) (sound : IsSound config state) (worker : ℕ) (actor : ActorState) where
  pinned_right : (point : Point) (slot : ℕ) → (state.worker_states worker).actor ≡ Some (record actor { point = point }) → 1 ≤ pins_held slot point → IsRightAs Fetch UnpinKind (AtGate slot) (state.cells.gates slot)
  pinned_right point slot sits some =
      unpin_right slot (state.cells.gates slot) (sound.memory.fits (AtGate slot)) (omega (arith, has_pin config state worker sound.counts (rest_on config state sound) (record actor { point = point }) slot sits some))

  waits_right : (point : Point) → (state.worker_states worker).actor ≡ Some (record actor { point = point }) → 1 ≤ waits_at point → IsRightAs Fetch DropKind (AtDoor actor.tenant) (state.cells.doors actor.tenant)
  waits_right point sits some =
      drop_right actor.tenant (state.cells.doors actor.tenant) (sound.memory.fits (AtDoor actor.tenant)) (has_waited config state worker sound.counts (rest_on config state sound) (record actor { point = point }) sits some)

  read_right : (look : Reading) (point : ReadPoint) → look.tenant ≡ actor.tenant → (state.worker_states worker).actor ≡ Some (record actor { point = Read (record look { point = point }) })
      → IsRightInBits (read_asks_at look.tenant look.address point) state.cells
  read_right look (UnpinOfRead slot seq after) same sits = pinned_right (Read (record look { point = UnpinOfRead slot seq after })) slot sits (omega (arith, counted_once slot slot refl))
  read_right look (LowerOfRead after) same sits =
      subst (λ (n : ℕ). IsRightAs Fetch DropKind (AtDoor n) (state.cells.doors n)) (sym same) (waits_right (Read (record look { point = LowerOfRead after })) sits (omega arith))
  read_right look point same sits = tt

  right_at : (point : Point) → let me = record actor { point = point } in (state.worker_states worker).actor ≡ Some me → IsInformed config state me → IsRightInBits (asks_at me point) state.cells
  right_at (Read look) sits informed = read_right look look.point informed.ready.0 sits
  right_at (Unpin slot onward) sits informed = pinned_right (Unpin slot onward) slot.slot sits (omega (arith, counted_once slot.slot slot.slot refl))
  right_at (LowerDoor onward) sits informed = waits_right (LowerDoor onward) sits (omega arith)
  right_at point sits informed = tt

pub runs_are_bit_exact : EveryRunIsBitExact
runs_are_bit_exact config openings events state played =
    let sound = (runs_are_sound config openings events state played).0 in
    record {
      fit = sound.memory.fits;
      steps = λ worker actor sits none no_call.
          let informed = (have_their_requests config state sound worker actor sits).informed in
          record {
            there = places_are_there config openings events state worker actor played sits none no_call;
            fits = fits_at config state actor actor.point informed;
            right = right_at config state sound worker actor actor.point sits informed;
          };
    }
