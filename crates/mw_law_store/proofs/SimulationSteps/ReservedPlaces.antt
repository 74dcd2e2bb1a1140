-- After each step, a request has no reserved place in the history, keeps the one that it had, or has a new one. Used by: Turned.
use Rattle.std.specs.Prelude.{ℕ, ◌≡◌, ◌==◌, ◌-◌, ◌+◌, Bool, true, false, cond, nat_lt, Option, Some, None}
use Rattle.std.proofs.Common.{refl, sym, subst, inl, inr}
use Rattle.mw_words.specs.declared.gates.Gate.{Gate}
use Rattle.mw_words.specs.declared.limits.TheConstants.{MAX_ENTRIES, WORN_NUMBER}
use Rattle.mw_words.specs.declared.statuses.Status.{Status}
use Rattle.mw_words.specs.declared.words.Word.{Word}
use Rattle.mw_words.specs.declared.words.Word.TheVariants.{Plain, Planted, Held, Dirty}
use Rattle.mw_look.specs.declared.observations.Observation.{Observation}
use Rattle.mw_look.specs.declared.observations.Observation.TheVariants.{Won, Lost, SawDoor, SawGate, SawRow, SawWord, SawStatus, SawNumber}
use Rattle.mw_look.specs.declared.points.After.{After as AfterRead}
use Rattle.mw_look.specs.declared.points.After.TheVariants.{Again, Answer}
use Rattle.mw_look.specs.declared.points.Point.{Point as ReadPoint}
use Rattle.mw_look.specs.declared.points.Point.TheVariants as look
use Rattle.mw_look.specs.declared.points.Trail.{Trail}
use Rattle.mw_look.specs.declared.points.Trail.TheVariants.{Held as ByHeld, Planted as ByPlanted}
use Rattle.mw_look.specs.Program.{Reading, goes as read_goes, word_of, same_word, seq_of, pinned, next_entry, resumed, word_seen}
use Rattle.mw_pool.specs.Moves.{after_pin}
use Rattle.mw_actor.specs.declared.points.Point.{Point}
use Rattle.mw_actor.specs.declared.points.Point.TheVariants.{Read, Inspect, DecideNo}
use Rattle.mw_actor.specs.ActorState.{ActorState}
use Rattle.mw_actor.specs.Asks.{asks}
use Rattle.mw_actor.specs.Program.{goes, tells}
use Rattle.mw_world.specs.Definition.StepLabels.{label_of, read_label}
use Rattle.mw_world.specs.Definition.State.{State}
use Rattle.mw_law_runs.proofs.StepEnds.{Ends}
use Rattle.mw_law_store.specs.ReservedPlaces.{keeps}
use Rattle.mw_law_store.proofs.ReservedSteps.{keeps_none, inspect_place}
use Rattle.mw_law_store.proofs.SimulationSteps.Turns.{PlaceSo, ReservesNone, ReservesSame, ReservesNew}

either_place : {A : Type 0} (P : A → Type 1) (test : Bool) (one two : A) → P one → P two → P (cond test one two)
either_place P true one two here there = here
either_place P false one two here there = there

module _ (state : State) (actor : ActorState) (reading : Reading) where
  abbrev at : ReadPoint → ActorState
  at point = record actor { point = Read (record reading { point = point }) }

  -- a read goes from this point to that one
  abbrev RelaxedStep : ReadPoint → ReadPoint → Type 1
  RelaxedStep from to = PlaceSo state (at from) (at to) (read_label from to)

  seen_so : (word : Word) → RelaxedStep look.ReadWord (word_seen word)
  seen_so (Plain value) = ReservesNone refl
  seen_so (Dirty slot value) = ReservesNone refl
  seen_so (Held slot seq) = ReservesNone refl
  seen_so (Planted worker number) = ReservesNone refl

  pinned_so : (trail : Trail) (gate : Gate) (next : Option Gate) → RelaxedStep (look.ReadGate trail) (pinned trail gate next)
  pinned_so trail gate (Some to) = ReservesNone refl
  pinned_so trail gate None = ReservesNone refl

  -- the place stays reserved on the way to the word's values
  found_so : (trail : Trail) (status : Status) (entry : ℕ) (found : Bool) → RelaxedStep (look.FindEntry trail status entry) (cond found (look.ReadExpected trail status entry) (next_entry trail status entry))
  found_so (ByHeld slot seq) status entry found =
      either_place (RelaxedStep (look.FindEntry (ByHeld slot seq) status entry)) found (look.ReadExpected (ByHeld slot seq) status entry) (next_entry (ByHeld slot seq) status entry)
      (ReservesSame refl refl (λ looks misses placed. placed))
      (either_place (RelaxedStep (look.FindEntry (ByHeld slot seq) status entry)) (nat_lt entry (MAX_ENTRIES - 1)) (look.FindEntry (ByHeld slot seq) status (entry + 1)) (look.Unpin slot seq Again)
      (ReservesSame refl refl (λ looks misses placed. placed)) (ReservesNone refl))
  found_so (ByPlanted worker number row) status entry found =
      either_place (RelaxedStep (look.FindEntry (ByPlanted worker number row) status entry)) found (look.ReadExpected (ByPlanted worker number row) status entry) (next_entry (ByPlanted worker number row) status entry)
      (ReservesNone refl)
      (either_place (RelaxedStep (look.FindEntry (ByPlanted worker number row) status entry)) (nat_lt entry (MAX_ENTRIES - 1)) (look.FindEntry (ByPlanted worker number row) status (entry + 1)) (look.Unpin row.slot row.seq Again)
      (ReservesNone refl) (ReservesNone refl))

  resumed_so : (from : ReadPoint) (after : AfterRead) → ((to : ReadPoint) → keeps (Read (record reading { point = to })) ≡ false → RelaxedStep from to) → RelaxedStep from (resumed after)
  resumed_so from Again on = on look.ReadDoor refl
  resumed_so from (Answer value) on = on (resumed (Answer value)) refl

  read_so : (point : ReadPoint) (observation : Observation) → RelaxedStep point (read_goes reading.address point observation)
  read_so look.ReadDoor (SawDoor door) = either_place (RelaxedStep look.ReadDoor) door.fault _ look.ReadWord (ReservesNone refl) (ReservesNone refl)
  read_so look.ReadWord (SawWord word) = seen_so word
  read_so (look.ReadRow worker number) (SawRow row) = ReservesNone refl
  read_so (look.ConfirmWord trail) (SawWord word) = either_place (RelaxedStep (look.ConfirmWord trail)) (same_word word (word_of trail)) (look.ReadGate trail) look.ReadDoor (ReservesNone refl) (ReservesNone refl)
  read_so (look.ReadGate trail) (SawGate gate) =
      either_place (RelaxedStep (look.ReadGate trail)) (nat_lt (seq_of trail) WORN_NUMBER) (pinned trail gate (after_pin gate (seq_of trail))) look.ReadDoor (pinned_so trail gate (after_pin gate (seq_of trail))) (ReservesNone refl)
  read_so (look.Pin trail from to) Won = ReservesNone refl
  read_so (look.Pin trail from to) Lost = ReservesNone refl
  read_so (look.ReadStatus (ByHeld slot seq)) (SawStatus status) = ReservesNew refl
  read_so (look.ReadStatus (ByPlanted worker number row)) (SawStatus status) = ReservesNone refl
  read_so (look.FindEntry trail status entry) (SawNumber number) = found_so trail status entry (number == reading.address)
  read_so (look.FindEntry (ByHeld slot seq) status entry) observation = ReservesSame refl refl (λ looks misses placed. placed)
  read_so (look.ReadExpected (ByHeld slot seq) status entry) (SawNumber expected) = ReservesSame refl refl (λ looks misses placed. placed)
  read_so (look.ReadExpected (ByHeld slot seq) status entry) observation = ReservesSame refl refl (λ looks misses placed. placed)
  read_so (look.ReadExpected (ByPlanted worker number row) status entry) (SawNumber expected) = ReservesNone refl
  read_so (look.ReadNew (ByHeld slot seq) status entry was) (SawNumber new) = ReservesSame refl refl (λ looks misses placed. placed)
  read_so (look.ReadNew (ByHeld slot seq) status entry was) observation = ReservesSame refl refl (λ looks misses placed. placed)
  read_so (look.ReadNew (ByPlanted worker number row) status entry was) (SawNumber new) = ReservesNone refl
  read_so (look.RecheckWord trail status was written) (SawWord word) = ReservesNone refl
  read_so (look.RecheckWord (ByHeld slot seq) status was written) observation = ReservesSame refl refl (λ looks misses placed. placed)
  read_so (look.Unpin slot seq after) (SawGate gate) =
      either_place (RelaxedStep (look.Unpin slot seq after)) (gate.pins == 1) (look.FreeSlot slot seq after) (resumed after) (ReservesNone refl) (resumed_so (look.Unpin slot seq after) after (λ to none. ReservesNone none))
  read_so (look.FreeSlot slot seq after) Won = ReservesNone refl
  read_so (look.LowerDoor after) (SawDoor door) = resumed_so (look.LowerDoor after) after (λ to none. ReservesNone none)
  read_so point observation = ReservesNone refl

module _ (state : State) (actor : ActorState) (number : ℕ) where
  -- A request goes on from this point after this observation.
  abbrev PlaceAt : Point → Observation → Type 1
  PlaceAt point observation = let me = record actor { point = point } in PlaceSo state me (tells me observation number) (label_of me point observation (goes me number point observation))

  pub place_so : (point : Point) (observation : Observation) → Ends state.cells (asks (record actor { point = point })) observation → PlaceAt point observation
  place_so (Read reading) observation ends = read_so state actor reading reading.point observation
  place_so (Inspect task entry) (SawWord word) ends = elim (inspect_place (record actor { point = Inspect task entry }) number task entry word) [
    | inl none ↦ ReservesNone none
    | inr anew ↦ ReservesNew anew
  ]
  place_so (Inspect task entry) observation ends = ReservesNone refl
  place_so (DecideNo task entry value) observation (inl quiet) = subst (λ (found : Observation). PlaceAt (DecideNo task entry value) found) (sym quiet.1) (ReservesNone refl)
  place_so (DecideNo task entry value) observation (inr changes) = subst (λ (found : Observation). PlaceAt (DecideNo task entry value) found) (sym changes.0) (ReservesNone refl)
  place_so point observation ends = ReservesNone (keeps_none (record actor { point = point }) number point observation tt)
