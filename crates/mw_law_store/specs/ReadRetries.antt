-- Lists the three reasons for which a read begins again. The word was another one when it was loaded again. Or the gate of
-- its slot was not as the word, or the row of its attempt, implies. Or the gate changed before the exchange that should pin
-- it.
-- Used by: src/laws.rt, mw_rule.
use Rattle.std.specs.Prelude.{ℕ, ◌≡◌, ◌<◌, ◌≤◌, ◌-◌, ◌==◌, ◌&&◌, Bool, true, false, nat_le, List, Some}
use Rattle.mw_words.specs.declared.gates.Gate.{Gate}
use Rattle.mw_words.specs.declared.limits.TheConstants.{MAX_ENTRIES, MAX_PINS, WORN_NUMBER}
use Rattle.mw_look.specs.declared.observations.Observation.{Observation}
use Rattle.mw_look.specs.declared.observations.Observation.TheVariants.{SawGate, SawWord, Lost}
use Rattle.mw_look.specs.declared.points.After.TheVariants.{Again}
use Rattle.mw_look.specs.declared.points.Point.{Point as ReadPoint}
use Rattle.mw_look.specs.declared.points.Point.TheVariants.{ReadDoor, ConfirmWord, ReadGate, Pin, FindEntry, RecheckWord, Unpin, FreeSlot, LowerDoor}
use Rattle.mw_look.specs.Program.{Reading, asks, goes, is_over, same_word, seq_of, slot_of, word_of}
use Rattle.mw_actor.specs.declared.points.Point.TheVariants.{Read}
use Rattle.mw_actor.specs.ActorState.{ActorState}
use Rattle.mw_world.specs.declared.config.Config.{Config}
use Rattle.mw_world.specs.Claim.Headline.{IsExecution}
use Rattle.mw_world.specs.Definition.Cells.{Cells}
use Rattle.mw_world.specs.Definition.Changes.{done}
use Rattle.mw_world.specs.Definition.Events.{WorldEvent}
use Rattle.mw_world.specs.Definition.State.{State, TenantStart}

-- What a read finds at a point, so that it need not begin again. At its slot's gate: the number under which it means the slot is
-- not the worn one, and the gate has room for a pin. At the last entry that a slot can have: the entry is of its word. At its
-- last load of the word: if the word is the one that it saw, the word is not held by a change that was made and is done with.
abbrev pub FindsItsWay : Cells → ℕ → ℕ → ReadPoint → Type 0
FindsItsWay cells tenant address (ReadGate trail) = (seq_of trail < WORN_NUMBER) × ((cells.gates (slot_of trail)).pins < MAX_PINS)
FindsItsWay cells tenant address (FindEntry trail status entry) = MAX_ENTRIES - 1 ≤ entry → cells.addrs (slot_of trail) entry ≡ address
FindsItsWay cells tenant address (RecheckWord trail status expected new) = cells.words tenant address ≡ word_of trail → is_over trail status ≡ false
FindsItsWay cells tenant address point = Unit {0}

-- After every run, also when numbers are used up, every read finds that at its point.
abbrev pub ReadsFindTheirWay : Type 0
ReadsFindTheirWay = (config : Config) (openings : ℕ → TenantStart) (events : List WorldEvent) (state : State) (worker : ℕ) (actor : ActorState) (look : Reading)
    → IsExecution config openings events state → (state.worker_states worker).actor ≡ Some actor → actor.point ≡ Read look → FindsItsWay state.cells look.tenant look.address look.point

-- at this point a read begins again, at once or after it has given back its pin
abbrev pub begins_again : ReadPoint → Bool
begins_again ReadDoor = true
begins_again (Unpin slot seq Again) = true
begins_again (FreeSlot slot seq Again) = true
begins_again (LowerDoor Again) = true
begins_again point = false

-- the gate is as a word that names its slot implies: taken, with a pin, under this number
abbrev pub is_as_named : Gate → ℕ → Bool
is_as_named gate seq = gate.taken && nat_le 1 gate.pins && (gate.seq == seq)

-- The three reasons to turn back, by the point and what is observed there.
abbrev pub HasReason : ReadPoint → Observation → Type 0
HasReason (ConfirmWord trail) (SawWord word) = same_word word (word_of trail) ≡ false
HasReason (RecheckWord trail status expected new) (SawWord word) = same_word word (word_of trail) ≡ false
HasReason (ReadGate trail) (SawGate gate) = is_as_named gate (seq_of trail) ≡ false
HasReason (Pin trail from to) Lost = Unit {0}
HasReason point observation = ⊥

-- After every run, if the next step of a read would lead it to begin again, and it is not about to do so already, it has one of
-- these reasons.
abbrev pub ReadsTurnBackForThreeReasons : Type 0
ReadsTurnBackForThreeReasons = (config : Config) (openings : ℕ → TenantStart) (events : List WorldEvent) (state : State) (worker : ℕ) (actor : ActorState) (look : Reading)
    → IsExecution config openings events state → (state.worker_states worker).actor ≡ Some actor → actor.point ≡ Read look → begins_again look.point ≡ false
    → let told : Observation = done (asks look) state.cells (λ after observation. observation) in begins_again (goes look.address look.point told) ≡ true → HasReason look.point told
