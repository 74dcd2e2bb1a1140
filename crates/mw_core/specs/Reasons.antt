-- Defines the reasons for which a read begins again, by what its steps found. Used by: src/read_rounds.rt.
use Rattle.std.specs.Prelude.{ℕ, ◌≡◌, false, cond, List, [], ◌∷◌, Option, Some, None}
use Rattle.mw_words.specs.declared.gates.Gate.{Gate}
use Rattle.mw_words.specs.declared.places.At.TheVariants.{Gate as AtGate, Row as AtRow, Data}
use Rattle.mw_words.specs.declared.words.Word.{Word}
use Rattle.mw_look.specs.declared.observations.Observation.{Observation}
use Rattle.mw_look.specs.declared.observations.Observation.TheVariants.{SawGate, SawWord, SawRow, Lost}
use Rattle.mw_look.specs.declared.points.Point.{Point}
use Rattle.mw_look.specs.declared.points.Point.TheVariants.{ConfirmWord, ReadGate, Pin, RecheckWord}
use Rattle.mw_look.specs.declared.points.Trail.{Trail}
use Rattle.mw_look.specs.declared.points.Trail.TheVariants.{Held as ByHeld, Planted as ByPlanted}
use Rattle.mw_look.specs.declared.steps.Kind.TheVariants.{Pin as PinKind}
use Rattle.mw_look.specs.Program.{same_word, seq_of, slot_of, word_of}
use Rattle.mw_look.specs.Runs.{Event, Happened, loaded}
use Rattle.mw_look.specs.Steps.{Change}
use Rattle.mw_table.specs.FromRule.{is_as_named}
use Rattle.mw_core.specs.declared.read_rounds.WhyAgain.{WhyAgain}
use Rattle.mw_core.specs.declared.read_rounds.WhyAgain.TheVariants.{WordChanged, GateDiffers, PinLost}

-- why a read turns back at its slot's gate, if it does
abbrev pub gate_turns : Trail → Gate → Option WhyAgain
gate_turns trail gate = cond (is_as_named gate (seq_of trail)) None (Some GateDiffers)

-- why it turns back when it loads the word again, if it does
abbrev pub word_turns : Trail → Word → Option WhyAgain
word_turns trail word = cond (same_word word (word_of trail)) None (Some WordChanged)

-- why a read turns back at a point, by what it is told there; none if it goes on
abbrev pub turns : Point → Observation → Option WhyAgain
turns (ConfirmWord trail) (SawWord word) = word_turns trail word
turns (RecheckWord trail status expected new) (SawWord word) = word_turns trail word
turns (ReadGate trail) (SawGate gate) = gate_turns trail gate
turns (Pin trail from to) Lost = Some PinLost
turns point observation = None

-- The row of an attempt was loaded; a held word has no row.
abbrev pub IsRowLoaded : Trail → List Event → Type 0
IsRowLoaded (ByHeld slot seq) events = Unit {0}
IsRowLoaded (ByPlanted worker attempt row) events = Happened (loaded (AtRow worker) (SawRow row) ∷ []) events

-- The word was loaded, and it or its attempt's row names a slot and a number.
pub record Names (tenant address : ℕ) (trail : Trail) (events : List Event) : Type 0 where
  pub word : Happened (loaded (Data tenant address) (SawWord (word_of trail)) ∷ []) events
  pub row : IsRowLoaded trail events

-- The word was loaded twice, and was another one the second time.
pub record FoundAnother (tenant address : ℕ) (events : List Event) : Type 0 where
  pub first : Word
  pub later : Word
  pub order : Happened (loaded (Data tenant address) (SawWord later) ∷ loaded (Data tenant address) (SawWord first) ∷ []) events
  pub apart : same_word later first ≡ false

-- The gate of the slot that the word names was loaded.
pub record FoundGate (tenant address : ℕ) (events : List Event) : Type 0 where
  pub trail : Trail
  pub gate : Gate
  pub names : Names tenant address trail events
  pub loads_it : Happened (loaded (AtGate (slot_of trail)) (SawGate gate) ∷ []) events

-- The gate was loaded, and then the exchange for one pin more lost, because the gate had changed.
pub record LostGate (tenant address : ℕ) (events : List Event) : Type 0 where
  pub trail : Trail
  pub from : Gate
  pub to : Gate
  pub names : Names tenant address trail events
  pub order : Happened (record { asked = Change PinKind (AtGate (slot_of trail)) from to; told = Lost } ∷ loaded (AtGate (slot_of trail)) (SawGate from) ∷ []) events

-- Why a read of a tenant's word began again, by the steps since its first one, of which the latest is first.
abbrev pub Because : WhyAgain → ℕ → ℕ → List Event → Type 0
Because WordChanged tenant address events = FoundAnother tenant address events
Because GateDiffers tenant address events = (found : FoundGate tenant address events) × (is_as_named found.gate (seq_of found.trail) ≡ false)
Because PinLost tenant address events = LostGate tenant address events
