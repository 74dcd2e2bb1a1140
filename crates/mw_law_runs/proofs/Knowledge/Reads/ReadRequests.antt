-- What a read (a request that reads one word) knows after a step that changes no shared word. Used by: ByPoint.
use Rattle.std.specs.Prelude.{ℕ, ◌≡◌, ◌+◌, ◌-◌, ◌==◌, Bool, true, false, nat_lt, Option, Some, None}
use Rattle.std.proofs.Common.{refl, subst, ◌∙◌, arith}
use Rattle.std.proofs.lemmas.Bool.Decides.{nat_tests}
use Rattle.mw_words.specs.declared.gates.Gate.{Gate}
use Rattle.mw_words.specs.declared.limits.TheConstants.{MAX_ENTRIES, WORN_NUMBER}
use Rattle.mw_words.specs.declared.replies.Reply.TheVariants.{Fault as HasFailed}
use Rattle.mw_words.specs.declared.rows.Row.{Row}
use Rattle.mw_words.specs.declared.statuses.Status.{Status}
use Rattle.mw_words.specs.declared.words.Word.{Word}
use Rattle.mw_words.specs.declared.words.Word.TheVariants.{Plain, Planted, Held, Dirty}
use Rattle.mw_pool.specs.Moves.{after_pin}
use Rattle.mw_look.specs.declared.observations.Observation.{Observation}
use Rattle.mw_look.specs.declared.observations.Observation.TheVariants.{SawDoor, SawGate, SawRow, SawWord, SawStatus, SawNumber, Won, Lost}
use Rattle.mw_look.specs.declared.points.After.TheVariants.{Again}
use Rattle.mw_look.specs.declared.points.Point.{Point}
use Rattle.mw_look.specs.declared.points.Point.TheVariants.{ReadDoor, ReadWord, ReadRow, ConfirmWord, ReadGate, Pin, ReadStatus, FindEntry, ReadExpected, ReadNew, RecheckWord, Unpin, FreeSlot, LowerDoor, Replied}
use Rattle.mw_look.specs.declared.points.Trail.{Trail}
use Rattle.mw_look.specs.declared.points.Trail.TheVariants.{Held as ByHeld, Planted as ByPlanted}
use Rattle.mw_look.specs.Program.{goes, asks_at, word_seen, pinned, first_entry, next_entry, address_seen, same_word, slot_of, seq_of}
use Rattle.mw_look.proofs.RangeLaws.{either_way}
use Rattle.mw_world.specs.declared.config.Config.{Config}
use Rattle.mw_world.specs.declared.step_labels.Phase.TheVariants.{Fresh, Acquired}
use Rattle.mw_look.specs.declared.steps.Shape.TheVariants.{Exchange, Store, Fetch}
use Rattle.mw_world.specs.Definition.State.{State}
use Rattle.mw_law_runs.specs.Moves.Memory.{Memory}
use Rattle.mw_law_runs.specs.Knowledge.Facts.{IsKnown, CameBy}
use Rattle.mw_law_runs.specs.Knowledge.Informed.{ChangesNoWord}
use Rattle.mw_law_runs.specs.Knowledge.Points.{ReadKnows, Confirms}
use Rattle.mw_law_runs.proofs.Knowledge.Reads.Memory.{known_by}

module _ (config : Config) (state : State) (memory : Memory config state) (tenant address : ℕ) where
  -- the change that a trail leads to is known
  came_known : (trail : Trail) → CameBy state tenant address trail → IsKnown state tenant (record { slot = slot_of trail; seq = seq_of trail })
  came_known (ByHeld slot seq) came = came.known
  came_known (ByPlanted worker number row) came = came.known

  word_knows : (word : Word) → state.cells.words tenant address ≡ word → ReadKnows state tenant address (word_seen word)
  word_knows (Plain value) is = tt
  word_knows (Dirty slot value) is = tt
  word_knows (Held slot seq) is =
      let held = memory.references.held tenant address slot seq is in
      record { known = known_by config state memory tenant address slot seq held.pinned held.change; entry = held.change.entry; touched = λ fresh. not_both held.acquired fresh }
    where
      not_both : {slot seq there : ℕ} → state.history.phase slot seq there ≡ Acquired → state.history.phase slot seq there ≡ Fresh → ⊥
      not_both one two = cc
  word_knows (Planted worker number) is = (memory.references.planted tenant address worker number is).number

  confirmed : (trail : Trail) (word : Word) → Confirms state tenant address trail → state.cells.words tenant address ≡ word → ReadKnows state tenant address (goes address (ConfirmWord trail) (SawWord word))
  confirmed (ByHeld slot seq) word knows is = absurd knows
  confirmed (ByPlanted worker number row) word knows is =
      either_way (ReadKnows state tenant address) (same_word word (Planted worker number)) (ReadGate (ByPlanted worker number row)) ReadDoor
      (λ same. came (is ∙ same_planted word same)) (λ was_released. tt)
    where
      same_planted : (word : Word) → same_word word (Planted worker number) ≡ true → word ≡ Planted worker number
      same_planted (Plain value) same = grind (arith, same)
      same_planted (Held slot seq) same = grind (arith, same)
      same_planted (Dirty slot value) same = grind (arith, same)
      same_planted (Planted other attempt) same = grind (arith, nat_tests, same)

      came : state.cells.words tenant address ≡ Planted worker number → CameBy state tenant address (ByPlanted worker number row)
      came stands =
          let planted = memory.references.planted tenant address worker number stands in
          let found = state.cells.rows worker in
          subst (λ (one : Row). CameBy state tenant address (ByPlanted worker number one)) (knows.row stands)
          (record {
            known = known_by config state memory tenant address found.slot found.seq planted.pinned planted.change;
            entry = planted.entry;
            row = record { given = planted.number; row = λ still. refl };
          })

  pinned_knows : (trail : Trail) (gate : Gate) (to : Option Gate) → CameBy state tenant address trail → ReadKnows state tenant address (pinned trail gate to)
  pinned_knows trail gate (Some to) came = came
  pinned_knows trail gate None came = tt

  entry_knows : (trail : Trail) (status : Status) → CameBy state tenant address trail → ReadKnows state tenant address (first_entry trail status)
  entry_knows (ByHeld slot seq) status came = came
  entry_knows (ByPlanted worker number row) status came = came

  next_knows : (trail : Trail) (status : Status) (entry : ℕ) → CameBy state tenant address trail → ReadKnows state tenant address (next_entry trail status entry)
  next_knows trail status entry came =
      either_way (ReadKnows state tenant address) (nat_lt entry (MAX_ENTRIES - 1)) (FindEntry trail status (entry + 1)) (Unpin (slot_of trail) (seq_of trail) Again)
      (λ more. came) (λ last. came_known trail came)

  address_knows : (trail : Trail) (status : Status) (entry : ℕ) (is : Bool) → CameBy state tenant address trail → ReadKnows state tenant address (address_seen trail status entry is)
  address_knows trail status entry true came = came
  address_knows trail status entry false came = next_knows trail status entry came

  pub read_looks : (point : Point) (observation : Observation) → ChangesNoWord state.cells (asks_at tenant address point) observation → ReadKnows state tenant address point → ReadKnows state tenant address (goes address point observation)
  read_looks ReadDoor (SawDoor door) quiet knows = either_way (ReadKnows state tenant address) door.fault (Replied HasFailed) ReadWord (λ e. tt) (λ e. tt)
  read_looks ReadWord (SawWord word) quiet knows = word_knows word (seen_word word quiet)
    where
      seen_word : (word : Word) → SawWord word ≡ SawWord (state.cells.words tenant address) → state.cells.words tenant address ≡ word
      seen_word word e = cc
  read_looks (ReadRow worker number) (SawRow row) quiet knows = record { given = knows; row = λ stands. seen_row row quiet }
    where
      seen_row : (row : Row) → SawRow row ≡ SawRow (state.cells.rows worker) → state.cells.rows worker ≡ row
      seen_row row e = cc
  read_looks (ConfirmWord trail) (SawWord word) quiet knows = confirmed trail word knows (seen_word word quiet)
    where
      seen_word : (word : Word) → SawWord word ≡ SawWord (state.cells.words tenant address) → state.cells.words tenant address ≡ word
      seen_word word e = cc
  read_looks (ReadGate trail) (SawGate gate) quiet knows =
      either_way (ReadKnows state tenant address) (nat_lt (seq_of trail) WORN_NUMBER) (pinned trail gate (after_pin gate (seq_of trail))) ReadDoor
      (λ low. pinned_knows trail gate (after_pin gate (seq_of trail)) knows) (λ worn. tt)
  read_looks (Pin trail from to) Won quiet knows = knows
  read_looks (Pin trail from to) Lost quiet knows = tt
  read_looks (ReadStatus trail) (SawStatus status) quiet knows = entry_knows trail status knows
  read_looks (FindEntry trail status entry) (SawNumber number) quiet knows = address_knows trail status entry (number == address) knows
  read_looks (ReadExpected trail status entry) (SawNumber expected) quiet knows = knows
  read_looks (ReadNew trail status entry expected) (SawNumber new) quiet knows = knows
  read_looks (RecheckWord trail status expected new) (SawWord word) quiet knows = came_known trail knows
  read_looks (Unpin slot seq onward) observation quiet knows = absurd (no_fetch quiet.0)
    where
      no_fetch : Fetch ≡ Exchange → ⊥
      no_fetch e = cc
  read_looks (FreeSlot slot seq onward) observation quiet knows = absurd (no_store quiet.0)
    where
      no_store : Store ≡ Exchange → ⊥
      no_store e = cc
  read_looks (LowerDoor onward) observation quiet knows = absurd (no_fetch quiet.0)
    where
      no_fetch : Fetch ≡ Exchange → ⊥
      no_fetch e = cc
  read_looks point observation quiet knows = knows
