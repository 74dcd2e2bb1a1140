-- Only a seal (the commit of a change) changes the value that a word represents: it gives each word of the change the new
-- value.
-- Used by: moves_keep_values, mw_law_store.
use Rattle.std.specs.Prelude.{ℕ, ◌≡◌, ◌≢◌, ◌==◌, ◌&&◌, Bool, true, false, if◌then◌else◌, List}
use Rattle.std.proofs.Common.{refl, ap, subst, sym, arith, ◌∙◌}
use Rattle.std.proofs.lemmas.Bool.Decides.{nat_tests}
use Rattle.mw_words.specs.declared.jobs.Entry.{Entry}
use Rattle.mw_words.specs.declared.gates.Gate.{Gate}
use Rattle.mw_words.specs.declared.rows.Row.{Row}
use Rattle.mw_words.specs.declared.statuses.Status.{Status}
use Rattle.mw_words.specs.declared.statuses.Status.TheVariants.{Draft, Open, YesDirty, Yes, No, DoneYes, DoneNo}
use Rattle.mw_words.specs.declared.words.Word.{Word}
use Rattle.mw_words.specs.declared.words.Word.TheVariants.{Plain, Planted, Held, Dirty}
use Rattle.mw_actor.specs.declared.points.Slot.{Slot}
use Rattle.mw_world.specs.declared.config.Config.{Config}
use Rattle.mw_world.specs.declared.step_labels.Phase.{Phase}
use Rattle.mw_world.specs.declared.step_labels.Phase.TheVariants.{Fresh, Acquired, Written, Released}
use Rattle.mw_world.specs.Claim.Invariant.{MayBe, IsRefused}
use Rattle.mw_world.specs.Definition.History.{has, expected, new}
use Rattle.mw_world.specs.Definition.Logical.{held_value}
use Rattle.mw_world.specs.Maps.{upd_two}
use Rattle.mw_world.specs.Definition.State.{State}
use Rattle.mw_law_runs.specs.Moves.Guards.{Guard}
use Rattle.mw_law_runs.specs.Moves.Memory.{Memory}
use Rattle.mw_law_runs.specs.Moves.Moves.{Move, SetDoor, FillStatus, FillCount, FillAddr, FillExpected, FillNew, SetRow, Claim, Pin, Unpin, Free, Prepare, SayYes, SayNo, Seal, Settle, Cancel, Plant, SkipNumber, TakeBack, Hold, WriteNew, LetGo, Clean, LeavePin, DecideFault, SetIntent, made}
use Rattle.mw_law_runs.specs.Moves.Values.{MovesKeepValues, SealsPutValues, is_seal, value_told, told_at}
use Rattle.mw_law_runs.proofs.Moves.MovesKeepMemory.{move_keeps}
use Rattle.mw_law_runs.proofs.Moves.Phases.{claimed_draft}
use Rattle.mw_law_runs.proofs.Moves.ValuesFromHistory.{words_tell}

-- a word is exchanged for one with the same value
exchange_tells : (value : ℕ → Word → ℕ) (words : ℕ → ℕ → Word) (in_tenant in_address : ℕ) (word : Word) (tenant address : ℕ) → value in_address word ≡ value in_address (words in_tenant in_address)
    → value address (upd_two words in_tenant in_address word tenant address) ≡ value address (words tenant address)
exchange_tells value words in_tenant in_address word tenant address same = grind (arith, nat_tests, same)

-- a word has the same value if the attempts and the held words have
same_told : (other state : State) (address : ℕ) (word : Word)
    → ((worker number : ℕ) → word ≡ Planted worker number → value_told other address (Planted worker number) ≡ value_told state address (Planted worker number))
    → ((slot seq : ℕ) → word ≡ Held slot seq → value_told other address (Held slot seq) ≡ value_told state address (Held slot seq))
    → value_told other address word ≡ value_told state address word
same_told other state address (Plain value) planted held = refl
same_told other state address (Planted worker number) planted held = planted worker number refl
same_told other state address (Held slot seq) planted held = held slot seq refl
same_told other state address (Dirty slot value) planted held = refl

-- a held word has the expected value unless its change is made
unmade : (status : Status) (old_value new_value : ℕ) → status ≢ Yes → held_value status old_value new_value ≡ old_value
unmade Draft old_value new_value is = refl
unmade Open old_value new_value is = refl
unmade YesDirty old_value new_value is = refl
unmade Yes old_value new_value is = absurd (is refl)
unmade (No entry value) old_value new_value is = refl
unmade DoneYes old_value new_value is = refl
unmade (DoneNo entry value) old_value new_value is = refl

refused_unmade : (status : Status) → IsRefused status → status ≢ Yes
refused_unmade status refused is = subst IsRefused is refused

fresh_unmade : (status : Status) (phase : Phase) → phase ≡ Fresh → MayBe status phase → status ≢ Yes
fresh_unmade status phase is may made = subst (λ (one : Status). MayBe one Fresh) made (subst (λ (one : Phase). MayBe status one) is may)

module _ (config : Config) (state : State) (mover tenant address : ℕ) (memory : Memory config state) where
  row_tells : (row : Row) → Guard config state mover (SetRow row) → told_at (made state mover (SetRow row)) tenant address ≡ told_at state tenant address
  row_tells row guard = same_told (made state mover (SetRow row)) state address (state.cells.words tenant address)
      (λ worker number is. grind (arith, nat_tests, memory.references.planted tenant address worker number, guard.rests, is)) (λ slot seq is. refl)

  claim_tells : (own : Slot) (gate : Gate) (at_tenant request : ℕ) (entries : List Entry) → Guard config state mover (Claim own gate at_tenant request entries)
      → told_at (made state mover (Claim own gate at_tenant request entries)) tenant address ≡ told_at state tenant address
  claim_tells own gate at_tenant request entries guard =
      let draft : state.history.fate own.slot own.seq ≡ Draft = claimed_draft config state own memory guard.was_free guard.had_number in
      same_told (made state mover (Claim own gate at_tenant request entries)) state address (state.cells.words tenant address)
      (λ worker number is. grind (arith, nat_tests, memory.references.planted tenant address worker number, draft, is))
      (λ slot seq is. grind (arith, nat_tests, memory.references.held tenant address slot seq, draft, is))

  -- a held word has the same value when its change gets another status, if the change is made neither before nor after
  decide_tells : (target : Slot) (fate : Status) (slot seq : ℕ) → state.history.fate target.slot target.seq ≢ Yes → fate ≢ Yes
      → held_value (upd_two state.history.fate target.slot target.seq fate slot seq) (expected state.history slot seq address) (new state.history slot seq address)
      ≡ held_value (state.history.fate slot seq) (expected state.history slot seq address) (new state.history slot seq address)
  decide_tells target fate slot seq was is =
      let before = unmade (state.history.fate target.slot target.seq) (expected state.history slot seq address) (new state.history slot seq address) was in
      let after = unmade fate (expected state.history slot seq address) (new state.history slot seq address) is in
      grind (arith, nat_tests, before, after)

  prepare_tells : (target : Slot) → Guard config state mover (Prepare target) → told_at (made state mover (Prepare target)) tenant address ≡ told_at state tenant address
  prepare_tells target guard = same_told (made state mover (Prepare target)) state address (state.cells.words tenant address) (λ worker number is. refl)
      (λ slot seq is. decide_tells target Open slot seq (λ yes_before. cc (yes_before, guard.draft)) (λ yes_after. cc))

  say_yes_tells : (target : Slot) → Guard config state mover (SayYes target) → told_at (made state mover (SayYes target)) tenant address ≡ told_at state tenant address
  say_yes_tells target guard = same_told (made state mover (SayYes target)) state address (state.cells.words tenant address) (λ worker number is. refl)
      (λ slot seq is. decide_tells target YesDirty slot seq (λ yes_before. cc (yes_before, guard.is_open)) (λ yes_after. cc))

  say_no_tells : (target : Slot) (entry value_there : ℕ) → Guard config state mover (SayNo target entry value_there) → told_at (made state mover (SayNo target entry value_there)) tenant address ≡ told_at state tenant address
  say_no_tells target entry value_there guard = same_told (made state mover (SayNo target entry value_there)) state address (state.cells.words tenant address) (λ worker number is. refl)
      (λ slot seq is. decide_tells target (No entry value_there) slot seq (λ yes_before. cc (yes_before, guard.is_open)) (λ yes_after. cc))

  cancel_tells : (target : Slot) (entry value_there : ℕ) → Guard config state mover (Cancel target entry value_there) → told_at (made state mover (Cancel target entry value_there)) tenant address ≡ told_at state tenant address
  cancel_tells target entry value_there guard = same_told (made state mover (Cancel target entry value_there)) state address (state.cells.words tenant address) (λ worker number is. refl)
      (λ slot seq is. decide_tells target (DoneNo entry value_there) slot seq (λ yes_before. cc (yes_before, guard.refused)) (λ yes_after. cc))

  settle_tells : (target : Slot) → Guard config state mover (Settle target) → told_at (made state mover (Settle target)) tenant address ≡ told_at state tenant address
  settle_tells target guard = same_told (made state mover (Settle target)) state address (state.cells.words tenant address) (λ worker number is. refl)
      (λ slot seq is. grind (arith, nat_tests, (memory.references.held tenant address slot seq is).acquired, guard.let_go address))

  plant_tells : (in_tenant in_address number : ℕ) → Guard config state mover (Plant in_tenant in_address number) → told_at (made state mover (Plant in_tenant in_address number)) tenant address ≡ told_at state tenant address
  plant_tells in_tenant in_address number guard =
      exchange_tells (value_told state) state.cells.words in_tenant in_address (Planted mover number) tenant address (sym (ap (λ (word : Word). value_told state in_address word) guard.word))

  take_back_tells : (in_tenant in_address worker number value : ℕ) → Guard config state mover (TakeBack in_tenant in_address worker number value)
      → told_at (made state mover (TakeBack in_tenant in_address worker number value)) tenant address ≡ told_at state tenant address
  take_back_tells in_tenant in_address worker number value guard =
      exchange_tells (value_told state) state.cells.words in_tenant in_address (Plain value) tenant address (guard.old_value ∙ sym (ap (λ (word : Word). value_told state in_address word) guard.word))

  hold_tells : (in_tenant in_address worker number : ℕ) (target : Slot) → Guard config state mover (Hold in_tenant in_address worker number target)
      → told_at (made state mover (Hold in_tenant in_address worker number target)) tenant address ≡ told_at state tenant address
  hold_tells in_tenant in_address worker number target guard =
      let permitted = memory.late.permitted mover in_tenant in_address worker number target.slot target.seq guard.permission in
      let finds = memory.late.finds mover in_tenant in_address worker number target.slot target.seq guard.permission guard.word in
      let not_yes = fresh_unmade (state.history.fate target.slot target.seq) (state.history.phase target.slot target.seq in_address) finds.fresh (memory.words.allowed target.slot target.seq in_address permitted.change.entry) in
      let old_value = unmade (state.history.fate target.slot target.seq) (expected state.history target.slot target.seq in_address) (new state.history target.slot target.seq in_address) not_yes in
      let named : expected state.history (state.cells.rows worker).slot (state.cells.rows worker).seq in_address ≡ expected state.history target.slot target.seq in_address = cc (finds.row_slot, finds.row_seq) in
      exchange_tells (value_told state) state.cells.words in_tenant in_address (Held target.slot target.seq) tenant address (old_value ∙ sym named ∙ sym (ap (λ (word : Word). value_told state in_address word) guard.word))

  write_new_tells : (in_tenant in_address : ℕ) (target : Slot) (value : ℕ) → Guard config state mover (WriteNew in_tenant in_address target value)
      → told_at (made state mover (WriteNew in_tenant in_address target value)) tenant address ≡ told_at state tenant address
  write_new_tells in_tenant in_address target value guard =
      exchange_tells (value_told state) state.cells.words in_tenant in_address (Dirty target.slot value) tenant address
      (guard.new_value ∙ sym (ap (λ (status : Status). held_value status (expected state.history target.slot target.seq in_address) (new state.history target.slot target.seq in_address)) guard.is_made)
      ∙ sym (ap (λ (word : Word). value_told state in_address word) guard.word))

  let_go_tells : (in_tenant in_address : ℕ) (target : Slot) (value : ℕ) → Guard config state mover (LetGo in_tenant in_address target value)
      → told_at (made state mover (LetGo in_tenant in_address target value)) tenant address ≡ told_at state tenant address
  let_go_tells in_tenant in_address target value guard =
      exchange_tells (value_told state) state.cells.words in_tenant in_address (Plain value) tenant address
      (guard.old_value ∙ sym (unmade (state.history.fate target.slot target.seq) (expected state.history target.slot target.seq in_address) (new state.history target.slot target.seq in_address)
      (refused_unmade (state.history.fate target.slot target.seq) guard.refused)) ∙ sym (ap (λ (word : Word). value_told state in_address word) guard.word))

  clean_tells : (in_tenant in_address : ℕ) (target : Slot) (value : ℕ) → Guard config state mover (Clean in_tenant in_address target value)
      → told_at (made state mover (Clean in_tenant in_address target value)) tenant address ≡ told_at state tenant address
  clean_tells in_tenant in_address target value guard =
      exchange_tells (value_told state) state.cells.words in_tenant in_address (Plain value) tenant address (sym (ap (λ (word : Word). value_told state in_address word) guard.word))

-- no move but a seal gives a word another value
tells_same : (config : Config) (state : State) (by : ℕ) (move : Move) (tenant address : ℕ) → is_seal move ≡ false → Guard config state by move → Memory config state
    → told_at (made state by move) tenant address ≡ told_at state tenant address
tells_same config state by (SetDoor at_tenant door) tenant address is guard memory = refl
tells_same config state by (FillStatus slot) tenant address is guard memory = refl
tells_same config state by (FillCount slot number) tenant address is guard memory = refl
tells_same config state by (FillAddr slot entry number) tenant address is guard memory = refl
tells_same config state by (FillExpected slot entry number) tenant address is guard memory = refl
tells_same config state by (FillNew slot entry number) tenant address is guard memory = refl
tells_same config state by (Pin slot gate) tenant address is guard memory = refl
tells_same config state by (Unpin slot) tenant address is guard memory = refl
tells_same config state by (Free slot gate) tenant address is guard memory = refl
tells_same config state by (SkipNumber number) tenant address is guard memory = refl
tells_same config state by (LeavePin target) tenant address is guard memory = refl
tells_same config state by (DecideFault target) tenant address is guard memory = refl
tells_same config state by (SetIntent standing permission) tenant address is guard memory = refl
tells_same config state by (Seal target) tenant address is guard memory = cc
tells_same config state by (SetRow row) tenant address is guard memory = row_tells config state by tenant address memory row guard
tells_same config state by (Claim own gate at_tenant request entries) tenant address is guard memory = claim_tells config state by tenant address memory own gate at_tenant request entries guard
tells_same config state by (Prepare target) tenant address is guard memory = prepare_tells config state by tenant address memory target guard
tells_same config state by (SayYes target) tenant address is guard memory = say_yes_tells config state by tenant address memory target guard
tells_same config state by (SayNo target entry value) tenant address is guard memory = say_no_tells config state by tenant address memory target entry value guard
tells_same config state by (Settle target) tenant address is guard memory = settle_tells config state by tenant address memory target guard
tells_same config state by (Cancel target entry value) tenant address is guard memory = cancel_tells config state by tenant address memory target entry value guard
tells_same config state by (Plant in_tenant in_address number) tenant address is guard memory = plant_tells config state by tenant address memory in_tenant in_address number guard
tells_same config state by (TakeBack in_tenant in_address worker number value) tenant address is guard memory = take_back_tells config state by tenant address memory in_tenant in_address worker number value guard
tells_same config state by (Hold in_tenant in_address worker number target) tenant address is guard memory = hold_tells config state by tenant address memory in_tenant in_address worker number target guard
tells_same config state by (WriteNew in_tenant in_address target value) tenant address is guard memory = write_new_tells config state by tenant address memory in_tenant in_address target value guard
tells_same config state by (LetGo in_tenant in_address target value) tenant address is guard memory = let_go_tells config state by tenant address memory in_tenant in_address target value guard
tells_same config state by (Clean in_tenant in_address target value) tenant address is guard memory = clean_tells config state by tenant address memory in_tenant in_address target value guard

pub moves_keep_values : MovesKeepValues
moves_keep_values config state by move tenant address is guard memory =
    words_tell config (made state by move) tenant address (move_keeps config state by move guard memory) ∙ tells_same config state by move tenant address is guard memory
    ∙ sym (words_tell config state tenant address memory)

-- a change that is decided to be made holds each of its words
all_held : (status : Status) (phase : Phase) → status ≡ YesDirty → MayBe status phase → phase ≡ Acquired
all_held status phase is may = acquired phase (subst (λ (one : Status). MayBe one phase) is may)
  where
    acquired : (one : Phase) → MayBe YesDirty one → one ≡ Acquired
    acquired Fresh dirty = absurd dirty
    acquired Acquired dirty = refl
    acquired Written dirty = absurd dirty
    acquired Released dirty = absurd dirty

module _ (config : Config) (state : State) (mover tenant address : ℕ) (target : Slot) (guard : Guard config state mover (Seal target)) (memory : Memory config state) where
  abbrev is_new : Bool
  is_new = (state.history.tenant target.slot target.seq == tenant) && has state.history target.slot target.seq address

  abbrev sealed_value : ℕ → ℕ
  sealed_value value = if is_new then new state.history target.slot target.seq address else value

  is_held : has state.history target.slot target.seq address ≡ true → state.cells.words (state.history.tenant target.slot target.seq) address ≡ Held target.slot target.seq
  is_held found = memory.words.acquired target.slot target.seq address
      (all_held (state.history.fate target.slot target.seq) (state.history.phase target.slot target.seq address) guard.decided (memory.words.allowed target.slot target.seq address found))

  -- a word that isn't held for the change isn't one of its words
  no_word : (word : Word) (value : ℕ) → state.cells.words tenant address ≡ word → word ≢ Held target.slot target.seq → value ≡ sealed_value value
  no_word word value is other = grind (arith, nat_tests, is, other, is_held)

  its_word : (slot seq : ℕ) → state.cells.words tenant address ≡ Held slot seq
      → value_told (made state mover (Seal target)) address (Held slot seq) ≡ sealed_value (value_told state address (Held slot seq))
  its_word slot seq is = grind (arith, nat_tests, is, is_held, memory.references.held tenant address slot seq)

  seal_tells : (word : Word) → state.cells.words tenant address ≡ word → value_told (made state mover (Seal target)) address word ≡ sealed_value (value_told state address word)
  seal_tells (Plain value) is = no_word (Plain value) value is (λ same. cc)
  seal_tells (Planted worker number) is = no_word (Planted worker number) (value_told state address (Planted worker number)) is (λ same. cc)
  seal_tells (Held slot seq) is = its_word slot seq is
  seal_tells (Dirty slot value) is = no_word (Dirty slot value) value is (λ same. cc)

pub seals_put_values : SealsPutValues
seals_put_values config state by target tenant address guard memory =
    words_tell config (made state by (Seal target)) tenant address (move_keeps config state by (Seal target) guard memory)
    ∙ seal_tells config state by tenant address target guard memory (state.cells.words tenant address) refl
    ∙ ap (λ (value : ℕ). sealed_value config state by tenant address target guard memory value) (sym (words_tell config state tenant address memory))
