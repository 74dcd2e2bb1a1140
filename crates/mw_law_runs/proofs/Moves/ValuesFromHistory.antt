-- Under the invariant of the shared words, the bits and the history tell the same value of each word.
-- Used by: moves_keep_values, mw_law_store.
use Rattle.std.specs.Prelude.{ℕ, ◌≡◌, ◌≢◌, ◌<◌, true, List, length}
use Rattle.std.specs.Option.{option_map_or}
use Rattle.std.proofs.Common.{refl, ap, subst, sym, arith, ◌∙◌}
use Rattle.std.proofs.lemmas.Bool.Decides.{nat_tests}
use Rattle.mw_words.specs.declared.jobs.Entry.{Entry}
use Rattle.mw_words.specs.declared.statuses.Status.TheVariants.{Draft}
use Rattle.mw_words.specs.declared.words.Word.{Word}
use Rattle.mw_words.specs.declared.words.Word.TheVariants.{Plain, Planted, Held, Dirty}
use Rattle.mw_words.specs.Change.{is_change, rises_from}
use Rattle.mw_actor.specs.ActorState.{entry_at}
use Rattle.mw_world.specs.declared.config.Config.{Config}
use Rattle.mw_world.specs.Definition.History.{has, expected, new}
use Rattle.mw_world.specs.Claim.Invariant.{IsEntryOf}
use Rattle.mw_world.specs.Definition.Logical.{held_value, value_of, index_from}
use Rattle.mw_world.specs.Claim.Obligations.{IsEntryAt}
use Rattle.mw_world.specs.Definition.State.{State, tenant_at}
use Rattle.mw_law_runs.specs.Moves.Memory.{Memory}
use Rattle.mw_law_runs.specs.Moves.Values.{WordsTellValues, value_told}
use Rattle.mw_law_runs.proofs.Moves.EntryValues.{found_from, entry_found, ValuesAt}

its_addresses_rise : (words : ℕ) (entries : List Entry) → is_change words entries ≡ true → rises_from 0 entries ≡ true
its_addresses_rise words entries is = grind (arith, nat_tests, is)

module _ (config : Config) (state : State) (memory : Memory config state) (slot seq : ℕ) (taken : (state.cells.gates slot).taken ≡ true) (number : (state.cells.gates slot).seq ≡ seq)
    (ready : state.history.fate slot seq ≢ Draft) where
  -- the slot has the entries of the change
  entries_stand : (index : ℕ) → index < length (state.history.change slot seq) → IsEntryOf state.cells slot index (entry_at (state.history.change slot seq) index)
  entries_stand = subst (λ (n : ℕ). state.history.fate slot n ≢ Draft → (index : ℕ) → index < length (state.history.change slot n) → IsEntryOf state.cells slot index (entry_at (state.history.change slot n) index)) number
      (λ there index within. memory.slots.entries slot index taken there within) ready

  status_stands : state.cells.statuses slot ≡ state.history.fate slot seq
  status_stands = grind (arith, memory.slots.status slot, taken, number, ready)

  count_stands : state.cells.counts slot ≡ length (state.history.change slot seq)
  count_stands = grind (arith, memory.slots.count slot, taken, number, ready)

  is_claimed : state.history.is_claimed slot seq ≡ true
  is_claimed = grind (arith, memory.claims.claimed slot, taken, number)

  addresses_rise : rises_from 0 (state.history.change slot seq) ≡ true
  addresses_rise = its_addresses_rise (tenant_at config (state.history.tenant slot seq)).words (state.history.change slot seq) (memory.claims.formed slot seq is_claimed).1

  -- an entry's expected value is that of its word
  expected_at : (index address : ℕ) → IsEntryAt (state.history.change slot seq) index address → state.cells.expecteds slot index ≡ expected state.history slot seq address
  expected_at index address entry =
      subst (λ (at_address : ℕ). state.cells.expecteds slot index ≡ expected state.history slot seq at_address) entry.same
      ((entries_stand index entry.within).expected ∙ sym (ap (λ found. option_map_or (λ (one : Entry). one.expected) found 0) (entry_found (state.history.change slot seq) 0 index addresses_rise entry.within)))

  values_at : (address : ℕ) → has state.history slot seq address ≡ true → ValuesAt state.cells slot address (index_from state.cells slot address 0 (length (state.history.change slot seq))) (state.history.change slot seq)
  values_at address found = found_from state.cells slot address 0 (state.history.change slot seq)
      (λ index within. subst (λ (n : ℕ). IsEntryOf state.cells slot n (entry_at (state.history.change slot seq) index)) (omega arith) (entries_stand index within)) found

  value_held : (address : ℕ) → has state.history slot seq address ≡ true
      → value_of state.cells address (Held slot seq) ≡ held_value (state.history.fate slot seq) (expected state.history slot seq address) (new state.history slot seq address)
  value_held address found =
      let values = values_at address found in
      let status = status_stands in
      let count = count_stands in
      cc (values.expected, values.new)

tells : (config : Config) (state : State) (tenant address : ℕ) → Memory config state → (word : Word) → state.cells.words tenant address ≡ word → value_of state.cells address word ≡ value_told state address word
tells config state tenant address memory (Plain value) is = refl
tells config state tenant address memory (Dirty slot value) is = refl
tells config state tenant address memory (Planted worker number) is =
    let planted = memory.references.planted tenant address worker number is in
    let row = state.cells.rows worker in
    expected_at config state memory row.slot row.seq planted.pinned.0.0 planted.pinned.1 planted.change.ready row.entry address planted.entry
tells config state tenant address memory (Held slot seq) is =
    let held = memory.references.held tenant address slot seq is in
    value_held config state memory slot seq held.pinned.0.0 held.pinned.1 held.change.ready address held.change.entry

pub words_tell : WordsTellValues
words_tell config state tenant address memory = tells config state tenant address memory (state.cells.words tenant address) refl
