-- What the invariant of the shared words tells of a word, and of a change whose slot is still taken under the change's
-- number.
-- Used by: mw_law_store.
use Rattle.std.specs.Prelude.{ℕ, ◌≡◌, ◌≢◌, ◌<◌, ◌≤◌, true, List, length, Option, Some, is_some}
use Rattle.std.specs.Option.{option_map_or}
use Rattle.std.proofs.Common.{sym, ap, subst, ◌∙◌, arith}
use Rattle.std.proofs.lemmas.Bool.Decides.{nat_tests}
use Rattle.mw_words.specs.declared.jobs.Entry.{Entry}
use Rattle.mw_words.specs.declared.statuses.Status.TheVariants.{Draft}
use Rattle.mw_words.specs.declared.words.Word.TheVariants.{Planted, Held, Dirty}
use Rattle.mw_words.specs.Change.{is_change, rises_from}
use Rattle.mw_actor.specs.declared.points.Slot.{Slot}
use Rattle.mw_actor.specs.ActorState.{entry_at}
use Rattle.mw_world.specs.declared.config.Config.{Config}
use Rattle.mw_world.specs.declared.step_labels.Phase.TheVariants.{Fresh, Acquired}
use Rattle.mw_world.specs.Definition.History.{has, new, entry_for}
use Rattle.mw_world.specs.Claim.Invariant.{IsPinnedAs, HasWord, IsEntryOf, IsMade}
use Rattle.mw_world.specs.Definition.State.{State, tenant_at}
use Rattle.mw_law_runs.specs.Moves.Guards.{IsLive}
use Rattle.mw_law_runs.specs.Moves.Memory.{Memory}
use Rattle.mw_law_runs.proofs.Moves.EntryValues.{entry_found}
use Rattle.mw_law_runs.specs.Knowledge.Facts.{IsKnown, MayBeMet}

addresses_rise : (words : ℕ) (entries : List Entry) → is_change words entries ≡ true → rises_from 0 entries ≡ true
addresses_rise words entries is = grind (arith, nat_tests, is)

some_entry : (words : ℕ) (entries : List Entry) → is_change words entries ≡ true → 1 ≤ length entries
some_entry words entries is = grind (arith, nat_tests, is)

module _ (config : Config) (state : State) (memory : Memory config state) where
  -- the change for which a slot is taken was claimed
  pub born_at : (slot seq : ℕ) → (state.cells.gates slot).taken ≡ true → (state.cells.gates slot).seq ≡ seq → state.history.is_claimed slot seq ≡ true
  born_at slot seq taken same = subst (λ (n : ℕ). state.history.is_claimed slot n ≡ true) same (memory.claims.claimed slot taken)

  -- a change that a word refers to is known
  pub known_by : (tenant address slot seq : ℕ) → IsPinnedAs seq (state.cells.gates slot) → HasWord state.history tenant address slot seq → IsKnown state tenant (record { slot = slot; seq = seq })
  known_by tenant address slot seq pinned change = record { is_claimed = born_at slot seq pinned.0.0 pinned.1; same_tenant = change.same_tenant; ready = change.ready }

  pub met_by : (tenant : ℕ) (other : Slot) → (state.cells.gates other.slot).seq ≡ other.seq → IsKnown state tenant other → MayBeMet state tenant other
  met_by tenant other same known = record { reached = omega (arith, same); known = λ is. known }

  pub held_met : (tenant address slot seq : ℕ) → state.cells.words tenant address ≡ Held slot seq → MayBeMet state tenant (record { slot = slot; seq = seq })
  held_met tenant address slot seq is =
      let held = memory.references.held tenant address slot seq is in
      met_by tenant (record { slot = slot; seq = seq }) held.pinned.1 (known_by tenant address slot seq held.pinned held.change)

  pub planted_met : (tenant address worker number : ℕ) → state.cells.words tenant address ≡ Planted worker number
      → MayBeMet state tenant (record { slot = (state.cells.rows worker).slot; seq = (state.cells.rows worker).seq })
  planted_met tenant address worker number is =
      let row = state.cells.rows worker in
      let planted = memory.references.planted tenant address worker number is in
      met_by tenant (record { slot = row.slot; seq = row.seq }) planted.pinned.1 (known_by tenant address row.slot row.seq planted.pinned planted.change)

  pub dirty_met : (tenant address slot value seq : ℕ) → state.cells.words tenant address ≡ Dirty slot value → seq ≤ (state.cells.gates slot).seq
      → MayBeMet state tenant (record { slot = slot; seq = seq })
  dirty_met tenant address slot value seq is reached =
      let written = memory.references.dirty tenant address slot value is in
      record {
        reached = reached;
        known = λ same. subst (λ (n : ℕ). IsKnown state tenant (record { slot = slot; seq = n })) same (known_by tenant address slot (state.cells.gates slot).seq written.pinned written.change);
      }

  -- the contents of the slot of a live change that is known
  module _ (tenant : ℕ) (target : Slot) (live : IsLive state target) (known : IsKnown state tenant target) where
    pub status_told : state.cells.statuses target.slot ≡ state.history.fate target.slot target.seq
    status_told =
        subst (λ (seq : ℕ). state.history.fate target.slot seq ≢ Draft → state.cells.statuses target.slot ≡ state.history.fate target.slot seq) live.seq
        (memory.slots.status target.slot live.taken) known.ready

    pub count_told : state.cells.counts target.slot ≡ length (state.history.change target.slot target.seq)
    count_told =
        subst (λ (seq : ℕ). state.history.fate target.slot seq ≢ Draft → state.cells.counts target.slot ≡ length (state.history.change target.slot seq)) live.seq
        (memory.slots.count target.slot live.taken) known.ready

    pub entry_told : (index : ℕ) → index < length (state.history.change target.slot target.seq)
        → IsEntryOf state.cells target.slot index (entry_at (state.history.change target.slot target.seq) index)
    entry_told index =
        subst (λ (seq : ℕ). state.history.fate target.slot seq ≢ Draft → index < length (state.history.change target.slot seq)
        → IsEntryOf state.cells target.slot index (entry_at (state.history.change target.slot seq) index)) live.seq
        (memory.slots.entries target.slot index live.taken) known.ready

  -- the entries of a change that is known
  module _ (tenant : ℕ) (target : Slot) (known : IsKnown state tenant target) where
    formed : is_change (tenant_at config (state.history.tenant target.slot target.seq)).words (state.history.change target.slot target.seq) ≡ true
    formed = (memory.claims.formed target.slot target.seq known.is_claimed).1

    pub has_entry : 1 ≤ length (state.history.change target.slot target.seq)
    has_entry = some_entry (tenant_at config (state.history.tenant target.slot target.seq)).words (state.history.change target.slot target.seq) formed

    found_at : (index : ℕ) → index < length (state.history.change target.slot target.seq)
        → entry_for (state.history.change target.slot target.seq) (entry_at (state.history.change target.slot target.seq) index).addr
        ≡ Some (entry_at (state.history.change target.slot target.seq) index)
    found_at index within =
        entry_found (state.history.change target.slot target.seq) 0 index
        (addresses_rise (tenant_at config (state.history.tenant target.slot target.seq)).words (state.history.change target.slot target.seq) formed) within

    pub has_word_at : (index : ℕ) → index < length (state.history.change target.slot target.seq)
        → has state.history target.slot target.seq (entry_at (state.history.change target.slot target.seq) index).addr ≡ true
    has_word_at index within = ap (λ (found : Option Entry). is_some found) (found_at index within)

    pub new_at : (index : ℕ) → index < length (state.history.change target.slot target.seq)
        → new state.history target.slot target.seq (entry_at (state.history.change target.slot target.seq) index).addr ≡ (entry_at (state.history.change target.slot target.seq) index).new
    new_at index within = ap (λ (found : Option Entry). option_map_or (λ (entry : Entry). entry.new) found 0) (found_at index within)

    -- the word of a made change that isn't held for it was held before
    pub was_let_go : (index : ℕ) → index < length (state.history.change target.slot target.seq) → IsMade (state.history.fate target.slot target.seq)
        → state.cells.words tenant (entry_at (state.history.change target.slot target.seq) index).addr ≢ Held target.slot target.seq
        → (state.history.phase target.slot target.seq (entry_at (state.history.change target.slot target.seq) index).addr ≢ Fresh)
        × (state.history.phase target.slot target.seq (entry_at (state.history.change target.slot target.seq) index).addr ≢ Acquired)
    was_let_go index within made not_held =
        let addr = (entry_at (state.history.change target.slot target.seq) index).addr in (
          memory.late.made target.slot target.seq addr made (has_word_at index within),
          λ acquired. not_held (ap (λ (of : ℕ). state.cells.words of addr) (sym known.same_tenant) ∙ memory.words.acquired target.slot target.seq addr acquired),
        )
