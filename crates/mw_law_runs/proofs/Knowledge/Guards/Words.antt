-- Moves (elementary changes) that write a change into its slot, decide it, or change a data word for it have their
-- preconditions (`Guard`). Used by: UpdateGuards.
use Rattle.std.specs.Prelude.{ℕ, ◌≡◌, ◌<◌, ◌≤◌, ◌^◌, true, List, length}
use Rattle.std.proofs.Common.{sym, ap, subst, ◌∙◌, inl, inr, arith}
use Rattle.mw_words.specs.declared.jobs.Entry.{Entry}
use Rattle.mw_words.specs.declared.limits.TheConstants.{MAX_ENTRIES, MAX_POOL, MAX_VALUE, MAX_WORDS, MAX_WORKERS, WORN_NUMBER}
use Rattle.mw_words.specs.declared.rows.Row.{Row}
use Rattle.mw_words.specs.declared.statuses.Status.{Status}
use Rattle.mw_words.specs.declared.statuses.Status.TheVariants.{Draft, Open, DoneYes, DoneNo}
use Rattle.mw_words.specs.declared.words.Word.TheVariants.{Plain, Planted, Held, Dirty}
use Rattle.mw_actor.specs.declared.points.Attempt.{Attempt}
use Rattle.mw_actor.specs.declared.points.Slot.{Slot}
use Rattle.mw_actor.specs.declared.points.Sweep.TheVariants.{Yes as SweepYes}
use Rattle.mw_actor.specs.declared.points.Task.{Task}
use Rattle.mw_actor.specs.ActorState.{ActorState, entries_of, entry_of}
use Rattle.mw_actor.specs.Asks.{row_of}
use Rattle.mw_actor.specs.Ranges.{IsEntryInRange}
use Rattle.mw_world.specs.declared.config.Config.{Config}
use Rattle.mw_world.specs.declared.step_labels.Phase.TheVariants.{Acquired}
use Rattle.mw_world.specs.Definition.History.{NoAttempt, has, expected}
use Rattle.mw_world.specs.Claim.Invariant.{IsPinnedAs, IsRefused}
use Rattle.mw_world.specs.Definition.State.{State}
use Rattle.mw_law_runs.specs.Moves.Guards.{IsLive, IsDraftOf, MaySetRow, MaySayYes, MaySayNo, MayPlant, MayTakeBack, MayWriteNew, MayLetGo, MayClean}
use Rattle.mw_law_runs.specs.Moves.Memory.{Memory}
use Rattle.mw_law_runs.specs.Knowledge.Facts.{IsDrafted, WorksOn, AtEntry, HoldsUpTo, IsDecidedAs, IsForChangeAt}
use Rattle.mw_law_runs.specs.Knowledge.Points.{without_point}
use Rattle.mw_law_runs.proofs.Knowledge.Guards.Memory.{index_of, status_told, slot_there, new_here, expected_here, entry_here, word_here}

-- numbers that fit a shared word
pub count_small : (count : ℕ) → count ≤ MAX_ENTRIES → count < 2 ^ 64
count_small count low = omega (arith, low)

pub address_small : (address : ℕ) → address < MAX_WORDS → address < 2 ^ 64
address_small address low = omega (arith, low)

pub value_small : (value : ℕ) → value ≤ MAX_VALUE → value < 2 ^ 64
value_small value low = omega (arith, low)

pub at_most : (seq : ℕ) → seq < WORN_NUMBER → seq ≤ WORN_NUMBER
at_most seq low = omega (arith, low)

-- a draft is written by its own worker
pub draft_guard : (state : State) (actor : ActorState) (own : Slot) → IsLive state own → IsDrafted state (without_point actor) own → IsDraftOf state actor.worker own.slot
draft_guard state actor own live drafted = record {
  draft = λ taken. subst (λ (seq : ℕ). state.history.fate own.slot seq ≡ Draft) (sym live.seq) drafted.draft;
  own = λ taken. subst (λ (seq : ℕ). state.history.owner own.slot seq ≡ actor.worker) (sym live.seq) drafted.own.same_worker;
}

module _ (config : Config) (state : State) (memory : Memory config state) (actor : ActorState) (task : Task) where
  -- each word of the target is held for it
  pub yes_guard : IsLive state task.target → WorksOn state (without_point actor) task → HoldsUpTo state task.target (length (entries_of actor task))
      → state.cells.statuses task.target.slot ≡ Open → MaySayYes state task.target
  yes_guard live on holds found = record { live = live; is_open = is_open; keeps = keeps }
    where
      is_open : state.history.fate task.target.slot task.target.seq ≡ Open
      is_open = sym (status_told config state memory actor.tenant task.target live on.at_work.target) ∙ found

      keeps : (address : ℕ) → has state.history task.target.slot task.target.seq address ≡ true → state.history.phase task.target.slot task.target.seq address ≡ Acquired
      keeps address there =
          let at = index_of (state.history.change task.target.slot task.target.seq) address there in
          subst (λ (word : ℕ). state.history.phase task.target.slot task.target.seq word ≡ Acquired) at.entry.same
          (holds is_open at.index (subst (λ (entries : List Entry). at.index < length entries) (sym on.entries) at.entry.within))

  pub no_guard : (entry value : ℕ) → IsLive state task.target → WorksOn state (without_point actor) task → state.cells.statuses task.target.slot ≡ Open → entry < MAX_ENTRIES
      → value ≤ MAX_VALUE → MaySayNo state task.target entry value
  no_guard entry value live on found few low = record {
    live = live;
    is_open = sym (status_told config state memory actor.tenant task.target live on.at_work.target) ∙ found;
    fits = (few, low);
  }

  pub row_guard : (entry : ℕ) → IsLive state task.target → config.pool ≤ MAX_POOL → entry < MAX_ENTRIES → task.target.seq < WORN_NUMBER
      → state.history.standing actor.worker ≡ NoAttempt → MaySetRow config state actor.worker (row_of task.target entry)
  row_guard entry live small few low rests = record { there = memory.claims.there task.target.slot live.taken; fits = (slot_there config state memory task.target live small, few, at_most task.target.seq low); rests = rests }

  -- the word of an entry
  module _ (entry : ℕ) (at : AtEntry state (without_point actor) task entry) where
    abbrev word : ℕ
    word = (entry_of actor task entry).addr

    pub plant_guard : (number : ℕ) → state.cells.rows actor.worker ≡ row_of task.target entry → state.cells.words actor.tenant word ≡ Plain (entry_of actor task entry).expected
        → IsPinnedAs task.target.seq (state.cells.gates task.target.slot) → state.history.standing actor.worker ≡ NoAttempt → (state.worker_states actor.worker).attempt ≡ number
        → actor.worker < MAX_WORKERS → number < WORN_NUMBER → MayPlant state actor.worker actor.tenant word number (state.cells.rows actor.worker)
    plant_guard number row found pinned rests next there low =
        subst (λ (one : Row). MayPlant state actor.worker actor.tenant word number one) (sym row) (record {
          word = found ∙ ap (λ (value : ℕ). Plain value) (sym (expected_here config state memory actor task entry at));
          change = word_here config state memory actor task entry at;
          entry = entry_here config state memory actor task entry at;
          pinned = pinned;
          rests = rests;
          next = sym next;
          fits = (there, at_most number low);
        })

    -- an attempt for the change is taken back
    pub take_back_guard : (attempt : Attempt) → IsForChangeAt state (without_point actor) task entry attempt task.target → IsEntryInRange (entry_of actor task entry)
        → state.cells.words actor.tenant word ≡ Planted attempt.worker attempt.number
        → MayTakeBack state actor.tenant word attempt.worker attempt.number (entry_of actor task entry).expected (state.cells.rows attempt.worker)
    take_back_guard attempt names fits found = record {
      word = found;
      old_value =
          sym (expected_here config state memory actor task entry at)
          ∙ ap (λ (slot : ℕ). expected state.history slot task.target.seq word) (sym (names.slot found))
          ∙ ap (λ (seq : ℕ). expected state.history (state.cells.rows attempt.worker).slot seq word) (sym (names.seq found));
      fits = fits.1;
    }

    -- a held word is released: with its new value if the change is made, else with its old one
    pub write_new_guard : IsDecidedAs (state.history.fate task.target.slot task.target.seq) SweepYes → IsLive state task.target → config.pool ≤ MAX_POOL
        → IsEntryInRange (entry_of actor task entry) → state.cells.words actor.tenant word ≡ Held task.target.slot task.target.seq
        → MayWriteNew state actor.tenant word task.target (entry_of actor task entry).new
    write_new_guard decided live small fits found = record {
      word = found;
      is_made = elim decided [
        | inl is ↦ is
        | inr over ↦ absurd ((memory.references.held actor.tenant word task.target.slot task.target.seq found).not_done over)
      ];
      new_value = sym (new_here config state memory actor task entry at);
      fits = (slot_there config state memory task.target live small, fits.2);
    }

    pub let_go_guard : IsRefused (state.history.fate task.target.slot task.target.seq) → IsEntryInRange (entry_of actor task entry)
        → state.cells.words actor.tenant word ≡ Held task.target.slot task.target.seq → MayLetGo state actor.tenant word task.target (entry_of actor task entry).expected
    let_go_guard refused fits found = record {
      word = found;
      refused = refused;
      old_value = sym (expected_here config state memory actor task entry at);
      fits = fits.1;
    }

    pub clean_guard : (value : ℕ) → IsLive state task.target → state.history.fate task.target.slot task.target.seq ≡ DoneYes
        → state.cells.words actor.tenant word ≡ Dirty task.target.slot value → MayClean state actor.tenant word task.target value
    clean_guard value live done found = record { word = found; seq = live.seq; done = done }

-- a change that was refused and is done with was refused
pub done_refused : (fate : Status) (entry value : ℕ) → fate ≡ DoneNo entry value → IsRefused fate
done_refused fate entry value is = subst IsRefused (sym is) tt
