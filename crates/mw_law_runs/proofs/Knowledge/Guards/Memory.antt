-- Facts about a request's target, its entries and its pinned slots, from the invariant of the shared words and what the
-- request knows.
-- Used by: mw_law_store.
use Rattle.std.specs.Prelude.{ℕ, suc, ◌≡◌, ◌≢◌, ◌<◌, ◌≤◌, ◌==◌, Bool, true, false, if◌then◌else◌, List, [], ◌∷◌, length, Option, Some, is_some}
use Rattle.std.specs.Option.{option_map_or}
use Rattle.std.proofs.Common.{refl, sym, ap, subst, arith}
use Rattle.std.proofs.lemmas.Bool.Decides.{nat_tests}
use Rattle.mw_words.specs.declared.jobs.Entry.{Entry}
use Rattle.mw_words.specs.declared.limits.TheConstants.{MAX_POOL}
use Rattle.mw_words.specs.declared.statuses.Status.TheVariants.{Draft}
use Rattle.mw_words.specs.Change.{is_change, rises_from}
use Rattle.mw_look.proofs.RangeLaws.{either_way}
use Rattle.mw_actor.specs.declared.points.Slot.{Slot}
use Rattle.mw_actor.specs.declared.points.Task.{Task}
use Rattle.mw_actor.specs.ActorState.{ActorState, own_entries, entries_of, entry_at, entry_of, is_alone}
use Rattle.mw_actor.specs.Ranges.{IsEntryInRange, AreEntriesInRange, IsInRange}
use Rattle.mw_world.specs.declared.config.Config.{Config}
use Rattle.mw_world.specs.Definition.Counts.{pins_held}
use Rattle.mw_world.specs.Definition.History.{has, new, expected, entry_for}
use Rattle.mw_world.specs.Claim.Invariant.{HasWord}
use Rattle.mw_world.specs.Claim.Obligations.{IsEntryAt, IsFrom}
use Rattle.mw_world.specs.Definition.State.{State, tenant_at}
use Rattle.mw_law_runs.specs.Moves.Guards.{IsLive}
use Rattle.mw_law_runs.specs.Moves.Memory.{Memory}
use Rattle.mw_law_runs.proofs.Moves.EntryValues.{entry_found}
use Rattle.mw_law_runs.specs.Counts.CountInvariant.{CountsStand}
use Rattle.mw_law_runs.proofs.Counts.Sums.{over_at, of_actor}
use Rattle.mw_law_runs.specs.Knowledge.Facts.{IsKnown, AtEntry}
use Rattle.mw_law_runs.specs.Knowledge.Points.{without_point}

addresses_rise : (words : ℕ) (entries : List Entry) → is_change words entries ≡ true → rises_from 0 entries ≡ true
addresses_rise words entries is = grind (arith, nat_tests, is)

-- among entries that have one for a word, that one has an index
first_or_later : (address : ℕ) (entry : Entry) (entries : List Entry) (test : Bool) → (entry.addr == address) ≡ test
    → (is_some (entry_for entries address) ≡ true → IsFrom entries 0 address) → is_some (if test then Some entry else entry_for entries address) ≡ true
    → IsFrom (entry ∷ entries) 0 address
first_or_later address entry entries true is there found = record {
  index = 0;
  from = omega arith;
  entry = record { within = omega arith; same = grind (arith, nat_tests, is) };
}
first_or_later address entry entries false is there found =
    let later = there found in
    record { index = suc later.index; from = omega arith; entry = record { within = omega (arith, later.entry.within); same = later.entry.same } }

pub index_of : (entries : List Entry) (address : ℕ) → is_some (entry_for entries address) ≡ true → IsFrom entries 0 address
index_of [] address found = absurd (none_there found)
  where
    none_there : false ≡ true → ⊥
    none_there e = cc
index_of (entry ∷ entries) address found = first_or_later address entry entries (entry.addr == address) refl (index_of entries address) found

module _ (config : Config) (state : State) (memory : Memory config state) where
  -- the status in the slot of a live change that is known
  pub status_told : (tenant : ℕ) (target : Slot) → IsLive state target → IsKnown state tenant target → state.cells.statuses target.slot ≡ state.history.fate target.slot target.seq
  status_told tenant target live known =
      subst (λ (seq : ℕ). state.history.fate target.slot seq ≢ Draft → state.cells.statuses target.slot ≡ state.history.fate target.slot seq) live.seq
      (memory.slots.status target.slot live.taken) known.ready

  -- the slot of a live change is one of the pool
  pub slot_there : (target : Slot) → IsLive state target → config.pool ≤ MAX_POOL → target.slot < MAX_POOL
  slot_there target live small = omega (arith, memory.claims.there target.slot live.taken, small)

  -- the entry at an index of a change that is known
  module _ (tenant : ℕ) (target : Slot) (known : IsKnown state tenant target) (index : ℕ) (within : index < length (state.history.change target.slot target.seq)) where
    abbrev its_entry : Entry
    its_entry = entry_at (state.history.change target.slot target.seq) index

    found_at : entry_for (state.history.change target.slot target.seq) its_entry.addr ≡ Some its_entry
    found_at =
        entry_found (state.history.change target.slot target.seq) 0 index
        (addresses_rise (tenant_at config (state.history.tenant target.slot target.seq)).words (state.history.change target.slot target.seq)
        (memory.claims.formed target.slot target.seq known.is_claimed).1) within

    has_at : has state.history target.slot target.seq its_entry.addr ≡ true
    has_at = ap (λ (found : Option Entry). is_some found) found_at

    new_at : new state.history target.slot target.seq its_entry.addr ≡ its_entry.new
    new_at = ap (λ (found : Option Entry). option_map_or (λ (entry : Entry). entry.new) found 0) found_at

    expected_at : expected state.history target.slot target.seq its_entry.addr ≡ its_entry.expected
    expected_at = ap (λ (found : Option Entry). option_map_or (λ (entry : Entry). entry.expected) found 0) found_at

  -- the entry of the target to which a request has come
  module _ (actor : ActorState) (task : Task) (entry : ℕ) (at : AtEntry state (without_point actor) task entry) where
    within_change : entry < length (state.history.change task.target.slot task.target.seq)
    within_change = subst (λ (entries : List Entry). entry < length entries) at.works.entries at.within

    pub has_here : has state.history task.target.slot task.target.seq (entry_of actor task entry).addr ≡ true
    has_here =
        subst (λ (entries : List Entry). has state.history task.target.slot task.target.seq (entry_at entries entry).addr ≡ true) (sym at.works.entries)
        (has_at actor.tenant task.target at.works.at_work.target entry within_change)

    pub new_here : new state.history task.target.slot task.target.seq (entry_of actor task entry).addr ≡ (entry_of actor task entry).new
    new_here =
        subst (λ (entries : List Entry). new state.history task.target.slot task.target.seq (entry_at entries entry).addr ≡ (entry_at entries entry).new) (sym at.works.entries)
        (new_at actor.tenant task.target at.works.at_work.target entry within_change)

    pub expected_here : expected state.history task.target.slot task.target.seq (entry_of actor task entry).addr ≡ (entry_of actor task entry).expected
    expected_here =
        subst (λ (entries : List Entry). expected state.history task.target.slot task.target.seq (entry_at entries entry).addr ≡ (entry_at entries entry).expected)
        (sym at.works.entries) (expected_at actor.tenant task.target at.works.at_work.target entry within_change)

    pub entry_here : IsEntryAt (state.history.change task.target.slot task.target.seq) entry (entry_of actor task entry).addr
    entry_here = record {
      within = within_change;
      same = ap (λ (entries : List Entry). (entry_at entries entry).addr) (sym at.works.entries);
    }

    pub word_here : HasWord state.history actor.tenant (entry_of actor task entry).addr task.target.slot task.target.seq
    word_here = record { ready = at.works.at_work.target.ready; same_tenant = at.works.at_work.target.same_tenant; entry = has_here }

-- an entry of the target is in range
pub entry_fits : (actor : ActorState) (task : Task) (entry : ℕ) → IsInRange actor → entry < length (entries_of actor task) → IsEntryInRange (entry_of actor task entry)
entry_fits actor task entry fits within =
    (either_way AreEntriesInRange (is_alone task) (own_entries actor) actor.others (λ own. fits.job) (λ other. fits.others)).1 entry
    (record { addr = 0; expected = 0; new = 0 }) within

-- the gate counts the pins that a worker's request holds
pub pinned_by : (config : Config) (state : State) (worker slot : ℕ) (actor : ActorState) → CountsStand config state → (state.worker_states worker).actor ≡ Some actor
    → 1 ≤ pins_held slot actor.point → 1 ≤ (state.cells.gates slot).pins
pinned_by config state worker slot actor stand is some =
    omega (
      arith,
      some,
      stand.counts.pins slot,
      over_at (λ (a : ActorState). pins_held slot a.point) state.worker_states worker config.workers (stand.worker_states worker actor is).there,
      of_actor (λ (a : ActorState). pins_held slot a.point) (state.worker_states worker) actor is,
    )
