-- What a request sees in a word is the word's value in its tenant's file at that time. Used by: ChangeSteps, ReadSteps.
use Rattle.std.specs.Prelude.{ℕ, ◌≡◌, ◌<◌, ◌+◌, ◌==◌, ◌&&◌, not, Bool, true, false, cond, nat_lt, List, length, Some}
use Rattle.std.proofs.Common.{refl, sym, ap, subst, ◌∙◌, arith}
use Rattle.std.proofs.lemmas.Bool.Decides.{nat_tests}
use Rattle.mw_words.specs.declared.jobs.Entry.{Entry}
use Rattle.mw_words.specs.declared.limits.TheConstants.{WORN_NUMBER}
use Rattle.mw_words.specs.declared.statuses.Status.{Status}
use Rattle.mw_words.specs.declared.statuses.Status.TheVariants.{Yes}
use Rattle.mw_words.specs.declared.words.Word.{Word}
use Rattle.mw_words.specs.declared.words.Word.TheVariants.{Plain, Planted, Held, Dirty}
use Rattle.mw_words.specs.Change.{is_change, word_at}
use Rattle.mw_look.specs.declared.points.After.TheVariants.{Again, Answer}
use Rattle.mw_look.specs.declared.points.Point.TheVariants.{ReadStatus}
use Rattle.mw_look.specs.declared.points.Trail.TheVariants.{Held as ByHeld}
use Rattle.mw_look.specs.Program.{Reading, answer, is_over, same_word, value_of}
use Rattle.mw_actor.specs.declared.points.Point.{Point}
use Rattle.mw_actor.specs.declared.points.Point.TheVariants.{Read, DecideNo, Inspect}
use Rattle.mw_actor.specs.declared.points.Slot.{Slot}
use Rattle.mw_actor.specs.declared.points.Task.{Task}
use Rattle.mw_actor.specs.ActorState.{ActorState, entries_of, entry_of, is_alone, same_slot}
use Rattle.mw_actor.specs.RequestEnds.{works}
use Rattle.mw_actor.specs.Help.{helps}
use Rattle.mw_actor.specs.Inspection.{attempts, dirty_seen, inspected}
use Rattle.mw_world.specs.declared.config.Config.{Config}
use Rattle.mw_world.specs.declared.step_labels.Phase.TheVariants.{Acquired}
use Rattle.mw_world.specs.Definition.History.{expected, new}
use Rattle.mw_world.specs.Definition.Logical.{held_value}
use Rattle.mw_world.specs.Definition.State.{State, tenant_at}
use Rattle.mw_law_runs.specs.Moves.Values.{value_told}
use Rattle.mw_law_runs.specs.Knowledge.Facts.{IsKnown}
use Rattle.mw_law_runs.proofs.Knowledge.Guards.Memory.{index_of}
use Rattle.mw_law_runs.proofs.Knowledge.Reads.Memory.{status_told}
use Rattle.mw_law_runs.specs.RunInvariant.{IsSound}
use Rattle.mw_law_runs.proofs.RequestsInWorlds.{have_their_requests}
use Rattle.mw_law_runs.proofs.GuardedEvents.{first_holds}
use Rattle.mw_law_store.specs.Files.Files.{HasFiles}
use Rattle.mw_law_store.specs.WorldFacts.{HasWorldFacts}
use Rattle.mw_law_store.proofs.DecidedChangesFit.{value_is_now, word_within}

-- Points.

-- At this point no change is refused for a value at an entry.
record IsNoRefusal (task : Task) (entry value : ℕ) (point : Point) : Type 0 where
  pub is_none : point ≡ DecideNo task entry value → ⊥

module _ (task : Task) (entry value : ℕ) where
  if_none : (test : Bool) (one two : Point) → IsNoRefusal task entry value one → IsNoRefusal task entry value two → IsNoRefusal task entry value (cond test one two)
  if_none true one two here there = here
  if_none false one two here there = there

  works_none : (other : Task) → IsNoRefusal task entry value (works other)
  works_none other = if_none (is_alone other) _ _ (record { is_none = λ e. cc }) (record { is_none = λ e. cc })

  helps_none : (other : Slot) → IsNoRefusal task entry value (helps task other)
  helps_none other =
      if_none (same_slot other task.own) _ _ (if_none (is_alone task) _ _ (works_none (record { own = task.own; target = task.own })) (record { is_none = λ e. cc })) (record { is_none = λ e. cc })

  attempts_none : (at next : ℕ) → IsNoRefusal task entry value (attempts task at next)
  attempts_none at next = if_none (nat_lt next WORN_NUMBER) _ _ (record { is_none = λ e. cc }) (if_none (is_alone task) _ _ (record { is_none = λ e. cc }) (record { is_none = λ e. cc }))

  dirty_none : (at slot found : ℕ) → IsNoRefusal task entry value (dirty_seen task at slot found)
  dirty_none at slot found =
      if_none (slot == task.target.slot) _ _ (record { is_none = λ e. cc }) (if_none (slot == task.own.slot) _ _ (helps_none task.own) (record { is_none = λ e. cc }))

-- A word for which a change is refused has this value.
record SaysValue (word : Word) (value : ℕ) : Type 0 where
  pub says : (state : State) (address : ℕ) → value_told state address word ≡ value

module _ (actor : ActorState) (next : ℕ) (task : Task) (entry value : ℕ) where
  same_value : (found : ℕ) → DecideNo task entry found ≡ DecideNo task entry value → found ≡ value
  same_value found e = cc

  refused_at : (test : Bool) (found : ℕ) (onward : Point) → IsNoRefusal task entry value onward → cond test onward (DecideNo task entry found) ≡ DecideNo task entry value → found ≡ value
  refused_at true found onward no_refusal is = absurd (no_refusal.is_none is)
  refused_at false found onward no_refusal is = same_value found is

  refused_for : (word : Word) → inspected actor next task entry word ≡ DecideNo task entry value → SaysValue word value
  refused_for (Plain found) is =
      record { says = λ state address. refused_at (found == (entry_of actor task entry).expected) found (attempts task entry next) (attempts_none task entry value entry next) is }
  refused_for (Dirty slot found) is =
      record { says = λ state address. refused_at (found == (entry_of actor task entry).expected) found (dirty_seen task entry slot found) (dirty_none task entry value entry slot found) is }
  refused_for (Held slot seq) is = absurd (held_none.is_none is)
    where
      held_none : IsNoRefusal task entry value (inspected actor next task entry (Held slot seq))
      held_none =
          let other : Slot = record { slot = slot; seq = seq } in
          if_none task entry value (same_slot other task.target) _ _
          (if_none task entry value (nat_lt (entry + 1) (length (entries_of actor task))) _ _ (record { is_none = λ e. cc }) (record { is_none = λ e. cc })) (helps_none task entry value other)
  refused_for (Planted worker number) is = absurd (not_so is)
    where
      not_so : inspected actor next task entry (Planted worker number) ≡ DecideNo task entry value → ⊥
      not_so e = cc

-- A read that follows a held word replies the value that the word has by the status that was read, and the word is still held.
value_held : (slot seq : ℕ) (status : Status) (was written : ℕ) → value_of (ByHeld slot seq) status was written ≡ held_value status was written
value_held slot seq Yes was written = refl
value_held slot seq status was written = refl

same_held : (word : Word) (slot seq : ℕ) → same_word word (Held slot seq) ≡ true → word ≡ Held slot seq
same_held (Plain value) slot seq is = absurd (grind (arith, is))
same_held (Planted worker number) slot seq is = absurd (grind (arith, is))
same_held (Dirty other value) slot seq is = absurd (grind (arith, is))
same_held (Held other number) slot seq is =
    let both : (other ≡ slot) × (number ≡ seq) = (grind (arith, nat_tests, is), grind (arith, nat_tests, is)) in
    ap (λ (n : ℕ). Held n number) both.0 ∙ ap (λ (n : ℕ). Held slot n) both.1

pub answer_is : (slot seq : ℕ) (word : Word) (status : Status) (was written value : ℕ) → answer (ByHeld slot seq) word status was written ≡ Answer value
    → (value ≡ held_value status was written) × (word ≡ Held slot seq)
answer_is slot seq word status was written value is = by_test (same_word word (Held slot seq) && not (is_over (ByHeld slot seq) status)) refl is
  where
    by_test : (test : Bool) → (same_word word (Held slot seq) && not (is_over (ByHeld slot seq) status)) ≡ test → cond test (Answer (value_of (ByHeld slot seq) status was written)) Again ≡ Answer value
        → (value ≡ held_value status was written) × (word ≡ Held slot seq)
    by_test true same answers = (sym (same_answer answers) ∙ value_held slot seq status was written, same_held word slot seq (first_holds (same_word word (Held slot seq)) (not (is_over (ByHeld slot seq) status)) same))
      where
        same_answer : Answer (value_of (ByHeld slot seq) status was written) ≡ Answer value → value_of (ByHeld slot seq) status was written ≡ value
        same_answer e = cc
    by_test false same answers = absurd (not_so answers)
      where
        not_so : Again ≡ Answer value → ⊥
        not_so e = cc

-- Values.

module _ (config : Config) (state : State) (actor : ActorState) (sound : IsSound config state) (has : HasFiles config state) (world_facts : HasWorldFacts state) where
  -- a change is refused for the value that its word has now
  refuses_now : (task : Task) (entry value : ℕ) (word : Word) → let me = record actor { point = Inspect task entry } in (state.worker_states actor.worker).actor ≡ Some me
      → inspected me (state.worker_states actor.worker).attempt task entry word ≡ DecideNo task entry value → state.cells.words actor.tenant (entry_of me task entry).addr ≡ word
      → value ≡ word_at (state.tenant_states actor.tenant).file.contents (entry_of me task entry).addr
  refuses_now task entry value word sits refuses stands =
      let me = record actor { point = Inspect task entry } in
      let informed = (have_their_requests config state sound actor.worker me sits).informed in
      let works = informed.knows.0.works in
      let address = (entry_of me task entry).addr in
      let words = (tenant_at config actor.tenant).words in
      let formed =
      subst (λ (entries : List Entry). is_change words entries ≡ true) (sym works.entries)
      (subst (λ (tenant : ℕ). is_change (tenant_at config tenant).words (state.history.change task.target.slot task.target.seq) ≡ true) works.at_work.target.same_tenant
      (sound.memory.claims.formed task.target.slot task.target.seq works.at_work.target.is_claimed).1) in
      sym (value_is_now config state actor.tenant address sound has informed.worker_state.tenant ((world_facts.worker_states actor.worker me sits).up refl)
      (word_within words (entries_of me task) entry formed informed.knows.0.within)
      ∙ ap (λ (one : Word). value_told state address one) stands
      ∙ (refused_for me (state.worker_states actor.worker).attempt task entry value word refuses).says state address)

  -- a read that follows a held word, which is still acquired, reads the value that the word has now
  reads_now : (look : Reading) (slot seq : ℕ) → let me = record actor { point = Read (record look { point = ReadStatus (ByHeld slot seq) }) } in (state.worker_states actor.worker).actor ≡ Some me
      → state.history.phase slot seq look.address ≡ Acquired
      → word_at (state.tenant_states actor.tenant).file.contents look.address
      ≡ held_value (state.cells.statuses slot) (expected state.history slot seq look.address) (new state.history slot seq look.address)
  reads_now look slot seq sits acquired =
      let me = record actor { point = Read (record look { point = ReadStatus (ByHeld slot seq) }) } in
      let informed = (have_their_requests config state sound actor.worker me sits).informed in
      let came = informed.knows in
      let same_tenant : state.history.tenant slot seq ≡ actor.tenant = came.known.same_tenant ∙ informed.ready.0 in
      let known : IsKnown state actor.tenant (record { slot = slot; seq = seq }) = record { is_claimed = came.known.is_claimed; same_tenant = same_tenant; ready = came.known.ready } in
      let words = (tenant_at config actor.tenant).words in
      let formed =
      subst (λ (tenant : ℕ). is_change (tenant_at config tenant).words (state.history.change slot seq) ≡ true) same_tenant (sound.memory.claims.formed slot seq came.known.is_claimed).1 in
      let at = index_of (state.history.change slot seq) look.address came.entry in
      let within : look.address < words = subst (λ (address : ℕ). address < words) at.entry.same (word_within words (state.history.change slot seq) at.index formed at.entry.within) in
      let word : state.cells.words actor.tenant look.address ≡ Held slot seq =
      ap (λ (tenant : ℕ). state.cells.words tenant look.address) (sym same_tenant) ∙ sound.memory.words.acquired slot seq look.address acquired in
      value_is_now config state actor.tenant look.address sound has informed.worker_state.tenant ((world_facts.worker_states actor.worker me sits).up refl) within
      ∙ ap (λ (one : Word). value_told state look.address one) word
      ∙ ap (λ (status : Status). held_value status (expected state.history slot seq look.address) (new state.history slot seq look.address))
      (sym (status_told config state sound.memory actor.tenant (record { slot = slot; seq = seq }) informed.live known))

pub keeps_new : (config : Config) (state : State) (actor : ActorState) (task : Task) (entry value : ℕ) (word : Word) → IsSound config state → HasFiles config state → HasWorldFacts state
    → actor.point ≡ Inspect task entry → (state.worker_states actor.worker).actor ≡ Some actor → inspected actor (state.worker_states actor.worker).attempt task entry word ≡ DecideNo task entry value
    → state.cells.words actor.tenant (entry_of actor task entry).addr ≡ word → value ≡ word_at (state.tenant_states actor.tenant).file.contents (entry_of actor task entry).addr
keeps_new config state actor task entry value word sound has world_facts at sits refuses stands =
    refuses_now config state actor sound has world_facts task entry value word (sits ∙ ap (λ (point : Point). Some (record actor { point = point })) at) refuses stands

pub reads_new : (config : Config) (state : State) (actor : ActorState) (look : Reading) (slot seq : ℕ) → IsSound config state → HasFiles config state → HasWorldFacts state
    → actor.point ≡ Read (record look { point = ReadStatus (ByHeld slot seq) }) → (state.worker_states actor.worker).actor ≡ Some actor → state.history.phase slot seq look.address ≡ Acquired
    → word_at (state.tenant_states actor.tenant).file.contents look.address
    ≡ held_value (state.cells.statuses slot) (expected state.history slot seq look.address) (new state.history slot seq look.address)
reads_new config state actor look slot seq sound has world_facts at sits acquired =
    reads_now config state actor sound has world_facts look slot seq (sits ∙ ap (λ (point : Point). Some (record actor { point = point })) at) acquired
