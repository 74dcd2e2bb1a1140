-- A request that must release a word of a refused change still will after its step, while the word is held for that change.
-- Used by: StepObligations.
use Rattle.std.specs.Prelude.{ℕ, ◌≡◌, ◌⊎◌, ◌+◌, ◌&&◌, true, false, cond, nat_lt, nat_le, List, length, is_some}
use Rattle.std.proofs.Common.{refl, sym, ap, subst, ◌∙◌, inl, inr, arith}
use Rattle.std.proofs.lemmas.Bool.Decides.{nat_tests}
use Rattle.mw_words.specs.declared.jobs.Entry.{Entry}
use Rattle.mw_words.specs.declared.limits.TheConstants.{MAX_ENTRIES, MAX_VALUE, MAX_WORDS}
use Rattle.mw_words.specs.declared.statuses.Status.{Status}
use Rattle.mw_words.specs.declared.statuses.Status.TheVariants.{Draft, Open, YesDirty, Yes, No, DoneYes, DoneNo}
use Rattle.mw_words.specs.declared.words.Word.{Word}
use Rattle.mw_words.specs.declared.words.Word.TheVariants.{Plain, Planted, Held, Dirty}
use Rattle.mw_look.specs.declared.observations.Observation.{Observation}
use Rattle.mw_look.specs.declared.observations.Observation.TheVariants.{SawRow, SawWord, SawStatus, SawNumber, Won, Lost, Filed}
use Rattle.mw_look.specs.Program.{same_word}
use Rattle.mw_look.proofs.RangeLaws.{either_way}
use Rattle.mw_actor.specs.declared.points.Attempt.{Attempt}
use Rattle.mw_actor.specs.declared.points.Point.{Point}
use Rattle.mw_actor.specs.declared.points.Point.TheVariants.{Read, ReadDoor, Admit, ScanGate, Claim, FillStatus, FillCount, FillAddr, FillExpected, FillNew, Prepare, ReadTargetStatus, Inspect, ReadOtherRow, ConfirmAttempt, ReadDirtyGate, ConfirmDirty, ReadOtherGate, PinOther, Seal, Clean, Settle, Unpin, FreeSlot, LowerDoor, GiveUp, Replied, DecideYes, DecideNo, AnnounceRow, Plant, CheckThenResolve, Resolve, ReadCount, ReadAddr, ReadExpected, ReadNew, SweepWord, Release, SweepRow, SweepConfirm, SweepResolve, Cancel}
use Rattle.mw_actor.specs.declared.points.Slot.{Slot}
use Rattle.mw_actor.specs.declared.points.Sweep.{Sweep}
use Rattle.mw_actor.specs.declared.points.Sweep.TheVariants.{Yes as SweepYes, DoneYes as SweepDoneYes, No as SweepNo, DoneNo as SweepDoneNo}
use Rattle.mw_actor.specs.declared.points.Task.{Task}
use Rattle.mw_actor.specs.ActorState.{ActorState, entries_of, entry_of, same_slot, planted}
use Rattle.mw_actor.specs.Asks.{asks_at}
use Rattle.mw_actor.specs.Help.{count_read, addr_read, expected_read, next_read, new_read}
use Rattle.mw_actor.specs.Inspection.{status_read}
use Rattle.mw_actor.specs.ReleasePhase.{next_sweep, sweep_over, swept, sweep_confirmed}
use Rattle.mw_world.specs.Maps.{upd_two}
use Rattle.mw_world.specs.declared.config.Config.{Config}
use Rattle.mw_world.specs.Definition.History.{entry_for}
use Rattle.mw_world.specs.Claim.Invariant.{IsRefused}
use Rattle.mw_world.specs.Claim.Obligations.{IsFrom, ComesTo, WillReleaseAt}
use Rattle.mw_world.specs.Definition.State.{State}
use Rattle.mw_law_runs.specs.Knowledge.Facts.{WorksOn}
use Rattle.mw_law_runs.specs.Knowledge.Informed.{IsInformed, ChangesNoWord, ChangesAWord}
use Rattle.mw_law_runs.specs.Knowledge.Points.{without_point}
use Rattle.mw_law_runs.specs.Knowledge.NextState.{told, world_told}
use Rattle.mw_law_runs.proofs.Knowledge.Reads.Memory.{status_told}
use Rattle.mw_law_runs.proofs.Obligations.Apart.{plain_held, planted_held, dirty_held, lost_won, of_word, of_status}
use Rattle.mw_law_runs.proofs.Obligations.StepEffects.{upd_two_here}
use Rattle.mw_law_runs.proofs.Obligations.Rounds.{from_first, none_from, comes_next}

others_held : (slot seq place number : ℕ) → Held slot seq ≡ Held place number → same_slot (record { slot = slot; seq = seq }) (record { slot = place; seq = number }) ≡ false → ⊥
others_held slot seq place number is apart = grind (arith, nat_tests, is, apart)

module _ (change : Slot) (address : ℕ) (actor next : ActorState) where
  -- it goes on to read another's change
  count_will_release : (task : Task) (count : ℕ) → task.target ≡ change → WillReleaseAt next change address (count_read task count)
  count_will_release task count is = either_way (WillReleaseAt next change address) (nat_le 1 count && nat_le count MAX_ENTRIES) (ReadAddr task count) (ReadCount task) (λ e. is) (λ e. is)

  addr_will_release : (task : Task) (count addr : ℕ) → task.target ≡ change → WillReleaseAt next change address (addr_read task count addr)
  addr_will_release task count addr is = either_way (WillReleaseAt next change address) (nat_lt addr MAX_WORDS) (ReadExpected task count addr) (ReadAddr task count) (λ e. is) (λ e. is)

  expected_will_release : (task : Task) (count addr expected : ℕ) → task.target ≡ change → WillReleaseAt next change address (expected_read task count addr expected)
  expected_will_release task count addr expected is =
      either_way (WillReleaseAt next change address) (nat_le expected MAX_VALUE) (ReadNew task count addr expected) (ReadExpected task count addr) (λ e. is) (λ e. is)

  new_will_release : (task : Task) (count addr expected new : ℕ) → task.target ≡ change → WillReleaseAt next change address (new_read actor task count addr expected new)
  new_will_release task count addr expected new is =
      either_way (WillReleaseAt next change address) (nat_le new MAX_VALUE) (next_read actor task count) (ReadNew task count addr expected)
      (λ e. either_way (WillReleaseAt next change address) (nat_lt (length actor.others + 1) count) (ReadAddr task count) (ReadTargetStatus task) (λ d. is) (λ d. is)) (λ e. is)

module _ (change : Slot) (address : ℕ) (actor : ActorState) (point : Point) (task : Task) (is : task.target ≡ change) where
  abbrev WillReleaseNow : Point → Type 0
  WillReleaseNow = WillReleaseAt (record actor { point = point }) change address

  -- it goes on to the next entry
  next_will_release : (sweep : Sweep) (entry : ℕ) → ComesTo sweep (entries_of actor task) (entry + 1) address → WillReleaseNow (next_sweep actor task sweep entry)
  next_will_release SweepYes entry comes = absurd comes
  next_will_release SweepDoneYes entry comes = absurd comes
  next_will_release SweepNo entry comes =
      either_way WillReleaseNow (nat_lt (entry + 1) (length (entries_of actor task))) (SweepWord task SweepNo (entry + 1)) (sweep_over actor task SweepNo) (λ more. (is, tt)) (λ last. is)
  next_will_release (SweepDoneNo index found) entry comes =
      either_way WillReleaseNow (nat_lt (entry + 1) (length (entries_of actor task))) (SweepWord task (SweepDoneNo index found) (entry + 1)) (sweep_over actor task (SweepDoneNo index found))
      (λ more. (is, comes)) (λ last. absurd (none_from (entries_of actor task) entry address last comes))

  -- a round begins
  status_will_release : (status : Status) → IsRefused status → IsFrom (entries_of actor task) 0 address → WillReleaseNow (status_read task status)
  status_will_release Draft refused from = absurd refused
  status_will_release Open refused from = absurd refused
  status_will_release YesDirty refused from = absurd refused
  status_will_release Yes refused from = absurd refused
  status_will_release DoneYes refused from = absurd refused
  status_will_release (No entry value) refused from = (is, tt)
  status_will_release (DoneNo entry value) refused from = (is, from)

  -- it goes on from the word of an entry
  module _ (state : State) (word_held : state.cells.words actor.tenant address ≡ Held task.target.slot task.target.seq) (entry : ℕ) where
    not_here : (word : Word) → state.cells.words actor.tenant (entry_of actor task entry).addr ≡ word → (word ≡ Held task.target.slot task.target.seq → ⊥)
        → (entry_of actor task entry).addr ≡ address → ⊥
    not_here word saw apart same = apart (sym saw ∙ ap (λ (addr : ℕ). state.cells.words actor.tenant addr) same ∙ word_held)

    goes_past : (sweep : Sweep) (word : Word) → ComesTo sweep (entries_of actor task) entry address → state.cells.words actor.tenant (entry_of actor task entry).addr ≡ word
        → (word ≡ Held task.target.slot task.target.seq → ⊥) → ComesTo sweep (entries_of actor task) (entry + 1) address
    goes_past sweep word comes saw apart = comes_next sweep (entries_of actor task) entry address (not_here word saw apart) comes

    held_will_release : (sweep : Sweep) (slot seq : ℕ) → ComesTo sweep (entries_of actor task) entry address
        → state.cells.words actor.tenant (entry_of actor task entry).addr ≡ Held slot seq
        → WillReleaseNow (cond (same_slot (record { slot = slot; seq = seq }) task.target) (Release task sweep entry) (next_sweep actor task sweep entry))
    held_will_release sweep slot seq comes saw =
        either_way WillReleaseNow (same_slot (record { slot = slot; seq = seq }) task.target) (Release task sweep entry) (next_sweep actor task sweep entry) (λ same. (is, comes))
        (λ other. next_will_release sweep entry (goes_past sweep (Held slot seq) comes saw (λ held. others_held slot seq task.target.slot task.target.seq held other)))

    swept_will_release : (sweep : Sweep) (word : Word) → ComesTo sweep (entries_of actor task) entry address → state.cells.words actor.tenant (entry_of actor task entry).addr ≡ word
        → WillReleaseNow (swept actor task sweep entry word)
    swept_will_release SweepYes word comes saw = absurd comes
    swept_will_release SweepDoneYes word comes saw = absurd comes
    swept_will_release SweepNo (Plain value) comes saw = next_will_release SweepNo entry tt
    swept_will_release SweepNo (Planted worker number) comes saw = (is, tt)
    swept_will_release SweepNo (Held slot seq) comes saw = held_will_release SweepNo slot seq comes saw
    swept_will_release SweepNo (Dirty slot value) comes saw = next_will_release SweepNo entry tt
    swept_will_release (SweepDoneNo index found) (Plain value) comes saw =
        next_will_release (SweepDoneNo index found) entry (goes_past (SweepDoneNo index found) (Plain value) comes saw (plain_held value task.target.slot task.target.seq))
    swept_will_release (SweepDoneNo index found) (Planted worker number) comes saw =
        (is, goes_past (SweepDoneNo index found) (Planted worker number) comes saw (planted_held worker number task.target.slot task.target.seq))
    swept_will_release (SweepDoneNo index found) (Held slot seq) comes saw = held_will_release (SweepDoneNo index found) slot seq comes saw
    swept_will_release (SweepDoneNo index found) (Dirty slot value) comes saw =
        next_will_release (SweepDoneNo index found) entry (goes_past (SweepDoneNo index found) (Dirty slot value) comes saw (dirty_held slot value task.target.slot task.target.seq))

  confirmed_will_release : (sweep : Sweep) (entry : ℕ) (attempt : Attempt) (other : Slot) (word : Word) → ComesTo sweep (entries_of actor task) (entry + 1) address
      → WillReleaseNow (sweep_confirmed actor task sweep entry attempt other word)
  confirmed_will_release sweep entry attempt other word comes =
      either_way WillReleaseNow (same_word word (planted attempt) && same_slot other task.target) (SweepResolve task sweep entry attempt) (next_sweep actor task sweep entry)
      (λ same. (is, comes)) (λ was_released. next_will_release sweep entry comes)

-- a word that got another value isn't held
not_given : (words : ℕ → ℕ → Word) (tenant there address slot seq value : ℕ) → upd_two words tenant there (Plain value) tenant address ≡ Held slot seq → there ≡ address → ⊥
not_given words tenant there address slot seq value held same =
    plain_held value slot seq (sym (upd_two_here words tenant there tenant address (Plain value) refl (sym same)) ∙ held)

module _ (config : Config) (old : State) (actor : ActorState) (change : Slot) (address : ℕ) (word_held : old.cells.words actor.tenant address ≡ Held change.slot change.seq)
    (refused : IsRefused (old.history.fate change.slot change.seq)) (has_word : is_some (entry_for (old.history.change change.slot change.seq) address) ≡ true) where
  for_target : (task : Task) → task.target ≡ change → old.cells.words actor.tenant address ≡ Held task.target.slot task.target.seq
  for_target task is = subst (λ (one : Slot). old.cells.words actor.tenant address ≡ Held one.slot one.seq) (sym is) word_held

  from_start : (task : Task) → task.target ≡ change → WorksOn old (without_point actor) task → IsFrom (entries_of actor task) 0 address
  from_start task is works =
      from_first (entries_of actor task) address
      (ap (λ (entries : List Entry). is_some (entry_for entries address)) works.entries
      ∙ subst (λ (one : Slot). is_some (entry_for (old.history.change one.slot one.seq) address) ≡ true) (sym is) has_word)

  released_past : (task : Task) (sweep : Sweep) (entry : ℕ) → ComesTo sweep (entries_of actor task) entry address → ((entry_of actor task entry).addr ≡ address → ⊥)
      → ComesTo sweep (entries_of actor task) (entry + 1) address
  released_past task sweep entry comes apart = comes_next sweep (entries_of actor task) entry address apart comes

  -- By its point, what it learns, and the word after the step.
  pub will_release_on : (point : Point) (observation : Observation) → let me = record actor { point = point } in IsInformed config old me
      → ChangesNoWord old.cells (asks_at me point) observation ⊎ ChangesAWord old.cells (asks_at me point) observation
      → (world_told old me observation).cells.words actor.tenant address ≡ Held change.slot change.seq
      → WillReleaseAt me change address point → WillReleaseAt (told old me observation) change address (told old me observation).point
  will_release_on (Read look) observation informed how still will_release = absurd will_release
  will_release_on ReadDoor observation informed how still will_release = absurd will_release
  will_release_on (Admit from to) observation informed how still will_release = absurd will_release
  will_release_on (ScanGate slot saw_worn) observation informed how still will_release = absurd will_release
  will_release_on (Claim slot saw_worn from to) observation informed how still will_release = absurd will_release
  will_release_on (FillStatus own) observation informed how still will_release = absurd will_release
  will_release_on (FillCount own) observation informed how still will_release = absurd will_release
  will_release_on (FillAddr own entry) observation informed how still will_release = absurd will_release
  will_release_on (FillExpected own entry) observation informed how still will_release = absurd will_release
  will_release_on (FillNew own entry) observation informed how still will_release = absurd will_release
  will_release_on (Prepare own) observation informed how still will_release = absurd will_release
  will_release_on (Inspect task entry) observation informed how still will_release = absurd will_release
  will_release_on (ReadOtherRow task entry attempt) observation informed how still will_release = absurd will_release
  will_release_on (ConfirmAttempt task entry attempt other) observation informed how still will_release = absurd will_release
  will_release_on (ReadDirtyGate task entry slot value) observation informed how still will_release = absurd will_release
  will_release_on (ConfirmDirty task entry other value) observation informed how still will_release = absurd will_release
  will_release_on (ReadOtherGate task other) observation informed how still will_release = absurd will_release
  will_release_on (PinOther task other from to) observation informed how still will_release = absurd will_release
  will_release_on (Seal task) observation informed how still will_release = absurd will_release
  will_release_on (Clean task entry value) observation informed how still will_release = absurd will_release
  will_release_on (Settle task) observation informed how still will_release = absurd will_release
  will_release_on (Unpin slot onward) observation informed how still will_release = absurd will_release
  will_release_on (FreeSlot slot onward) observation informed how still will_release = absurd will_release
  will_release_on (LowerDoor onward) observation informed how still will_release = absurd will_release
  will_release_on (GiveUp own undecided) observation informed how still will_release = absurd will_release
  will_release_on (Replied reply) observation informed how still will_release = absurd will_release
  will_release_on (ReadTargetStatus task) (SawStatus status) informed (inl quiet) still is =
      let me = record actor { point = ReadTargetStatus task } in
      status_will_release change address actor (status_read task status) task is status
      (subst IsRefused (sym saw) refused) (from_start task is informed.knows)
    where
      saw : status ≡ old.history.fate change.slot change.seq
      saw =
          of_status status (old.cells.statuses task.target.slot) quiet
          ∙ status_told config old informed.memory actor.tenant task.target informed.live.1 informed.knows.at_work.target
          ∙ ap (λ (one : Slot). old.history.fate one.slot one.seq) is
  will_release_on (ReadTargetStatus task) (SawStatus status) informed (inr changes) still is = absurd changes
  will_release_on (DecideYes task) Won informed how still is = is
  will_release_on (DecideYes task) Lost informed how still is = is
  will_release_on (DecideNo task entry value) Won informed how still is = is
  will_release_on (DecideNo task entry value) Lost informed how still is = is
  will_release_on (AnnounceRow task entry number) Won informed how still is = is
  will_release_on (Plant task entry number) Won informed how still is = is
  will_release_on (Plant task entry number) Lost informed how still is = is
  will_release_on (CheckThenResolve task entry attempt) (SawStatus status) informed how still is = is
  will_release_on (Resolve task entry attempt was_open) Won informed how still is = is
  will_release_on (Resolve task entry attempt was_open) Lost informed how still is = is
  will_release_on (ReadCount task) (SawNumber count) informed how still is =
      let me = record actor { point = ReadCount task } in
      count_will_release change address me (told old me (SawNumber count)) task count is
  will_release_on (ReadAddr task count) (SawNumber addr) informed how still is =
      let me = record actor { point = ReadAddr task count } in
      addr_will_release change address me (told old me (SawNumber addr)) task count addr is
  will_release_on (ReadExpected task count addr) (SawNumber expected) informed how still is =
      let me = record actor { point = ReadExpected task count addr } in
      expected_will_release change address me (told old me (SawNumber expected)) task count addr expected is
  will_release_on (ReadNew task count addr expected) (SawNumber new) informed how still is =
      let me = record actor { point = ReadNew task count addr expected } in
      new_will_release change address me (told old me (SawNumber new)) task count addr expected new is
  will_release_on (Cancel task) (Filed went_well) informed how still is = is
  will_release_on (SweepWord task sweep entry) (SawWord word) informed (inl quiet) still will_release =
      let me = record actor { point = SweepWord task sweep entry } in
      swept_will_release change address me (told old me (SawWord word)).point task will_release.0 old (for_target task will_release.0) entry sweep word will_release.1
      (of_word word (old.cells.words actor.tenant (entry_of actor task entry).addr) quiet)
  will_release_on (SweepWord task sweep entry) (SawWord word) informed (inr changes) still will_release = absurd changes
  will_release_on (Release task SweepYes entry) observation informed how still will_release = absurd will_release.1
  will_release_on (Release task SweepDoneYes entry) observation informed how still will_release = absurd will_release.1
  will_release_on (Release task SweepNo entry) Won informed how still will_release =
      let me = record actor { point = Release task SweepNo entry } in
      next_will_release change address me (told old me Won).point task will_release.0 SweepNo entry tt
  will_release_on (Release task SweepNo entry) Lost informed how still will_release =
      let me = record actor { point = Release task SweepNo entry } in
      next_will_release change address me (told old me Lost).point task will_release.0 SweepNo entry tt
  will_release_on (Release task (SweepDoneNo index found) entry) Won informed how still will_release =
      let me = record actor { point = Release task (SweepDoneNo index found) entry } in
      next_will_release change address me (told old me Won).point task will_release.0 (SweepDoneNo index found) entry
      (released_past task (SweepDoneNo index found) entry will_release.1
      (not_given old.cells.words actor.tenant (entry_of actor task entry).addr address change.slot change.seq (entry_of actor task entry).expected still))
  will_release_on (Release task (SweepDoneNo index found) entry) Lost informed (inl quiet) still will_release =
      let me = record actor { point = Release task (SweepDoneNo index found) entry } in
      next_will_release change address me (told old me Lost).point task will_release.0 (SweepDoneNo index found) entry
      (released_past task (SweepDoneNo index found) entry will_release.1
      (λ same. quiet.2 (ap (λ (addr : ℕ). old.cells.words actor.tenant addr) same ∙ for_target task will_release.0)))
  will_release_on (Release task (SweepDoneNo index found) entry) Lost informed (inr changes) still will_release = absurd (lost_won changes.0)
  will_release_on (SweepRow task sweep entry attempt) (SawRow row) informed how still will_release = will_release
  will_release_on (SweepConfirm task sweep entry attempt other) (SawWord word) informed how still will_release =
      let me = record actor { point = SweepConfirm task sweep entry attempt other } in
      confirmed_will_release change address me (told old me (SawWord word)).point task will_release.0 sweep entry attempt other word will_release.1
  will_release_on (SweepResolve task sweep entry attempt) Won informed how still will_release =
      let me = record actor { point = SweepResolve task sweep entry attempt } in
      next_will_release change address me (told old me Won).point task will_release.0 sweep entry will_release.1
  will_release_on (SweepResolve task sweep entry attempt) Lost informed how still will_release =
      let me = record actor { point = SweepResolve task sweep entry attempt } in
      next_will_release change address me (told old me Lost).point task will_release.0 sweep entry will_release.1
  will_release_on point observation informed how still will_release = will_release
