-- A request that must clean a word (remove its reference to a change) still will after its step. An unfinished change's
-- request will clean all its words. Used by: StepObligations.
use Rattle.std.specs.Prelude.{ℕ, ◌≡◌, ◌<◌, ◌⊎◌, ◌+◌, true, List, length, is_some, Some}
use Rattle.std.proofs.Common.{refl, sym, ap, subst, ◌∙◌, inl, inr}
use Rattle.mw_words.specs.declared.jobs.Entry.{Entry}
use Rattle.mw_words.specs.declared.replies.Reply.{Reply}
use Rattle.mw_words.specs.declared.statuses.Status.{Status}
use Rattle.mw_words.specs.declared.statuses.Status.TheVariants.{Yes, DoneYes, DoneNo}
use Rattle.mw_words.specs.declared.words.Word.{Word}
use Rattle.mw_words.specs.declared.words.Word.TheVariants.{Plain, Dirty}
use Rattle.mw_look.specs.declared.observations.Observation.{Observation}
use Rattle.mw_look.specs.declared.observations.Observation.TheVariants.{SawDoor, SawGate, SawRow, SawWord, SawStatus, SawNumber, Won, Lost, Filed}
use Rattle.mw_actor.specs.declared.points.After.TheVariants.{Work, GiveUp as ThenGiveUp, Reply as ThenReply}
use Rattle.mw_actor.specs.declared.points.Point.{Point}
use Rattle.mw_actor.specs.declared.points.Point.TheVariants.{Read, ReadDoor, Admit, ScanGate, Claim, FillStatus, FillCount, FillAddr, FillExpected, FillNew, Prepare, ReadTargetStatus, Inspect, AnnounceRow, Plant, ReadOtherRow, ConfirmAttempt, ReadDirtyGate, ConfirmDirty, DecideYes, DecideNo, CheckThenResolve, Resolve, ReadOtherGate, PinOther, ReadCount, ReadAddr, ReadExpected, ReadNew, Seal, SweepWord, Release, Clean, SweepRow, SweepConfirm, SweepResolve, Settle, Cancel, Unpin, FreeSlot, LowerDoor, GiveUp, Replied}
use Rattle.mw_actor.specs.declared.points.Slot.{Slot}
use Rattle.mw_actor.specs.declared.points.Sweep.{Sweep}
use Rattle.mw_actor.specs.declared.points.Sweep.TheVariants.{Yes as SweepYes, DoneYes as SweepDoneYes, No as SweepNo, DoneNo as SweepDoneNo}
use Rattle.mw_actor.specs.declared.points.Task.{Task}
use Rattle.mw_actor.specs.ActorState.{ActorState, entries_of, entry_at, entry_of}
use Rattle.mw_actor.specs.Asks.{asks_at}
use Rattle.mw_actor.specs.Stages.{stage}
use Rattle.mw_actor.specs.ReleasePhase.{next_sweep}
use Rattle.mw_world.specs.Maps.{upd_two}
use Rattle.mw_world.specs.declared.config.Config.{Config}
use Rattle.mw_world.specs.Definition.History.{new, entry_for}
use Rattle.mw_world.specs.Claim.Obligations.{IsFrom, CleansFrom, CleansAt}
use Rattle.mw_world.specs.Definition.State.{State}
use Rattle.mw_law_runs.specs.Knowledge.Facts.{WorksOn, IsDecidedAs, Releases}
use Rattle.mw_law_runs.specs.Knowledge.Informed.{IsInformed, ChangesNoWord, ChangesAWord}
use Rattle.mw_law_runs.specs.Knowledge.Points.{Knows, without_point}
use Rattle.mw_law_runs.specs.Knowledge.NextState.{told, world_told}
use Rattle.mw_law_runs.proofs.Knowledge.Reads.Memory.{new_at}
use Rattle.mw_law_runs.specs.Obligations.{IsUnfinished, own_of}
use Rattle.mw_law_runs.proofs.Obligations.Apart.{plain_dirty, lost_won, of_word, done_undone}
use Rattle.mw_law_runs.proofs.Obligations.StepEffects.{upd_two_here}
use Rattle.mw_law_runs.proofs.Obligations.Cleanups.{IsNotRefused, fill_cleans, resumed_cleans, unpinned_cleans, turns_cleans, inspected_cleans, confirmed_cleans, dirty_gate_cleans, dirty_confirmed_cleans, other_gate_cleans, count_cleans, addr_cleans, expected_cleans, new_cleans, status_cleans, next_cleans, sweep_confirmed_cleans, swept_cleans}
use Rattle.mw_law_runs.proofs.Obligations.LastPins.{over_done}
use Rattle.mw_law_runs.proofs.Obligations.Owners.{IsNotLast}
use Rattle.mw_law_runs.proofs.Obligations.Pins.{some_same, none_some}
use Rattle.mw_law_runs.proofs.Obligations.Rounds.{from_first, cleans_next}

no_call : ⊥ ⊎ ⊥ → ⊥
no_call (inl is) = is
no_call (inr is) = is

yes_refused : (entry value : ℕ) → Yes ≡ DoneNo entry value → ⊥
yes_refused entry value is = cc

done_refused : (entry value : ℕ) → DoneYes ≡ DoneNo entry value → ⊥
done_refused entry value is = cc

made_refused : (fate : Status) (entry value : ℕ) → (fate ≡ Yes) ⊎ (fate ≡ DoneYes) → fate ≡ DoneNo entry value → ⊥
made_refused fate entry value (inl made) is = yes_refused entry value (sym made ∙ is)
made_refused fate entry value (inr made) is = done_refused entry value (sym made ∙ is)

-- A request whose own change isn't done with.
module _ (state : State) (actor : ActorState) (own : Slot) (undone : IsUnfinished (state.history.fate own.slot own.seq)) (address : ℕ) where
  undone_for : (task : Task) → Some task.own ≡ Some own → task.target ≡ task.own → IsUnfinished (state.history.fate task.target.slot task.target.seq)
  undone_for task mine same = subst (λ (one : Slot). IsUnfinished (state.history.fate one.slot one.seq)) (sym (same ∙ some_same task.own own mine)) undone

  not_done : (task : Task) → Some task.own ≡ Some own → task.target ≡ task.own → state.history.fate task.target.slot task.target.seq ≡ DoneYes → ⊥
  not_done task mine same done = done_undone (subst IsUnfinished done (undone_for task mine same))

  round_cleans : (task : Task) (sweep : Sweep) (first : ℕ) → Some task.own ≡ Some own → IsDecidedAs (state.history.fate task.target.slot task.target.seq) sweep
      → task.target ≡ task.own → CleansFrom sweep (entries_of actor task) first address
  round_cleans task SweepYes first mine decided same = tt
  round_cleans task SweepDoneYes first mine decided same = absurd (not_done task mine same decided)
  round_cleans task SweepNo first mine decided same = tt
  round_cleans task (SweepDoneNo entry value) first mine decided same = tt

  -- the reply doesn't follow yet
  pub not_over : (slot : Slot) (reply : Reply) → Knows state actor (Unpin slot (ThenReply reply)) → Some slot ≡ Some own → ⊥
  not_over slot reply knows mine =
      over_done (without_point actor) (state.history.fate slot.slot slot.seq) reply knows.2.1
      (subst (λ (one : Slot). IsUnfinished (state.history.fate one.slot one.seq)) (sym (some_same slot own mine)) undone)

  pub knows_cleans : (point : Point) → Knows state actor point → own_of point ≡ Some own → CleansAt actor address point
  knows_cleans (SweepWord task sweep entry) knows mine = λ same. round_cleans task sweep entry mine knows.decided same
  knows_cleans (Clean task entry value) knows mine = λ same. absurd (not_done task mine same knows.0.decided)
  knows_cleans (SweepRow task sweep entry attempt) knows mine = λ same. round_cleans task sweep (entry + 1) mine knows.0.decided same
  knows_cleans (SweepConfirm task sweep entry attempt other) knows mine = λ same. round_cleans task sweep (entry + 1) mine knows.0.decided same
  knows_cleans (SweepResolve task sweep entry attempt) knows mine = λ same. round_cleans task sweep (entry + 1) mine knows.0.decided same
  knows_cleans (Unpin slot (Work task)) knows mine = tt
  knows_cleans (Unpin slot (ThenGiveUp one undecided)) knows mine = tt
  knows_cleans (Unpin slot (ThenReply reply)) knows mine = absurd (not_over slot reply knows mine)
  knows_cleans (FreeSlot slot (Work task)) knows mine = tt
  knows_cleans (FreeSlot slot (ThenGiveUp one undecided)) knows mine = tt
  knows_cleans (FreeSlot slot (ThenReply reply)) knows mine = absurd (none_some own mine)
  knows_cleans (LowerDoor (Work task)) knows mine = tt
  knows_cleans (LowerDoor (ThenGiveUp one undecided)) knows mine = tt
  knows_cleans (LowerDoor (ThenReply reply)) knows mine = absurd (none_some own mine)
  knows_cleans point knows mine = tt

-- a request that writes a word will clean it
pub writes_cleans : (old : State) (actor : ActorState) (address : ℕ) (task : Task) (entry : ℕ) (observation : Observation) → let me = record actor { point = Release task SweepYes entry } in
    CleansAt (told old me observation) address (told old me observation).point
writes_cleans old actor address task entry Won =
    let me = record actor { point = Release task SweepYes entry } in
    next_cleans address me (next_sweep me task SweepYes entry) task SweepYes entry (λ same. tt) (λ same. tt)
writes_cleans old actor address task entry Lost =
    let me = record actor { point = Release task SweepYes entry } in
    next_cleans address me (next_sweep me task SweepYes entry) task SweepYes entry (λ same. tt) (λ same. tt)
writes_cleans old actor address task entry observation = tt

-- a word that got a plain value isn't one that a change has written
not_given : (words : ℕ → ℕ → Word) (tenant there address slot number value : ℕ) → upd_two words tenant there (Plain value) tenant address ≡ Dirty slot number → there ≡ address → ⊥
not_given words tenant there address slot number value dirty same =
    plain_dirty value slot number (sym (upd_two_here words tenant there tenant address (Plain value) refl (sym same)) ∙ dirty)

-- A word of the request's tenant that the request's own change has written.
module _ (config : Config) (old : State) (actor : ActorState) (own : Slot) (address value : ℕ) (word_dirty : old.cells.words actor.tenant address ≡ Dirty own.slot value)
    (made : (old.history.fate own.slot own.seq ≡ Yes) ⊎ (old.history.fate own.slot own.seq ≡ DoneYes)) (new_value : new old.history own.slot own.seq address ≡ value)
    (has_word : is_some (entry_for (old.history.change own.slot own.seq) address) ≡ true) where
  target_own : (task : Task) → Some task.own ≡ Some own → task.target ≡ task.own → own ≡ task.target
  target_own task mine same = sym (same ∙ some_same task.own own mine)

  dirty_for : (task : Task) → Some task.own ≡ Some own → task.target ≡ task.own → old.cells.words actor.tenant address ≡ Dirty task.target.slot value
  dirty_for task mine same = subst (λ (one : Slot). old.cells.words actor.tenant address ≡ Dirty one.slot value) (target_own task mine same) word_dirty

  not_refused : (task : Task) (sweep : Sweep) → Some task.own ≡ Some own → IsDecidedAs (old.history.fate task.target.slot task.target.seq) sweep → task.target ≡ task.own → IsNotRefused sweep
  not_refused task SweepYes mine decided same = tt
  not_refused task SweepDoneYes mine decided same = tt
  not_refused task SweepNo mine decided same = tt
  not_refused task (SweepDoneNo entry found) mine decided same =
      made_refused (old.history.fate own.slot own.seq) entry found made (ap (λ (one : Slot). old.history.fate one.slot one.seq) (target_own task mine same) ∙ decided)

  from_start : (task : Task) → Some task.own ≡ Some own → WorksOn old (without_point actor) task → task.target ≡ task.own → IsFrom (entries_of actor task) 0 address
  from_start task mine works same =
      from_first (entries_of actor task) address
      (ap (λ (entries : List Entry). is_some (entry_for entries address)) works.entries
      ∙ subst (λ (one : Slot). is_some (entry_for (old.history.change one.slot one.seq) address) ≡ true) (target_own task mine same) has_word)

  -- an exchange that finds another word than the one that the change has written isn't at this word
  not_lost : (task : Task) (entry number : ℕ) → let me = record actor { point = Clean task entry number } in IsInformed config old me → Some task.own ≡ Some own
      → (old.cells.words actor.tenant (entry_of actor task entry).addr ≡ Dirty task.target.slot number → ⊥) → task.target ≡ task.own → (entry_of actor task entry).addr ≡ address → ⊥
  not_lost task entry number informed mine apart same here = apart (ap (λ (addr : ℕ). old.cells.words actor.tenant addr) here ∙ dirty_for task mine same ∙ ap (λ (n : ℕ). Dirty task.target.slot n) found)
    where
      works : WorksOn old (without_point actor) task
      works = informed.knows.0.at.works

      told_value : new old.history task.target.slot task.target.seq address ≡ value
      told_value = subst (λ (one : Slot). new old.history one.slot one.seq address ≡ value) (target_own task mine same) new_value

      there : (entry_at (old.history.change task.target.slot task.target.seq) entry).addr ≡ address
      there = ap (λ (entries : List Entry). (entry_at entries entry).addr) (sym works.entries) ∙ here

      found : value ≡ number
      found =
          sym told_value
          ∙ ap (λ (addr : ℕ). new old.history task.target.slot task.target.seq addr) (sym there)
          ∙ new_at config old informed.memory actor.tenant task.target works.at_work.target entry (subst (λ (entries : List Entry). entry < length entries) works.entries informed.knows.0.at.within)
          ∙ ap (λ (entries : List Entry). (entry_at entries entry).new) (sym works.entries)
          ∙ sym informed.knows.1

  released_cleans : (task : Task) (sweep : Sweep) (entry : ℕ) (point : Point) → Releases sweep → (task.target ≡ task.own → IsNotRefused sweep)
      → CleansAt (record actor { point = point }) address (next_sweep actor task sweep entry)
  released_cleans task SweepYes entry point releases decided = next_cleans address actor point task SweepYes entry (λ same. tt) decided
  released_cleans task SweepDoneYes entry point releases decided = absurd releases
  released_cleans task SweepNo entry point releases decided = next_cleans address actor point task SweepNo entry (λ same. tt) decided
  released_cleans task (SweepDoneNo index found) entry point releases decided = next_cleans address actor point task (SweepDoneNo index found) entry (λ same. tt) decided

  cleaned : (task : Task) (entry : ℕ) (point : Point) → (task.target ≡ task.own → IsFrom (entries_of actor task) entry address)
      → (task.target ≡ task.own → (entry_of actor task entry).addr ≡ address → ⊥) → CleansAt (record actor { point = point }) address (next_sweep actor task SweepDoneYes entry)
  cleaned task entry point cleans apart =
      next_cleans address actor point task SweepDoneYes entry (λ same. cleans_next SweepDoneYes (entries_of actor task) entry address (apart same) (cleans same)) (λ same. tt)

  -- By its point, what it learns, and the word after the step.
  pub cleans_on : (point : Point) (observation : Observation) → let me = record actor { point = point } in IsInformed config old me
      → ChangesNoWord old.cells (asks_at me point) observation ⊎ ChangesAWord old.cells (asks_at me point) observation
      → (world_told old me observation).cells.words actor.tenant address ≡ Dirty own.slot value
      → own_of point ≡ Some own → IsNotLast (stage point) → CleansAt me address point → CleansAt (told old me observation) address (told old me observation).point
  cleans_on (Read look) observation informed how still mine more cleans = absurd (none_some own mine)
  cleans_on ReadDoor observation informed how still mine more cleans = absurd (none_some own mine)
  cleans_on (Admit from to) observation informed how still mine more cleans = absurd (none_some own mine)
  cleans_on (ScanGate slot saw_worn) observation informed how still mine more cleans = absurd (none_some own mine)
  cleans_on (Claim slot saw_worn from to) observation informed how still mine more cleans = absurd (none_some own mine)
  cleans_on (Replied reply) observation informed how still mine more cleans = absurd (none_some own mine)
  cleans_on (FillStatus one) Won informed how still mine more cleans = tt
  cleans_on (FillCount one) Won informed how still mine more cleans = tt
  cleans_on (FillAddr one entry) Won informed how still mine more cleans = tt
  cleans_on (FillExpected one entry) Won informed how still mine more cleans = tt
  cleans_on (FillNew one entry) Won informed how still mine more cleans =
      let me = record actor { point = FillNew one entry } in
      fill_cleans address (told old me Won) me one entry
  cleans_on (Prepare one) (Filed went_well) informed how still mine more cleans = absurd (no_call how)
  cleans_on (ReadTargetStatus task) (SawStatus status) informed how still mine more cleans =
      let me = record actor { point = ReadTargetStatus task } in
      status_cleans address me (told old me (SawStatus status)).point task status (from_start task mine informed.knows)
  cleans_on (Inspect task entry) (SawWord word) informed how still mine more cleans =
      let me = record actor { point = Inspect task entry } in
      inspected_cleans address (told old me (SawWord word)) me (old.worker_states actor.worker).attempt task entry word
  cleans_on (AnnounceRow task entry number) Won informed how still mine more cleans = tt
  cleans_on (Plant task entry number) Won informed how still mine more cleans = tt
  cleans_on (Plant task entry number) Lost informed how still mine more cleans = tt
  cleans_on (ReadOtherRow task entry attempt) (SawRow row) informed how still mine more cleans = tt
  cleans_on (ConfirmAttempt task entry attempt other) (SawWord word) informed how still mine more cleans =
      let me = record actor { point = ConfirmAttempt task entry attempt other } in
      confirmed_cleans address (told old me (SawWord word)) task entry attempt other word
  cleans_on (ReadDirtyGate task entry slot number) (SawGate gate) informed how still mine more cleans =
      let me = record actor { point = ReadDirtyGate task entry slot number } in
      dirty_gate_cleans address (told old me (SawGate gate)) task entry slot number gate
  cleans_on (ConfirmDirty task entry other number) (SawWord word) informed how still mine more cleans =
      let me = record actor { point = ConfirmDirty task entry other number } in
      dirty_confirmed_cleans address (told old me (SawWord word)) task other number word
  cleans_on (DecideYes task) Won informed how still mine more cleans = tt
  cleans_on (DecideYes task) Lost informed how still mine more cleans = tt
  cleans_on (DecideNo task entry number) Won informed how still mine more cleans = tt
  cleans_on (DecideNo task entry number) Lost informed how still mine more cleans = tt
  cleans_on (CheckThenResolve task entry attempt) (SawStatus status) informed how still mine more cleans = tt
  cleans_on (Resolve task entry attempt was_open) Won informed how still mine more cleans = tt
  cleans_on (Resolve task entry attempt was_open) Lost informed how still mine more cleans = tt
  cleans_on (ReadOtherGate task other) (SawGate gate) informed how still mine more cleans =
      let me = record actor { point = ReadOtherGate task other } in
      other_gate_cleans address (told old me (SawGate gate)) task other gate
  cleans_on (PinOther task other from to) Won informed how still mine more cleans =
      let me = record actor { point = PinOther task other from to } in
      turns_cleans address (told old me Won) task other
  cleans_on (PinOther task other from to) Lost informed how still mine more cleans = tt
  cleans_on (ReadCount task) (SawNumber count) informed how still mine more cleans =
      let me = record actor { point = ReadCount task } in
      count_cleans address (told old me (SawNumber count)) task count
  cleans_on (ReadAddr task count) (SawNumber addr) informed how still mine more cleans =
      let me = record actor { point = ReadAddr task count } in
      addr_cleans address (told old me (SawNumber addr)) task count addr
  cleans_on (ReadExpected task count addr) (SawNumber expected) informed how still mine more cleans =
      let me = record actor { point = ReadExpected task count addr } in
      expected_cleans address (told old me (SawNumber expected)) task count addr expected
  cleans_on (ReadNew task count addr expected) (SawNumber number) informed how still mine more cleans =
      let me = record actor { point = ReadNew task count addr expected } in
      new_cleans address (told old me (SawNumber number)) me task count addr expected number
  cleans_on (Seal task) (Filed went_well) informed how still mine more cleans = absurd (no_call how)
  cleans_on (Settle task) (Filed went_well) informed how still mine more cleans = absurd (no_call how)
  cleans_on (Cancel task) (Filed went_well) informed how still mine more cleans = absurd (no_call how)
  cleans_on (SweepWord task sweep entry) (SawWord word) informed (inl quiet) still mine more cleans =
      let me = record actor { point = SweepWord task sweep entry } in
      swept_cleans address me (told old me (SawWord word)).point task old value (dirty_for task mine) entry sweep word cleans (not_refused task sweep mine informed.knows.decided)
      (of_word word (old.cells.words actor.tenant (entry_of actor task entry).addr) quiet)
  cleans_on (SweepWord task sweep entry) (SawWord word) informed (inr changes) still mine more cleans = absurd changes
  cleans_on (Release task sweep entry) Won informed how still mine more cleans =
      released_cleans task sweep entry (next_sweep actor task sweep entry) informed.knows.1 (not_refused task sweep mine informed.knows.0.decided)
  cleans_on (Release task sweep entry) Lost informed how still mine more cleans =
      released_cleans task sweep entry (next_sweep actor task sweep entry) informed.knows.1 (not_refused task sweep mine informed.knows.0.decided)
  cleans_on (Clean task entry number) Won informed how still mine more cleans =
      cleaned task entry (next_sweep actor task SweepDoneYes entry) cleans
      (λ same. not_given old.cells.words actor.tenant (entry_of actor task entry).addr address own.slot value number still)
  cleans_on (Clean task entry number) Lost informed (inl quiet) still mine more cleans =
      cleaned task entry (next_sweep actor task SweepDoneYes entry) cleans (not_lost task entry number informed mine quiet.2)
  cleans_on (Clean task entry number) Lost informed (inr changes) still mine more cleans = absurd (lost_won changes.0)
  cleans_on (SweepRow task sweep entry attempt) (SawRow row) informed how still mine more cleans = cleans
  cleans_on (SweepConfirm task sweep entry attempt other) (SawWord word) informed how still mine more cleans =
      let me = record actor { point = SweepConfirm task sweep entry attempt other } in
      sweep_confirmed_cleans address me (told old me (SawWord word)).point task sweep entry attempt other word cleans (not_refused task sweep mine informed.knows.0.decided)
  cleans_on (SweepResolve task sweep entry attempt) Won informed how still mine more cleans =
      let me = record actor { point = SweepResolve task sweep entry attempt } in
      next_cleans address me (told old me Won).point task sweep entry cleans (not_refused task sweep mine informed.knows.0.decided)
  cleans_on (SweepResolve task sweep entry attempt) Lost informed how still mine more cleans =
      let me = record actor { point = SweepResolve task sweep entry attempt } in
      next_cleans address me (told old me Lost).point task sweep entry cleans (not_refused task sweep mine informed.knows.0.decided)
  cleans_on (Unpin slot onward) (SawGate gate) informed how still mine more cleans =
      let me = record actor { point = Unpin slot onward } in
      unpinned_cleans address (told old me (SawGate gate)) slot onward gate cleans
  cleans_on (FreeSlot slot onward) Won informed how still mine more cleans = cleans
  cleans_on (LowerDoor onward) (SawDoor door) informed how still mine more cleans =
      let me = record actor { point = LowerDoor onward } in
      resumed_cleans address (told old me (SawDoor door)) onward
  cleans_on (GiveUp one undecided) observation informed how still mine more cleans = absurd more
  cleans_on point observation informed how still mine more cleans = cleans
