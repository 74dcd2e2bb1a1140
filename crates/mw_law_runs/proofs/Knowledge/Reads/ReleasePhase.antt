-- What a request knows after it has read, or released, a word of a decided change. Used by: ByPoint, Releases.
use Rattle.std.specs.Prelude.{ℕ, ◌≡◌, ◌≢◌, ◌<◌, ◌+◌, ◌==◌, ◌&&◌, Bool, true, false, cond, nat_lt, List, length}
use Rattle.std.proofs.Common.{refl, sym, ap, subst, ◌∙◌, inl, inr, arith}
use Rattle.std.proofs.lemmas.Bool.Decides.{nat_tests}
use Rattle.mw_words.specs.declared.jobs.Entry.{Entry}
use Rattle.mw_words.specs.declared.replies.Reply.TheVariants.{Yes as SaysYes}
use Rattle.mw_words.specs.declared.statuses.Status.{Status}
use Rattle.mw_words.specs.declared.words.Word.{Word}
use Rattle.mw_words.specs.declared.words.Word.TheVariants.{Plain, Planted, Held, Dirty}
use Rattle.mw_look.specs.Program.{same_word}
use Rattle.mw_look.proofs.RangeLaws.{either_way}
use Rattle.mw_actor.specs.declared.points.Attempt.{Attempt}
use Rattle.mw_actor.specs.declared.points.Point.TheVariants.{SweepWord, Release, Clean, SweepResolve}
use Rattle.mw_actor.specs.declared.points.Slot.{Slot}
use Rattle.mw_actor.specs.declared.points.Sweep.{Sweep}
use Rattle.mw_actor.specs.declared.points.Sweep.TheVariants.{Yes as SweepYes, DoneYes as SweepDoneYes, No as SweepNo, DoneNo as SweepDoneNo}
use Rattle.mw_actor.specs.declared.points.Task.{Task}
use Rattle.mw_actor.specs.ActorState.{ActorState, entries_of, entry_at, entry_of, same_slot, planted}
use Rattle.mw_actor.specs.RequestEnds.{refusal}
use Rattle.mw_law_runs.proofs.Requests.StageLaws.{both_same}
use Rattle.mw_actor.specs.ReleasePhase.{sweep_over, next_sweep, attempt_swept, swept, sweep_confirmed}
use Rattle.mw_world.specs.declared.config.Config.{Config}
use Rattle.mw_world.specs.declared.step_labels.Phase.TheVariants.{Fresh, Acquired}
use Rattle.mw_world.specs.Definition.History.{new}
use Rattle.mw_world.specs.Claim.Invariant.{IsMade}
use Rattle.mw_world.specs.Definition.State.{State}
use Rattle.mw_law_runs.specs.Moves.Guards.{IsLive}
use Rattle.mw_law_runs.specs.Moves.Memory.{Memory}
use Rattle.mw_law_runs.specs.Knowledge.Facts.{WorksOn, phase_at, IsDecidedAs, IsSweptUpTo, Sweeps, Releases, LooksInto, IsOver, IsForChangeAt}
use Rattle.mw_law_runs.specs.Knowledge.Points.{Knows, without_point}
use Rattle.mw_law_runs.proofs.Knowledge.Reads.Memory.{was_let_go, new_at}
use Rattle.mw_law_runs.proofs.Knowledge.Reads.TaskChanges.{finishes_knows}
use Rattle.mw_law_runs.proofs.Knowledge.Reads.Inspection.{and_here, one_more, no_more, word_at, as_many}

-- a made change, as the first round over its words expects it
made_so : (fate : Status) → IsDecidedAs fate SweepYes → IsMade fate
made_so fate (inl is) = inr (inl is)
made_so fate (inr is) = inr (inr is)

-- if the words before an entry are released, and the entry's word is, then the words before the next entry are
pub swept_more : (state : State) (target : Slot) (sweep : Sweep) (entry : ℕ) → IsSweptUpTo state target sweep entry
    → (sweep ≡ SweepYes → (phase_at state target entry ≢ Fresh) × (phase_at state target entry ≢ Acquired)) → IsSweptUpTo state target sweep (entry + 1)
swept_more state target SweepYes entry before here = record {
  touched = and_here (λ (index : ℕ). phase_at state target index ≢ Fresh) entry before.touched (here refl).0;
  held_no_more = and_here (λ (index : ℕ). phase_at state target index ≢ Acquired) entry before.held_no_more (here refl).1;
}
swept_more state target SweepDoneYes entry before here = tt
swept_more state target SweepNo entry before here = tt
swept_more state target (SweepDoneNo index value) entry before here = tt

module _ (state : State) (actor : ActorState) (task : Task) where
  -- a round is over
  sweep_over_knows : (sweep : Sweep) → WorksOn state (without_point actor) task → IsDecidedAs (state.history.fate task.target.slot task.target.seq) sweep
      → IsSweptUpTo state task.target sweep (length (entries_of actor task)) → Knows state actor (sweep_over actor task sweep)
  sweep_over_knows SweepYes on decided swept = (on, decided, swept)
  sweep_over_knows SweepDoneYes on decided swept =
      finishes_knows state actor task SaysYes on.at_work (subst (λ (fate : Status). IsOver (without_point actor) fate SaysYes) (sym decided) refl)
  sweep_over_knows SweepNo on decided swept = (on, decided)
  sweep_over_knows (SweepDoneNo entry value) on decided swept =
      finishes_knows state actor task (refusal actor entry value) on.at_work
      (subst (λ (fate : Status). IsOver (without_point actor) fate (refusal actor entry value)) (sym decided) refl)

  -- the word of an entry is released
  pub next_sweep_knows : (sweep : Sweep) (entry : ℕ) → Sweeps state (without_point actor) task sweep entry
      → (sweep ≡ SweepYes → (phase_at state task.target entry ≢ Fresh) × (phase_at state task.target entry ≢ Acquired)) → Knows state actor (next_sweep actor task sweep entry)
  next_sweep_knows sweep entry at here =
      either_way (Knows state actor) (nat_lt (entry + 1) (length (entries_of actor task))) (SweepWord task sweep (entry + 1)) (sweep_over actor task sweep)
      (λ more. record { at = record { works = at.at.works; within = one_more entry (length (entries_of actor task)) more }; decided = at.decided; swept = further })
      (λ last. sweep_over_knows sweep at.at.works at.decided (subst (IsSweptUpTo state task.target sweep) (sym (no_more entry (length (entries_of actor task)) at.at.within last)) further))
    where
      further : IsSweptUpTo state task.target sweep (entry + 1)
      further = swept_more state task.target sweep entry at.swept here

-- the rounds in which no word of a made change gets its new value
pub not_yes : (sweep : Sweep) → LooksInto sweep → sweep ≢ SweepYes
not_yes SweepYes looks is = looks
not_yes SweepDoneYes looks is = cc
not_yes SweepNo looks is = cc
not_yes (SweepDoneNo entry value) looks is = cc

module _ (config : Config) (state : State) (memory : Memory config state) (actor : ActorState) (task : Task) (entry : ℕ) where
  -- the word of a made change isn't held for it
  pub here_let_go : (sweep : Sweep) → Sweeps state (without_point actor) task sweep entry
      → state.cells.words actor.tenant (entry_of actor task entry).addr ≢ Held task.target.slot task.target.seq
      → sweep ≡ SweepYes → (phase_at state task.target entry ≢ Fresh) × (phase_at state task.target entry ≢ Acquired)
  here_let_go sweep at not_held is_yes =
      was_let_go config state memory actor.tenant task.target at.at.works.at_work.target entry
      (subst (λ (entries : ℕ). entry < entries) (as_many config state memory actor task at.at.works) at.at.within)
      (made_so (state.history.fate task.target.slot task.target.seq) (subst (λ (one : Sweep). IsDecidedAs (state.history.fate task.target.slot task.target.seq) one) is_yes at.decided))
      (subst (λ (addr : ℕ). state.cells.words actor.tenant addr ≢ Held task.target.slot task.target.seq) (word_at config state memory actor task at.at.works entry) not_held)

  -- the word isn't held for the target
  goes_on : (sweep : Sweep) (word : Word) → Sweeps state (without_point actor) task sweep entry → state.cells.words actor.tenant (entry_of actor task entry).addr ≡ word
      → word ≢ Held task.target.slot task.target.seq → Knows state actor (next_sweep actor task sweep entry)
  goes_on sweep word at is apart = next_sweep_knows state actor task sweep entry at (here_let_go sweep at (λ held. apart (sym is ∙ held)))

  release_knows : (sweep : Sweep) (slot seq : ℕ) → Releases sweep → Sweeps state (without_point actor) task sweep entry
      → state.cells.words actor.tenant (entry_of actor task entry).addr ≡ Held slot seq
      → Knows state actor (cond (same_slot (record { slot = slot; seq = seq }) task.target) (Release task sweep entry) (next_sweep actor task sweep entry))
  release_knows sweep slot seq releases at is =
      either_way (Knows state actor) (same_slot (record { slot = slot; seq = seq }) task.target) (Release task sweep entry) (next_sweep actor task sweep entry)
      (λ same. (at, releases)) (λ apart. goes_on sweep (Held slot seq) at is (λ held. others held apart))
    where
      others : Held slot seq ≡ Held task.target.slot task.target.seq → same_slot (record { slot = slot; seq = seq }) task.target ≡ false → ⊥
      others held apart = grind (arith, nat_tests, held, apart)

  planted_knows : (sweep : Sweep) (worker number : ℕ) → LooksInto sweep → Sweeps state (without_point actor) task sweep entry
      → state.cells.words actor.tenant (entry_of actor task entry).addr ≡ Planted worker number → Knows state actor (attempt_swept actor task sweep entry (record { worker = worker; number = number }))
  planted_knows SweepYes worker number looks at is = absurd looks
  planted_knows SweepDoneYes worker number looks at is = (at, tt, (memory.references.planted actor.tenant (entry_of actor task entry).addr worker number is).number)
  planted_knows SweepNo worker number looks at is = (at, tt, (memory.references.planted actor.tenant (entry_of actor task entry).addr worker number is).number)
  planted_knows (SweepDoneNo index value) worker number looks at is = (at, tt, (memory.references.planted actor.tenant (entry_of actor task entry).addr worker number is).number)

  -- a word that the target has written has its new value
  clean_knows : (slot value : ℕ) → IsLive state task.target → Sweeps state (without_point actor) task SweepDoneYes entry
      → state.cells.words actor.tenant (entry_of actor task entry).addr ≡ Dirty slot value
      → Knows state actor (cond (slot == task.target.slot) (Clean task entry value) (next_sweep actor task SweepDoneYes entry))
  clean_knows slot value live at is =
      either_way (Knows state actor) (slot == task.target.slot) (Clean task entry value) (next_sweep actor task SweepDoneYes entry)
      (λ same. (at, new_value (same_number same))) (λ apart. goes_on SweepDoneYes (Dirty slot value) at is (λ held. not_both held))
    where
      not_both : Dirty slot value ≡ Held task.target.slot task.target.seq → ⊥
      not_both held = cc

      same_number : (slot == task.target.slot) ≡ true → slot ≡ task.target.slot
      same_number same = grind (arith, nat_tests, same)

      new_value : slot ≡ task.target.slot → value ≡ (entry_of actor task entry).new
      new_value same =
          let addr = (entry_of actor task entry).addr in
          let here = subst (λ (one : ℕ). state.cells.words actor.tenant addr ≡ Dirty one value) same is in
          let written = memory.references.dirty actor.tenant addr task.target.slot value here in
          let within = subst (λ (entries : ℕ). entry < entries) (as_many config state memory actor task at.at.works) at.at.within in
          sym (subst (λ (seq : ℕ). new state.history task.target.slot seq addr ≡ value) live.seq written.new_value)
          ∙ ap (λ (there : ℕ). new state.history task.target.slot task.target.seq there) (word_at config state memory actor task at.at.works entry)
          ∙ new_at config state memory actor.tenant task.target at.at.works.at_work.target entry within
          ∙ ap (λ (entries : List Entry). (entry_at entries entry).new) (sym at.at.works.entries)

  pub swept_knows : (sweep : Sweep) (word : Word) → IsLive state task.target → Sweeps state (without_point actor) task sweep entry
      → state.cells.words actor.tenant (entry_of actor task entry).addr ≡ word → Knows state actor (swept actor task sweep entry word)
  swept_knows sweep (Plain value) live at is = goes_on sweep (Plain value) at is (λ held. cc)
  swept_knows SweepYes (Planted worker number) live at is = goes_on SweepYes (Planted worker number) at is (λ held. cc)
  swept_knows SweepYes (Held slot seq) live at is = release_knows SweepYes slot seq tt at is
  swept_knows SweepYes (Dirty slot value) live at is = goes_on SweepYes (Dirty slot value) at is (λ held. cc)
  swept_knows SweepDoneYes (Planted worker number) live at is = planted_knows SweepDoneYes worker number tt at is
  swept_knows SweepDoneYes (Held slot seq) live at is = next_sweep_knows state actor task SweepDoneYes entry at (λ is_yes. cc)
  swept_knows SweepDoneYes (Dirty slot value) live at is = clean_knows slot value live at is
  swept_knows SweepNo (Planted worker number) live at is = planted_knows SweepNo worker number tt at is
  swept_knows SweepNo (Held slot seq) live at is = release_knows SweepNo slot seq tt at is
  swept_knows SweepNo (Dirty slot value) live at is = goes_on SweepNo (Dirty slot value) at is (λ held. cc)
  swept_knows (SweepDoneNo index found) (Planted worker number) live at is = planted_knows (SweepDoneNo index found) worker number tt at is
  swept_knows (SweepDoneNo index found) (Held slot seq) live at is = release_knows (SweepDoneNo index found) slot seq tt at is
  swept_knows (SweepDoneNo index found) (Dirty slot value) live at is = goes_on (SweepDoneNo index found) (Dirty slot value) at is (λ held. cc)

  pub sweep_confirmed_knows : (sweep : Sweep) (attempt : Attempt) (other : Slot) (word : Word) → Sweeps state (without_point actor) task sweep entry → LooksInto sweep
      → IsForChangeAt state (without_point actor) task entry attempt other → Knows state actor (sweep_confirmed actor task sweep entry attempt other word)
  sweep_confirmed_knows sweep attempt other word at looks names =
      either_way (Knows state actor) (same_word word (planted attempt) && same_slot other task.target) (SweepResolve task sweep entry attempt) (next_sweep actor task sweep entry)
      (λ same. (at, looks, for_target (both_same other.slot other.seq task.target.slot task.target.seq (second (same_word word (planted attempt)) (same_slot other task.target) same))))
      (λ was_released. next_sweep_knows state actor task sweep entry at (λ is_yes. absurd (not_yes sweep looks is_yes)))
    where
      second : (one two : Bool) → (one && two) ≡ true → two ≡ true
      second true two is = is
      second false two is = absurd (grind (arith, is))

      for_target : (other.slot ≡ task.target.slot) × (other.seq ≡ task.target.seq) → IsForChangeAt state (without_point actor) task entry attempt task.target
      for_target equal = record { given = names.given; slot = λ stands. names.slot stands ∙ equal.0; seq = λ stands. names.seq stands ∙ equal.1 }
