-- What a request knows after it has read its target's status or, if the target is open, one of its words.
-- Used by: CallGuards, ByPoint, ReleasePhase, among others.
use Rattle.std.specs.Prelude.{ℕ, ◌≡◌, ◌<◌, ◌≤◌, ◌+◌, ◌==◌, Bool, true, false, nat_lt, List, length}
use Rattle.std.proofs.Common.{refl, sym, ap, subst, ◌∙◌, inl, arith}
use Rattle.std.proofs.lemmas.Bool.Decides.{nat_tests}
use Rattle.mw_words.specs.declared.jobs.Entry.{Entry}
use Rattle.mw_words.specs.declared.limits.TheConstants.{WORN_NUMBER}
use Rattle.mw_words.specs.declared.replies.Reply.TheVariants.{Worn as SaysWorn}
use Rattle.mw_words.specs.declared.statuses.Status.{Status}
use Rattle.mw_words.specs.declared.statuses.Status.TheVariants.{Draft, Open, YesDirty, Yes, No, DoneYes, DoneNo}
use Rattle.mw_words.specs.declared.words.Word.{Word}
use Rattle.mw_words.specs.declared.words.Word.TheVariants.{Plain, Planted, Held, Dirty}
use Rattle.mw_look.specs.Program.{same_word}
use Rattle.mw_look.proofs.RangeLaws.{either_way}
use Rattle.mw_actor.specs.declared.points.Attempt.{Attempt}
use Rattle.mw_actor.specs.declared.points.Point.TheVariants.{ReadTargetStatus, Inspect, AnnounceRow, ReadDirtyGate, DecideYes, DecideNo, CheckThenResolve}
use Rattle.mw_actor.specs.declared.points.Slot.{Slot}
use Rattle.mw_actor.specs.declared.points.Sweep.{Sweep}
use Rattle.mw_actor.specs.declared.points.Sweep.TheVariants.{Yes as SweepYes, DoneYes as SweepDoneYes, No as SweepNo, DoneNo as SweepDoneNo}
use Rattle.mw_actor.specs.declared.points.Task.{Task}
use Rattle.mw_actor.specs.ActorState.{ActorState, entries_of, entry_at, entry_of, same_slot, planted}
use Rattle.mw_actor.specs.RequestEnds.{gives_up}
use Rattle.mw_actor.specs.Help.{helps}
use Rattle.mw_actor.specs.Inspection.{status_read, next_word, attempts, dirty_seen, inspected, attempt_met, attempt_confirmed, dirty_confirmed}
use Rattle.mw_law_runs.proofs.Requests.StageLaws.{both_same}
use Rattle.mw_world.specs.declared.config.Config.{Config}
use Rattle.mw_world.specs.declared.step_labels.Phase.TheVariants.{Acquired}
use Rattle.mw_world.specs.Definition.History.{NoAttempt, AttemptIn}
use Rattle.mw_world.specs.Claim.Invariant.{IsRefused}
use Rattle.mw_world.specs.Definition.State.{State}
use Rattle.mw_law_runs.specs.Moves.Memory.{Memory}
use Rattle.mw_law_runs.specs.Knowledge.Facts.{MayBeMet, WorksOn, AtEntry, HoldsUpTo, phase_at, IsDecidedAs, IsSweptUpTo, Sweeps, IsAnothers, IsForChangeAt}
use Rattle.mw_law_runs.specs.Knowledge.Points.{Knows, without_point}
use Rattle.mw_law_runs.proofs.Knowledge.Reads.Memory.{has_entry, held_met, planted_met, dirty_met}
use Rattle.mw_law_runs.proofs.Knowledge.Reads.TaskChanges.{helps_knows, turns_knows, gives_up_knows, own_known}

-- what holds below an index and at it holds below the next one
pub and_here : (P : ℕ → Type 0) (entry : ℕ) → ((index : ℕ) → index < entry → P index) → P entry → (index : ℕ) → index < entry + 1 → P index
and_here P entry before here index within = by_test (nat_lt index entry) refl
  where
    by_test : (b : Bool) → nat_lt index entry ≡ b → P index
    by_test true is = before index (grind (arith, nat_tests, is))
    by_test false is = subst P (grind (arith, nat_tests, is, within)) here

pub no_more : (entry entries : ℕ) → entry < entries → nat_lt (entry + 1) entries ≡ false → entries ≡ entry + 1
no_more entry entries within is = grind (arith, nat_tests, within, is)

pub one_more : (entry entries : ℕ) → nat_lt (entry + 1) entries ≡ true → entry + 1 < entries
one_more entry entries is = grind (arith, nat_tests, is)

-- the words are the same if the test says so
same_planted : (word : Word) (attempt : Attempt) → same_word word (planted attempt) ≡ true → word ≡ Planted attempt.worker attempt.number
same_planted (Plain value) attempt is = grind (arith, is)
same_planted (Held slot seq) attempt is = grind (arith, is)
same_planted (Dirty slot value) attempt is = grind (arith, is)
same_planted (Planted worker number) attempt is = grind (arith, nat_tests, is)

same_dirty : (word : Word) (slot value : ℕ) → same_word word (Dirty slot value) ≡ true → word ≡ Dirty slot value
same_dirty (Plain number) slot value is = grind (arith, is)
same_dirty (Held other seq) slot value is = grind (arith, is)
same_dirty (Planted worker number) slot value is = grind (arith, is)
same_dirty (Dirty other number) slot value is = grind (arith, nat_tests, is)

module _ (config : Config) (state : State) (memory : Memory config state) (actor : ActorState) (task : Task) where
  -- the entries of the target
  pub word_at : (on : WorksOn state (without_point actor) task) (entry : ℕ) → (entry_of actor task entry).addr ≡ (entry_at (state.history.change task.target.slot task.target.seq) entry).addr
  word_at on entry = ap (λ (entries : List Entry). (entry_at entries entry).addr) on.entries

  pub as_many : (on : WorksOn state (without_point actor) task) → length (entries_of actor task) ≡ length (state.history.change task.target.slot task.target.seq)
  as_many on = ap (λ (entries : List Entry). length entries) on.entries

  pub at_first : WorksOn state (without_point actor) task → AtEntry state (without_point actor) task 0
  at_first on = record { works = on; within = omega (arith, as_many on, has_entry config state memory actor.tenant task.target on.at_work.target) }

  first_sweep : (sweep : Sweep) → WorksOn state (without_point actor) task → IsDecidedAs (state.history.fate task.target.slot task.target.seq) sweep → Sweeps state (without_point actor) task sweep 0
  first_sweep sweep on decided = record { at = at_first on; decided = decided; swept = nothing_yet sweep }
    where
      nothing_yet : (sweep : Sweep) → IsSweptUpTo state task.target sweep 0
      nothing_yet SweepYes = record { touched = λ index within. absurd (omega (arith, within)); held_no_more = λ index within. absurd (omega (arith, within)) }
      nothing_yet SweepDoneYes = tt
      nothing_yet SweepNo = tt
      nothing_yet (SweepDoneNo entry value) = tt

  -- by the status
  pub status_knows : (status : Status) → WorksOn state (without_point actor) task → state.history.fate task.target.slot task.target.seq ≡ status → Knows state actor (status_read task status)
  status_knows Draft on is = on
  status_knows Open on is = (at_first on, λ is_open index within. absurd (omega (arith, within)))
  status_knows YesDirty on is = (on, inl is)
  status_knows Yes on is = first_sweep SweepYes on (inl is)
  status_knows DoneYes on is = first_sweep SweepDoneYes on is
  status_knows (No entry value) on is = first_sweep SweepNo on (subst IsRefused (sym is) tt)
  status_knows (DoneNo entry value) on is = first_sweep (SweepDoneNo entry value) on is

  -- by a word
  module _ (entry : ℕ) (at : AtEntry state (without_point actor) task entry) where
    held_here : state.cells.words actor.tenant (entry_of actor task entry).addr ≡ Held task.target.slot task.target.seq → phase_at state task.target entry ≡ Acquired
    held_here is =
        ap (λ (addr : ℕ). state.history.phase task.target.slot task.target.seq addr) (sym (word_at at.works entry))
        ∙ (memory.references.held actor.tenant (entry_of actor task entry).addr task.target.slot task.target.seq is).acquired

    next_word_knows : HoldsUpTo state task.target entry → state.cells.words actor.tenant (entry_of actor task entry).addr ≡ Held task.target.slot task.target.seq
        → Knows state actor (next_word actor task entry)
    next_word_knows holds is =
        either_way (Knows state actor) (nat_lt (entry + 1) (length (entries_of actor task))) (Inspect task (entry + 1)) (DecideYes task)
        (λ more. (record { works = at.works; within = one_more entry (length (entries_of actor task)) more }, up_to))
        (λ last. (at.works, subst (HoldsUpTo state task.target) (sym (no_more entry (length (entries_of actor task)) at.within last)) up_to))
      where
        up_to : HoldsUpTo state task.target (entry + 1)
        up_to is_open = and_here (λ (index : ℕ). phase_at state task.target index ≡ Acquired) entry (holds is_open) (held_here is)

    attempts_knows : Knows state actor (attempts task entry (state.worker_states actor.worker).attempt)
    attempts_knows =
        either_way (Knows state actor) (nat_lt (state.worker_states actor.worker).attempt WORN_NUMBER) (AnnounceRow task entry (state.worker_states actor.worker).attempt) (gives_up task SaysWorn)
        (λ low. (at, refl)) (λ worn. gives_up_knows state actor task SaysWorn at.works.at_work)

    dirty_seen_knows : (slot value : ℕ) → Knows state actor (dirty_seen task entry slot value)
    dirty_seen_knows slot value =
        either_way (Knows state actor) (slot == task.target.slot) (ReadTargetStatus task) _
        (λ same. at.works)
        (λ apart. either_way (Knows state actor) (slot == task.own.slot) (helps task task.own) (ReadDirtyGate task entry slot value)
        (λ own. own_helps) (λ other. at))
      where
        itself : (own : Slot) → same_slot own own ≡ false → ⊥
        itself own is = grind (arith, nat_tests, is)

        own_helps : Knows state actor (helps task task.own)
        own_helps =
            either_way (Knows state actor) (same_slot task.own task.own) _ _
            (λ is. turns_knows state actor task task.own at.works.at_work (own_known state actor task.own at.works.at_work.own))
            (λ is. absurd (itself task.own is))

    -- the word has the expected value or another one
    decides_not : (value : ℕ) → (value == (entry_of actor task entry).expected) ≡ false → Knows state actor (DecideNo task entry value)
    decides_not value is = (at, grind (arith, nat_tests, is))

    pub inspected_knows : (word : Word) → HoldsUpTo state task.target entry → state.history.standing actor.worker ≡ NoAttempt
        → state.cells.words actor.tenant (entry_of actor task entry).addr ≡ word → Knows state actor (inspected actor (state.worker_states actor.worker).attempt task entry word)
    inspected_knows (Plain value) holds rests is =
        either_way (Knows state actor) (value == (entry_of actor task entry).expected) (attempts task entry (state.worker_states actor.worker).attempt) (DecideNo task entry value)
        (λ same. attempts_knows) (λ other. decides_not value other)
    inspected_knows (Dirty slot value) holds rests is =
        either_way (Knows state actor) (value == (entry_of actor task entry).expected) (dirty_seen task entry slot value) (DecideNo task entry value)
        (λ same. dirty_seen_knows slot value) (λ other. decides_not value other)
    inspected_knows (Held slot seq) holds rests is =
        let other : Slot = record { slot = slot; seq = seq } in
        either_way (Knows state actor) (same_slot other task.target) (next_word actor task entry) (helps task other)
        (λ same. next_word_knows holds (is ∙ for_target same)) (λ apart. helps_knows state actor task other at.works (held_met config state memory actor.tenant (entry_of actor task entry).addr slot seq is))
      where
        for_target : same_slot (record { slot = slot; seq = seq }) task.target ≡ true → Held slot seq ≡ Held task.target.slot task.target.seq
        for_target same = grind (arith, nat_tests, both_same slot seq task.target.slot task.target.seq same)
    inspected_knows (Planted worker number) holds rests is =
        let planted = memory.references.planted actor.tenant (entry_of actor task entry).addr worker number is in
        (at, record { given = planted.number; apart = λ same. rests_not (subst (λ (by : ℕ). state.history.standing by ≡ AttemptIn actor.tenant (entry_of actor task entry).addr number) same planted.stands) rests })
      where
        rests_not : {a b n : ℕ} → state.history.standing actor.worker ≡ AttemptIn a b n → state.history.standing actor.worker ≡ NoAttempt → ⊥
        rests_not one two = cc

    -- an attempt that is still in the word is for the change that its worker's row names
    pub confirmed_knows : (attempt : Attempt) (other : Slot) (word : Word) → IsAnothers state (without_point actor) attempt → IsForChangeAt state (without_point actor) task entry attempt other
        → state.cells.words actor.tenant (entry_of actor task entry).addr ≡ word → Knows state actor (attempt_confirmed task entry attempt other word)
    confirmed_knows attempt other word anothers names is =
        either_way (Knows state actor) (same_word word (planted attempt)) (attempt_met task entry attempt other) (ReadTargetStatus task)
        (λ same. either_way (Knows state actor) (same_slot other task.target) (CheckThenResolve task entry attempt) (helps task other)
        (λ target. (at, for_target target)) (λ apart. helps_knows state actor task other at.works (met (is ∙ same_planted word attempt same))))
        (λ was_released. at.works)
      where
        for_target : same_slot other task.target ≡ true → IsForChangeAt state (without_point actor) task entry attempt task.target
        for_target same =
            let equal = both_same other.slot other.seq task.target.slot task.target.seq same in
            record { given = names.given; slot = λ stands. names.slot stands ∙ equal.0; seq = λ stands. names.seq stands ∙ equal.1 }

        met : state.cells.words actor.tenant (entry_of actor task entry).addr ≡ Planted attempt.worker attempt.number → MayBeMet state actor.tenant other
        met stands =
            subst (λ (slot : ℕ). MayBeMet state actor.tenant (record { slot = slot; seq = other.seq })) (names.slot stands)
            (subst (λ (seq : ℕ). MayBeMet state actor.tenant (record { slot = (state.cells.rows attempt.worker).slot; seq = seq })) (names.seq stands)
            (planted_met config state memory actor.tenant (entry_of actor task entry).addr attempt.worker attempt.number stands))

    pub dirty_knows : (other : Slot) (value : ℕ) (word : Word) → other.seq ≤ (state.cells.gates other.slot).seq
        → state.cells.words actor.tenant (entry_of actor task entry).addr ≡ word → Knows state actor (dirty_confirmed task other value word)
    dirty_knows other value word reached is =
        either_way (Knows state actor) (same_word word (Dirty other.slot value)) (helps task other) (ReadTargetStatus task)
        (λ same. helps_knows state actor task other at.works
        (dirty_met config state memory actor.tenant (entry_of actor task entry).addr other.slot value other.seq (is ∙ same_dirty word other.slot value same) reached))
        (λ was_released. at.works)
