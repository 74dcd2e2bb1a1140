-- At the few points where a worker's attempt is in a word, its new intent (that attempt, or a permission to hold the word)
-- has its precondition. Used by: ReadGuards, UpdateGuards.
use Rattle.std.specs.Prelude.{ℕ, ◌≡◌, ◌≢◌, ◌<◌, ◌==◌, Bool, true, false, if◌then◌else◌}
use Rattle.std.proofs.Common.{refl, sym, ap, subst, ◌∙◌, arith}
use Rattle.std.proofs.lemmas.Bool.Decides.{nat_tests}
use Rattle.mw_words.specs.declared.statuses.Status.{Status}
use Rattle.mw_words.specs.declared.statuses.Status.TheVariants.{Draft, Open, YesDirty, Yes, No, DoneYes, DoneNo}
use Rattle.mw_words.specs.declared.words.Word.{Word}
use Rattle.mw_words.specs.declared.words.Word.TheVariants.{Plain, Planted, Held}
use Rattle.mw_look.specs.Program.{same_word}
use Rattle.mw_look.proofs.RangeLaws.{either_way}
use Rattle.mw_actor.specs.declared.points.Attempt.{Attempt}
use Rattle.mw_actor.specs.declared.points.Point.{Point}
use Rattle.mw_actor.specs.declared.points.Point.TheVariants.{ReadTargetStatus, CheckThenResolve}
use Rattle.mw_actor.specs.declared.points.Slot.{Slot}
use Rattle.mw_actor.specs.declared.points.Task.{Task}
use Rattle.mw_actor.specs.ActorState.{ActorState, entry_of, planted, same_slot}
use Rattle.mw_actor.specs.Help.{helps}
use Rattle.mw_actor.specs.Inspection.{attempt_met, attempt_confirmed, is_open}
use Rattle.mw_world.specs.Maps.{upd_two}
use Rattle.mw_world.specs.declared.config.Config.{Config}
use Rattle.mw_world.specs.Definition.History.{StandingAttempt, NoAttempt, AttemptIn, HoldPermission, Idle, Permitted, own_attempt, permitted_if, standing_at, permission_at}
use Rattle.mw_world.specs.Definition.State.{State}
use Rattle.mw_law_runs.specs.Moves.Guards.{IsLive, MaySetIntent, MayPermit}
use Rattle.mw_law_runs.specs.Moves.Memory.{Memory}
use Rattle.mw_law_runs.specs.Moves.Moves.{Plant, made}
use Rattle.mw_law_runs.specs.Knowledge.Facts.{AtEntry, IsForChangeAt}
use Rattle.mw_law_runs.specs.Knowledge.Points.{without_point}
use Rattle.mw_law_runs.proofs.Knowledge.Guards.Memory.{status_told, word_here}
use Rattle.mw_law_runs.proofs.Knowledge.Guards.IntentGuards.{idles_not, helps_rest}

if_apart : (worker by : ℕ) (one other : StandingAttempt) → worker ≢ by → (if worker == by then one else other) ≡ other
if_apart worker by one other apart = grind (arith, nat_tests, apart)

pub if_same : (by : ℕ) (one other : StandingAttempt) → (if by == by then one else other) ≡ one
if_same by one other = grind (arith, nat_tests)

stands_same : (tenant address number other there count : ℕ) → AttemptIn tenant address number ≡ AttemptIn other there count → number ≡ count
stands_same tenant address number other there count e = cc

if_mine : (worker by tenant address number other there count : ℕ) → (if worker == by then AttemptIn tenant address number else NoAttempt) ≡ AttemptIn other there count
    → (worker ≡ by) × (tenant ≡ other) × (address ≡ there) × (number ≡ count)
if_mine worker by tenant address number other there count e = by_test (worker == by) refl e
  where
    no_more : NoAttempt ≡ AttemptIn other there count → ⊥
    no_more same = cc

    by_test : (b : Bool) → (worker == by) ≡ b → (if b then AttemptIn tenant address number else NoAttempt) ≡ AttemptIn other there count
        → (worker ≡ by) × (tenant ≡ other) × (address ≡ there) × (number ≡ count)
    by_test true is same = (grind (arith, nat_tests, is), cc, cc, cc)
    by_test false is same = absurd (no_more same)

pub plain_not : (value worker number : ℕ) → Plain value ≡ Planted worker number → ⊥
plain_not value worker number e = cc

pub held_not : (slot seq worker number : ℕ) → Held slot seq ≡ Planted worker number → ⊥
held_not slot seq worker number e = cc

pub written : (words : ℕ → ℕ → Word) (tenant address : ℕ) (word : Word) → upd_two words tenant address word tenant address ≡ word
written words tenant address word = grind (arith, nat_tests)

-- An attempt that is the worker's own is in this word only. If another value is in the word, the worker's attempt is gone.
module _ (words : ℕ → ℕ → Word) (by tenant address worker number : ℕ) (standing : StandingAttempt) (is : standing ≡ (if worker == by then AttemptIn tenant address number else NoAttempt)) where
  pub gone_here : words tenant address ≢ Planted worker number → (other there count : ℕ) → standing ≡ AttemptIn other there count → words other there ≢ Planted by count
  gone_here was_released other there count stands found =
      let same = if_mine worker by tenant address number other there count (sym is ∙ stands) in
      was_released
      (ap (λ (t : ℕ). words t address) same.1 ∙ ap (λ (a : ℕ). words other a) same.2 ∙ found ∙ ap (λ (w : ℕ). Planted w count) (sym same.0) ∙ ap (λ (n : ℕ). Planted worker n) (sym same.3))

-- After its exchange has won, a worker may have its new attempt as the standing one.
pub may_stand : (state : State) (by tenant address number : ℕ) (standing : StandingAttempt) → standing ≡ AttemptIn tenant address number
    → state.history.fate (state.cells.rows by).slot (state.cells.rows by).seq ≢ Draft → MaySetIntent (made state by (Plant tenant address number)) by standing Idle
may_stand state by tenant address number standing now ready = record {
  still = λ other there count stands found. now ∙ made_so other there count stands;
  was_given = λ other there count is. given other there count (sym now ∙ is);
  ready = λ other there count is. ready;
  permissions = λ other there worker count slot seq is. absurd (idles_not is);
}
  where
    made_so : (other there count : ℕ) → (made state by (Plant tenant address number)).history.standing by ≡ AttemptIn other there count
        → AttemptIn tenant address number ≡ AttemptIn other there count
    made_so other there count is = sym (if_same by (AttemptIn tenant address number) (state.history.standing by)) ∙ is

    given : (other there count : ℕ) → AttemptIn tenant address number ≡ AttemptIn other there count → count < ((made state by (Plant tenant address number)).worker_states by).attempt
    given other there count is = grind (arith, nat_tests, stands_same tenant address number other there count is)

-- The worker may get this permission.
abbrev MayPermitAs : State → HoldPermission → Type 0
MayPermitAs state Idle = Unit {0}
MayPermitAs state (Permitted tenant address worker number slot seq) = MayPermit state tenant address worker number (record { slot = slot; seq = seq })

module _ (config : Config) (state : State) (memory : Memory config state) (actor : ActorState) (task : Task) (entry : ℕ) (at : AtEntry state (without_point actor) task entry) (attempt : Attempt) where
  -- a worker keeps its own attempt, and gets the permission to hold the word for the change if it finds the change open
  pub may_resolve : (status : Status) → IsLive state task.target → state.cells.statuses task.target.slot ≡ status
      → IsForChangeAt state (without_point actor) task entry attempt task.target
      → state.history.standing actor.worker ≡ own_attempt actor task entry attempt
      → MaySetIntent state actor.worker (own_attempt actor task entry attempt) (permitted_if (is_open status) actor task entry attempt)
  may_resolve status live is names stands = record {
    still = λ tenant address number was found. sym stands ∙ was;
    was_given = λ tenant address number now. memory.attempts.numbers actor.worker tenant address number (stands ∙ now);
    ready = λ tenant address number now. memory.attempts.ready actor.worker tenant address number (stands ∙ now);
    permissions = λ tenant address worker number slot seq now. subst (MayPermitAs state) now (permissions status is);
  }
    where
      permissions : (status : Status) → state.cells.statuses task.target.slot ≡ status → MayPermitAs state (permitted_if (is_open status) actor task entry attempt)
      permissions Open is = record {
        change = word_here config state memory actor task entry at;
        is_open = sym (status_told config state memory actor.tenant task.target live at.works.at_work.target) ∙ is;
        was_given = names.given;
        row_slot = names.slot;
        row_seq = names.seq;
      }
      permissions Draft is = tt
      permissions YesDirty is = tt
      permissions Yes is = tt
      permissions (No at value) is = tt
      permissions DoneYes is = tt
      permissions (DoneNo at value) is = tt

-- the precondition of the intent at this point holds
abbrev Poses : State → ℕ → ActorState → Point → Type 0
Poses state by who point = MaySetIntent state by (standing_at who point) (permission_at who point)

-- another worker's attempt is not the worker's own
pub confirmed_rests : (state : State) (by : ℕ) (who actor : ActorState) (task : Task) (entry : ℕ) (attempt : Attempt) (other : Slot) (word : Word)
    → MaySetIntent state by NoAttempt Idle → attempt.worker ≢ who.worker
    → MaySetIntent state by (standing_at who (attempt_confirmed task entry attempt other word)) (permission_at who (attempt_confirmed task entry attempt other word))
confirmed_rests state by who actor task entry attempt other word rest apart =
    either_way (Poses state by who) (same_word word (planted attempt)) (attempt_met task entry attempt other) (ReadTargetStatus task)
    (λ same. either_way (Poses state by who) (same_slot other task.target) (CheckThenResolve task entry attempt) (helps task other) (λ target. anothers)
    (λ elsewhere. helps_rest state by rest who actor task other))
    (λ was_released. rest)
  where
    anothers : MaySetIntent state by (own_attempt who task entry attempt) Idle
    anothers =
        subst (λ (standing : StandingAttempt). MaySetIntent state by standing Idle)
        (sym (if_apart attempt.worker who.worker (AttemptIn who.tenant (entry_of who task entry).addr attempt.number) NoAttempt apart)) rest
