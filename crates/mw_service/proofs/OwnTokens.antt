-- One request came to a pass's worker while the pass served one, so the source beside the pass gives out the token of just
-- this request.
-- Used by: src/idle_pass.rt, src/laws.rt.
use Rattle.std.specs.Prelude.{ℕ, ◌+◌, ◌≡◌, ◌≢◌, ◌≤◌, ◌==◌, Bool, true, false, List, [], ◌∷◌, ◌++◌, map, Option, Some}
use Rattle.std.proofs.Common.{refl, sym, ap, subst, ◌∙◌, inl, inr, arith}
use Rattle.std.proofs.lemmas.Option.{same_Some}
use Rattle.mw_words.specs.declared.jobs.Job.{Job}
use Rattle.mw_words.specs.declared.places.At.{At}
use Rattle.mw_words.specs.declared.replies.Reply.{Reply}
use Rattle.mw_report.specs.declared.figures.TenantFigures.{TenantFigures}
use Rattle.mw_world.specs.Definition.Events.{WorldEvent, Come}
use Rattle.mw_rule.specs.declared.views.Finished.{Finished}
use Rattle.mw_rule.specs.declared.views.WorkerEvent.{WorkerEvent}
use Rattle.mw_rule.specs.declared.views.WorkerEvent.TheVariants.{Came, Stepped, Called, Handed}
use Rattle.mw_rule.specs.declared.views.WorkerToken.{WorkerToken}
use Rattle.mw_rule.specs.FromLaws.{IsRightAt}
use Rattle.mw_rule.specs.KnownRuns.{KnownRun, known_run_of}
use Rattle.mw_rule.specs.Rule.{Each, Holds, IsOfThese, events_of_worker, times, weight, worker_event_if}
use Rattle.mw_rule.specs.RunBehind.{IsOfRequest}
use Rattle.mw_rule.specs.Steps.{finished_as}
use Rattle.mw_rule.proofs.FromLaws.{same_or_other}
use Rattle.mw_rule.proofs.RequestsInRuns.{same_did}
use Rattle.mw_rule.proofs.Totals.{weight_none, weight_own}
use Rattle.mw_rule.proofs.WorkerStretches.{made_on}
use Rattle.mw_session.specs.Talk.{Call}
use Rattle.mw_session.specs.Transitions.{GoesThrough}
use Rattle.mw_engine.specs.Brand.{Identity}
use Rattle.mw_engine.specs.FromBelow.{View}
use Rattle.mw_engine.specs.Figures.{Loads, TellAll}
use Rattle.mw_engine.specs.History.{IsAnswered}
use Rattle.mw_engine.specs.Identity.{Line}
use Rattle.mw_service.proofs.SessionOrders.{last_of}
use Rattle.mw_service.specs.Borrowed.{AnswersWith}
use Rattle.mw_service.specs.OwnReplies.{AnswersOwn, Kept, came_in, came_to, comes_with, token_for}
use Rattle.mw_service.specs.RequestTokens.{token_of}

-- A thread has one worker: this one.
pub record HasOne (tokens : List WorkerToken) (worker : ℕ) : Type 0 where
  pub token : WorkerToken
  pub only : tokens ≡ token ∷ []
  pub its : token.worker ≡ worker

abbrev first_number : List (ℕ × ℕ) → ℕ
first_number [] = 0
first_number (one ∷ rest) = one.0

pub has_one : (tokens : List WorkerToken) (worker attempt : ℕ) → map {B = ℕ × ℕ} (λ (token : WorkerToken). (token.worker, token.attempt)) tokens ≡ (worker, attempt) ∷ [] → HasOne tokens worker
has_one [] worker attempt is = absurd (cc)
has_one (one ∷ []) worker attempt is = record { token = one; only = refl; its = ap first_number is }
has_one (one ∷ other ∷ rest) worker attempt is = absurd (cc)

came_more : (first more : List WorkerEvent) → came_in (first ++ more) ≡ came_in first + came_in more
came_more [] more = omega arith
came_more (event ∷ first) more = let rest = came_more first more in omega (arith, rest)

-- no request comes with a request's steps
none_came : (steps : List WorkerEvent) → Each IsOfRequest steps → came_in steps ≡ 0
none_came [] each = refl
none_came (Came ∷ steps) each = absurd each.0
none_came (Stepped ∷ steps) each = let rest = none_came steps each.1 in omega (arith, rest)
none_came (Called ∷ steps) each = let rest = none_came steps each.1 in omega (arith, rest)
none_came (Handed ∷ steps) each = absurd each.0

came_if : (own : Bool) → came_in (worker_event_if own Came) ≡ weight own
came_if true = refl
came_if false = refl

-- a request that came, and what its worker did since
came_at : (worker tenant : ℕ) (job : Job) (until since : List WorldEvent) → came_in (events_of_worker worker (until ++ Come worker tenant job ∷ since)) ≡ came_in (events_of_worker worker until) + (1 + came_in (events_of_worker worker since))
came_at worker tenant job until since =
    let parts = ap came_in (made_on worker until (Come worker tenant job ∷ since)) in
    let sum = came_more (events_of_worker worker until) (events_of_worker worker (Come worker tenant job ∷ since)) in
    let first = came_more (worker_event_if (worker == worker) Came) (events_of_worker worker since) in
    let one = came_if (worker == worker) in
    let own = weight_own worker worker refl in
    omega (arith, parts, sum, first, one, own)

-- one token, of this worker
is_its : (worker : ℕ) (token : WorkerToken) → 1 ≤ times worker (token ∷ []) → token.worker ≡ worker
is_its worker token some = elim (same_or_other token.worker worker) [
  | inl same ↦ same
  | inr apart ↦ absurd (let none = weight_none token.worker worker apart in omega (arith, none, some))
]

module _ (first now : View) (worker tenant : ℕ) (job : Job) (reply : Reply) (before : HasOne first.tokens worker) (after : HasOne now.tokens worker) (one : IsAnswered first now tenant job reply) where
  -- the request's worker is the pass's
  same_worker : one.token.worker ≡ worker
  same_worker =
      let mine = subst (Each (IsOfThese now.tokens)) one.answered.noted one.right.own in
      let last = last_of (IsOfThese now.tokens) first.mine (finished_as one.token tenant job reply one.answered.place) mine in
      sym (is_its one.token.worker after.token (subst (λ (tokens : List WorkerToken). 1 ≤ times one.token.worker tokens) after.only last)) ∙ after.its

  abbrev its : ℕ
  its = one.token.worker

  -- what the pass knew of its worker when the request came
  until : came_in (events_of_worker its one.run.arrival.until) ≡ came_to first.tokens
  until =
      let made = ap came_in (one.run.arrival.idle before.token before.only) in
      let only = ap came_to before.only in omega (arith, made, only)

  -- what it knows now
  known : came_in (events_of_worker its one.run.arrival.known.events) ≡ came_to now.tokens
  known =
      let behind = one.run.behind in
      let same = same_Some one.run.arrival.known (known_run_of now.config behind.openings behind.before behind.events) (sym one.run.arrival.is_known ∙ behind.known_run) in
      let holds = (subst (Each (Holds now.config behind.openings behind.state behind.events)) after.only behind.tokens).0 in
      let made : events_of_worker its one.run.arrival.known.events ≡ after.token.made =
      ap (λ (run : KnownRun). events_of_worker its run.events) same ∙ (same_did its behind.events ∙ (ap (λ (k : ℕ). events_of_worker k behind.events) (same_worker ∙ sym after.its) ∙ holds.made)) in
      let it = ap came_in made in
      let only = ap came_to after.only in omega (arith, it, only)

  pub came_one : came_to now.tokens ≡ came_to first.tokens + 1
  came_one =
      let at = ap (λ (events : List WorldEvent). came_in (events_of_worker its events)) one.run.arrival.parted in
      let sum = came_at its tenant job one.run.arrival.until one.run.arrival.since in
      let did = ap came_in one.run.did in
      let parts = came_more one.run.steps (Handed ∷ []) in
      let none = none_came one.run.steps one.run.are_its in
      let was = until in
      let is = known in
      omega (arith, at, sum, did, parts, none, was, is)

  pub its_token : token_for one ≡ token_of worker (came_to first.tokens)
  its_token = λ i. token_of (same_worker i) (until i)

-- A load that is no step changes no token.
same_loads : (pool : ℕ) (words : List (At × ℕ)) (old new : View) → Loads pool words old new → new.tokens ≡ old.tokens
same_loads pool [] old new same = ap (λ (view : View). view.tokens) same
same_loads pool (one ∷ rest) old new loads = same_loads pool rest loads.0 new loads.2 ∙ loads.1.looked.same_token

pub same_figures : (pool slots : ℕ) (lines : List Line) (places : List ℕ) (figures : List TenantFigures) (free : ℕ) (old new : View) → TellAll pool slots lines places figures free old new → new.tokens ≡ old.tokens
same_figures pool slots lines places figures free old new told = same_loads pool _ told.between new told.slots_free.loads ∙ same_loads pool _ old told.between told.tenants.loads

-- answers with tokens are answers as the notes tell
pub by_notes : (identity : Identity) (calls : List Call) (old new : Kept) → GoesThrough (AnswersOwn identity) old calls new → GoesThrough (AnswersWith identity) old.note calls new.note
by_notes identity [] old new same = ap (λ (kept : Kept). kept.note) same
by_notes identity (call ∷ later) old new goes = (goes.0.note, goes.1.0, by_notes identity later goes.0 new goes.2)
