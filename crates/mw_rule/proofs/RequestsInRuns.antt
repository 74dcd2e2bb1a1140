-- A request that a thread serves is in the run behind what the thread knows, from its arrival on.
-- Used by: mw_service, mw_law_threads.
use Rattle.std.specs.Prelude.{ℕ, ◌≡◌, List, [], ◌∷◌, ◌++◌, map, Option, Some, None}
use Rattle.std.proofs.Common.{refl, sym, ap, subst, ◌∙◌, append_assoc, append-nil}
use Rattle.std.proofs.lemmas.List.{append_cancel_left}
use Rattle.std.proofs.lemmas.Option.{same_Some}
use Rattle.mw_words.specs.declared.jobs.Job.{Job}
use Rattle.mw_words.specs.declared.replies.Reply.{Reply}
use Rattle.mw_actor.specs.ActorState.{ActorState}
use Rattle.mw_world.specs.declared.outcomes.Outcome.TheVariants.{Good, Fail}
use Rattle.mw_world.specs.Definition.Events.{WorldEvent, Come, Step, File as FileEvent, Hand, Restart}
use Rattle.mw_rule.specs.declared.views.WorkerEvent.{WorkerEvent}
use Rattle.mw_rule.specs.declared.views.WorkerEvent.TheVariants.{Came}
use Rattle.mw_rule.specs.declared.views.WorkerToken.{WorkerToken}
use Rattle.mw_rule.specs.declared.views.View.{View}
use Rattle.mw_rule.specs.KnownRuns.{KnownRun, ExtendsKnownRun, ExtendsRun, known_run_of, plain}
use Rattle.mw_rule.specs.Rule.{Each, Holds, events_of_worker, worker_event_if, worker_event_of}
use Rattle.mw_rule.specs.RunBehind.{Arrives, IsBehind, IsInRun, IsOfRequest, arrivals, handed_if}
use Rattle.mw_rule.specs.Steps.{settled_as}
use Rattle.mw_rule.proofs.HandedReplies.{itself}
use Rattle.mw_rule.proofs.Totals.{each_more}
use Rattle.mw_rule.proofs.WorkerStretches.{made_on}

-- a worker did the same in a run as a thread knows it
plain_did : (worker : ℕ) (event : WorldEvent) → worker_event_of worker (plain event) ≡ worker_event_of worker event
plain_did worker (Come one tenant job) = refl
plain_did worker (Step one) = refl
plain_did worker (FileEvent one Good) = refl
plain_did worker (FileEvent one (Fail number)) = refl
plain_did worker (Hand one) = refl
plain_did worker (Restart founds) = refl

pub same_did : (worker : ℕ) (events : List WorldEvent) → events_of_worker worker (map plain events) ≡ events_of_worker worker events
same_did worker [] = refl
same_did worker (event ∷ events) = λ i. plain_did worker event i ++ same_did worker events i

-- the run that a thread knows has what its token tells of its worker
made_known : (view : View) (token : WorkerToken) (known : KnownRun) → IsBehind view → view.tokens ≡ token ∷ [] → view.known_run ≡ Some known → events_of_worker token.worker known.events ≡ token.made
made_known view token known behind only is =
    let same = same_Some known (known_run_of view.config behind.openings behind.before behind.events) (sym is ∙ behind.known_run) in
    let holds = (subst (Each (Holds view.config behind.openings behind.state behind.events)) only behind.tokens).0 in
    ap (λ (one : KnownRun). events_of_worker token.worker one.events) same ∙ same_did token.worker behind.events ∙ holds.made

-- a run that extends a known one is known
extended : (old new : Option KnownRun) (known : KnownRun) → old ≡ Some known → ExtendsKnownRun old new → (now : KnownRun) × (new ≡ Some now) × ExtendsRun known now
extended old new known is on = by new (subst (λ (one : Option KnownRun). ExtendsKnownRun one new) is on)
  where
    by : (found : Option KnownRun) → ExtendsKnownRun (Some known) found → (now : KnownRun) × (found ≡ Some now) × ExtendsRun known now
    by None on = absurd on
    by (Some now) on = (now, refl, on)

-- The arrival stays in the run when more happens.
record ArrivesOn (worker tenant request : ℕ) (job : Job) (first old new : View) (was : Arrives worker tenant request job first old) : Type 0 where
  pub arrival : Arrives worker tenant request job first new
  pub more : List WorldEvent
  pub since : arrival.since ≡ was.since ++ more
  pub events : arrival.known.events ≡ was.known.events ++ more

arrives_on : (worker tenant request : ℕ) (job : Job) (first old new : View) (was : Arrives worker tenant request job first old) → ExtendsKnownRun old.known_run new.known_run
    → ArrivesOn worker tenant request job first old new was
arrives_on worker tenant request job first old new was on =
    let run = extended old.known_run new.known_run was.known was.is_known on in
    let now = run.0 in
    let goes_on = run.2 in
    record {
      arrival = record {
        known = now;
        is_known = run.1;
        until = was.until;
        since = was.since ++ goes_on.since;
        parted = goes_on.events ∙ (ap (λ (events : List WorldEvent). events ++ goes_on.since) was.parted ∙ append_assoc was.until (Come worker tenant job ∷ was.since) goes_on.since);
        follows = subst (λ (one : KnownRun). ExtendsKnownRun first.known_run (Some one))
            (λ i. record { openings = sym goes_on.same_openings i; before = sym goes_on.same_before i; events = was.until }) was.follows;
        number = was.number ∙ ap (λ (before : List WorldEvent). arrivals tenant (before ++ was.until)) (sym goes_on.same_before);
        idle = was.idle;
      };
      more = goes_on.since;
      since = refl;
      events = goes_on.events;
    }

-- what came later in a list
abbrev later : List WorkerEvent → List WorkerEvent
later [] = []
later (one ∷ rest) = rest

-- after the first step
pub begins_in : (tenant request : ℕ) (job : Job) (old new : View) (was token : WorkerToken) (did : List WorkerEvent) (reply : Option Reply) → Arrives was.worker tenant request job old new → old.tokens ≡ was ∷ []
    → new.tokens ≡ token ∷ [] → token.worker ≡ was.worker → token.made ≡ was.made ++ Came ∷ (did ++ handed_if reply) → Each IsOfRequest did → IsBehind new
    → IsInRun was.worker tenant request job reply old new
begins_in tenant request job old new was token did reply arrival had has own made are behind =
    let worker = was.worker in
    let all : events_of_worker worker arrival.known.events ≡ token.made =
    subst (λ (n : ℕ). events_of_worker n arrival.known.events ≡ token.made) own (made_known new token arrival.known behind has arrival.is_known) in
    let came : events_of_worker worker (Come worker tenant job ∷ arrival.since) ≡ Came ∷ events_of_worker worker arrival.since =
    ap (λ test. worker_event_if test Came ++ events_of_worker worker arrival.since) (itself worker) in
    let until : events_of_worker worker arrival.until ≡ was.made = arrival.idle was had in
    let parts : events_of_worker worker arrival.known.events ≡ was.made ++ Came ∷ events_of_worker worker arrival.since =
    ap (events_of_worker worker) arrival.parted ∙ (made_on worker arrival.until (Come worker tenant job ∷ arrival.since) ∙ (λ i. until i ++ came i)) in
    record {
      behind = behind;
      arrival = arrival;
      steps = did;
      are_its = are;
      did = ap later (append_cancel_left was.made (Came ∷ events_of_worker worker arrival.since) (Came ∷ (did ++ handed_if reply)) (sym parts ∙ (all ∙ made)));
    }

-- What a worker did since is what its token tells more.
gained : (worker : ℕ) (known more : List WorldEvent) (was did now : List WorkerEvent) → events_of_worker worker known ≡ was → events_of_worker worker (known ++ more) ≡ now → now ≡ was ++ did
    → events_of_worker worker more ≡ did
gained worker known more was did now old new made =
    append_cancel_left was (events_of_worker worker more) did (ap (λ (all : List WorkerEvent). all ++ events_of_worker worker more) (sym old) ∙ (sym (made_on worker known more) ∙ (new ∙ made)))

-- after a further step or a call on its file
pub goes_further : (worker tenant request : ℕ) (job : Job) (first old new : View) (was token : WorkerToken) (did : List WorkerEvent) (reply : Option Reply) → IsInRun worker tenant request job None first old
    → old.tokens ≡ was ∷ [] → new.tokens ≡ token ∷ [] → was.worker ≡ worker → token.worker ≡ worker → token.made ≡ was.made ++ (did ++ handed_if reply) → Each IsOfRequest did
    → ExtendsKnownRun old.known_run new.known_run → IsBehind new → IsInRun worker tenant request job reply first new
goes_further worker tenant request job first old new was token did reply in_run had has own its made are on behind =
    let known = in_run.arrival.known in
    let next = arrives_on worker tenant request job first old new in_run.arrival on in
    let before : events_of_worker worker known.events ≡ was.made =
    subst (λ (n : ℕ). events_of_worker n known.events ≡ was.made) own (made_known old was known in_run.behind had in_run.arrival.is_known) in
    let after : events_of_worker worker next.arrival.known.events ≡ token.made =
    subst (λ (n : ℕ). events_of_worker n next.arrival.known.events ≡ token.made) its (made_known new token next.arrival.known behind has next.arrival.is_known) in
    let more : events_of_worker worker next.more ≡ did ++ handed_if reply =
    gained worker known.events next.more was.made (did ++ handed_if reply) token.made before (ap (events_of_worker worker) (sym next.events) ∙ after) made in
    record {
      behind = behind;
      arrival = next.arrival;
      steps = in_run.steps ++ did;
      are_its = each_more IsOfRequest in_run.steps did in_run.are_its are;
      did = ap (events_of_worker worker) next.since ∙ (made_on worker in_run.arrival.since next.more ∙ ((λ i. (in_run.did ∙ append-nil in_run.steps) i ++ more i) ∙ sym (append_assoc in_run.steps did (handed_if reply))));
    }

-- while only others go on
pub stays_in : (worker tenant request : ℕ) (job : Job) (reply : Option Reply) (first old new : View) (token : WorkerToken) → IsInRun worker tenant request job reply first old → old.tokens ≡ token ∷ []
    → new.tokens ≡ token ∷ [] → token.worker ≡ worker → ExtendsKnownRun old.known_run new.known_run → IsBehind new → IsInRun worker tenant request job reply first new
stays_in worker tenant request job reply first old new token in_run had has own on behind =
    let known = in_run.arrival.known in
    let next = arrives_on worker tenant request job first old new in_run.arrival on in
    let before : events_of_worker worker known.events ≡ token.made =
    subst (λ (n : ℕ). events_of_worker n known.events ≡ token.made) own (made_known old token known in_run.behind had in_run.arrival.is_known) in
    let after : events_of_worker worker next.arrival.known.events ≡ token.made =
    subst (λ (n : ℕ). events_of_worker n next.arrival.known.events ≡ token.made) own (made_known new token next.arrival.known behind has next.arrival.is_known) in
    let none : events_of_worker worker next.more ≡ [] =
    gained worker known.events next.more token.made [] token.made before (ap (events_of_worker worker) (sym next.events) ∙ after) (sym (append-nil token.made)) in
    record {
      behind = behind;
      arrival = next.arrival;
      steps = in_run.steps;
      are_its = in_run.are_its;
      did = ap (events_of_worker worker) next.since
          ∙ (made_on worker in_run.arrival.since next.more ∙ ((λ i. in_run.did i ++ none i) ∙ append-nil (in_run.steps ++ handed_if reply)));
    }

-- a token that is settled has the hand-out more, if its request has its reply
pub settled_made : (token : WorkerToken) (actor : ActorState) (reply : Option Reply) → (settled_as token actor reply).made ≡ token.made ++ handed_if reply
settled_made token actor None = sym (append-nil token.made)
settled_made token actor (Some reply) = refl

pub settled_worker : (token : WorkerToken) (actor : ActorState) (reply : Option Reply) → (settled_as token actor reply).worker ≡ token.worker
settled_worker token actor None = refl
settled_worker token actor (Some reply) = refl
