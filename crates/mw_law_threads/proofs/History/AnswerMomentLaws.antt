-- A request that was answered has its moment in each run that goes on from the one that its thread knew and hands its reply
-- out.
-- For `after_reply`. Used by: AfterReplyLaws, AnswersInOneRunLaws, SameReplies.
use Rattle.std.specs.Prelude.{ℕ, zero, suc, ◌≡◌, ◌++◌, List, [], ◌∷◌, slice_get, Option, Some}
use Rattle.std.proofs.Common.{refl, sym, ap, subst, ◌∙◌, inl, inr, arith, append_assoc}
use Rattle.std.proofs.lemmas.List.{append_cancel_left}
use Rattle.std.proofs.lemmas.Option.{none-some, same_Some}
use Rattle.mw_words.specs.declared.jobs.Job.{Job}
use Rattle.mw_words.specs.declared.replies.Reply.{Reply}
use Rattle.mw_actor.specs.ActorState.{ActorState, first as first_of}
use Rattle.mw_world.specs.declared.config.Config.{Config}
use Rattle.mw_world.specs.Claim.Headline.{IsExecution}
use Rattle.mw_world.specs.Definition.Events.{WorldEvent, Come, Hand}
use Rattle.mw_world.specs.Definition.State.{State, TenantStart, WorkerState, world_at}
use Rattle.mw_world.specs.Definition.World.{outgoing, replies_to, step}
use Rattle.mw_rule.specs.FromLaws.{AreNoStarts}
use Rattle.mw_rule.proofs.Calls.EventsOfWorkers.{come_leads}
use Rattle.mw_rule.proofs.FromLaws.{same_or_other, upd_here}
use Rattle.mw_law_store.proofs.Beginnings.{run_last}
use Rattle.mw_law_threads.specs.Moments.Moments.{HasMoment}
use Rattle.mw_law_threads.proofs.Moments.MomentLaws.{replies_have_moments}
use Rattle.mw_rule.specs.KnownRuns.{KnownRun, ExtendsKnownRun, known_run_of}
use Rattle.mw_rule.specs.Rule.{Each, IsHandedOut, events_of_worker, worker_event_if, worker_event_of}
use Rattle.mw_rule.specs.RunBehind.{Arrives}
use Rattle.mw_rule.specs.Steps.{finished_as}
use Rattle.mw_rule.specs.declared.views.View.{View}
use Rattle.mw_rule.specs.declared.views.WorkerEvent.TheVariants.{Came}
use Rattle.mw_rule.specs.declared.views.WorkerToken.{WorkerToken}
use Rattle.mw_rule.proofs.HandedReplies.{itself}
use Rattle.mw_rule.proofs.KnownRunLaws.{stays}
use Rattle.mw_rule.proofs.RequestsInRuns.{same_did}
use Rattle.mw_law_threads.specs.History.AnswerMoments.{AnswersHaveMoments, ComesAfter, HasMomentInRun}
use Rattle.mw_law_threads.proofs.History.ArrivalsInRuns.{ArrivesInRun, arrives_in_run, none_after, none_before}
use Rattle.mw_law_threads.proofs.History.OwnHandOuts.{hand_of, has_request, lack_after, lack_at_once, number_is_given}
use Rattle.mw_law_threads.proofs.History.HandOuts.{HandsOutIn, in_parts, in_run, none_before as none_earlier, replies_first}

-- the request that came has the tenant's next number
number_at_once : (config : Config) (state next : State) (worker tenant : ℕ) (job : Job) → step config state (Come worker tenant job) ≡ Some next → (next.worker_states worker).request ≡ (state.tenant_states tenant).asked
number_at_once config state next worker tenant job comes =
    subst (λ (one : State). (one.worker_states worker).request ≡ (state.tenant_states tenant).asked) (come_leads config state next worker tenant job comes)
    (ap (λ (one : WorkerState). one.request) (upd_here state.worker_states worker _))

-- Events after which a request of the worker comes begin with others, if the worker did the same in both.
begins_with : (worker tenant : ℕ) (job : Job) (left right done more : List WorldEvent) → left ++ Come worker tenant job ∷ right ≡ done ++ more → events_of_worker worker left ≡ events_of_worker worker done
    → (some : List WorldEvent) × (left ≡ done ++ some)
begins_with worker tenant job left right [] more is same = (left, refl)
begins_with worker tenant job [] right (event ∷ done) more is same =
    let it : Come worker tenant job ≡ event = cc in
    let own = ap (λ test. worker_event_if test Came ++ events_of_worker worker done) (itself worker) in
    let none : [] ≡ Came ∷ events_of_worker worker done = same ∙ (ap (λ (one : WorldEvent). worker_event_of worker one ++ events_of_worker worker done) (sym it) ∙ own) in
    absurd (cc)
begins_with worker tenant job (one ∷ left) right (event ∷ done) more is same =
    let it : one ≡ event = cc in
    let rest : left ++ Come worker tenant job ∷ right ≡ done ++ more = cc in
    let its = append_cancel_left (worker_event_of worker one) (events_of_worker worker left) (events_of_worker worker done)
    (same ∙ ap (λ (first : WorldEvent). worker_event_of worker first ++ events_of_worker worker done) (sym it)) in
    let later = begins_with worker tenant job left right done more rest its in
    (later.0, λ i. it i ∷ later.1 i)

-- The request is at its worker, and of its tenant.
pub record BeginsIt (next : State) (tenant worker : ℕ) : Type 0 where
  pub actor : ActorState
  pub sits : (next.worker_states worker).actor ≡ Some actor
  pub its : actor.tenant ≡ tenant

pub begins_it : (config : Config) (state next : State) (worker tenant : ℕ) (job : Job) → step config state (Come worker tenant job) ≡ Some next → BeginsIt next tenant worker
begins_it config state next worker tenant job comes =
    subst (λ (one : State). BeginsIt one tenant worker) (come_leads config state next worker tenant job comes)
    (record { actor = first_of worker tenant (state.tenant_states tenant).quota config.pool job; sits = ap (λ (one : WorkerState). one.actor) (upd_here state.worker_states worker _); its = refl })

module _ (config : Config) (openings : ℕ → TenantStart) (before events : List WorldEvent) (state : State) (played : IsExecution config openings (before ++ events) state) (none : AreNoStarts events)
    (first now : View) (known : ExtendsKnownRun now.known_run (Some (known_run_of config openings before events))) (worker tenant request : ℕ) (job : Job) (reply : Reply)
    (arrival : Arrives worker tenant request job first now) (index : ℕ) (handed : slice_get (replies_to config tenant (world_at config openings) (before ++ events)) index ≡ Some (request, reply)) where
  abbrev said : ℕ × Reply
  said = (request, reply)

  came_so : ArrivesInRun config openings before events state first arrival.until worker tenant request job
  came_so = arrives_in_run config openings before events state played first now known worker tenant request job arrival

  abbrev come : WorldEvent
  come = Come worker tenant job

  abbrev until : List WorldEvent
  until = before ++ came_so.until

  handed_so : slice_get (replies_to config tenant (world_at config openings) (until ++ come ∷ came_so.since)) index ≡ Some said
  handed_so = ap (λ (all : List WorldEvent). slice_get (replies_to config tenant (world_at config openings) all) index)
      (append_assoc before came_so.until (come ∷ came_so.since) ∙ ap (λ (all : List WorldEvent). before ++ all) (sym came_so.parted)) ∙ handed

  abbrev Since : Type 0
  Since = HandsOutIn config tenant came_so.next came_so.since said

  after_it : (place : ℕ) → slice_get (replies_to config tenant came_so.state (come ∷ came_so.since)) place ≡ Some said → Since
  after_it place at = in_run config tenant said came_so.since came_so.next state place came_so.goes
      (ap (λ (all : List (ℕ × Reply)). slice_get all place) (sym (replies_first config tenant came_so.state came_so.next come came_so.since came_so.comes)) ∙ at)

  -- the reply is handed out after the request came
  since : Since
  since = elim (in_parts config tenant said until (come ∷ came_so.since) (world_at config openings) came_so.state index came_so.played.runs handed_so) [
    | inl earlier ↦ absurd (none_earlier config openings until came_so.state tenant reply came_so.played
        (subst (λ (n : ℕ). HandsOutIn config tenant (world_at config openings) until (n, reply)) came_so.number earlier))
    | inr later ↦ after_it later.0 later.1
  ]

  number : (came_so.next.worker_states worker).request ≡ request
  number = number_at_once config came_so.state came_so.next worker tenant job came_so.comes ∙ sym came_so.number

  at_worker : BeginsIt came_so.next tenant worker
  at_worker = begins_it config came_so.state came_so.next worker tenant job came_so.comes

  none_since : AreNoStarts since.first
  none_since = none_before since.first (since.event ∷ since.rest) (subst AreNoStarts since.parted
      (none_after (came_so.until ++ come ∷ []) came_so.since (subst AreNoStarts (came_so.parted ∙ sym (append_assoc came_so.until (come ∷ []) came_so.since)) none)))

  played_next : IsExecution config openings (until ++ come ∷ []) came_so.next
  played_next = record { made = played.made; starts = played.starts; runs = run_last config (world_at config openings) came_so.state came_so.next until come came_so.played.runs came_so.comes }

  -- the worker to which it came hands it out
  is_its_own : (by : ℕ) → since.event ≡ Hand by → by ≡ worker
  is_its_own by is = elim (same_or_other by worker) [
    | inl same ↦ same
    | inr apart ↦
        let has = has_request since.moment tenant request by reply (ap (outgoing since.moment tenant) (sym is) ∙ since.hands) in
        let given = number_is_given config openings (until ++ come ∷ []) came_so.next worker at_worker.actor played_next at_worker.sits in
        let asked = ap (λ (t : ℕ). (came_so.next.tenant_states t).asked) at_worker.its in
        let same = number in
        absurd (lack_after config openings tenant request worker (until ++ come ∷ []) since.first came_so.next since.moment played_next none_since since.reached (omega (arith, given, asked, same))
        (lack_at_once config openings tenant request worker until came_so.state came_so.next job came_so.played came_so.comes came_so.number) by has.actor apart has.sits has.its has.number)
  ]

  hand : since.event ≡ Hand worker
  hand = let by = hand_of since.moment tenant since.event said since.hands in by.1 ∙ ap (λ (n : ℕ). Hand n) (is_its_own by.0 by.1)

  hands_out : outgoing since.moment tenant (Hand worker) ≡ Some said
  hands_out = ap (outgoing since.moment tenant) (sym hand) ∙ since.hands

  true_then : HasMoment config openings came_so.next since.first since.moment tenant request job reply
  true_then = subst (λ (n : ℕ). HasMoment config openings came_so.next since.first since.moment tenant n job reply) number
      (replies_have_moments config openings until since.first (Hand worker) came_so.state came_so.next since.moment worker tenant job reply came_so.played came_so.comes none_since since.reached
      (hands_out ∙ ap (λ (n : ℕ). Some (n, reply)) (sym number)))

  pub has_moment : HasMomentInRun config openings before events first worker tenant request job reply
  has_moment = record {
    until = came_so.until;
    later = since.first;
    rest = since.rest;
    state = came_so.state;
    between = came_so.next;
    last = since.moment;
    parted = came_so.parted ∙ ap (λ (all : List WorldEvent). came_so.until ++ come ∷ all) (since.parted ∙ ap (λ (event : WorldEvent). since.first ++ event ∷ since.rest) hand);
    known = came_so.known;
    reached = came_so.played.runs;
    comes = came_so.comes;
    number = number;
    goes = since.reached;
    hands_out = hands_out;
    moment = true_then;
  }

  -- what the worker did before the request came is what its token told
  idle_until : (was : WorkerToken) → first.tokens ≡ was ∷ [] → events_of_worker worker came_so.until ≡ was.made
  idle_until was only = sym (same_did worker came_so.until) ∙ (ap (events_of_worker worker) came_so.same_until ∙ arrival.idle was only)

  pub comes_after : (done more : List WorldEvent) (was : WorkerToken) → first.tokens ≡ was ∷ [] → events ≡ done ++ more → events_of_worker worker done ≡ was.made
      → ComesAfter config openings before events done first worker tenant request job reply
  unfolding has_moment
  comes_after done more was only split did =
      let begins = begins_with worker tenant job came_so.until came_so.since done more (sym came_so.parted ∙ split) (idle_until was only ∙ sym did) in
      record { has = has_moment; more = begins.0; after = begins.1 }

each_at : {A : Type 0} (P : A → Type 0) (all : List A) (index : ℕ) (one : A) → Each P all → slice_get all index ≡ Some one → P one
each_at P [] index one holds at = absurd (none-some one at)
each_at P (first ∷ rest) zero one holds at = subst P (same_Some first one at) holds.0
each_at P (first ∷ rest) (suc index) one holds at = each_at P rest index one holds.1 at

-- the last of a list
each_last : {A : Type 0} (P : A → Type 0) (all : List A) (one : A) → Each P (all ++ one ∷ []) → P one
each_last P [] one holds = holds.0
each_last P (first ∷ rest) one holds = each_last P rest one holds.1

pub answers_have_moments : AnswersHaveMoments
answers_have_moments first now token tenant job reply answered whole =
    let its = answered.run whole in
    let behind = its.behind in
    let known = subst (λ (one : Option KnownRun). ExtendsKnownRun now.known_run one) behind.known_run (stays now.known_run) in
    let handed = each_last (IsHandedOut now.config (world_at now.config behind.openings) (behind.before ++ behind.events)) first.mine (finished_as token tenant job reply answered.place)
    (subst (Each (IsHandedOut now.config (world_at now.config behind.openings) (behind.before ++ behind.events))) answered.noted behind.handed) in
    has_moment now.config behind.openings behind.before behind.events behind.state behind.played behind.no_starts first now known token.worker tenant token.request job reply its.arrival handed.0 handed.1
