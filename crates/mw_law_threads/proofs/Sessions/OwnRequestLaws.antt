-- Two replies are to two requests. Two requests of a tenant with one number are one arrival in one run, so one worker served
-- both, and its pass had not known the reply when the request came.
-- For specs/AfterReplies. Used by: AfterReplyLaws.
use Rattle.std.specs.Prelude.{ℕ, ◌≡◌, ◌≢◌, ◌≤◌, ◌<◌, ◌==◌, ◌&&◌, Bool, true, false, ◌++◌, ◌⊎◌, List, [], ◌∷◌, map, slice_get, Option, Some}
use Rattle.std.proofs.Common.{refl, sym, ap, subst, ◌∙◌, inl, inr, arith}
use Rattle.std.proofs.lemmas.Option.{same_Some}
use Rattle.atomic_table.specs.Table.{State as Table}
use Rattle.mw_words.specs.declared.jobs.Job.{Job}
use Rattle.mw_words.specs.declared.replies.Reply.{Reply}
use Rattle.mw_words.specs.declared.replies.Reply.TheVariants.{Yes as SaysYes}
use Rattle.mw_lone.specs.Store.{entries_of}
use Rattle.mw_actor.specs.ActorState.{ActorState}
use Rattle.mw_world.specs.declared.config.Config.{Config}
use Rattle.mw_world.specs.Definition.Events.{WorldEvent, Come}
use Rattle.mw_world.specs.Definition.State.{TenantStart}
use Rattle.mw_rule.specs.FromLaws.{IsRightAt, SealedChange, sealed_of}
use Rattle.mw_rule.specs.KnownRuns.{KnownRun, ExtendsKnownRun, ExtendsRun, plain}
use Rattle.mw_rule.specs.Prefixes.{seen_at}
use Rattle.mw_rule.specs.Rule.{TableInvariant, events_of_worker, weight, words_given}
use Rattle.mw_rule.specs.RunBehind.{Arrives, arrivals, arrives}
use Rattle.mw_rule.specs.declared.views.View.{View}
use Rattle.mw_rule.proofs.ArrivalNumbers.{arrivals_more, asked_in_run}
use Rattle.mw_rule.proofs.KnownRunLaws.{on_again}
use Rattle.mw_rule.proofs.Totals.{weight_own}
use Rattle.mw_session.specs.Talk.{Call, Finds, Asks, Counts}
use Rattle.mw_session.specs.Transitions.{GoesThrough}
use Rattle.mw_engine.specs.Brand.{Identity}
use Rattle.mw_engine.specs.History.{IsAnswered}
use Rattle.mw_service.specs.declared.token_views.RequestToken.{RequestToken}
use Rattle.mw_service.specs.declared.token_views.TokenView.{TokenView}
use Rattle.mw_service.specs.OwnReplies.{AnswersOwn, Kept, came_in, token_for}
use Rattle.mw_service.specs.RequestTokens.{is_token_of, times_had, times_in, token_of}
use Rattle.mw_service.proofs.TokenMoves.{times_both, total_two}
use Rattle.mw_law_threads.proofs.Durable.DurableLaws.{got_on, tenant_of}
use Rattle.mw_law_threads.proofs.History.ArrivalsInRuns.{ArrivesInRun, arrives_in_run}
use Rattle.mw_law_threads.proofs.History.KnownMoments.{seen_first, table_run}
use Rattle.mw_law_threads.specs.History.AnswersInOneRun.{IsKnownAt}
use Rattle.mw_law_threads.specs.Sessions.OwnRequests.{RepliesAreToOwnRequests, SessionsHaveOwnRequests, WasAnswered}

-- an arrival counts for its tenant
own_arrival : (worker tenant : ℕ) (job : Job) → arrives tenant (Come worker tenant job) ≡ 1
own_arrival worker tenant job = weight_own tenant tenant refl

-- Two arrivals of a tenant in one list of events, before which as many requests of it came, are one.
same_arrival : (one other tenant : ℕ) (job asked : Job) (left right until since : List WorldEvent) → left ++ Come one tenant job ∷ right ≡ until ++ Come other tenant asked ∷ since → arrivals tenant left ≡ arrivals tenant until
    → one ≡ other
same_arrival one other tenant job asked [] right [] since is same = cc
same_arrival one other tenant job asked [] right (event ∷ until) since is same =
    let it : Come one tenant job ≡ event = cc in
    let its = ap (arrives tenant) it in
    let own = own_arrival one tenant job in
    absurd (omega (arith, its, own, same))
same_arrival one other tenant job asked (event ∷ left) right [] since is same =
    let it : event ≡ Come other tenant asked = cc in
    let its = ap (arrives tenant) it in
    let own = own_arrival other tenant asked in
    absurd (omega (arith, its, own, same))
same_arrival one other tenant job asked (event ∷ left) right (its_event ∷ until) since is same =
    let it : event ≡ its_event = cc in
    let rest : left ++ Come one tenant job ∷ right ≡ until ++ Come other tenant asked ∷ since = cc in
    let its = ap (arrives tenant) it in
    same_arrival one other tenant job asked left right until since rest (omega (arith, its, same))

-- They come after the same events.
same_until : (one other tenant : ℕ) (job asked : Job) (left right until since : List WorldEvent) → left ++ Come one tenant job ∷ right ≡ until ++ Come other tenant asked ∷ since → arrivals tenant left ≡ arrivals tenant until
    → left ≡ until
same_until one other tenant job asked [] right [] since is same = refl
same_until one other tenant job asked [] right (event ∷ until) since is same =
    let it : Come one tenant job ≡ event = cc in
    let its = ap (arrives tenant) it in
    let own = own_arrival one tenant job in
    absurd (omega (arith, its, own, same))
same_until one other tenant job asked (event ∷ left) right [] since is same =
    let it : event ≡ Come other tenant asked = cc in
    let its = ap (arrives tenant) it in
    let own = own_arrival other tenant asked in
    absurd (omega (arith, its, own, same))
same_until one other tenant job asked (event ∷ left) right (its_event ∷ until) since is same =
    let it : event ≡ its_event = cc in
    let rest : left ++ Come one tenant job ∷ right ≡ until ++ Come other tenant asked ∷ since = cc in
    let its = ap (arrives tenant) it in
    let later = same_until one other tenant job asked left right until since rest (omega (arith, its, same)) in
    λ i. it i ∷ later i

-- a run that extends a known one
extends : (old new : Option KnownRun) (known now : KnownRun) → old ≡ Some known → new ≡ Some now → ExtendsKnownRun old new → ExtendsRun known now
extends old new known now is are on = subst (λ (one : Option KnownRun). ExtendsKnownRun (Some known) one) are (subst (λ (one : Option KnownRun). ExtendsKnownRun one new) is on)

-- A request that came to a pass which knew another request's reply has a greater number.
later_number : (worker other tenant request number : ℕ) (job asked : Job) (first now begins ends : View) → Arrives worker tenant request job first now → Arrives other tenant number asked begins ends
    → ExtendsKnownRun now.known_run begins.known_run → request < number
later_number worker other tenant request number job asked first now begins ends one that on =
    let between : KnownRun = record that.known { events = that.until } in
    let run = extends now.known_run (Some between) one.known between one.is_known refl (on_again now.known_run begins.known_run (Some between) on that.follows) in
    let first_parts = arrivals_more tenant one.known.before one.until in
    let that_parts = arrivals_more tenant that.known.before that.until in
    let before = ap (arrivals tenant) run.same_before in
    let until = ap (arrivals tenant) run.events in
    let until_parts = arrivals_more tenant one.known.events run.since in
    let known = ap (arrivals tenant) one.parted in
    let known_parts = arrivals_more tenant one.until (Come worker tenant job ∷ one.since) in
    let own = own_arrival worker tenant job in
    let is = one.number in
    let its = that.number in
    omega (arith, first_parts, that_parts, before, until, until_parts, known, known_parts, own, is, its)

module _ (config : Config) (begun : (ℕ → TenantStart) → List WorldEvent → Type 0) (s : Table ActorState View) (tied : TableInvariant config begun s) where
  abbrev openings : ℕ → TenantStart
  openings = tied.past.openings

  came : (first now : View) (worker tenant request : ℕ) (job : Job) → IsKnownAt s now → (arrival : Arrives worker tenant request job first now)
      → ArrivesInRun config openings tied.past.before tied.events tied.state first arrival.until worker tenant request job
  came first now worker tenant request job known arrival =
      arrives_in_run config openings tied.past.before tied.events tied.state tied.past.played first now (table_run config begun s tied now known) worker tenant request job arrival

  -- requests with one number came to one worker
  same_worker : (first now begins ends : View) (worker other tenant request number : ℕ) (job asked : Job) → IsKnownAt s now → IsKnownAt s ends → Arrives worker tenant request job first now
      → Arrives other tenant number asked begins ends → request ≡ number → worker ≡ other
  same_worker first now begins ends worker other tenant request number job asked known also one that same =
      let here = came first now worker tenant request job known one in
      let there = came begins ends other tenant number asked also that in
      let here_asked = asked_in_run config openings (tied.past.before ++ here.until) here.state tenant here.played in
      let there_asked = asked_in_run config openings (tied.past.before ++ there.until) there.state tenant there.played in
      let here_parts = arrivals_more tenant tied.past.before here.until in
      let there_parts = arrivals_more tenant tied.past.before there.until in
      let is = here.number in
      let its = there.number in
      same_arrival worker other tenant job asked here.until here.since there.until there.since (sym here.parted ∙ there.parted)
      (omega (arith, here_asked, there_asked, here_parts, there_parts, is, its, same))

  -- the change of a YES is among the sealed ones of the table's run, at its place
  changed : (first now : View) (tenant : ℕ) (job : Job) (reply : Reply) (one : IsAnswered first now tenant job reply) → IsKnownAt s now → reply ≡ SaysYes
      → slice_get (sealed_of openings tied.state tenant) one.answered.place ≡ Some (record { request = one.token.request; entries = entries_of job })
  changed first now tenant job reply one known said =
      got_on (seen_at now.seen tenant) (sealed_of openings tied.state tenant) one.answered.place (record { request = one.token.request; entries = entries_of job })
      (seen_first config begun s tied now known tenant (tenant_of first now tenant job reply one))
      (subst (λ (r : Reply). IsRightAt (words_given now tenant) (seen_at now.seen tenant) one.answered.place one.token.request job r) said one.answered.right)

  -- requests with one number came to one worker at one moment, before which as many others had come to it
  same_token : (first now begins ends : View) (worker other tenant request number : ℕ) (job asked : Job) → IsKnownAt s now → IsKnownAt s ends → (one : Arrives worker tenant request job first now)
      → (that : Arrives other tenant number asked begins ends) → request ≡ number → came_in (events_of_worker worker one.until) ≡ came_in (events_of_worker other that.until)
  same_token first now begins ends worker other tenant request number job asked known also one that same =
      let here = came first now worker tenant request job known one in
      let there = came begins ends other tenant number asked also that in
      let here_asked = asked_in_run config openings (tied.past.before ++ here.until) here.state tenant here.played in
      let there_asked = asked_in_run config openings (tied.past.before ++ there.until) there.state tenant there.played in
      let here_parts = arrivals_more tenant tied.past.before here.until in
      let there_parts = arrivals_more tenant tied.past.before there.until in
      let is = here.number in
      let its = there.number in
      let by = same_worker first now begins ends worker other tenant request number job asked known also one that same in
      let until = same_until worker other tenant job asked here.until here.since there.until there.since (sym here.parted ∙ there.parted)
      (omega (arith, here_asked, there_asked, here_parts, there_parts, is, its, same)) in
      ap (λ (events : List WorldEvent). came_in (events_of_worker worker events)) (sym here.same_until ∙ (ap (map plain) until ∙ there.same_until)) ∙ ap (λ (k : ℕ). came_in (events_of_worker k that.until)) by

  -- so requests with two tokens have two numbers
  tokens_apart : (first now begins ends : View) (tenant : ℕ) (job asked : Job) (reply said : Reply) (one : IsAnswered first now tenant job reply) (that : IsAnswered begins ends tenant asked said) → IsKnownAt s now → IsKnownAt s ends
      → token_for one ≢ token_for that → one.token.request ≢ that.token.request
  tokens_apart first now begins ends tenant job asked reply said one that known also apart same =
      let by = same_worker first now begins ends one.token.worker that.token.worker tenant one.token.request that.token.request job asked known also one.run.arrival that.run.arrival same in
      let number = same_token first now begins ends one.token.worker that.token.worker tenant one.token.request that.token.request job asked known also one.run.arrival that.run.arrival same in
      apart (λ i. token_of (by i) (number i))

  numbers : (first now begins ends : View) (tenant : ℕ) (job asked : Job) (reply said : Reply) (one : IsAnswered first now tenant job reply) (that : IsAnswered begins ends tenant asked said) → IsKnownAt s now → IsKnownAt s ends
      → (one.token.worker ≢ that.token.worker) ⊎ ExtendsKnownRun now.known_run begins.known_run → one.token.request ≢ that.token.request
  numbers first now begins ends tenant job asked reply said one that known also (inl apart) same =
      apart (same_worker first now begins ends one.token.worker that.token.worker tenant one.token.request that.token.request job asked known also one.run.arrival that.run.arrival same)
  numbers first now begins ends tenant job asked reply said one that known also (inr knew) same =
      let more = later_number one.token.worker that.token.worker tenant one.token.request that.token.request job asked first now begins ends one.run.arrival that.run.arrival knew in
      absurd (omega (arith, more, same))

  changes : (first now begins ends : View) (tenant : ℕ) (job asked : Job) (reply said : Reply) (one : IsAnswered first now tenant job reply) (that : IsAnswered begins ends tenant asked said) → IsKnownAt s now → IsKnownAt s ends
      → one.token.request ≢ that.token.request → reply ≡ SaysYes → said ≡ SaysYes → one.answered.place ≢ that.answered.place
  changes first now begins ends tenant job asked reply said one that known also apart said_yes too same =
      let here = changed first now tenant job reply one known said_yes in
      let there = changed begins ends tenant asked said that also too in
      let at = ap (slice_get (sealed_of openings tied.state tenant)) same in
      apart (ap (λ (change : SealedChange). change.request) (same_Some _ _ (sym here ∙ (at ∙ there))))

pub own_requests : (config : Config) (begun : (ℕ → TenantStart) → List WorldEvent → Type 0) → RepliesAreToOwnRequests config begun
own_requests config begun s tied first now begins ends tenant job asked reply said one that known also apart =
    let distinct = numbers config begun s tied first now begins ends tenant job asked reply said one that known also apart in
    record { numbers = distinct; changes = changes config begun s tied first now begins ends tenant job asked reply said one that known also distinct }

-- A session keeps the tokens that it has.
keeps_tokens : (identity : Identity) (calls : List Call) (old new : Kept) → GoesThrough (AnswersOwn identity) old calls new → (worker number : ℕ) → times_in worker number old.tokens ≤ times_in worker number new.tokens
keeps_tokens identity [] old new same worker number = let is = ap (λ (kept : Kept). times_in worker number kept.tokens) same in omega (arith, is)
keeps_tokens identity (Finds name found ∷ later) old new goes worker number =
    let rest = keeps_tokens identity later goes.0 new goes.2 worker number in
    let is = ap (times_in worker number) goes.1.1 in omega (arith, rest, is)
keeps_tokens identity (Asks tenant job reply ∷ later) old new goes worker number =
    let rest = keeps_tokens identity later goes.0 new goes.2 worker number in
    let is = ap (times_in worker number) goes.1.1 in
    let both = times_both worker number old.tokens (token_for goes.1.0.2.answered ∷ []) in omega (arith, rest, is, both)
keeps_tokens identity (Counts figures ∷ later) old new goes worker number =
    let rest = keeps_tokens identity later goes.0 new goes.2 worker number in
    let is = ap (times_in worker number) goes.1.1 in omega (arith, rest, is)

-- a token is itself
own_token : (token : RequestToken) → weight (is_token_of token.worker token.number token) ≡ 1
own_token token = both (token.worker == token.worker) (token.number == token.number) (weight_own token.worker token.worker refl) (weight_own token.number token.number refl)
  where
    both : (a b : Bool) → weight a ≡ 1 → weight b ≡ 1 → weight (a && b) ≡ 1
    both true b first second = second
    both false b first second = absurd (omega (arith, first))

-- a session that was answered has the token of this request
has_its : (identity : Identity) (tokens : Table ℕ TokenView) (id tenant : ℕ) (job : Job) (reply : Reply) (one : WasAnswered identity tokens id tenant job reply)
    → 1 ≤ times_had (token_for one.its.0.2.answered).worker (token_for one.its.0.2.answered).number one.has.view
has_its identity tokens id tenant job reply one =
    let token = token_for one.its.0.2.answered in
    let kept = keeps_tokens identity one.calls one.new one.last one.goes token.worker token.number in
    let is = ap (times_in token.worker token.number) one.its.1 in
    let both = times_both token.worker token.number one.old.tokens (token ∷ []) in
    let own = own_token token in
    let has = ap (times_in token.worker token.number) one.has.has in omega (arith, kept, is, both, own, has)

pub sessions : (config : Config) (begun : (ℕ → TenantStart) → List WorldEvent → Type 0) → SessionsHaveOwnRequests config begun
sessions config begun s tied tokens own identity id other tenant job asked reply said one that apart known also =
    let first = one.its.0.2.borrows.learned.seat.me.0 in
    let begins = that.its.0.2.borrows.learned.seat.me.0 in
    let distinct : token_for one.its.0.2.answered ≢ token_for that.its.0.2.answered = λ same.
    let token = token_for one.its.0.2.answered in
    let here = has_its identity tokens id tenant job reply one in
    let there = subst (λ (its : RequestToken). 1 ≤ times_had its.worker its.number that.has.view) (sym same) (has_its identity tokens other tenant asked said that) in
    let two = total_two (times_had token.worker token.number) tokens.views id other one.has.view that.has.view (λ e. apart (sym e)) one.has.at that.has.at in
    let once = own.once token.worker token.number in absurd (omega (arith, here, there, two, once)) in
    let numbers = tokens_apart config begun s tied first one.its.0.1.seat.me.0 begins that.its.0.1.seat.me.0 tenant job asked reply said one.its.0.2.answered that.its.0.2.answered known also distinct in
    record { numbers = numbers; changes = changes config begun s tied first one.its.0.1.seat.me.0 begins that.its.0.1.seat.me.0 tenant job asked reply said one.its.0.2.answered that.its.0.2.answered known also numbers }
