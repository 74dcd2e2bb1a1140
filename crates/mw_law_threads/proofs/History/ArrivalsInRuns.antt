-- The arrival of a request of which a thread knows, in every run that goes on from the one that the thread knew: the events
-- before it, the world at it, and its number. Used by: AskedRequests, AnswerMomentLaws, AnswersInOneRunLaws, among others.
use Rattle.std.specs.Prelude.{ℕ, ◌≡◌, ◌++◌, List, [], ◌∷◌, map, Option, Some}
use Rattle.std.specs.Option.{option_and_then}
use Rattle.std.proofs.Common.{refl, sym, ap, subst, ◌∙◌, arith, append_assoc}
use Rattle.std.proofs.lemmas.Option.{option_and_then_some}
use Rattle.mw_words.specs.declared.jobs.Job.{Job}
use Rattle.mw_world.specs.declared.outcomes.Outcome.TheVariants.{Good, Fail}
use Rattle.mw_world.specs.declared.config.Config.{Config}
use Rattle.mw_world.specs.Claim.Headline.{IsExecution}
use Rattle.mw_world.specs.Definition.Events.{WorldEvent, Come, Step, File, Hand, Restart}
use Rattle.mw_world.specs.Definition.State.{State, TenantStart, world_at}
use Rattle.mw_world.specs.Definition.World.{run, step}
use Rattle.mw_rule.specs.FromLaws.{AreNoStarts}
use Rattle.mw_rule.specs.KnownRuns.{KnownRun, ExtendsKnownRun, ExtendsRun, known_run_of, plain}
use Rattle.mw_rule.specs.RunBehind.{Arrives, arrivals}
use Rattle.mw_rule.specs.declared.views.View.{View}
use Rattle.mw_rule.proofs.ArrivalNumbers.{arrivals_more, asked_in_run, plain_arrivals}

-- Runs in two parts.

pub record Halves (config : Config) (state : State) (first rest : List WorldEvent) (last : State) : Type 0 where
  pub between : State
  pub before : run config state first ≡ Some between
  pub after : run config between rest ≡ Some last

run_first : (config : Config) (state next last : State) (event : WorldEvent) (events : List WorldEvent) → step config state event ≡ Some next → run config next events ≡ Some last
    → run config state (event ∷ events) ≡ Some last
run_first config state next last event events is runs = ap (option_and_then (λ one. run config one events)) is ∙ runs

pub halves : (config : Config) (state last : State) (first rest : List WorldEvent) → run config state (first ++ rest) ≡ Some last → Halves config state first rest last
halves config state last [] rest runs = record { between = state; before = refl; after = runs }
halves config state last (event ∷ first) rest runs =
    option_and_then_some (λ one. run config one (first ++ rest)) (step config state event) last runs (λ next at on.
    let later = halves config next last first rest on in
    record { between = later.between; before = run_first config state next later.between event first at later.before; after = later.after })

pub none_after : (first rest : List WorldEvent) → AreNoStarts (first ++ rest) → AreNoStarts rest
none_after [] rest none = none
none_after (event ∷ first) rest none = none_after first rest none.1

pub none_before : (first rest : List WorldEvent) → AreNoStarts (first ++ rest) → AreNoStarts first
none_before [] rest none = tt
none_before (event ∷ first) rest none = (none.0, none_before first rest none.1)

-- Events that a thread knows in two parts, and the event between them.
record Parts (events until : List WorldEvent) (one : WorldEvent) : Type 0 where
  left : List WorldEvent
  here : WorldEvent
  right : List WorldEvent
  parted : events ≡ left ++ here ∷ right
  is_left : map plain left ≡ until
  is_here : plain here ≡ one

parts : (events until since : List WorldEvent) (one : WorldEvent) → map plain events ≡ until ++ one ∷ since → Parts events until one
parts [] [] since one is = absurd (cc)
parts [] (first ∷ until) since one is = absurd (cc)
parts (event ∷ events) [] since one is = record { left = []; here = event; right = events; parted = refl; is_left = refl; is_here = cc }
parts (event ∷ events) (first ∷ until) since one is =
    let rest = parts events until since one (let e : map plain events ≡ until ++ one ∷ since = cc in e) in
    let same : plain event ≡ first = cc in
    record { left = event ∷ rest.left; here = rest.here; right = rest.right; parted = ap (λ (more : List WorldEvent). event ∷ more) rest.parted; is_left = (λ i. same i ∷ rest.is_left i); is_here = rest.is_here }

plain_come : (event : WorldEvent) (worker tenant : ℕ) (job : Job) → plain event ≡ Come worker tenant job → event ≡ Come worker tenant job
plain_come (Come by other asked) worker tenant job is = is
plain_come (Step by) worker tenant job is = is
plain_come (File by Good) worker tenant job is = is
plain_come (File by (Fail number)) worker tenant job is = absurd (cc)
plain_come (Hand by) worker tenant job is = is
plain_come (Restart founds) worker tenant job is = is

-- The arrival in this run.
pub record ArrivesInRun (config : Config) (openings : ℕ → TenantStart) (before events : List WorldEvent) (last : State) (first : View) (known_until : List WorldEvent) (worker tenant request : ℕ) (job : Job) : Type 0 where
  pub until : List WorldEvent
  pub since : List WorldEvent
  pub parted : events ≡ until ++ Come worker tenant job ∷ since
  pub same_until : map plain until ≡ known_until
  pub known : ExtendsKnownRun first.known_run (Some (known_run_of config openings before until))
  pub state : State
  pub played : IsExecution config openings (before ++ until) state
  pub next : State
  pub comes : step config state (Come worker tenant job) ≡ Some next
  pub goes : run config next since ≡ Some last
  pub number : request ≡ (state.tenant_states tenant).asked

module _ (config : Config) (openings : ℕ → TenantStart) (before events : List WorldEvent) (last : State) (played : IsExecution config openings (before ++ events) last)
    (first now : View) (known : ExtendsKnownRun now.known_run (Some (known_run_of config openings before events))) (worker tenant request : ℕ) (job : Job)
    (arrival : Arrives worker tenant request job first now) where
  on : ExtendsRun arrival.known (known_run_of config openings before events)
  on = subst (λ (one : Option KnownRun). ExtendsKnownRun one (Some (known_run_of config openings before events))) arrival.is_known known

  abbrev come : WorldEvent
  come = Come worker tenant job

  split : Parts events arrival.until come
  split = parts events arrival.until (arrival.since ++ on.since) come
      (on.events ∙ (ap (λ (one : List WorldEvent). one ++ on.since) arrival.parted ∙ append_assoc arrival.until (come ∷ arrival.since) on.since))

  parted : events ≡ split.left ++ come ∷ split.right
  parted = split.parted ∙ ap (λ (one : WorldEvent). split.left ++ one ∷ split.right) (plain_come split.here worker tenant job split.is_here)

  abbrev until : List WorldEvent
  until = before ++ split.left

  whole : run config (world_at config openings) (until ++ come ∷ split.right) ≡ Some last
  whole = ap (run config (world_at config openings)) (append_assoc before split.left (come ∷ split.right) ∙ ap (λ (one : List WorldEvent). before ++ one) (sym parted)) ∙ played.runs

  cut : Halves config (world_at config openings) until (come ∷ split.right) last
  cut = halves config (world_at config openings) last until (come ∷ split.right) whole

  played_until : IsExecution config openings until cut.between
  played_until = record { made = played.made; starts = played.starts; runs = cut.before }

  number : request ≡ (cut.between.tenant_states tenant).asked
  number =
      let here = asked_in_run config openings until cut.between tenant played_until in
      let its = arrivals_more tenant before split.left in
      let known_ones = arrivals_more tenant arrival.known.before arrival.until in
      let same = ap (arrivals tenant) on.same_before in
      let left = plain_arrivals tenant split.left in
      let is = ap (arrivals tenant) split.is_left in
      let told = arrival.number in
      omega (arith, here, its, known_ones, same, left, is, told)

  follows : ExtendsKnownRun first.known_run (Some (known_run_of config openings before split.left))
  follows = subst (λ (one : KnownRun). ExtendsKnownRun first.known_run (Some one))
      (λ i. record { openings = sym on.same_openings i; before = sym on.same_before i; events = sym split.is_left i }) arrival.follows

  pub arrives_in_run : ArrivesInRun config openings before events last first arrival.until worker tenant request job
  arrives_in_run =
      option_and_then_some (λ one. run config one split.right) (step config cut.between come) last cut.after (λ next at rest.
      record {
        until = split.left;
        since = split.right;
        parted = parted;
        same_until = split.is_left;
        known = follows;
        state = cut.between;
        played = played_until;
        next = next;
        comes = at;
        goes = rest;
        number = number;
      })
