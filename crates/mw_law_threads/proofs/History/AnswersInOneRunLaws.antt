-- A reply that a pass gave is handed out in every run that goes on from the one that the pass knew with it.
-- For `after_reply`.
use Rattle.std.specs.Prelude.{ℕ, ◌≡◌, ◌<◌, ◌++◌, List, [], ◌∷◌, map, slice_get, Option, Some}
use Rattle.std.proofs.Common.{refl, sym, ap, subst, ◌∙◌, inl, inr}
use Rattle.atomic_table.specs.Table.{State as Table}
use Rattle.mw_words.specs.declared.jobs.Job.{Job}
use Rattle.mw_words.specs.declared.replies.Reply.{Reply}
use Rattle.mw_actor.specs.ActorState.{ActorState}
use Rattle.mw_world.specs.declared.config.Config.{Config}
use Rattle.mw_world.specs.Claim.Headline.{IsExecution}
use Rattle.mw_world.specs.Definition.Events.{WorldEvent}
use Rattle.mw_world.specs.Definition.State.{State, TenantStart, tenants_of, world_at}
use Rattle.mw_world.specs.Definition.World.{run}
use Rattle.mw_law_store.specs.ReplyPlaces.{words_at_start}
use Rattle.mw_rule.specs.FromLaws.{AreNoStarts, sealed_of}
use Rattle.mw_rule.specs.KnownRuns.{KnownRun, ExtendsKnownRun, ExtendsRun, known_run_of, plain}
use Rattle.mw_rule.specs.Prefixes.{opening_at, seen_at}
use Rattle.mw_rule.specs.Rule.{Each, Holds, IsFinished, IsHandedOut, IsRightAmong, TableInvariant, events_of_worker, quota_given, words_given}
use Rattle.mw_rule.specs.Steps.{finished_as}
use Rattle.mw_rule.specs.declared.views.Finished.{Finished}
use Rattle.mw_rule.specs.declared.views.View.{View}
use Rattle.mw_rule.proofs.HandedReplies.{handed_more}
use Rattle.mw_rule.proofs.KnowledgeIsRight.{right_on}
use Rattle.mw_core.proofs.FromTable.{each_last}
use Rattle.mw_engine.specs.History.{IsAnswered}
use Rattle.mw_law_threads.proofs.History.AnswerMomentLaws.{comes_after, has_moment}
use Rattle.mw_law_threads.proofs.History.ArrivalsInRuns.{halves}
use Rattle.mw_law_threads.proofs.History.KnownMoments.{fits, now_config, same_openings, seen_first, table_run}
use Rattle.mw_law_threads.proofs.History.SameReplies.{same_replies}
use Rattle.mw_law_threads.proofs.Whole.RefusedChangeLaws.{refused_requests_make_no_change}
use Rattle.mw_law_threads.specs.History.AnswersInOneRun.{AnswersAreInOneRun, AnswersComeAfterEarlierOnes, IsKnownAt}
use Rattle.mw_law_threads.specs.History.OneHistory.{IsRightInRun}

-- events that begin as known ones, in two parts
cut : (events : List WorldEvent) (first since : List WorldEvent) → map plain events ≡ first ++ since → (left : List WorldEvent) × (right : List WorldEvent) × (events ≡ left ++ right) × (map plain left ≡ first)
cut events [] since is = ([], events, refl, refl)
cut [] (one ∷ first) since is = absurd (cc)
cut (event ∷ events) (one ∷ first) since is =
    let rest : map plain events ≡ first ++ since = cc in
    let here : plain event ≡ one = cc in
    let more = cut events first since rest in
    (event ∷ more.0, more.1, ap (λ (all : List WorldEvent). event ∷ all) more.2, λ i. here i ∷ more.3 i)

-- what one run hands out, each run hands out that goes on from it as it is known
handed_on : (config : Config) (openings starts : ℕ → TenantStart) (events others : List WorldEvent) (state there : State) → IsExecution config openings events state → IsExecution config starts others there → AreNoStarts others
    → ExtendsRun (known_run_of config starts [] others) (known_run_of config openings [] events) → (one : Finished) → IsHandedOut config (world_at config starts) others one → IsHandedOut config (world_at config openings) events one
handed_on config openings starts events others state there played also none on one handed =
    let parts = cut events (map plain others) on.since on.events in
    let left = parts.0 in
    let right = parts.1 in
    let whole = ap (run config (world_at config openings)) (sym parts.2) ∙ played.runs in
    let half = halves config (world_at config openings) state left right whole in
    let same = same_replies config starts openings one.tenant others left there half.between on.same_openings (sym parts.3) none also (record { made = played.made; starts = played.starts; runs = half.before }) in
    let first : IsHandedOut config (world_at config openings) left one = (handed.0, ap (λ (all : List (ℕ × Reply)). slice_get all handed.0) (sym same) ∙ handed.1) in
    subst (λ (all : List WorldEvent). IsHandedOut config (world_at config openings) all one) (sym parts.2) (handed_more config (world_at config openings) left right one first)

-- so it is of a reply that a pass gave
module _ (config : Config) (openings : ℕ → TenantStart) (events : List WorldEvent) (state : State) (played : IsExecution config openings events state) (first now : View) (tenant : ℕ) (job : Job) (reply : Reply)
    (one : IsAnswered first now tenant job reply) (same_config : now.config ≡ config) (known : ExtendsKnownRun now.known_run (Some (known_run_of config openings [] events))) where
  abbrev finished : Finished
  finished = finished_as one.token tenant job reply one.answered.place

  on : ExtendsRun (known_run_of now.config one.run.behind.openings one.run.behind.before one.run.behind.events) (known_run_of config openings [] events)
  on = subst (λ (own : Option KnownRun). ExtendsKnownRun own (Some (known_run_of config openings [] events))) one.run.behind.known_run known

  none_before : one.run.behind.before ≡ []
  none_before = sym on.same_before

  own_run : IsExecution config one.run.behind.openings one.run.behind.events one.run.behind.state
  own_run = subst (λ (c : Config). IsExecution c one.run.behind.openings one.run.behind.events one.run.behind.state) same_config
      (subst (λ (before : List WorldEvent). IsExecution now.config one.run.behind.openings (before ++ one.run.behind.events) one.run.behind.state) none_before one.run.behind.played)

  goes_on : ExtendsRun (known_run_of config one.run.behind.openings [] one.run.behind.events) (known_run_of config openings [] events)
  goes_on = subst (λ (c : Config). ExtendsRun (known_run_of c one.run.behind.openings [] one.run.behind.events) (known_run_of config openings [] events)) same_config
      (subst (λ (before : List WorldEvent). ExtendsRun (known_run_of now.config one.run.behind.openings before one.run.behind.events) (known_run_of config openings [] events)) none_before on)

  own_handed : IsHandedOut now.config (world_at now.config one.run.behind.openings) (one.run.behind.before ++ one.run.behind.events) finished
  own_handed = each_last (IsHandedOut now.config (world_at now.config one.run.behind.openings) (one.run.behind.before ++ one.run.behind.events)) first.mine finished
      (subst (Each (IsHandedOut now.config (world_at now.config one.run.behind.openings) (one.run.behind.before ++ one.run.behind.events))) one.answered.noted one.run.behind.handed)

  handed : IsHandedOut config (world_at config openings) events finished
  handed = handed_on config openings one.run.behind.openings events one.run.behind.events state one.run.behind.state played own_run one.run.behind.no_starts goes_on finished
      (subst (λ (c : Config). IsHandedOut c (world_at c one.run.behind.openings) one.run.behind.events finished) same_config
      (subst (λ (before : List WorldEvent). IsHandedOut now.config (world_at now.config one.run.behind.openings) (before ++ one.run.behind.events) finished) none_before own_handed))

module _ (config : Config) (begun : (ℕ → TenantStart) → List WorldEvent → Type 0) (s : Table ActorState View) (tied : TableInvariant config begun s) (first now : View) (tenant : ℕ) (job : Job) (reply : Reply)
    (one : IsAnswered first now tenant job reply) (at_start : tied.past.before ≡ []) (known : IsKnownAt s now) where
  abbrev finished_so : Finished
  finished_so = finished_as one.token tenant job reply one.answered.place

  its_config : now.config ≡ config
  its_config = now_config config begun s tied now known

  its_run : ExtendsKnownRun now.known_run (Some (known_run_of config tied.past.openings tied.past.before tied.events))
  its_run = table_run config begun s tied now known

  handed_out : IsHandedOut config (world_at config tied.past.openings) (tied.past.before ++ tied.events) finished_so
  handed_out = subst (λ (before : List WorldEvent). IsHandedOut config (world_at config tied.past.openings) (before ++ tied.events) finished_so) (sym at_start)
      (handed config tied.past.openings tied.events tied.state
      (subst (λ (before : List WorldEvent). IsExecution config tied.past.openings (before ++ tied.events) tied.state) at_start tied.past.played) first now tenant job reply one its_config
      (subst (λ (before : List WorldEvent). ExtendsKnownRun now.known_run (Some (known_run_of config tied.past.openings before tied.events))) at_start its_run))

  among : IsRightAmong (tenants_of config) (λ t. (tied.state.tenant_states t).quota) (words_at_start tied.past.openings tied.state) (sealed_of tied.past.openings tied.state) finished_so
  among =
      let own = each_last (IsFinished now) first.mine finished_so (subst (Each (IsFinished now)) one.answered.noted one.right.mine) in
      let so = subst (λ (c : Config). IsRightAmong (tenants_of c) (quota_given now) (words_given now) (seen_at now.seen) finished_so) its_config own in
      let fitting = fits config begun s tied now known in
      let given = λ (t : ℕ). ap (λ (all : List TenantStart). opening_at all t) (sym (same_openings config begun s tied now known)) in
      right_on (tenants_of config) (quota_given now) (λ t. (tied.state.tenant_states t).quota) (words_given now) (words_at_start tied.past.openings tied.state) (seen_at now.seen) (sealed_of tied.past.openings tied.state)
      (λ t low. ap (λ (opening : TenantStart). opening.quota) (given t) ∙ sym (fitting.gave t low).quota)
      (λ t low. ap (λ (opening : TenantStart). opening.words) (given t) ∙ sym (fitting.gave t low).words)
      (λ t low. seen_first config begun s tied now known t (subst (λ (c : Config). t < tenants_of c) (sym its_config) low))
      finished_so so

  right : IsRightInRun config tied.past.openings tied.past.before tied.events tied.state finished_so
  right = record { there = among.there; within = among.within; right = among.right; handed = handed_out }

pub in_one_run : (config : Config) (begun : (ℕ → TenantStart) → List WorldEvent → Type 0) → AnswersAreInOneRun config begun
in_one_run config begun s tied first now tenant job reply one at_start known =
    let is = right config begun s tied first now tenant job reply one at_start known in
    let past = tied.past in
    record {
      right = is;
      moment = has_moment config past.openings past.before tied.events tied.state past.played past.no_starts first now (table_run config begun s tied now known) one.token.worker tenant one.token.request job reply
          one.run.arrival is.handed.0 is.handed.1;
      refused = λ tells. refused_requests_make_no_change config past.openings (past.before ++ tied.events) tied.state tenant is.handed.0 one.token.request reply past.played is.there is.handed.1 tells;
    }

pub in_time : (config : Config) (begun : (ℕ → TenantStart) → List WorldEvent → Type 0) → AnswersComeAfterEarlierOnes config begun
in_time config begun s next tied more on id first now was tenant job reply one at_start here only own known =
    let after = on.after in
    let past = after.past in
    let began = on.same_before ∙ at_start in
    let goes = table_run config begun next after now known in
    let hands = handed_out config begun next after first now tenant job reply one began known in
    comes_after config past.openings past.before after.events after.state past.played past.no_starts first now goes one.token.worker tenant one.token.request job reply one.run.arrival hands.0 hands.1
    tied.events more was only on.events did
  where
    did : events_of_worker one.token.worker tied.events ≡ was.made
    did = elim (tied.fits id first here) [
      | inl spent ↦ absurd (let none = spent.no_tokens in cc)
      | inr fitting ↦ subst (λ (n : ℕ). events_of_worker n tied.events ≡ was.made) own (subst (Each (Holds config tied.past.openings tied.state tied.events)) only fitting.token).0.made
    ]
