-- A request that a pass was answered has asked for the change of its job, in every run that goes on from the one that the
-- pass knew. Used by: DurableLaws.
use Rattle.std.specs.Prelude.{ℕ, ◌<◌, ◌++◌, List, [], ◌∷◌, Some}
use Rattle.std.proofs.Common.{sym, subst, ◌∙◌, append_assoc}
use Rattle.mw_words.specs.declared.jobs.Job.{Job}
use Rattle.mw_lone.specs.Store.{entries_of}
use Rattle.mw_world.specs.declared.config.Config.{Config}
use Rattle.mw_world.specs.Claim.Headline.{IsExecution}
use Rattle.mw_world.specs.Definition.Events.{WorldEvent, Come}
use Rattle.mw_world.specs.Definition.State.{State, TenantStart, tenants_of}
use Rattle.mw_law_threads.specs.Whole.WholeChanges.{IsAskedFor}
use Rattle.mw_law_threads.proofs.Whole.WholeChangeLaws.{requests_stay_asked}
use Rattle.mw_rule.specs.FromLaws.{AreNoStarts}
use Rattle.mw_rule.specs.KnownRuns.{ExtendsKnownRun, known_run_of}
use Rattle.mw_rule.specs.RunBehind.{Arrives}
use Rattle.mw_rule.specs.declared.views.View.{View}
use Rattle.mw_law_threads.proofs.History.ArrivalsInRuns.{ArrivesInRun, arrives_in_run, none_after}

module _ (config : Config) (openings : ℕ → TenantStart) (before events : List WorldEvent) (state : State) (played : IsExecution config openings (before ++ events) state) (none : AreNoStarts events)
    (first now : View) (known : ExtendsKnownRun now.known_run (Some (known_run_of config openings before events))) (worker tenant request : ℕ) (job : Job) (low : tenant < tenants_of config)
    (arrival : Arrives worker tenant request job first now) where
  came : ArrivesInRun config openings before events state first arrival.until worker tenant request job
  came = arrives_in_run config openings before events state played first now known worker tenant request job arrival

  abbrev come : WorldEvent
  come = Come worker tenant job

  none_since : AreNoStarts came.since
  none_since = none_after (came.until ++ come ∷ []) came.since (subst AreNoStarts (came.parted ∙ sym (append_assoc came.until (come ∷ []) came.since)) none)

  pub request_asked : IsAskedFor state tenant request (entries_of job)
  request_asked =
      subst (λ (n : ℕ). IsAskedFor state tenant n (entries_of job)) (sym came.number)
      (requests_stay_asked config openings (before ++ came.until) came.since came.state came.next state worker tenant job came.played low came.comes none_since came.goes)
