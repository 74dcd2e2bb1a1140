-- What a thread knows at a moment of the table, or a note has told it, is true in the run that ties the table to the model.
-- For `after_reply`. Used by: DurableLaws, AnswersInOneRunLaws, OwnRequestLaws.
use Rattle.std.specs.Prelude.{ℕ, ◌≡◌, ◌<◌, List, Some}
use Rattle.std.proofs.Common.{sym, subst, ◌∙◌, inl, inr}
use Rattle.atomic_table.specs.Table.{State as Table}
use Rattle.mw_actor.specs.ActorState.{ActorState}
use Rattle.mw_world.specs.declared.config.Config.{Config}
use Rattle.mw_world.specs.Definition.Events.{WorldEvent}
use Rattle.mw_world.specs.Definition.State.{TenantStart, tenants_of}
use Rattle.mw_rule.specs.FromLaws.{IsBeginning, sealed_of}
use Rattle.mw_rule.specs.KnownRuns.{ExtendsKnownRun, known_run_of}
use Rattle.mw_rule.specs.Prefixes.{seen_at}
use Rattle.mw_rule.specs.Rule.{Fits, TableInvariant}
use Rattle.mw_rule.specs.declared.views.View.{View}
use Rattle.mw_rule.proofs.KnownRunLaws.{on_again}
use Rattle.mw_rule.proofs.WorkerStretches.{begins_on}
use Rattle.mw_law_threads.proofs.History.OneHistoryLaws.{fits_live}
use Rattle.mw_law_threads.specs.History.AnswersInOneRun.{IsKnownAt}

module _ (config : Config) (begun : (ℕ → TenantStart) → List WorldEvent → Type 0) (s : Table ActorState View) (tied : TableInvariant config begun s) (now : View) (known : IsKnownAt s now) where
  pub fits : Fits config tied.past.openings tied.state tied.events known.view
  fits = fits_live config begun s tied known.id known.view known.at known.live

  pub same_config : known.view.config ≡ now.config
  same_config = elim known.knows [ inl more ↦ more.same_config | inr told ↦ told.same_config ]

  pub same_openings : known.view.openings ≡ now.openings
  same_openings = elim known.knows [ inl more ↦ more.same_openings | inr told ↦ told.same_openings ]

  pub now_config : now.config ≡ config
  now_config = sym same_config ∙ fits.same_config

  -- the table's run goes on from the known one
  pub table_run : ExtendsKnownRun now.known_run (Some (known_run_of config tied.past.openings tied.past.before tied.events))
  table_run = elim known.knows [
    | inl more ↦ on_again now.known_run known.view.known_run (Some (known_run_of config tied.past.openings tied.past.before tied.events)) more.known_run (tied.known known.id known.view known.at).known
    | inr told ↦ on_again now.known_run known.view.learned_run (Some (known_run_of config tied.past.openings tied.past.before tied.events)) told.learned_run (tied.known known.id known.view known.at).told
  ]

  -- the known changes of a tenant are the first ones sealed in it
  pub seen_first : (tenant : ℕ) → tenant < tenants_of now.config → IsBeginning (seen_at now.seen tenant) (sealed_of tied.past.openings tied.state tenant)
  seen_first tenant low =
      let there : tenant < tenants_of config = subst (λ (c : Config). tenant < tenants_of c) now_config low in
      let sealed = sealed_of tied.past.openings tied.state tenant in
      elim known.knows [
        | inl more ↦ begins_on (seen_at now.seen tenant) (seen_at known.view.seen tenant) sealed (more.seen tenant low) (fits.seen tenant there)
        | inr told ↦ begins_on (seen_at now.seen tenant) (seen_at known.view.told tenant) sealed (told.told tenant low) (fits.told tenant there)
      ]
