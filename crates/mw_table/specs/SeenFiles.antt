-- Defines what a pass sees when it confirms what is known of a tenant's file: all changes that were sealed in it.
-- Used by: `Shared::confirm_with` (src/file_calls.rt), mw_core.
use Rattle.std.specs.Prelude.{ℕ, ◌≡◌, ◌<◌, List}
use Rattle.mw_world.specs.Claim.Headline.{IsExecution}
use Rattle.mw_world.specs.Definition.Events.{WorldEvent}
use Rattle.mw_world.specs.Definition.State.{State, TenantStart, tenants_of}
use Rattle.mw_rule.specs.Calls.FileTokens.{TellsFile}
use Rattle.mw_rule.specs.FromLaws.{put_sealed, sealed_of}
use Rattle.mw_rule.specs.KnownRuns.{ExtendsKnownRun}
use Rattle.mw_rule.specs.Prefixes.{Gave, opening_at, seen_at}
use Rattle.mw_rule.specs.Rule.{IsRight, words_given}
use Rattle.mw_rule.specs.Steps.{ExtendsView}
use Rattle.mw_rule.specs.declared.views.View.{View}
use Rattle.mw_table.specs.declared.file_pass.FilePass.{FilePass}
use Rattle.mw_table.specs.FileCalls.{file_kept}

-- A thread sees a file:
--
-- - What it knows has grown: it extends what it knew before, and the run that was known with the file. Its tokens and its finished
--   requests stay, and all of it is right: no request has two of the changes that it has seen.
-- - In a world after some run, what is known of the file is true. The changes of the file's tenant that the thread has seen are all
--   that were sealed there since the latest start. That start gave the tenant what the thread knows.
-- - So the file has the words that the start gave, with all these changes put over them, in order.
pub record SeesFile (file_pass : FilePass) (old new : View) : Type 0 where
  pub keeps : ExtendsView old new
  pub follows : ExtendsKnownRun file_pass.seat.me.0.known_run new.known_run
  pub same_token : new.tokens ≡ old.tokens
  pub same_mine : new.mine ≡ old.mine
  pub right : IsRight new
  pub openings : ℕ → TenantStart
  pub events : List WorldEvent
  pub state : State
  pub played : IsExecution new.config openings events state
  pub there : file_pass.tenant < tenants_of new.config
  pub tells : TellsFile (state.tenant_states file_pass.tenant).quota new.config.pool (file_kept file_pass) (state.tenant_states file_pass.tenant).file
  pub gave : Gave openings state file_pass.tenant (opening_at new.openings file_pass.tenant)
  pub all : seen_at new.seen file_pass.tenant ≡ sealed_of openings state file_pass.tenant
  pub contents : (file_kept file_pass).contents ≡ put_sealed (words_given new file_pass.tenant) (seen_at new.seen file_pass.tenant)
