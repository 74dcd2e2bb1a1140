-- What a thread knows of a file that it has taken stays true over all events but a call on that file.
-- Used by: Preservation, StepRule.
use Rattle.std.specs.Prelude.{ℕ, ◌≡◌, ◌≤◌, true, List, [], ◌∷◌, Option, Some, None}
use Rattle.std.proofs.Common.{refl, sym, subst, ◌∙◌, arith}
use Rattle.mw_words.specs.declared.jobs.Job.{Job}
use Rattle.mw_words.specs.declared.replies.Reply.{Reply}
use Rattle.mw_words.specs.declared.statuses.Status.{Status}
use Rattle.mw_world.specs.declared.config.Config.{Config}
use Rattle.mw_world.specs.Claim.Headline.{IsExecution}
use Rattle.mw_world.specs.Definition.Calls.{starts_from}
use Rattle.mw_world.specs.Definition.Events.{WorldEvent, Come, Step}
use Rattle.mw_world.specs.Definition.State.{State, TenantStart}
use Rattle.mw_world.specs.Definition.World.{run}
use Rattle.mw_world.specs.Files.State.{File}
use Rattle.mw_rule.specs.Calls.OtherEvents.{AreBesideFile}
use Rattle.mw_rule.specs.Calls.FileTokens.{TellsFile}
use Rattle.mw_rule.proofs.Calls.OtherEventLaws.{others_leave_files_long}
use Rattle.mw_rule.proofs.Calls.StableStatusLaws.{statuses_wait_long}
use Rattle.mw_rule.specs.declared.views.FoundStatus.{FoundStatus}
use Rattle.mw_rule.specs.declared.views.HeldFile.{HeldFile}
use Rattle.mw_rule.specs.RunEvents.{hand_out}
use Rattle.mw_rule.specs.Rule.{Each, HoldsFile, WaitsIf, times_held}
use Rattle.mw_rule.proofs.Totals.{weight_own}

-- A step of a request, the hand-out of its reply, and the coming of a request are no call on a file.
pub step_beside : (config : Config) (tenant : ℕ) (state : State) (worker : ℕ) (reply : Option Reply) → AreBesideFile config tenant state (Step worker ∷ hand_out worker reply)
step_beside config tenant state worker None = (tt, λ next is. tt)
step_beside config tenant state worker (Some reply) = (tt, λ next is. (tt, λ last on. tt))

pub come_beside : (config : Config) (tenant : ℕ) (state : State) (worker its : ℕ) (job : Job) (reply : Option Reply)
    → AreBesideFile config tenant state (Come worker its job ∷ Step worker ∷ hand_out worker reply)
come_beside config tenant state worker its job reply = (tt, λ next is. step_beside config tenant next worker reply)

module _ (config : Config) (openings : ℕ → TenantStart) (before : List WorldEvent) (old : State) (played : IsExecution config openings before old) (new : State) (more : List WorldEvent)
    (runs : run config old more ≡ Some new) where
  waits_on : (tenant : ℕ) (found : Option FoundStatus) → AreBesideFile config tenant old more → WaitsIf old tenant found → WaitsIf new tenant found
  waits_on tenant None beside waits = tt
  waits_on tenant (Some found) beside waits =
      let long = statuses_wait_long config openings before more old new found.worker waits.actor waits.called played waits.at_call
      (subst (λ (status : Status). starts_from waits.called.call status ≡ true) (sym waits.is) waits.starts)
      (subst (λ (its : ℕ). AreBesideFile config its old more) (sym waits.its) beside) runs in
      record { actor = waits.actor; called = waits.called; at_call = long.at_call; its = waits.its; is = long.waited.status ∙ waits.is; starts = waits.starts }

  pub held_on : (one : HeldFile) → AreBesideFile config one.file.tenant old more → HoldsFile config old one → HoldsFile config new one
  held_on one beside holds =
      let keeps = others_leave_files_long config more old new one.file.tenant beside runs in
      record {
        there = holds.there;
        tells = subst (λ (quota : ℕ). TellsFile quota config.pool one.file (new.tenant_states one.file.tenant).file) (sym keeps.quota)
            (subst (λ (file : File). TellsFile (old.tenant_states one.file.tenant).quota config.pool one.file file) (sym keeps.file) holds.tells);
        waits = waits_on one.file.tenant one.found beside holds.waits;
      }

  pub all_held_on : (all : List HeldFile) → ((tenant : ℕ) → 1 ≤ times_held tenant all → AreBesideFile config tenant old more) → Each (HoldsFile config old) all → Each (HoldsFile config new) all
  all_held_on [] beside holds = tt
  all_held_on (one ∷ rest) beside holds = (
    held_on one (beside one.file.tenant (let own = weight_own one.file.tenant one.file.tenant refl in omega (arith, own))) holds.0,
    all_held_on rest (λ tenant few. beside tenant (omega (arith, few))) holds.1,
  )
