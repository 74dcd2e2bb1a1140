-- An event that is no start and no call on a tenant's file leaves that file unchanged. Used by: others_leave_files.
use Rattle.std.specs.Prelude.{ℕ, ◌≡◌, ◌≢◌, ◌⊎◌, [], ◌∷◌, Some}
use Rattle.std.proofs.Common.{refl, sym, subst, ◌∙◌, inl, inr}
use Rattle.std.proofs.lemmas.Option.{option_and_then_some, same_Some}
use Rattle.mw_world.specs.Maps.{upd}
use Rattle.mw_world.specs.declared.config.Config.{Config}
use Rattle.mw_world.specs.Definition.Events.{WorldEvent, Come, Step, File as FileEvent, Hand, Restart}
use Rattle.mw_world.specs.Definition.State.{State, TenantState}
use Rattle.mw_world.specs.Definition.World.{run, step}
use Rattle.mw_law_runs.proofs.Knowledge.Updates.Preservation.{upd_here, upd_else}
use Rattle.mw_law_runs.proofs.Numbers.{same_or_other}
use Rattle.mw_rule.specs.Calls.OtherEvents.{IsBesideFile, KeepsFile, OthersLeaveFiles, OthersLeaveFilesLong}
use Rattle.mw_rule.proofs.Calls.EventsOfWorkers.{call_leads, come_leads, hand_leads, turn_leads}

pub as_it_was : (tenant_state : TenantState) → KeepsFile tenant_state tenant_state
as_it_was tenant_state = record { file = refl; quota = refl; places = refl; is_up = refl }

-- the state of a tenant that isn't the one that changes
pub else_kept : (tenant_states : ℕ → TenantState) (tenant other : ℕ) (now : TenantState) → other ≢ tenant → KeepsFile (tenant_states other) (upd tenant_states tenant now other)
else_kept tenant_states tenant other now apart = subst (KeepsFile (tenant_states other)) (sym (upd_else tenant_states tenant other now apart)) (as_it_was (tenant_states other))

-- one tenant's state changes, and keeps its file
pub one_kept : (tenant_states : ℕ → TenantState) (tenant : ℕ) (now : TenantState) → KeepsFile (tenant_states tenant) now → (other : ℕ) → KeepsFile (tenant_states other) (upd tenant_states tenant now other)
one_kept tenant_states tenant now keeps other = by_tenant (same_or_other other tenant)
  where
    by_tenant : (other ≡ tenant) ⊎ (other ≢ tenant) → KeepsFile (tenant_states other) (upd tenant_states tenant now other)
    by_tenant (inl same) = subst (λ k. KeepsFile (tenant_states k) (upd tenant_states tenant now k)) (sym same) (subst (KeepsFile (tenant_states tenant)) (sym (upd_here tenant_states tenant now)) keeps)
    by_tenant (inr apart) = else_kept tenant_states tenant other now apart

module _ (config : Config) (state next : State) (tenant : ℕ) where
  abbrev Keeps : State → Type 0
  Keeps after = KeepsFile (state.tenant_states tenant) (after.tenant_states tenant)

  event_keeps : (event : WorldEvent) → IsBesideFile state tenant event → step config state event ≡ Some next → Keeps next
  event_keeps (Come worker its job) beside is =
      subst Keeps (come_leads config state next worker its job is) (one_kept state.tenant_states its _ (record { file = refl; quota = refl; places = refl; is_up = refl }) tenant)
  event_keeps (Step worker) beside is =
      turn_leads config state next worker Keeps (λ actor cells observation sits. one_kept state.tenant_states actor.tenant _ (record { file = refl; quota = refl; places = refl; is_up = refl }) tenant) (state.worker_states worker).actor refl is
  event_keeps (FileEvent worker outcome) beside is =
      call_leads config state next worker Keeps (λ actor made sits. else_kept state.tenant_states actor.tenant tenant _ (λ same. beside actor sits (sym same))) outcome (state.worker_states worker).actor refl is
  event_keeps (Hand worker) beside is =
      hand_leads config state next worker Keeps (λ actor sits. one_kept state.tenant_states actor.tenant _ (record { file = refl; quota = refl; places = refl; is_up = refl }) tenant) (state.worker_states worker).actor refl is
  event_keeps (Restart founds) beside is = absurd beside

pub others_leave_files : OthersLeaveFiles
others_leave_files config state next event tenant beside is = event_keeps config state next tenant event beside is

pub keeps_on : (one two three : TenantState) → KeepsFile one two → KeepsFile two three → KeepsFile one three
keeps_on one two three first more = record { file = more.file ∙ first.file; quota = more.quota ∙ first.quota; places = more.places ∙ first.places; is_up = more.is_up ∙ first.is_up }

pub others_leave_files_long : OthersLeaveFilesLong
others_leave_files_long config [] state last tenant beside is = subst (λ (after : State). KeepsFile (state.tenant_states tenant) (after.tenant_states tenant)) (same_Some state last is) (as_it_was (state.tenant_states tenant))
others_leave_files_long config (event ∷ events) state last tenant beside is =
    option_and_then_some (λ next. run config next events) (step config state event) last is (λ next at on.
    keeps_on (state.tenant_states tenant) (next.tenant_states tenant) (last.tenant_states tenant) (others_leave_files config state next event tenant beside.0 at)
    (others_leave_files_long config events next last tenant (beside.1 next at) on))
