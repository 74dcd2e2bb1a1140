-- Only a start changes a tenant's quota, and no event changes how many record places its file has.
-- Used by: quotas_are_told, mw_rule.
use Rattle.std.specs.Prelude.{ℕ, zero, suc, ◌≡◌, ◌≢◌, ◌⊎◌, ◌++◌, List, [], ◌∷◌, Option, Some, None}
use Rattle.std.specs.Option.{unwrap_or}
use Rattle.std.proofs.Common.{refl, sym, ap, subst, ◌∙◌, inl, inr, arith}
use Rattle.std.proofs.lemmas.Option.{none-some}
use Rattle.mw_lone.specs.declared.marks.Mark.{Mark}
use Rattle.mw_lone.specs.declared.marks.Mark.TheVariants.{Ask, Admit, Busy, Look, Miss, Seal, SealFail, FileFail, GiveUp, Retire, Reply as HandOut, Restart as IsRestart}
use Rattle.mw_lone.specs.Laws.{quota_after, quota_by}
use Rattle.mw_actor.specs.ActorState.{ActorState}
use Rattle.mw_world.specs.Maps.{upd}
use Rattle.mw_world.specs.declared.outcomes.Outcome.{Outcome}
use Rattle.mw_world.specs.declared.config.Config.{Config}
use Rattle.mw_world.specs.Claim.Headline.{IsExecution}
use Rattle.mw_world.specs.Definition.Calls.{call}
use Rattle.mw_world.specs.Definition.Events.{WorldEvent, Come, Step, File, Hand, Restart}
use Rattle.mw_world.specs.Definition.Restarts.{quotas_then, restarted}
use Rattle.mw_world.specs.Definition.State.{State, TenantState, TenantStart, QuotasFit, marks_in, marks_of, places_of, quotas_of, quotas_together, tenants_of}
use Rattle.mw_world.specs.Definition.Turns.{turn}
use Rattle.mw_world.specs.Definition.World.{hand, step}
use Rattle.mw_law_runs.proofs.Counts.Startable.{may_start}
use Rattle.mw_law_runs.proofs.Knowledge.Updates.Preservation.{upd_here, upd_else}
use Rattle.mw_law_runs.proofs.Numbers.{same_or_other}
use Rattle.mw_law_runs.proofs.RunsAreSound.{runs_are_sound}
use Rattle.mw_law_runs.proofs.GuardedEvents.{guarded}
use Rattle.mw_law_store.specs.History.{HasNoStart, IsNoStart}
use Rattle.mw_law_store.specs.Quotas.{EventsTellQuotas, QuotasAreTold, QuotasMayStay, QuotasStayWithinThePool}
use Rattle.mw_law_store.proofs.Beginnings.{played_by_events}
use Rattle.mw_law_store.proofs.Histories.{asks_stand_once}
use Rattle.mw_law_store.proofs.MarksOfEvents.{call_comes, come_comes, hand_comes, turn_comes}
use Rattle.mw_law_store.proofs.RunSimulation.{runs_are_simulated}

-- What a start gave a tenant is still there, with its marks up to that start.
record IsAsGiven (old new : TenantState) : Type 0 where
  quota : new.quota ≡ old.quota
  places : new.places ≡ old.places
  closed : new.closed ≡ old.closed

one_given : (tenant_states : ℕ → TenantState) (tenant : ℕ) (now : TenantState) → IsAsGiven (tenant_states tenant) now → (other : ℕ) → IsAsGiven (tenant_states other) (upd tenant_states tenant now other)
one_given tenant_states tenant now is other = by_tenant (same_or_other other tenant)
  where
    by_tenant : (other ≡ tenant) ⊎ (other ≢ tenant) → IsAsGiven (tenant_states other) (upd tenant_states tenant now other)
    by_tenant (inl same) = subst (λ k. IsAsGiven (tenant_states k) (upd tenant_states tenant now k)) (sym same) (subst (IsAsGiven (tenant_states tenant)) (sym (upd_here tenant_states tenant now)) is)
    by_tenant (inr apart) = subst (IsAsGiven (tenant_states other)) (sym (upd_else tenant_states tenant other now apart)) (record { quota = refl; places = refl; closed = refl })

-- Over one event.

module _ (config : Config) (state next : State) (tenant : ℕ) where
  abbrev Stays : State → Type 0
  Stays after = IsAsGiven (state.tenant_states tenant) (after.tenant_states tenant)

  turn_stays : (worker : ℕ) (found : Option ActorState) → turn config state worker found ≡ Some next → Stays next
  turn_stays worker None is = absurd (none-some next is)
  turn_stays worker (Some actor) is =
      turn_comes Stays config state next worker actor (λ cells observation. one_given state.tenant_states actor.tenant _ (record { quota = refl; places = refl; closed = refl }) tenant) is

  call_stays : (worker : ℕ) (outcome : Outcome) (found : Option ActorState) → call config state worker found outcome ≡ Some next → Stays next
  call_stays worker outcome None is = absurd (none-some next is)
  call_stays worker outcome (Some actor) is =
      call_comes Stays config state next worker actor outcome (λ made ends. one_given state.tenant_states actor.tenant _ (record { quota = refl; places = refl; closed = refl }) tenant) is

  hand_stays : (worker : ℕ) (found : Option ActorState) → hand state worker found ≡ Some next → Stays next
  hand_stays worker None is = absurd (none-some next is)
  hand_stays worker (Some actor) is =
      hand_comes Stays config state next worker actor (λ reply stands. one_given state.tenant_states actor.tenant _ (record { quota = refl; places = refl; closed = refl }) tenant) is

  event_stays : (event : WorldEvent) → IsNoStart event → step config state event ≡ Some next → Stays next
  event_stays (Come worker its job) no_start is =
      come_comes Stays config state next worker its job (λ may. one_given state.tenant_states its _ (record { quota = refl; places = refl; closed = refl }) tenant) is
  event_stays (Step worker) no_start is = turn_stays worker (state.worker_states worker).actor is
  event_stays (File worker outcome) no_start is = call_stays worker outcome (state.worker_states worker).actor is
  event_stays (Hand worker) no_start is = hand_stays worker (state.worker_states worker).actor is
  event_stays (Restart founds) no_start is = absurd no_start

pub events_tell_quotas : EventsTellQuotas
events_tell_quotas config state next (Come worker its job) tenant is = let stays = event_stays config state next tenant (Come worker its job) tt is in (stays.quota, stays.places)
events_tell_quotas config state next (Step worker) tenant is = let stays = event_stays config state next tenant (Step worker) tt is in (stays.quota, stays.places)
events_tell_quotas config state next (File worker outcome) tenant is = let stays = event_stays config state next tenant (File worker outcome) tt is in (stays.quota, stays.places)
events_tell_quotas config state next (Hand worker) tenant is = let stays = event_stays config state next tenant (Hand worker) tt is in (stays.quota, stays.places)
events_tell_quotas config state next (Restart founds) tenant is =
    guarded (λ (one : State). ((one.tenant_states tenant).quota ≡ quotas_then state founds tenant) × ((one.tenant_states tenant).places ≡ (state.tenant_states tenant).places)) (may_start config state founds)
    (restarted config state founds) next (λ may. (refl, refl)) is

-- Of marks.

quota_more : (quota : ℕ) (marks : List Mark) (mark : Mark) → quota_after quota (marks ++ mark ∷ []) ≡ quota_by (quota_after quota marks) mark
quota_more quota [] mark = refl
quota_more quota (first ∷ marks) mark = quota_more (quota_by quota first) marks mark

quota_append : (quota : ℕ) (first rest : List Mark) → quota_after quota (first ++ rest) ≡ quota_after (quota_after quota first) rest
quota_append quota [] rest = refl
quota_append quota (mark ∷ first) rest = quota_append (quota_by quota mark) first rest

-- lines without a start leave the quota
quota_of_lines : (quota : ℕ) (lines : List (Option Mark)) → HasNoStart lines → quota_after quota (marks_in lines) ≡ quota
quota_of_lines quota [] none = refl
quota_of_lines quota (None ∷ lines) none = quota_of_lines quota lines (λ place. none (suc place))
quota_of_lines quota (Some mark ∷ lines) none = ap (λ now. quota_after now (marks_in lines)) (stays mark none) ∙ quota_of_lines quota lines (λ place. none (suc place))
  where
    stays : (one : Mark) → HasNoStart (Some one ∷ lines) → quota_by quota one ≡ quota
    stays (IsRestart interrupted found opened told) none = absurd (none zero interrupted found opened told refl)
    stays (Ask n job) none = refl
    stays (Admit n) none = refl
    stays (Busy n) none = refl
    stays (Look n) none = refl
    stays (Miss n i) none = refl
    stays (Seal n) none = refl
    stays (SealFail n) none = refl
    stays FileFail none = refl
    stays (GiveUp n) none = refl
    stays (Retire n) none = refl
    stays (HandOut n) none = refl

-- Over runs.

module _ (config : Config) (openings : ℕ → TenantStart) (tenant : ℕ) where
  -- The quota by the marks up to the last start, and the places.
  record IsAtStart (state : State) : Type 0 where
    quota : (state.tenant_states tenant).quota ≡ quota_after (openings tenant).quota (state.tenant_states tenant).closed
    places : (state.tenant_states tenant).places ≡ (openings tenant).places

  stays_so : (state next : State) → IsAtStart state → IsAsGiven (state.tenant_states tenant) (next.tenant_states tenant) → IsAtStart next
  stays_so state next was stays = record {
    quota = stays.quota ∙ was.quota ∙ ap (quota_after (openings tenant).quota) (sym stays.closed);
    places = stays.places ∙ was.places;
  }

  goes_on : (state next : State) (event : WorldEvent) → IsAtStart state → step config state event ≡ Some next → IsAtStart next
  goes_on state next (Come worker its job) was is = stays_so state next was (event_stays config state next tenant (Come worker its job) tt is)
  goes_on state next (Step worker) was is = stays_so state next was (event_stays config state next tenant (Step worker) tt is)
  goes_on state next (File worker outcome) was is = stays_so state next was (event_stays config state next tenant (File worker outcome) tt is)
  goes_on state next (Hand worker) was is = stays_so state next was (event_stays config state next tenant (Hand worker) tt is)
  goes_on state next (Restart founds) was is =
      guarded IsAtStart (may_start config state founds) (restarted config state founds) next
      (λ may. record { quota = sym (quota_more (openings tenant).quota (marks_of state tenant) _); places = was.places }) is

  at_start : (events : List WorldEvent) (state : State) → IsExecution config openings events state → IsAtStart state
  at_start = played_by_events config openings (λ before now. IsAtStart now) (record { quota = refl; places = refl }) (λ before event now next played was is. goes_on now next event was is)

pub quotas_are_told : QuotasAreTold
quotas_are_told config openings events state tenant played low =
    let tenant_state = state.tenant_states tenant in
    let first = (openings tenant).quota in
    let was = at_start config openings tenant events state played in
    let fit = (runs_are_sound config openings events state played).0.counts.counts.limits in
    record {
      told =
          was.quota ∙ sym (quota_of_lines (quota_after first tenant_state.closed) tenant_state.lines (asks_stand_once runs_are_simulated config openings events state tenant played low).no_start)
          ∙ sym (quota_append first tenant_state.closed (marks_in tenant_state.lines));
      limits = fit.each tenant low;
      room = fit.room tenant low;
      places = was.places;
    }

pub quotas_stay_within_the_pool : QuotasStayWithinThePool
quotas_stay_within_the_pool config openings events state played = (runs_are_sound config openings events state played).0.counts.counts.limits.together

-- quotas that are the same fit too
fit_still : (config : Config) (old new places : ℕ → ℕ) → ((tenant : ℕ) → new tenant ≡ old tenant) → QuotasFit config old places → QuotasFit config new places
fit_still config old new places same fit = record {
  each = λ tenant low. (omega (arith, same tenant, (fit.each tenant low).0), omega (arith, same tenant, (fit.each tenant low).1));
  room = λ tenant low. omega (arith, same tenant, fit.room tenant low);
  together = omega (arith, same_together (tenants_of config), fit.together);
}
  where
    same_together : (many : ℕ) → quotas_together new many ≡ quotas_together old many
    same_together zero = refl
    same_together (suc many) = omega (arith, same many, same_together many)

pub quotas_may_stay : QuotasMayStay
quotas_may_stay config openings events state founds played none =
    fit_still config (quotas_of state) (quotas_then state founds) (places_of state) (λ tenant. ap (λ (told : Option ℕ). unwrap_or told (state.tenant_states tenant).quota) (none tenant))
    (runs_are_sound config openings events state played).0.counts.counts.limits
