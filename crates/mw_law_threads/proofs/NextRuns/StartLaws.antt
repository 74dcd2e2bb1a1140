-- A start that found what a stop of the world may have left is legal for the tenant's store, and leaves the words that it found.
-- Used by: proofs/NextRuns/ServersInTurnLaws.
use Rattle.std.specs.Prelude.{ℕ, ◌≡◌, ◌<◌, ◌≤◌, ◌⊎◌, ◌++◌, Bool, true, false, if◌then◌else◌, nat_le, List, [], ◌∷◌, Option, Some, None}
use Rattle.std.proofs.Common.{refl, sym, ap, ◌∙◌, inl, inr, append_assoc}
use Rattle.std.proofs.lemmas.Bool.{and_from, le-leb}
use Rattle.mw_words.specs.declared.jobs.Entry.{Entry}
use Rattle.mw_words.specs.declared.limits.TheConstants.{MAX_QUOTA}
use Rattle.mw_words.specs.Change.{put}
use Rattle.mw_lone.specs.declared.marks.Mark.TheVariants.{Restart}
use Rattle.mw_lone.specs.Store.{Store, entries_in_doubt, is_quota, run as run_of_store, store_after_start, step as step_of_store}
use Rattle.mw_world.specs.declared.config.Config.{Config}
use Rattle.mw_world.specs.Claim.Headline.{IsRun}
use Rattle.mw_world.specs.Definition.Events.{WorldEvent, Come, Step, File, Hand, Restart as RestartAll}
use Rattle.mw_world.specs.Definition.Restarts.{doubt_then, interrupted_request, under_way}
use Rattle.mw_world.specs.Definition.State.{State, TenantStart, marks_of, store_at, tenants_of, world_at}
use Rattle.mw_world.specs.Definition.World.{run, step}
use Rattle.mw_law_store.proofs.DecidedChangesFit.{decided_changes_fit}
use Rattle.mw_law_store.proofs.Late.MarkEffectLaws.{doing-marks}
use Rattle.mw_law_store.proofs.Numbers.{runs_are_not_worn}
use Rattle.mw_law_store.proofs.ServiceLaws as serving
use Rattle.mw_law_store.proofs.ServiceLaws.{EventsAreServed, IsServed, IsWithFactsWorld}
use Rattle.mw_law_store.proofs.SimulationSteps.Called.{call_met}
use Rattle.mw_law_store.proofs.SimulationSteps.Come.{come_met}
use Rattle.mw_law_store.proofs.SimulationSteps.Handed.{hand_met}
use Rattle.mw_law_store.proofs.SimulationSteps.Met.{Met}
use Rattle.mw_law_store.proofs.SimulationSteps.Started.{restarts_served, starts_served, stores_left, stores_shown}
use Rattle.mw_law_store.proofs.SimulationSteps.Turned.{turn_met}
use Rattle.mw_law_store.proofs.StartSimulation.{could_be_cut, leaves_in_doubt}
use Rattle.mw_law_store.proofs.WorldFactLaws.{runs_have_world_facts}
use Rattle.mw_law_store.specs.History.{IsNoStart}
use Rattle.mw_law_store.specs.Late.MarkEffects.{CouldBeInterrupted, IsInDoubt}
use Rattle.mw_law_store.specs.Simulation.{IsSimulatedBy}
use Rattle.mw_law_threads.specs.NextRuns.FoundAfter.{IsFoundAfter}

-- The store that serves a tenant at the end of a run, and which its part of the world refines.

event_met : (config : Config) (openings : ℕ → TenantStart) (state next : State) (event : WorldEvent) (tenant : ℕ) (store : Store) → IsWithFactsWorld config state → tenant < tenants_of config
    → IsSimulatedBy openings state tenant store → IsNoStart event → step config state event ≡ Some next → Met openings state next event tenant store
event_met config openings state next (Come worker asked job) tenant store world low simulated no_start is = come_met config openings state next worker asked job tenant store world low simulated is
event_met config openings state next (Step worker) tenant store world low simulated no_start is = turn_met config openings state next worker tenant store world simulated is
event_met config openings state next (File worker outcome) tenant store world low simulated no_start is = call_met config openings state next worker outcome tenant store world simulated is
event_met config openings state next (Hand worker) tenant store world low simulated no_start is = hand_met config openings state next worker tenant store world simulated is
event_met config openings state next (RestartAll founds) tenant store world low simulated no_start is = absurd no_start

events_served : EventsAreServed
events_served config openings state next event tenant made world fresh low served no_start is =
    let met = event_met config openings state next event tenant served.store world low served.simulated no_start is in
    record { on = met.on; late = met.late fresh served.legal; legal = met.still fresh served.legal }

module _ (config : Config) (openings : ℕ → TenantStart) (events : List WorldEvent) (state : State) (tenant : ℕ) (is : IsRun config openings events state) (low : tenant < tenants_of config) where
  facts_of : (first : List WorldEvent) (between : State) → IsRun config openings first between → IsWithFactsWorld config between
  facts_of first between begun = serving.with_facts events_served restarts_served starts_served stores_shown stores_left runs_have_world_facts runs_are_not_worn config openings first between begun.played

  -- a prefix of the run is a run
  begins : (first rest : List WorldEvent) (between : State) → events ≡ first ++ rest → run config (world_at config openings) first ≡ Some between → IsRun config openings first between
  begins first rest between parted came = record {
    played = record { made = is.played.made; starts = is.played.starts; runs = came };
    numbers = λ sooner later there split ran. is.numbers sooner (later ++ rest) there (parted ∙ ap (λ (all : List WorldEvent). all ++ rest) split ∙ append_assoc sooner later rest) ran;
  }

  through : serving.GoesThrough events_served restarts_served config openings tenant (world_at config openings) state events
  through =
      serving.goes_through events_served restarts_served config openings tenant events (world_at config openings) state is.played.made low
      (λ first rest between parted came. let begun = begins first rest between parted came in (facts_of first between begun, runs_are_not_worn config openings first between begun))
      (starts_served config openings tenant is.played.starts low) is.played.runs

  pub served : IsServed openings state tenant
  served = through.served

  pub legal : run_of_store (store_at (openings tenant)) (marks_of state tenant) ≡ Some served.store
  unfolding served
  legal = serving.all_legal events_served restarts_served config openings tenant state through.served.store through.served.legal

  facts : IsWithFactsWorld config state
  facts = facts_of events state is

  -- The start is legal, and leaves the words that it found.
  pub record Starts (words : List ℕ) (opened : Bool) (quota : ℕ) : Type 0 where
    pub interrupted : Option ℕ
    pub take : Bool
    pub goes : step_of_store served.store (Restart interrupted take opened quota) ≡ Some (store_after_start served.store words opened quota)

  module _ (words : List ℕ) (opened : Bool) (quota : ℕ) (fits : is_quota quota ≡ true) (found : IsFoundAfter config state tenant words) where
    abbrev cut : Option ℕ
    cut = interrupted_request (under_way config state found.interrupted)

    abbrev doubt : List Entry
    doubt = doubt_then (state.tenant_states tenant).file (under_way config state found.interrupted)

    could : CouldBeInterrupted served.store cut
    could = could_be_cut config state tenant served.store found.interrupted decided_changes_fit facts.sound facts.files facts.world_facts served.simulated.refines found.may

    same_words : (state.tenant_states tenant).file.contents ≡ served.store.words
    same_words = served.simulated.refines.holds.words

    same_doubt : doubt ≡ entries_in_doubt served.store cut
    same_doubt = (leaves_in_doubt config state tenant served.store facts.sound facts.files served.simulated.refines).in_doubt found.interrupted found.may

    with_mark : (take : Bool) → (take ≡ true → IsInDoubt served.store cut) → words ≡ (if take then put served.store.words (entries_in_doubt served.store cut) else served.store.words) → Starts words opened quota
    with_mark take in_doubt are = record {
      interrupted = cut;
      take = take;
      goes = doing-marks served.store (store_after_start served.store words opened quota) (Restart cut take opened quota)
          (record { could_be_interrupted = could; is_in_doubt = in_doubt; may_be_given = fits; after = ap (λ (one : List ℕ). store_after_start served.store one opened quota) are });
    }

    is_there : (cut : Option ℕ) (entry : Entry) (rest : List Entry) → entries_in_doubt served.store cut ≡ entry ∷ rest → IsInDoubt served.store cut
    is_there (Some n) entry rest are = tt
    is_there None entry rest are = λ none. not_empty (sym are ∙ none)
      where
        not_empty : entry ∷ rest ≡ [] → ⊥
        not_empty e = cc

    false_true : false ≡ true → ⊥
    false_true e = cc

    by_words : (more : List Entry) → doubt ≡ more → (words ≡ (state.tenant_states tenant).file.contents) ⊎ (words ≡ put (state.tenant_states tenant).file.contents doubt) → Starts words opened quota
    by_words more is_more (inl before) = with_mark false (λ e. absurd (false_true e)) (before ∙ same_words)
    by_words [] is_more (inr after) =
        with_mark false (λ e. absurd (false_true e)) (after ∙ ap (put (state.tenant_states tenant).file.contents) is_more ∙ same_words)
    by_words (entry ∷ rest) is_more (inr after) =
        with_mark true (λ e. is_there cut entry rest (sym same_doubt ∙ is_more))
        (after ∙ ap (λ (contents : List ℕ). put contents doubt) same_words ∙ ap (put served.store.words) same_doubt)

    pub starts_so : Starts words opened quota
    starts_so = by_words doubt refl found.found

-- a quota that a start gives is one that a tenant may have
pub quota_fits : (quota : ℕ) → (1 ≤ quota) × (quota ≤ MAX_QUOTA) → is_quota quota ≡ true
quota_fits quota fits = and_from (nat_le 1 quota) (nat_le quota MAX_QUOTA) (le-leb 1 quota fits.0) (le-leb quota MAX_QUOTA fits.1)
