-- After a start that succeeded, the simulated world represents the definition's world after that start.
-- Used by: World::restart, World::reopened.
use Rattle.std.specs.Prelude.{ℕ, zero, suc, ◌≡◌, ◌<◌, ◌+◌, ◌==◌, ◌&&◌, Bool, true, false, not, if◌then◌else◌, List, [], ◌∷◌, ◌++◌, is_none, is_some, length, slice_get, Option, Some, None}
use Rattle.std.specs.Option.{unwrap_or}
use Rattle.std.proofs.Common.{refl, sym, ap, subst, ◌∙◌, inl, inr, arith}
use Rattle.std.proofs.Math.Seq.{get_or-append_seam}
use Rattle.std.proofs.lemmas.Bool.{cases_lt}
use Rattle.std.proofs.lemmas.Bool.Decides.{nat_tests}
use Rattle.std.proofs.lemmas.List.{get_or_append_left, get_or_past, length_push}
use Rattle.std.proofs.lemmas.Option.{slice_get_cases, slice_get_within}
use Rattle.mw_words.specs.Change.{AreWords}
use Rattle.mw_record.specs.Damages.{file_words}
use Rattle.mw_record.proofs.Sound.{file_are_words}
use Rattle.mw_world.specs.declared.config.Config.{Config}
use Rattle.mw_world.specs.declared.events.Stop.{Stop}
use Rattle.mw_world.specs.Definition.Events.{Found}
use Rattle.mw_world.specs.Definition.History.{no_history}
use Rattle.mw_world.specs.Definition.Restarts.{found_of, may_all_be_found, may_be_found, nothing_found, opened_file, quotas_then, reopened, restart, restarted, under_way}
use Rattle.mw_world.specs.Definition.State.{TenantState, State, first_cells, may_be_quotas, places_of, started, tenant_at, tenants_of}
use Rattle.mw_world_memory.specs.declared.tenants.TenantState.{TenantState as TenantStateInMemory}
use Rattle.mw_simulator.specs.declared.world.World.{World}
use Rattle.mw_world_memory.specs.Claims.{Recalls}
use Rattle.mw_simulator.specs.Events.{IsOpenedBy, Started, are_named, outage_of, quotas_told}
use Rattle.mw_simulator.specs.Representation.{Represents, RepresentsTenant}
use Rattle.mw_simulator.specs.Starts.{AreIdle, HaveWords}
use Rattle.mw_simulator.specs.Stops.{AreReopened, IsReopened}
use Rattle.mw_world_memory.specs.BitsMatch.{BitsMatch}
use Rattle.mw_simulator.proofs.Quotas.{same_quotas}
use Rattle.mw_simulator.proofs.FirstWorlds.{AreShown, have_words, shows_start, zeros_are_words}

pub none_is : {A : Type 0} (o : Option A) (b : Bool) → is_some o ≡ not b → b ≡ is_none o
none_is None true is = refl
none_is None false is = absurd (cc)
none_is (Some x) true is = absurd (cc)
none_is (Some x) false is = refl

guarded : {A : Type 0} (m n : ℕ) (b d : Bool) (x : A) → m ≡ n → b ≡ true → d ≡ true → (if (m == n) && b && d then Some x else None) ≡ Some x
guarded m n true true x same is so = grind (arith, nat_tests, same)
guarded m n true false x same is so = absurd (cc)
guarded m n false d x same is so = absurd (cc)

both : (a b : Bool) → a ≡ true → b ≡ true → (a && b) ≡ true
both true true a b = refl
both true false a b = absurd (cc)
both false b a c = absurd (cc)

some_same : {A : Type 0} (o : Option A) (x y : A) → o ≡ Some x → o ≡ Some y → x ≡ y
some_same o x y a b = cc

-- what was found of each tenant's file, as one list
pub record Gathered (P : ℕ → Found → Type 0) (count : ℕ) : Type 0 where
  pub founds : List Found
  pub long : length founds ≡ count
  pub each : (k : ℕ) → k < count → P k (found_of founds k)

gather : (P : ℕ → Found → Type 0) (count : ℕ) → ((k : ℕ) → k < count → (f : Found) × P k f) → Gathered P count
gather P zero all = record { founds = []; long = refl; each = λ k lt. absurd (omega (arith, lt)) }
gather P (suc count) all =
    let before = gather P count (λ k lt. all k (omega (arith, lt))) in
    let last = all count (omega arith) in
    let founds = before.founds ++ last.0 ∷ [] in
    let more : length before.founds + 1 ≡ suc count = omega (arith, before.long) in
    record {
      founds = founds;
      long = length_push before.founds last.0 ∙ more;
      each = λ k lt. elim (cases_lt k count) [
        | inl low ↦
            let within : k < length before.founds = omega (arith, low, before.long) in
            subst (P k) (sym (get_or_append_left before.founds (last.0 ∷ []) nothing_found k within)) (before.each k low)
        | inr past ↦
            let same : count ≡ k = omega (arith, lt, past) in
            let end : found_of founds count ≡ last.0 = subst (λ i. found_of founds i ≡ last.0) before.long (get_or-append_seam before.founds last.0 [] nothing_found) in
            subst (λ i. P i (found_of founds i)) same (subst (P count) (sym end) last.1)
      ];
    }

all_may : (config : Config) (state : State) (founds : List Found) (count : ℕ) → ((k : ℕ) → k < count → may_be_found config state k (found_of founds k) ≡ true)
    → may_all_be_found config state founds count ≡ true
all_may config state founds zero each = refl
all_may config state founds (suc count) each =
    both (may_all_be_found config state founds count) (may_be_found config state count (found_of founds count)) (all_may config state founds count (λ k lt. each k (omega (arith, lt)))) (each count (omega arith))

up_is : (words : List ℕ) (fails_at : Option ℕ) → is_none fails_at ≡ not (opened_file words fails_at).has_failed
up_is words None = refl
up_is words (Some number) = refl

opened_words : (words : List ℕ) (fails_at : Option ℕ) → AreWords words → AreWords (opened_file words fails_at).contents
opened_words words None are = are
opened_words words (Some number) are = are

-- a file's words are values of a word
found_words : (image words : List ℕ) → file_words image ≡ Some words → AreWords words
found_words image words is = file_are_words words image is

-- What was found of a tenant's file may be found, and the new tenant represents the tenant state after it.
pub record WasFound (config : Config) (state : State) (stops : List Stop) (olds afters : List TenantStateInMemory) (tenant : ℕ) (found : Found) : Type 0 where
  pub by : (old new : TenantStateInMemory) → slice_get olds tenant ≡ Some old → slice_get afters tenant ≡ Some new
      → IsOpenedBy state old new (outage_of stops tenant) found
  pub may : may_be_found config state tenant found ≡ true
  pub quota : found.quota ≡ (outage_of stops tenant).quota
  pub shows : (new : TenantStateInMemory) → slice_get afters tenant ≡ Some new
      → RepresentsTenant (tenant_at config tenant).words new (reopened (state.tenant_states tenant) found (under_way config state found.interrupted))
  pub words : AreWords found.words

was_found : (config : Config) (state : State) (stops : List Stop) (olds afters : List TenantStateInMemory) (tenant : ℕ) (old new : TenantStateInMemory)
    → slice_get olds tenant ≡ Some old → slice_get afters tenant ≡ Some new
    → (is : IsReopened config state tenant (outage_of stops tenant) old new) → WasFound config state stops olds afters tenant is.found
was_found config state stops olds afters tenant old new at_old at_new is = record {
  by = λ was now at_was at_now.
      subst (λ o. IsOpenedBy state o now (outage_of stops tenant) is.found) (some_same (slice_get olds tenant) old was at_old at_was)
      (subst (λ o. IsOpenedBy state old o (outage_of stops tenant) is.found) (some_same (slice_get afters tenant) new now at_new at_now) is.opened);
  may = is.may;
  quota = is.opened.found_so.same_quota;
  shows = λ other at. subst (λ o. RepresentsTenant (tenant_at config tenant).words o (reopened (state.tenant_states tenant) is.found (under_way config state is.found.interrupted)))
      (some_same (slice_get afters tenant) new other at_new at) is.shows;
  words = found_words is.opened.found_so.image is.found.words is.opened.found_so.words;
}

module _ (old : World) (state : State) (stops : List Stop) (afters : List TenantStateInMemory) (shows : Represents old state)
    (long : length afters ≡ length old.tenant_states.items) (are : AreReopened old stops afters) where
  each_found : (tenant : ℕ) → tenant < tenants_of old.config → (found : Found) × WasFound old.config state stops old.tenant_states.items afters tenant found
  each_found tenant low = elim ((slice_get_cases old.tenant_states.items tenant).1) [
    | inr past ↦ absurd (omega (arith, low, past.0, old.tenants))
    | inl v ↦ elim ((slice_get_cases afters tenant).1) [
      | inr past ↦ absurd (omega (arith, low, past.0, old.tenants, long))
      | inl w ↦
          let is = are tenant w.0 w.2 v.0 v.2 state shows in
          (is.found, was_found old.config state stops old.tenant_states.items afters tenant v.0 w.0 v.2 w.2 is)
    ]
  ]

-- the tenants after a start that found this
abbrev pub made : Config → State → List Found → ℕ → TenantState
made config state founds tenant = reopened (state.tenant_states tenant) (found_of founds tenant) (under_way config state (found_of founds tenant).interrupted)

-- what was found of all tenants' files
pub record AllFound (old : World) (state : State) (stops : List Stop) (afters : List TenantStateInMemory) : Type 0 where
  pub founds : List Found
  pub long : length founds ≡ tenants_of old.config
  pub each : (tenant : ℕ) → tenant < tenants_of old.config → WasFound old.config state stops old.tenant_states.items afters tenant (found_of founds tenant)

pub all_found : (old : World) (state : State) (stops : List Stop) (afters : List TenantStateInMemory) → Represents old state → length afters ≡ length old.tenant_states.items
    → AreReopened old stops afters → AllFound old state stops afters
all_found old state stops afters shows long are =
    let all = gather (λ tenant found. WasFound old.config state stops old.tenant_states.items afters tenant found) (tenants_of old.config) (each_found old state stops afters shows long are) in
    record { founds = all.founds; long = all.long; each = all.each }

module _ (old : World) (state : State) (stops : List Stop) (afters : List TenantStateInMemory) (long : length afters ≡ length old.tenant_states.items) (found : AllFound old state stops afters) where
  pub afters_shown : AreShown old.config afters (made old.config state found.founds)
  afters_shown tenant new at = (found.each tenant (omega (arith, slice_get_within afters tenant new at, long, old.tenants))).shows new at

  pub afters_words : HaveWords afters (λ tenant. (made old.config state found.founds tenant).file.contents) (λ tenant. (made old.config state found.founds tenant).is_up)
  afters_words = have_words old.config afters (made old.config state found.founds) afters_shown
      (λ tenant. up_is (found_of found.founds tenant).words (found_of found.founds tenant).fails_at)

  are_all_words : (tenant : ℕ) → AreWords (found_of found.founds tenant).words
  are_all_words tenant = elim (cases_lt tenant (tenants_of old.config)) [
    | inl low ↦ (found.each tenant low).words
    | inr past ↦ subst (λ f. AreWords f.words) (sym (get_or_past found.founds tenant nothing_found (omega (arith, past, found.long)))) (zeros_are_words 0)
  ]

  -- the quotas that the start gives are those that the stops say
  quotas_are : may_be_quotas old.config (quotas_then state found.founds) (places_of state) ≡ may_be_quotas old.config (quotas_told state stops) (places_of state)
  quotas_are = same_quotas old.config (quotas_then state found.founds) (quotas_told state stops) (places_of state) (places_of state)
      (λ tenant low. ap (λ told. unwrap_or told (state.tenant_states tenant).quota) (found.each tenant low).quota) (λ tenant low. refl)

  restarts_to : may_be_quotas old.config (quotas_told state stops) (places_of state) ≡ true → restart old.config state found.founds ≡ Some (restarted old.config state found.founds)
  restarts_to fit = guarded (length found.founds) (tenants_of old.config) (may_all_be_found old.config state found.founds (tenants_of old.config))
      (may_be_quotas old.config (quotas_then state found.founds) (places_of state)) (restarted old.config state found.founds)
      found.long (all_may old.config state found.founds (tenants_of old.config) (λ tenant low. (found.each tenant low).may)) (quotas_are ∙ fit)

  -- the start went well
  pub has_started : (new : World) → new.config ≡ old.config → are_named (tenants_of old.config) stops ≡ true
      → may_be_quotas old.config (quotas_told state stops) (places_of state) ≡ true → new.tenant_states.items ≡ afters
      → BitsMatch new.cells (first_cells old.config (λ tenant. (made old.config state found.founds tenant).file.contents) (λ tenant. (made old.config state found.founds tenant).is_up))
      → AreIdle old.config.workers new.worker_states.items → Recalls new.claims no_history → Started old new state stops
  has_started new same named fit is tied idle recalls = record {
    named = named;
    founds = found.founds;
    found = λ tenant shown now at at_now.
        (found.each tenant (omega (arith, slice_get_within old.tenant_states.items tenant shown at, old.tenants))).by shown now at (subst (λ all. slice_get all tenant ≡ Some now) is at_now);
    leads = record {
      state = restarted old.config state found.founds;
      is = restarts_to fit;
      shows = subst (λ config. Represents new (started config (made old.config state found.founds))) same
          (shows_start new (made old.config state found.founds)
          (subst (λ config. BitsMatch new.cells (first_cells config (λ tenant. (made old.config state found.founds tenant).file.contents) (λ tenant. (made old.config state found.founds tenant).is_up))) (sym same) tied)
          (subst (λ config. AreIdle config.workers new.worker_states.items) (sym same) idle)
          recalls
          (subst (λ config. AreShown config new.tenant_states.items (made old.config state found.founds)) (sym same)
          (subst (λ all. AreShown old.config all (made old.config state found.founds)) (sym is) afters_shown))
          (λ tenant up. opened_words (found_of found.founds tenant).words (found_of found.founds tenant).fails_at (are_all_words tenant)));
    };
  }
