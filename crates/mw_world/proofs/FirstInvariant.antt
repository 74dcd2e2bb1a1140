-- The world's invariant (what holds at every moment of a run) holds at every start, and a new world is a world at a start.
-- Used by: starts_keep_the_invariant, new_worlds_start, mw_table, mw_simulator, mwreplay.
use Rattle.std.specs.Prelude.{◌+◌, ◌&&◌, if◌then◌else◌, List, [], ◌∷◌, length, nat_le, replicate, slice_index_or, sum_by, IsTrue, Option, Some, None}
use Rattle.std.specs.List.{list_all}
use Rattle.std.proofs.Common.{◌≡◌, ◌∙◌, ℕ, zero, suc, refl, subst, sym, inl, inr, arith}
use Rattle.std.proofs.lemmas.Bool.{and_parts, cases_lt}
use Rattle.std.proofs.lemmas.Bool.Decides.{nat_tests}
use Rattle.std.proofs.lemmas.List.{get_or-replicate, get_or_past, length-replicate}
use Rattle.std.proofs.lemmas.List.Sums.{sum_by-cons}
use Rattle.arrayvec.specs.ArrayVec.{ArrayVec}
use Rattle.mw_words.specs.declared.jobs.Entry.{Entry}
use Rattle.mw_words.specs.declared.limits.TheConstants.{MAX_ENTRIES}
use Rattle.mw_words.specs.Change.{AreWords, is_change, is_in_range, put, rises, word_at}
use Rattle.mw_world.specs.declared.old_files.TheConstants.{OLD_ENTRIES, OLD_PLACES}
use Rattle.mw_world.proofs.EnoughPlaces.{places_enough}
use Rattle.mw_lone.proofs.KeptRuns.{put_words}
use Rattle.mw_lone.proofs.SoundStores.{length-put}
use Rattle.mw_actor.specs.ActorState.{ActorState}
use Rattle.mw_world.specs.declared.config.Config.{Config}
use Rattle.mw_world.specs.declared.config.Tenant.{Tenant}
use Rattle.mw_world.specs.Definition.Counts.{pins_held, frees_at, waits_for, over_workers, slots_taken_for}
use Rattle.mw_world.specs.Claim.Invariant.{Invariant, RequestsAreTheirWorkers, ChangesClaimTheirSlots, SlotsTellTheirChanges, ReferencesArePinned, AttemptsAreTheirWorkers, WordsFollowTheirChanges, StaleHelpersLose, HeldWordsHaveReleasers, FilesMatch, ChangesHavePlaces, CountsAreRight}
use Rattle.mw_world.specs.Definition.State.{IsConfig, IsStart, TenantStart, first_openings, first_words_of, idle_worker_state, may_be_old, no_tenant, old_entries, quotas_together, tenant_at, world_at}

module _ (config : Config) (openings : ℕ → TenantStart) where
  requests : RequestsAreTheirWorkers config (world_at config openings)
  requests = grind (arith, nat_tests)

  claims : IsConfig config → ChangesClaimTheirSlots config (world_at config openings)
  claims made = grind (arith, nat_tests, made.pool)

  slots : SlotsTellTheirChanges (world_at config openings)
  slots = grind (arith, nat_tests)

  references : ReferencesArePinned (world_at config openings)
  references = grind (arith, nat_tests)

  attempts : AttemptsAreTheirWorkers (world_at config openings)
  attempts = grind (arith, nat_tests)

  words : WordsFollowTheirChanges (world_at config openings)
  words = grind (arith, nat_tests)

  late : StaleHelpersLose (world_at config openings)
  late = grind (arith, nat_tests)

  releasers : HeldWordsHaveReleasers (world_at config openings)
  releasers = grind (arith, nat_tests)

  files : IsStart config openings → FilesMatch config (world_at config openings)
  files is tenant low = record {
    long = is.long tenant low;
    fault = refl;
    down = λ e. grind (arith, nat_tests, e);
    certain = λ e. refl;
    shown = λ e address within. subst (λ up. (if up then word_at (openings tenant).words address else 0) ≡ word_at (openings tenant).words address) (sym e) refl;
    apart = λ place other e one two. grind (arith, nat_tests);
  }

  places : ChangesHavePlaces config (world_at config openings)
  places = grind (arith, nat_tests)

  -- no slot is taken at a start
  none_taken : (tenant n : ℕ) → slots_taken_for (world_at config openings) tenant n ≡ 0
  none_taken tenant zero = refl
  none_taken tenant (suc n) = grind (arith, nat_tests, none_taken tenant n)

-- the sum over idle workers is 0
none_idle : (counts : ActorState → ℕ) (n : ℕ) → over_workers counts (λ worker. idle_worker_state) n ≡ 0
none_idle counts zero = refl
none_idle counts (suc n) = grind (arith, nat_tests, none_idle counts n)

counts : (config : Config) (openings : ℕ → TenantStart) → IsStart config openings → CountsAreRight config (world_at config openings)
counts config openings is = record {
  pins = λ slot. grind (arith, nat_tests, none_idle (λ actor. pins_held slot actor.point) config.workers);
  left = λ slot seq e. grind (arith, nat_tests);
  frees = λ slot. grind (arith, nat_tests, none_idle (λ actor. frees_at slot actor.point) config.workers);
  doors = λ tenant low. grind (arith, nat_tests, none_idle (waits_for tenant) config.workers, none_taken config openings tenant config.pool);
  quotas = λ tenant low. grind (arith, nat_tests);
  limits = is.quotas;
}

pub first_invariant : (config : Config) (openings : ℕ → TenantStart) → IsConfig config → IsStart config openings → Invariant config (world_at config openings)
first_invariant config openings made is = record {
  requests = requests config openings;
  claims = claims config openings made;
  slots = slots config openings;
  references = references config openings;
  attempts = attempts config openings;
  words = words config openings;
  late = late config openings;
  releasers = releasers config openings;
  files = files config openings is;
  places = places config openings;
  counts = counts config openings is;
}

-- the sum over the first n + 1 tenants is the first summand and the sum of the rest
together_first : (quotas : ℕ → ℕ) (n : ℕ) → quotas_together quotas (suc n) ≡ quotas 0 + quotas_together (λ k. quotas (suc k)) n
together_first quotas zero = omega arith
together_first quotas (suc n) = omega (arith, together_first quotas n)

-- the quotas of a list of tenants have the same sum in both definitions
listed_together : (tenants : List Tenant) → quotas_together (λ k. (slice_index_or tenants k no_tenant).quota) (length tenants) ≡ sum_by (λ tenant. tenant.quota) tenants
listed_together [] = refl
listed_together (tenant ∷ tenants) =
    omega (
      arith,
      together_first (λ k. (slice_index_or (tenant ∷ tenants) k no_tenant).quota) (length tenants),
      sum_by-cons (λ (one : Tenant). one.quota) tenant tenants,
      listed_together tenants,
    )

-- zeros are words
zeros_fit : (many : ℕ) → AreWords (replicate many 0)
zeros_fit many index none low = grind (arith, nat_tests, get_or-replicate {A = ℕ} many index 0 none, length-replicate {A = ℕ} many 0, low)

-- a tenant's first file has as many words as the tenant
first_long : (tenant : Tenant) → length (first_words_of tenant) ≡ tenant.words
first_long tenant = length-put (replicate tenant.words 0) (old_entries tenant.old) ∙ length-replicate {A = ℕ} tenant.words 0

-- each entry of a change is in range
all_in_range : (words : ℕ) (entries : List Entry) → IsTrue (is_change words entries) → IsTrue (list_all (is_in_range words) entries)
all_in_range words entries is =
    (and_parts (nat_le 1 (length entries) && nat_le (length entries) MAX_ENTRIES) (list_all (is_in_range words) entries)
    (and_parts (nat_le 1 (length entries) && nat_le (length entries) MAX_ENTRIES && list_all (is_in_range words) entries) (rises entries) is).0).1

-- the words of a first file are at most the greatest value
first_fit : (tenant : Tenant) → IsTrue (may_be_old tenant.words tenant.quota tenant.old) → AreWords (first_words_of tenant)
first_fit tenant is = by_old tenant.old is where
  by_old : (old : Option (ArrayVec Entry)) → IsTrue (may_be_old tenant.words tenant.quota old) → AreWords (put (replicate tenant.words 0) (old_entries old))
  by_old None made = zeros_fit tenant.words
  by_old (Some change) made =
      let formed = (and_parts (is_change tenant.words change.items && nat_le (length change.items) OLD_ENTRIES) (nat_le tenant.quota OLD_PLACES) made).0 in
      put_words tenant.words (replicate tenant.words 0) change.items (all_in_range tenant.words change.items (and_parts (is_change tenant.words change.items) (nat_le (length change.items) OLD_ENTRIES) formed).0) (zeros_fit tenant.words)

-- A new world is a world at a start.
pub new_worlds_start : (config : Config) → IsConfig config → IsStart config (first_openings config)
new_worlds_start config is = record {
  quotas = record {
    each = λ tenant low. is.quotas tenant no_tenant low;
    room = λ tenant low. places_enough (tenant_at config tenant).quota (is.quotas tenant no_tenant low).1;
    together = omega (arith, listed_together config.tenants.items, is.slots);
  };
  long = λ tenant low. first_long (tenant_at config tenant);
  words = λ tenant. first_fit (tenant_at config tenant) (old_is tenant);
} where
  old_is : (tenant : ℕ) → IsTrue (may_be_old (tenant_at config tenant).words (tenant_at config tenant).quota (tenant_at config tenant).old)
  old_is tenant = elim (cases_lt tenant (length config.tenants.items)) [
    | inl low ↦ is.old tenant no_tenant low
    | inr past ↦ subst (λ (one : Tenant). IsTrue (may_be_old one.words one.quota one.old)) (sym (get_or_past config.tenants.items tenant no_tenant past)) refl
  ]
