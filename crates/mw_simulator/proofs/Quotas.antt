-- The simulator's test of the quotas that a start gives is the definition's test. Used by: World::may_give, each_can_be.
use Rattle.std.specs.Prelude.{ℕ, zero, suc, ◌≡◌, ◌≤◌, ◌<◌, ◌+◌, ◌&&◌, Bool, true, false, List, length, nat_le, slice_get, slice_index_or, Option, Some, None}
use Rattle.std.specs.Option.{option_map_or, unwrap_or}
use Rattle.std.proofs.Common.{refl, sym, ap, subst, ◌∙◌, inl, inr, arith}
use Rattle.std.proofs.lemmas.Bool.{and_parts, cases_lt, leb-true}
use Rattle.std.proofs.lemmas.Option.{slice_get_cases, slice_get_within}
use Rattle.mw_lone.specs.Store.{is_quota}
use Rattle.mw_world_file.specs.Books.{places_of_file}
use Rattle.mw_world.specs.declared.config.Config.{Config}
use Rattle.mw_world.specs.declared.events.Stop.{Stop}
use Rattle.mw_world.specs.Definition.State.{State, each_fits, may_be_quotas, places_of, quotas_together, tenants_of}
use Rattle.mw_world_memory.specs.declared.tenants.TenantState.{TenantState as TenantStateInMemory}
use Rattle.mw_simulator.specs.declared.world.World.{World}
use Rattle.mw_simulator.specs.Quotas.{HaveRoom, places_in, quota_after, quotas_in}
use Rattle.mw_simulator.specs.Events.{outage_of, quotas_told}
use Rattle.mw_simulator.specs.Representation.{Represents}
use Rattle.mw_simulator.proofs.WorldAfterStep.{element}

-- the tests of quotas and places depend only on the existing tenants
each_same : (quotas others places theirs : ℕ → ℕ) (count : ℕ) → ((k : ℕ) → k < count → quotas k ≡ others k) → ((k : ℕ) → k < count → places k ≡ theirs k)
    → each_fits quotas places count ≡ each_fits others theirs count
each_same quotas others places theirs zero same so = refl
each_same quotas others places theirs (suc count) same so =
    ap (λ b. b && is_quota (quotas count) && nat_le (quotas count) (places count))
    (each_same quotas others places theirs count (λ k lt. same k (omega (arith, lt))) (λ k lt. so k (omega (arith, lt))))
    ∙ ap (λ quota. each_fits others theirs count && is_quota quota && nat_le quota (places count)) (same count (omega arith))
    ∙ ap (λ many. each_fits others theirs count && is_quota (others count) && nat_le (others count) many) (so count (omega arith))

together_same : (quotas others : ℕ → ℕ) (count : ℕ) → ((k : ℕ) → k < count → quotas k ≡ others k) → quotas_together quotas count ≡ quotas_together others count
together_same quotas others zero same = refl
together_same quotas others (suc count) same =
    ap (λ sum. sum + quotas count) (together_same quotas others count (λ k lt. same k (omega (arith, lt)))) ∙ ap (λ quota. quotas_together others count + quota) (same count (omega arith))

pub same_quotas : (config : Config) (quotas others places theirs : ℕ → ℕ) → ((k : ℕ) → k < tenants_of config → quotas k ≡ others k) → ((k : ℕ) → k < tenants_of config → places k ≡ theirs k)
    → may_be_quotas config quotas places ≡ may_be_quotas config others theirs
same_quotas config quotas others places theirs same so =
    ap (λ b. b && nat_le (quotas_together quotas (tenants_of config)) config.pool) (each_same quotas others places theirs (tenants_of config) same so)
    ∙ ap (λ sum. each_fits others theirs (tenants_of config) && nat_le sum config.pool) (together_same quotas others (tenants_of config) same)

-- one quota that can't be given makes the whole test fail
none_fits : (quotas places : ℕ → ℕ) (count tenant : ℕ) → tenant < count → (is_quota (quotas tenant) && nat_le (quotas tenant) (places tenant)) ≡ false → each_fits quotas places count ≡ false
none_fits quotas places zero tenant lt bad = absurd (omega (arith, lt))
none_fits quotas places (suc count) tenant lt bad = elim (cases_lt tenant count) [
  | inl low ↦ early (each_fits quotas places count) (is_quota (quotas count)) (nat_le (quotas count) (places count)) (none_fits quotas places count tenant low bad)
  | inr past ↦
      let same : tenant ≡ count = omega (arith, lt, past) in
      late (each_fits quotas places count) (is_quota (quotas count)) (nat_le (quotas count) (places count))
      (subst (λ k. (is_quota (quotas k) && nat_le (quotas k) (places k)) ≡ false) same bad)
]
  where
    early : (a b d : Bool) → a ≡ false → (a && b && d) ≡ false
    early false b d is = refl
    early true b d is = absurd (cc)

    late : (a b d : Bool) → (b && d) ≡ false → (a && b && d) ≡ false
    late false b d is = refl
    late true b d is = is

-- one tenant more
one_more_fits : (quotas places : ℕ → ℕ) (count quota many : ℕ) → quota ≡ quotas count → many ≡ places count → each_fits quotas places count ≡ true
    → (is_quota quota && nat_le quota many) ≡ true → each_fits quotas places (count + 1) ≡ true
one_more_fits quotas places count quota many same so each is = subst (λ n. each_fits quotas places n ≡ true) next (grow (each_fits quotas places count) (is_quota (quotas count)) (nat_le (quotas count) (places count)) each here)
  where
    next : suc count ≡ count + 1
    next = omega arith

    here : (is_quota (quotas count) && nat_le (quotas count) (places count)) ≡ true
    here = subst (λ n. (is_quota (quotas count) && nat_le (quotas count) n) ≡ true) so (subst (λ n. (is_quota n && nat_le n many) ≡ true) same is)

    grow : (a b d : Bool) → a ≡ true → (b && d) ≡ true → (a && b && d) ≡ true
    grow true b d a is = is
    grow false b d a is = absurd (cc)

-- what was read of the tenants in memory
quota_read : (tenant_states : List TenantStateInMemory) (stops : List Stop) (tenant : ℕ) (shown : TenantStateInMemory) → slice_get tenant_states tenant ≡ Some shown
    → quotas_in tenant_states stops tenant ≡ quota_after (outage_of stops tenant).quota shown
quota_read tenant_states stops tenant shown is = ap (λ o. option_map_or (quota_after (outage_of stops tenant).quota) o 0) is

places_read : (tenant_states : List TenantStateInMemory) (tenant : ℕ) (shown : TenantStateInMemory) → slice_get tenant_states tenant ≡ Some shown → places_in tenant_states tenant ≡ places_of_file shown.book
places_read tenant_states tenant shown is = ap (λ o. option_map_or (λ (one : TenantStateInMemory). places_of_file one.book) o 0) is

-- a tenant in memory can have its quota, or can't
module _ (tenant_states : List TenantStateInMemory) (stops : List Stop) (tenant quota : ℕ) (shown : TenantStateInMemory) (can : Bool) (there : tenant < length tenant_states)
    (is : shown ≡ slice_index_or tenant_states tenant shown) (told : quota ≡ quota_after (outage_of stops tenant).quota shown)
    (tells : can ≡ (is_quota quota && nat_le quota (places_of_file shown.book))) where
  quota_here : quotas_in tenant_states stops tenant ≡ quota
  quota_here = quota_read tenant_states stops tenant shown (element tenant_states tenant shown there is) ∙ sym told

  places_here : places_in tenant_states tenant ≡ places_of_file shown.book
  places_here = places_read tenant_states tenant shown (element tenant_states tenant shown there is)

  pub one_cannot : can ≡ false → false ≡ each_fits (quotas_in tenant_states stops) (places_in tenant_states) (length tenant_states)
  one_cannot cannot = sym (none_fits (quotas_in tenant_states stops) (places_in tenant_states) (length tenant_states) tenant there
      (ap (λ n. is_quota n && nat_le n (places_in tenant_states tenant)) quota_here ∙ ap (λ many. is_quota quota && nat_le quota many) places_here ∙ sym tells ∙ cannot))

  pub one_can : can ≡ true → each_fits (quotas_in tenant_states stops) (places_in tenant_states) tenant ≡ true → each_fits (quotas_in tenant_states stops) (places_in tenant_states) (tenant + 1) ≡ true
  one_can does each =
      one_more_fits (quotas_in tenant_states stops) (places_in tenant_states) tenant quota (places_of_file shown.book) (sym quota_here) (sym places_here) each (sym tells ∙ does)

-- each tenant's file has room for its quota
fits_there : (quotas places : ℕ → ℕ) (count tenant : ℕ) → each_fits quotas places count ≡ true → tenant < count → quotas tenant ≤ places tenant
fits_there quotas places zero tenant each lt = absurd (omega (arith, lt))
fits_there quotas places (suc count) tenant each lt =
    let parts = and_parts (each_fits quotas places count && is_quota (quotas count)) (nat_le (quotas count) (places count)) each in
    elim (cases_lt tenant count) [
      | inl low ↦ fits_there quotas places count tenant (and_parts (each_fits quotas places count) (is_quota (quotas count)) parts.0).0 low
      | inr past ↦
          let same : count ≡ tenant = omega (arith, lt, past) in
          subst (λ k. quotas k ≤ places k) same (leb-true (quotas count) (places count) parts.1)
    ]

have_room : (tenant_states : List TenantStateInMemory) (stops : List Stop) → each_fits (quotas_in tenant_states stops) (places_in tenant_states) (length tenant_states) ≡ true → HaveRoom tenant_states stops
have_room tenant_states stops each tenant shown is =
    subst (λ n. n ≤ places_of_file shown.book) (quota_read tenant_states stops tenant shown is)
    (subst (λ n. quotas_in tenant_states stops tenant ≤ n) (places_read tenant_states tenant shown is)
    (fits_there (quotas_in tenant_states stops) (places_in tenant_states) (length tenant_states) tenant each (slice_get_within tenant_states tenant shown is)))

-- the quotas in memory are those of the world
module _ (world : World) (state : State) (stops : List Stop) (shows : Represents world state) where
  quotas_are : (tenant : ℕ) → tenant < tenants_of world.config → quotas_in world.tenant_states.items stops tenant ≡ quotas_told state stops tenant
  quotas_are tenant low = elim ((slice_get_cases world.tenant_states.items tenant).1) [
    | inl there ↦ quota_read world.tenant_states.items stops tenant there.0 there.2
        ∙ ap (λ quota. unwrap_or (outage_of stops tenant).quota quota) (shows.tenant_states tenant there.0 there.2).quota
    | inr past ↦ absurd (omega (arith, low, past.0, world.tenants))
  ]

  places_are : (tenant : ℕ) → tenant < tenants_of world.config → places_in world.tenant_states.items tenant ≡ places_of state tenant
  places_are tenant low = elim ((slice_get_cases world.tenant_states.items tenant).1) [
    | inl there ↦ places_read world.tenant_states.items tenant there.0 there.2 ∙ (shows.tenant_states tenant there.0 there.2).file_places
    | inr past ↦ absurd (omega (arith, low, past.0, world.tenants))
  ]

  told_is : may_be_quotas world.config (quotas_in world.tenant_states.items stops) (places_in world.tenant_states.items) ≡ may_be_quotas world.config (quotas_told state stops) (places_of state)
  told_is = same_quotas world.config (quotas_in world.tenant_states.items stops) (quotas_told state stops) (places_in world.tenant_states.items) (places_of state) quotas_are places_are

-- what the two tests in memory say of the world's quotas
module _ (world : World) (stops : List Stop) (held : List TenantStateInMemory) (is : held ≡ world.tenant_states.items) (each : Bool)
    (tells : each ≡ each_fits (quotas_in held stops) (places_in held) (length held)) where
  each_is : each ≡ each_fits (quotas_in world.tenant_states.items stops) (places_in world.tenant_states.items) (tenants_of world.config)
  each_is = tells ∙ ap (λ all. each_fits (quotas_in all stops) (places_in all) (length all)) is
      ∙ ap (λ count. each_fits (quotas_in world.tenant_states.items stops) (places_in world.tenant_states.items) count) world.tenants

  pub cannot_give : (state : State) → Represents world state → each ≡ false → false ≡ may_be_quotas world.config (quotas_told state stops) (places_of state)
  cannot_give state shows cannot = sym (sym (told_is world state stops shows)
      ∙ ap (λ b. b && nat_le (quotas_together (quotas_in world.tenant_states.items stops) (tenants_of world.config)) world.config.pool) (sym each_is ∙ cannot))

  pub has_room : each ≡ true → HaveRoom world.tenant_states.items stops
  has_room can = have_room world.tenant_states.items stops
      (ap (λ count. each_fits (quotas_in world.tenant_states.items stops) (places_in world.tenant_states.items) count) world.tenants ∙ sym each_is ∙ can)

  pub together_gives : (state : State) → Represents world state → each ≡ true → (other : List TenantStateInMemory) (together : ℕ) → other ≡ world.tenant_states.items
      → together ≡ quotas_together (quotas_in other stops) (length other) → nat_le together world.config.pool ≡ may_be_quotas world.config (quotas_told state stops) (places_of state)
  together_gives state shows can other together same sums =
      ap (λ sum. nat_le sum world.config.pool) sum_is
      ∙ ap (λ b. b && nat_le (quotas_together (quotas_in world.tenant_states.items stops) (tenants_of world.config)) world.config.pool) (sym can ∙ each_is)
      ∙ told_is world state stops shows
    where
      sum_is : together ≡ quotas_together (quotas_in world.tenant_states.items stops) (tenants_of world.config)
      sum_is = sums ∙ ap (λ all. quotas_together (quotas_in all stops) (length all)) same
          ∙ ap (λ count. quotas_together (quotas_in world.tenant_states.items stops) count) world.tenants
