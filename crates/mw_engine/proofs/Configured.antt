-- Tenants' lines and files that fit them make a valid configuration of a world and a valid start. Used by: EngineParts::new.
use Rattle.std.specs.Prelude.{◌≡◌, ◌≤◌, ◌<◌, ◌+◌, ℕ, zero, suc, All, List, [], ◌∷◌, length, map, slice_get, slice_index_or, sum_by, IsTrue, Option, Some, None, Vec}
use Rattle.std.specs.declared.alloc.Global.{Global}
use Rattle.std.proofs.Common.{refl, sym, ap, subst, ◌∙◌, arith}
use Rattle.std.proofs.lemmas.List.{length-map, length-replicate}
use Rattle.std.proofs.lemmas.List.Sums.{sum_by-cons}
use Rattle.std.proofs.lemmas.List.Elements.{All-map, All-replicate}
use Rattle.mw_words.specs.declared.limits.TheConstants.{MAX_POOL, MAX_QUOTA, MAX_VALUE, MAX_WORDS, MAX_WORKERS}
use Rattle.mw_words.specs.Change.{AreWords}
use Rattle.mw_disk.specs.Facts.{Facts}
use Rattle.mw_file.specs.declared.tenant_file.TenantFile.{TenantFile}
use Rattle.mw_config.specs.declared.lines.TenantLine.{TenantLine}
use Rattle.mw_config.specs.Limits.{ArePermitted}
use Rattle.mw_world.specs.declared.config.Config.{Config}
use Rattle.mw_world.specs.declared.config.Tenant.{Tenant}
use Rattle.mw_world.specs.Definition.State.{IsConfig, IsStart, may_be_old, no_tenant, quotas_together, tenants_of}
use Rattle.mw_core.specs.FromTable.{opening_at}
use Rattle.mw_engine.specs.LinesOfWorld.{line_given}
use Rattle.mw_engine.specs.OpenedFiles.{FitLines, FitsLine, line_read, opening_read, openings_read, tenant_read}
use Rattle.mw_engine.specs.Parts.{world_read}

-- the sum of the quotas is the same for lines and tenants
quotas_so : (lines : List TenantLine) → sum_by (λ (tenant : Tenant). tenant.quota) (map tenant_read lines) ≡ sum_by (λ (line : TenantLine). line.quota) lines
quotas_so [] = refl
quotas_so (line ∷ lines) =
    sum_by-cons (λ (tenant : Tenant). tenant.quota) (tenant_read line) (map tenant_read lines)
    ∙ (ap (λ (n : ℕ). line.quota + n) (quotas_so lines) ∙ sym (sum_by-cons (λ (one : TenantLine). one.quota) line lines))

-- the configuration is that of these lines
pub world_is : (config : Config) (lines : List TenantLine) (pool workers : ℕ) → config.tenants.items ≡ map tenant_read lines → config.pool ≡ pool → config.workers ≡ workers → config.seq ≡ 0
    → config ≡ world_read pool workers lines
world_is config lines pool workers tenants is_pool is_workers is_seq = λ i. record { pool = is_pool i; workers = is_workers i; seq = is_seq i; tenants = record { items = tenants i } }

-- permitted lines make a valid configuration
pub configured : (config : Config) (lines : List TenantLine) (pool workers : ℕ) → config.tenants.items ≡ map tenant_read lines → config.pool ≡ pool → config.workers ≡ workers → config.seq ≡ 0
    → (1 ≤ pool) × (pool ≤ MAX_POOL) → (1 ≤ workers) × (workers ≤ MAX_WORKERS) → ArePermitted pool lines → IsConfig config
configured config lines pool workers tenants is_pool is_workers is_seq pools some permitted =
    let count : tenants_of config ≡ length lines = ap length tenants ∙ length-map lines tenant_read in
    let one = permitted.some in
    let few = permitted.count in
    record {
      pool = subst (λ (n : ℕ). (1 ≤ n) × (n ≤ MAX_POOL)) (sym is_pool) pools;
      workers = subst (λ (n : ℕ). (1 ≤ n) × (n ≤ MAX_WORKERS)) (sym is_workers) some;
      seq = omega (arith, is_seq);
      tenants = (omega (arith, count, one), omega (arith, count, few));
      words = subst (λ (all : List Tenant). All (λ (tenant : Tenant). (1 ≤ tenant.words) × (tenant.words ≤ MAX_WORDS)) all) (sym tenants)
          (All-map (λ (tenant : Tenant). (1 ≤ tenant.words) × (tenant.words ≤ MAX_WORDS)) tenant_read lines permitted.words);
      quotas = subst (λ (all : List Tenant). All (λ (tenant : Tenant). (1 ≤ tenant.quota) × (tenant.quota ≤ MAX_QUOTA)) all) (sym tenants)
          (All-map (λ (tenant : Tenant). (1 ≤ tenant.quota) × (tenant.quota ≤ MAX_QUOTA)) tenant_read lines permitted.quotas);
      old = subst (λ (all : List Tenant). All (λ (tenant : Tenant). IsTrue (may_be_old tenant.words tenant.quota tenant.old)) all) (sym tenants)
          (All-map (λ (tenant : Tenant). IsTrue (may_be_old tenant.words tenant.quota tenant.old)) tenant_read lines (λ i line low. refl));
      slots = subst (λ (all : List Tenant). sum_by (λ (tenant : Tenant). tenant.quota) all ≤ config.pool) (sym tenants)
          (let slots = permitted.slots in let same = quotas_so lines in omega (arith, slots, same, is_pool));
    }

module _ {D : Type 0} (facts : D → Facts) where
  words_one : (line : TenantLine) (file : Option (TenantFile D × Vec ℕ Global)) → FitsLine facts line file → (length (opening_read line file).words ≡ line.words) × AreWords (opening_read line file).words
  words_one line None fits = (length-replicate line.words 0, All-replicate (λ (v : ℕ). v ≤ MAX_VALUE) line.words 0 (omega arith))
  words_one line (Some opened) fits = (fits.read ∙ fits.count, fits.values)

  quota_one : (line : TenantLine) (file : Option (TenantFile D × Vec ℕ Global)) → (opening_read line file).quota ≡ line.quota
  quota_one line None = refl
  quota_one line (Some opened) = refl

  quota_at : (lines : List TenantLine) (files : List (Option (TenantFile D × Vec ℕ Global))) (tenant : ℕ) → FitLines facts lines files → All (λ (line : TenantLine). (1 ≤ line.quota) × (line.quota ≤ MAX_QUOTA)) lines
      → tenant < length lines → (1 ≤ (opening_at (openings_read lines files) tenant).quota) × ((opening_at (openings_read lines files) tenant).quota ≤ MAX_QUOTA)
  quota_at [] files tenant fit all low = absurd (omega (arith, low))
  quota_at (line ∷ lines) [] tenant fit all low = absurd fit
  quota_at (line ∷ lines) (file ∷ files) zero fit all low = subst (λ (n : ℕ). (1 ≤ n) × (n ≤ MAX_QUOTA)) (sym (quota_one line file)) (all 0 line (omega arith))
  quota_at (line ∷ lines) (file ∷ files) (suc tenant) fit all low = quota_at lines files tenant fit.1 (λ i d there. all (suc i) d (omega (arith, there))) (omega (arith, low))

  room_one : (line : TenantLine) (file : Option (TenantFile D × Vec ℕ Global)) → FitsLine facts line file → (opening_read line file).quota ≤ (opening_read line file).places
  room_one line None fits = omega arith
  room_one line (Some opened) fits = fits.room

  room_at : (lines : List TenantLine) (files : List (Option (TenantFile D × Vec ℕ Global))) (tenant : ℕ) → FitLines facts lines files → tenant < length lines
      → (opening_at (openings_read lines files) tenant).quota ≤ (opening_at (openings_read lines files) tenant).places
  room_at [] files tenant fit low = absurd (omega (arith, low))
  room_at (line ∷ lines) [] tenant fit low = absurd fit
  room_at (line ∷ lines) (file ∷ files) zero fit low = room_one line file fit.0
  room_at (line ∷ lines) (file ∷ files) (suc tenant) fit low = room_at lines files tenant fit.1 (omega (arith, low))

  long_at : (lines : List TenantLine) (files : List (Option (TenantFile D × Vec ℕ Global))) (tenant : ℕ) → FitLines facts lines files → tenant < length lines
      → length (opening_at (openings_read lines files) tenant).words ≡ (slice_index_or (map tenant_read lines) tenant no_tenant).words
  long_at [] files tenant fit low = absurd (omega (arith, low))
  long_at (line ∷ lines) [] tenant fit low = absurd fit
  long_at (line ∷ lines) (file ∷ files) zero fit low = (words_one line file fit.0).0
  long_at (line ∷ lines) (file ∷ files) (suc tenant) fit low = long_at lines files tenant fit.1 (omega (arith, low))

  words_at : (lines : List TenantLine) (files : List (Option (TenantFile D × Vec ℕ Global))) (tenant : ℕ) → FitLines facts lines files → AreWords (opening_at (openings_read lines files) tenant).words
  words_at [] files tenant fit = λ i d low. absurd (omega (arith, low))
  words_at (line ∷ lines) [] tenant fit = absurd fit
  words_at (line ∷ lines) (file ∷ files) zero fit = (words_one line file fit.0).1
  words_at (line ∷ lines) (file ∷ files) (suc tenant) fit = words_at lines files tenant fit.1

  together_first : (quotas : ℕ → ℕ) (n : ℕ) → quotas_together quotas (suc n) ≡ quotas 0 + quotas_together (λ k. quotas (suc k)) n
  together_first quotas zero = omega arith
  together_first quotas (suc n) = let before = together_first quotas n in omega (arith, before)

  together_so : (lines : List TenantLine) (files : List (Option (TenantFile D × Vec ℕ Global))) → FitLines facts lines files
      → quotas_together (λ k. (opening_at (openings_read lines files) k).quota) (length lines) ≡ sum_by (λ (line : TenantLine). line.quota) lines
  together_so [] files fit = refl
  together_so (line ∷ lines) [] fit = absurd fit
  together_so (line ∷ lines) (file ∷ files) fit =
      let first = together_first (λ k. (opening_at (openings_read (line ∷ lines) (file ∷ files)) k).quota) (length lines) in
      let one = quota_one line file in
      let rest = together_so lines files fit.1 in
      first ∙ ((λ i. one i + rest i) ∙ sym (sum_by-cons (λ (each : TenantLine). each.quota) line lines))

  -- fitting files make a valid start
  pub starts_so : (config : Config) (lines : List TenantLine) (files : List (Option (TenantFile D × Vec ℕ Global))) (pool : ℕ) → config.tenants.items ≡ map tenant_read lines → config.pool ≡ pool
      → FitLines facts lines files → ArePermitted pool lines → IsStart config (opening_at (openings_read lines files))
  starts_so config lines files pool tenants is_pool fit permitted =
      let count : tenants_of config ≡ length lines = ap length tenants ∙ length-map lines tenant_read in
      record {
        quotas = record {
          each = λ tenant low. quota_at lines files tenant fit permitted.quotas (omega (arith, low, count));
          room = λ tenant low. room_at lines files tenant fit (omega (arith, low, count));
          together = subst (λ (n : ℕ). quotas_together (λ k. (opening_at (openings_read lines files) k).quota) n ≤ config.pool) (sym count)
              (let same = together_so lines files fit in let slots = permitted.slots in omega (arith, same, slots, is_pool));
        };
        long = λ tenant low. long_at lines files tenant fit (omega (arith, low, count)) ∙ ap (λ (all : List Tenant). (slice_index_or all tenant no_tenant).words) (sym tenants);
        words = λ tenant. words_at lines files tenant fit;
      }

  -- the line that is given is the line that was read
  line_at : (lines : List TenantLine) (files : List (Option (TenantFile D × Vec ℕ Global))) (tenant : ℕ) → FitLines facts lines files → tenant < length lines
      → slice_get (map line_read lines) tenant ≡ Some (record {
        name = (slice_index_or (map tenant_read lines) tenant no_tenant).name.items;
        words = (slice_index_or (map tenant_read lines) tenant no_tenant).words;
        quota = (opening_at (openings_read lines files) tenant).quota;
      })
  line_at [] files tenant fit low = absurd (omega (arith, low))
  line_at (line ∷ lines) [] tenant fit low = absurd fit
  line_at (line ∷ lines) (file ∷ files) zero fit low = ap (λ (n : ℕ). Some (record { name = line.name.items; words = line.words; quota = n })) (sym (quota_one line file))
  line_at (line ∷ lines) (file ∷ files) (suc tenant) fit low = line_at lines files tenant fit.1 (omega (arith, low))

  pub line_is : (config : Config) (lines : List TenantLine) (files : List (Option (TenantFile D × Vec ℕ Global))) (tenant : ℕ) → config.tenants.items ≡ map tenant_read lines → FitLines facts lines files
      → tenant < length lines → slice_get (map line_read lines) tenant ≡ Some (line_given config (openings_read lines files) tenant)
  line_is config lines files tenant tenants fit low =
      line_at lines files tenant fit low
      ∙ ap (λ (all : List Tenant). Some (record {
        name = (slice_index_or all tenant no_tenant).name.items;
        words = (slice_index_or all tenant no_tenant).words;
        quota = (opening_at (openings_read lines files) tenant).quota;
      })) (sym tenants)
