-- Defines which lines a tenants file may have: the limits of each line, and of all together.
-- Used by: mw_engine, mw_opening, mw_programs, mw_engine_tests, laws.rt, lines.rt, tenants.rt. Change it with docs/OPERATING.
use Rattle.std.specs.Prelude.{ℕ, ◌≡◌, ◌≢◌, ◌≤◌, ◌⊎◌, ◌&&◌, Bool, not, List, length, map, All, flat_map, sum_by, bytes_eq, IsTrue}
use Rattle.std.specs.List.{AllPairs, Contains}
use Rattle.mw_words.specs.declared.limits.TheConstants.{MAX_WORDS, MAX_QUOTA, MAX_TENANTS, MAX_TENANTS_FILE}
use Rattle.mw_words.specs.Name.{is_name}
use Rattle.mw_config.specs.declared.lines.TenantLine.{TenantLine}
use Rattle.mw_config.specs.LineTexts.{Line, IsLine, spelling}

-- a tenant has 1 to MAX_WORDS words
abbrev pub HasWords : Line → Type 0
HasWords line = (1 ≤ line.words) × (line.words ≤ MAX_WORDS)

-- a tenant's quota is 1 to MAX_QUOTA
abbrev pub HasQuota : Line → Type 0
HasQuota line = (1 ≤ line.quota) × (line.quota ≤ MAX_QUOTA)

-- two lines have different names and different paths
abbrev pub Differ : Line → Line → Type 0
Differ earlier later = (earlier.name ≢ later.name) × (earlier.path ≢ later.path)

-- no earlier line has this one's name or path
abbrev pub IsNew : List Line → Line → Type 0
IsNew lines line = All (λ earlier. Differ earlier line) lines

-- an earlier line has this one's name or path
abbrev pub IsTwice : List Line → Line → Type 0
IsTwice lines line = Contains (map (λ earlier. earlier.name) lines) line.name ⊎ Contains (map (λ earlier. earlier.path) lines) line.path

-- the test whether two lines have different names and different paths
abbrev pub differ : Line → Line → Bool
differ earlier later = not (bytes_eq earlier.name later.name) && not (bytes_eq earlier.path later.path)

-- nothing is wrong with any of these lines
pub record AreFine (lines : List Line) : Type 0 where
  pub formed : All IsLine lines
  pub words : All HasWords lines
  pub quotas : All HasQuota lines
  pub differ : AllPairs Differ lines
  pub count : length lines ≤ MAX_TENANTS

-- the sum of all quotas
abbrev pub quota_sum : List Line → ℕ
quota_sum lines = sum_by (λ line. line.quota) lines

-- The text is that of these lines, and a server with a pool of so many slots serves them: the text isn't too long,
-- there is a line, nothing is wrong with any, and the pool has slots for all quotas.
pub record IsTenantsFile (pool : ℕ) (lines : List Line) (text : List ℕ) : Type 0 where
  pub short : length text ≤ MAX_TENANTS_FILE
  pub spelled : text ≡ flat_map spelling lines
  pub fine : AreFine lines
  pub some : 1 ≤ length lines
  pub slots : quota_sum lines ≤ pool

-- What callers may rely on of the tenants that were read. There are 1 to MAX_TENANTS of them, each is within the
-- limits, the pool has slots for all quotas, and no two have the same name or the same path.
pub record ArePermitted (pool : ℕ) (tenants : List TenantLine) : Type 0 where
  pub some : 1 ≤ length tenants
  pub count : length tenants ≤ MAX_TENANTS
  pub named : All (λ tenant. IsTrue (is_name tenant.name.items)) tenants
  pub words : All (λ tenant. (1 ≤ tenant.words) × (tenant.words ≤ MAX_WORDS)) tenants
  pub quotas : All (λ tenant. (1 ≤ tenant.quota) × (tenant.quota ≤ MAX_QUOTA)) tenants
  pub slots : sum_by (λ tenant. tenant.quota) tenants ≤ pool
  pub names : AllPairs (λ earlier later. earlier.name.items ≢ later.name.items) tenants
  pub paths : AllPairs (λ earlier later. earlier.path.bytes ≢ later.path.bytes) tenants
