-- Defines the lines of an engine's tenants (name, number of words, quota), which stay the same for its whole life.
-- Used by: figures.rt, reads.rt, serving.rt, tenants.rt, mw_service, mw_programs, mw_engine_tests.
use Rattle.std.specs.Prelude.{◌≡◌, ◌≢◌, ◌<◌, ℕ, List, length, slice_get, Option, Some, IsTrue}
use Rattle.std.specs.Option.{option_map, option_map_or}
use Rattle.mw_words.specs.declared.jobs.Job.{Job}
use Rattle.mw_words.specs.Change.{is_well_formed}

-- a tenant's line: its name, how many words it has, and its quota
pub record Line : Type 0 where
  pub name : List ℕ
  pub words : ℕ
  pub quota : ℕ

-- how many words the tenant of this number has; 0 if there is no such tenant
abbrev pub words_told : List Line → ℕ → ℕ
words_told lines tenant = option_map_or (λ l. l.words) (slice_get lines tenant) 0

-- how many slots it may use at a time; 0 if there is no such tenant
abbrev pub quota_told : List Line → ℕ → ℕ
quota_told lines tenant = option_map_or (λ l. l.quota) (slice_get lines tenant) 0

-- the name of the tenant of this number, if there is one
abbrev pub name_told : List Line → ℕ → Option (List ℕ)
name_told lines tenant = option_map (λ l. l.name) (slice_get lines tenant)

-- there is a tenant of this number, and it has so many words
pub record HasWords (lines : List Line) (tenant words : ℕ) : Type 0 where
  pub there : tenant < length lines
  pub words_are : words_told lines tenant ≡ words

-- there is a tenant of this number, and it may ask for this job
pub record IsFor (lines : List Line) (tenant : ℕ) (job : Job) : Type 0 where
  pub there : tenant < length lines
  pub formed : IsTrue (is_well_formed (words_told lines tenant) job)

-- none of the first `so_many` tenants has this name
abbrev pub HasNone : List Line → ℕ → List ℕ → Type 0
HasNone lines so_many name = (tenant : ℕ) → tenant < so_many → name_told lines tenant ≢ Some name

-- this is the first tenant with this name, and its number of words
pub record IsFirst (lines : List Line) (name : List ℕ) (found : ℕ × ℕ) : Type 0 where
  pub named : name_told lines found.0 ≡ Some name
  pub has : HasWords lines found.0 found.1
  pub first : HasNone lines found.0 name
