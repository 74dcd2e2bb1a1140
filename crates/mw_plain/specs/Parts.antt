-- Names the parts of a plain store: its tenants by number, and the words, quota (limit of changes under way) and loaded file
-- of each.
-- Used by: mw_words_tests, plain.rt, restarts.rt, tenant.rt.
use Rattle.std.specs.Prelude.{List, ◌≡◌, ◌≢◌, ℕ, length, slice_get, Option}
use Rattle.std.specs.Option.{option_and_then, option_map, option_map_or}
use Rattle.mw_plain.specs.declared.loaded_file.LoadedFile.{LoadedFile}
use Rattle.mw_plain.specs.declared.tenant.Part.{Part}
use Rattle.mw_plain.specs.declared.plain.Plain.{Plain}

-- a tenant's name, number of words and quota, as its line tells them, stay the same
pub record SameLine {D : Type 0} (old new : Part D) : Type 0 where
  pub name : new.name ≡ old.name
  pub words : new.words ≡ old.words
  pub quota : new.quota ≡ old.quota

module _ {D : Type 0} where
  -- how many tenants there are
  abbrev pub tenants : Plain D → ℕ
  tenants plain = length plain.parts.items

  -- the tenant of this number, if there is one
  abbrev pub part_at : Plain D → ℕ → Option (Part D)
  part_at plain tenant = slice_get plain.parts.items tenant

  -- its name
  abbrev pub name_at : Plain D → ℕ → Option (List ℕ)
  name_at plain tenant = option_map (λ p. p.name.items) (part_at plain tenant)

  -- how many words it has; 0 if there is no such tenant
  abbrev pub words_at : Plain D → ℕ → ℕ
  words_at plain tenant = option_map_or (λ p. p.words) (part_at plain tenant) 0

  -- its quota; 0 if there is no such tenant
  abbrev pub quota_at : Plain D → ℕ → ℕ
  quota_at plain tenant = option_map_or (λ p. p.quota) (part_at plain tenant) 0

  -- the loaded file that serves it, if its file opened
  abbrev pub book_at : Plain D → ℕ → Option (LoadedFile D)
  book_at plain tenant = option_and_then (λ p. p.book) (part_at plain tenant)

  -- A call for one tenant: the tenants, their lines and the pool stay the same, and so does every other tenant.
  pub record ServesOne (old new : Plain D) (tenant : ℕ) : Type 0 where
    pub count : tenants new ≡ tenants old
    pub name : name_at new tenant ≡ name_at old tenant
    pub words : words_at new tenant ≡ words_at old tenant
    pub quota : quota_at new tenant ≡ quota_at old tenant
    pub pool : new.pool ≡ old.pool
    pub others : (other : ℕ) → other ≢ tenant → part_at new other ≡ part_at old other
