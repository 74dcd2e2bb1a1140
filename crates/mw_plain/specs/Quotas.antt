-- Defines how many slots the tenants of a plain store may use and do use, and which disks their files are on.
-- Used by: plain.rt, tenant.rt.
use Rattle.std.specs.Prelude.{ℕ, List, sum_by, Option}
use Rattle.std.specs.Option.{option_map}
use Rattle.mw_file.specs.File.{disk_of}
use Rattle.mw_plain.specs.declared.tenant.Part.{Part}
use Rattle.mw_plain.specs.Books.{used_in}

module _ {D : Type 0} where
  -- the sum of the quotas of these tenants
  abbrev pub quotas_of : List (Part D) → ℕ
  quotas_of parts = sum_by (λ p. p.quota) parts

  -- how many slots these tenants use together
  abbrev pub used_by : List (Part D) → ℕ
  used_by parts = sum_by (λ p. used_in p.book) parts

  -- the disk of a tenant's file, if the file opened
  abbrev pub disk_in : Part D → Option D
  disk_in part = option_map (λ b. disk_of b.file) part.book
