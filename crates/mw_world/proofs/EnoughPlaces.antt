-- A tenant's first file has at least as many record places as the tenant's quota. Used by: mw_world_file.
use Rattle.std.specs.Prelude.{ℕ, ◌≤◌}
use Rattle.std.proofs.Common.{arith}
use Rattle.std.proofs.lemmas.Bool.Decides.{nat_tests}
use Rattle.mw_words.specs.declared.limits.TheConstants.{MAX_QUOTA}
use Rattle.mw_world.specs.Files.FirstPlaces.{first_places}

pub places_enough : (quota : ℕ) → quota ≤ MAX_QUOTA → quota ≤ first_places quota
places_enough quota most = grind (arith, nat_tests, most)
