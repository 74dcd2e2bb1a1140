-- Loop invariants of `empty_places` (src/opened.rt).
use Rattle.std.proofs.Common.{◌≡◌, replicate}
use Rattle.mw_world_file.specs.declared.places.Place.TheVariants.{Empty}
use Rattle.mw_world_file.proofs.opened.empty_places.Given as goal

-- the places so far
abbrev pub invariant-loop : goal.invariant-loop
invariant-loop l = l.places.items ≡ replicate l.counter Empty
