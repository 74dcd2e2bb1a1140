-- Goals of `SimulatedFile::shut` (src/opening.rt).
use Rattle.mw_world_file.proofs.OpenedFiles.{free_kept}
use Rattle.std.proofs.Common.{[], refl, ◌∙◌, List, ap, arith, length}
use Rattle.std.proofs.lemmas.List.{length-replicate}
use Rattle.mw_world_file.specs.declared.places.Place.{Place}
use Rattle.mw_world_file.specs.declared.places.Place.TheVariants.{Empty}
use Rattle.mw_world_file.proofs.simulated_file.SimulatedFile.shut.Goals as goal

pub invariant_of-result-clause-kept : goal.invariant_of-result-clause-kept
invariant_of-result-clause-kept c = free_kept [] _ _ refl c.in-Ok.ensures

pub invariant_of-result-clause-count : goal.invariant_of-result-clause-count
invariant_of-result-clause-count c =
    let used = ap (λ (places : List Place). length places) c.in-Ok.ensures ∙ length-replicate c.args.quota Empty in
    omega (arith, used, c.requires)
