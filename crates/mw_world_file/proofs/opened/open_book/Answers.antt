-- Goals of `open_book` (src/opened.rt).
use Rattle.mw_words.specs.declared.limits.TheConstants.{MAX_POOL}
use Rattle.mw_world_file.proofs.OpenedFiles.{free_kept, tells_opened}
use Rattle.std.proofs.Common.{◌∙◌, List, ap, length, arith}
use Rattle.std.proofs.lemmas.List.{length-replicate}
use Rattle.mw_world_file.specs.declared.places.Place.{Place}
use Rattle.mw_world_file.specs.declared.places.Place.TheVariants.{Empty}
use Rattle.std.proofs.lemmas.Grind.{common_steps}
use Rattle.mw_world_file.proofs.opened.open_book.Goals as goal

pub invariant_of-result-clause-kept : goal.invariant_of-result-clause-kept
invariant_of-result-clause-kept c = free_kept _ _ _ c.requires.free c.in_ok-places.ensures

pub returns-clause-shows : goal.returns-clause-shows
returns-clause-shows c = tells_opened c.args.file c.args.contents.items c.in_ok-places.places.items _ c.new.result.items _ MAX_POOL c.requires.keeps c.in_ok-places.ensures c.new.ensures

pub returns-clause-places : goal.returns-clause-places
returns-clause-places c = ap (λ (places : List Place). length places) c.in_ok-places.ensures ∙ length-replicate c.args.quota Empty

pub invariant_of-result-clause-count : goal.invariant_of-result-clause-count
invariant_of-result-clause-count c = grind (arith, common_steps)
