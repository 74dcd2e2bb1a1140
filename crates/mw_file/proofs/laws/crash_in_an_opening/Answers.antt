-- Proves the law `crash_in_an_opening`.
use Rattle.mw_file.proofs.Reopened.{same_trans, unchanged_of}
use Rattle.mw_file.proofs.laws.crash_in_an_opening.Goals as goal

pub returns : goal.returns
returns g c first opened second again honest rest opens left honest2 rest2 opens2 =
    let f = g.D.Disk.facts in
    let h = g.E.Disk.facts in
    let one = unchanged_of f first opened opens honest rest in
    let two = unchanged_of h second again opens2 honest2 rest2 in
    let between = one.left.each (h second).reads left in (
      same_trans _ _ _ between two.read,
      λ image later. same_trans _ _ image between (two.left.each image later),
    )
