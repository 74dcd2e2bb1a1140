-- Proves the law `the_device_fails_where_it_is_told`.
use Rattle.mw_file.specs.File.{disk_of}
use Rattle.mw_file.proofs.Ran.{told_well, told_badly}
use Rattle.mw_file.proofs.laws.the_device_fails_where_it_is_told.Goals as goal

pub returns-clause-well : goal.returns-clause-well
returns-clause-well g c calls k old new doomed well =
    told_well calls k (g.D.Disk.facts (disk_of old)) (g.D.Disk.facts (disk_of new)) doomed well.made

pub returns-clause-fault : goal.returns-clause-fault
returns-clause-fault g c calls k old new honest doomed met =
    told_badly calls k (g.D.Disk.facts (disk_of old)) (g.D.Disk.facts (disk_of new)) honest doomed met.made
