-- Proves the law `crash_of_a_file`.
use Rattle.std.proofs.Common.{length}
use Rattle.mw_file.specs.File.{states_of}
use Rattle.mw_file.proofs.Reopened.{holds_again}
use Rattle.mw_file.proofs.laws.crash_of_a_file.Goals as goal

pub returns-clause-in_use : goal.returns-clause-in_use
returns-clause-in_use g c file contents doubt disk opened keeps left honest rest opens =
    holds_again g.E.Disk.facts contents doubt disk honest rest (length (states_of file)) opened (keeps.left (g.E.Disk.facts disk).reads left) opens

pub returns-clause-in_a_call : goal.returns-clause-in_a_call
returns-clause-in_a_call g c places contents change disk opened either honest rest opens =
    holds_again g.E.Disk.facts contents change disk honest rest places opened either opens
