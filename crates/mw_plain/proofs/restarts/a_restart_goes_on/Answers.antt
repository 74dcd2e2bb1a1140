-- Goals of `a_restart_goes_on` (src/restarts.rt).
use Rattle.std.proofs.Common.{Option, subst}
use Rattle.mw_record.specs.Layout.{pairs_of}
use Rattle.mw_file.specs.File.{states_of}
use Rattle.mw_lone.specs.Store.{entries_of}
use Rattle.mw_plain.specs.declared.loaded_file.LoadedFile.{LoadedFile}
use Rattle.mw_plain.specs.Refinement.{IsKept}
use Rattle.mw_plain.proofs.RestartedStores.{found_doubt, found_change, goes_on}
use Rattle.mw_plain.proofs.restarts.a_restart_goes_on.Goals as goal
use Rattle.std.proofs.Common.{length}
use Rattle.std.specs.Prelude.{None, Some}

pub returns-clause-in_use : goal.returns-clause-in_use
returns-clause-in_use g c plain tenant book s disk opened is kept honest left there rest opens =
    let keeps = subst (λ (o : Option (LoadedFile g.row.D.Denot)). IsKept g.D.Disk.facts o s) is kept honest in
    goes_on g.E.Disk.facts s None (length (states_of book.file)) s.words (pairs_of s.in_doubt) disk opened (found_doubt s _ _ (keeps.left _ left)) there rest opens
    (c.crash_of_a_file.ensures.in_use book.file s.words (pairs_of s.in_doubt) disk opened keeps left there rest opens)

pub returns-clause-in_doubt : goal.returns-clause-in_doubt
returns-clause-in_doubt g c places s disk opened either there rest opens =
    goes_on g.E.Disk.facts s None places s.words (pairs_of s.in_doubt) disk opened (found_doubt s places _ either) there rest opens
    (c.crash_of_a_file.ensures.in_a_call places s.words (pairs_of s.in_doubt) disk opened either there rest opens)

pub returns-clause-in_a_change : goal.returns-clause-in_a_change
returns-clause-in_a_change g c places n job s disk opened at can either there rest opens =
    goes_on g.E.Disk.facts s (Some n) places s.words (pairs_of (entries_of job)) disk opened (found_change s n places job _ at can either) there rest opens
    (c.crash_of_a_file.ensures.in_a_call places s.words (pairs_of (entries_of job)) disk opened either there rest opens)
