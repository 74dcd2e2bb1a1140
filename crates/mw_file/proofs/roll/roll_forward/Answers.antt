-- Goals of `roll_forward` (src/roll.rt).
use Rattle.std.proofs.Common.{◌+◌, [], ◌∷◌, ◌++◌, true, false, arith}
use Rattle.mw_file.specs.PlaceStates.{home_writes, commit_writes, roll_calls}
use Rattle.mw_disk.proofs.RunLaws.{still_honest, later_trans}
use Rattle.mw_file.proofs.Rolled.{has_homes, are_below, homes_moments, homes_alone, homes_read, commits_fit, commits_moments, commits_alone, commits_read, rolled}
use Rattle.mw_disk.specs.DeviceCalls.{Sync, Makes}
use Rattle.mw_disk.proofs.Outcomes.{on_err}
use Rattle.mw_disk.proofs.MakesLaws.{makes_after, makes_cut}
use Rattle.mw_file.specs.DeviceCalls.{home_calls, clear_calls}
use Rattle.mw_file.proofs.Ran.{goes_on, stops, ran_err}
use Rattle.mw_file.proofs.roll.roll_forward.Goals as goal

pub returns-in_err-write_homes-clause-calls : goal.returns-in_err-write_homes-clause-calls
returns-in_err-write_homes-clause-calls g c =
    let states = c.args.states.now in
    ran_err (home_writes states + 1) (roll_calls states) _ _ _ (omega arith) c.in_err-write_homes.ensures.calls c.from_residual.ensures.0

pub returns-in_err-clear_commits-clause-calls : goal.returns-in_err-clear_commits-clause-calls
returns-in_err-clear_commits-clause-calls g c =
    let states = c.args.states.now in
    stops (home_writes states + 1) (commit_writes states + 1) (roll_calls states) _ _ _ _ (omega arith)
    c.in_ok-write_homes.ensures.calls c.in_err-clear_commits.ensures.calls c.from_residual-in_err-clear_commits.ensures.0

pub returns-clause-calls : goal.returns-clause-calls
returns-clause-calls g c =
    let states = c.args.states.now in
    goes_on (home_writes states + 1) (commit_writes states + 1) (roll_calls states) _ _ _ (omega arith)
    c.in_ok-write_homes.ensures.calls c.in_ok-clear_commits.ensures.calls

pub returns-in_err-write_homes-clause-moments : goal.returns-in_err-write_homes-clause-moments
returns-in_err-write_homes-clause-moments g c places contents can =
    let start = g.D.Disk.facts c.args.disk.now in
    let mid = g.D.Disk.facts c.write_homes.new.disk in
    let homes = has_homes start c.args.at c.args.words places c.args.first c.args.states.now contents can in
    let below = are_below start c.args.at c.args.words places c.args.first c.args.states.now contents can in
    homes_moments start c.args.at c.args.words places c.args.first c.args.states.now contents can mid (c.write_homes.ensures.touched c.args.words homes below)

pub returns-in_err-write_homes-clause-read : goal.returns-in_err-write_homes-clause-read
returns-in_err-write_homes-clause-read g c places contents can =
    let start = g.D.Disk.facts c.args.disk.now in
    let mid = g.D.Disk.facts c.write_homes.new.disk in
    let homes = has_homes start c.args.at c.args.words places c.args.first c.args.states.now contents can in
    let below = are_below start c.args.at c.args.words places c.args.first c.args.states.now contents can in
    homes_read start c.args.at c.args.words places c.args.first c.args.states.now contents can mid (c.write_homes.ensures.touched c.args.words homes below)

pub returns-in_err-clear_commits-clause-moments : goal.returns-in_err-clear_commits-clause-moments
returns-in_err-clear_commits-clause-moments g c places contents can =
    let start = g.D.Disk.facts c.args.disk.now in
    let mid = g.D.Disk.facts c.write_homes.new.disk in
    let new = g.D.Disk.facts c.clear_commits.new.disk in
    let at = c.args.at in
    let words = c.args.words in
    let first = c.args.first in
    let states = c.args.states.now in
    let homes = has_homes start at words places first states contents can in
    let below = are_below start at words places first states contents can in
    let touched = c.write_homes.ensures.touched words homes below in
    let rest = c.in_ok-write_homes.ensures.rest can.honest in
    let values = c.in_ok-write_homes.ensures.values words homes below in
    let honest = still_honest start mid c.write_homes.ensures.later can.honest in
    let fit = commits_fit start at words places first states contents can mid touched in
    let shut = c.clear_commits.ensures.touched honest fit in
    commits_moments start at words places first states contents can mid touched rest values new shut

pub returns-in_err-clear_commits-clause-read : goal.returns-in_err-clear_commits-clause-read
returns-in_err-clear_commits-clause-read g c places contents can =
    let start = g.D.Disk.facts c.args.disk.now in
    let mid = g.D.Disk.facts c.write_homes.new.disk in
    let new = g.D.Disk.facts c.clear_commits.new.disk in
    let at = c.args.at in
    let words = c.args.words in
    let first = c.args.first in
    let states = c.args.states.now in
    let homes = has_homes start at words places first states contents can in
    let below = are_below start at words places first states contents can in
    let touched = c.write_homes.ensures.touched words homes below in
    let rest = c.in_ok-write_homes.ensures.rest can.honest in
    let values = c.in_ok-write_homes.ensures.values words homes below in
    let honest = still_honest start mid c.write_homes.ensures.later can.honest in
    let fit = commits_fit start at words places first states contents can mid touched in
    let shut = c.clear_commits.ensures.touched honest fit in
    commits_read start at words places first states contents can mid touched rest values new shut

pub returns-clause-moments : goal.returns-clause-moments
returns-clause-moments g c places contents can =
    let start = g.D.Disk.facts c.args.disk.now in
    let mid = g.D.Disk.facts c.write_homes.new.disk in
    let new = g.D.Disk.facts c.clear_commits.new.disk in
    let at = c.args.at in
    let words = c.args.words in
    let first = c.args.first in
    let states = c.args.states.now in
    let homes = has_homes start at words places first states contents can in
    let below = are_below start at words places first states contents can in
    let touched = c.write_homes.ensures.touched words homes below in
    let rest = c.in_ok-write_homes.ensures.rest can.honest in
    let values = c.in_ok-write_homes.ensures.values words homes below in
    let honest = still_honest start mid c.write_homes.ensures.later can.honest in
    let fit = commits_fit start at words places first states contents can mid touched in
    let shut = c.clear_commits.ensures.touched honest fit in
    commits_moments start at words places first states contents can mid touched rest values new shut

pub returns-clause-read : goal.returns-clause-read
returns-clause-read g c places contents can =
    let start = g.D.Disk.facts c.args.disk.now in
    let mid = g.D.Disk.facts c.write_homes.new.disk in
    let new = g.D.Disk.facts c.clear_commits.new.disk in
    let at = c.args.at in
    let words = c.args.words in
    let first = c.args.first in
    let states = c.args.states.now in
    let homes = has_homes start at words places first states contents can in
    let below = are_below start at words places first states contents can in
    let touched = c.write_homes.ensures.touched words homes below in
    let rest = c.in_ok-write_homes.ensures.rest can.honest in
    let values = c.in_ok-write_homes.ensures.values words homes below in
    let honest = still_honest start mid c.write_homes.ensures.later can.honest in
    let fit = commits_fit start at words places first states contents can mid touched in
    let shut = c.clear_commits.ensures.touched honest fit in
    commits_read start at words places first states contents can mid touched rest values new shut

pub returns-clause-done : goal.returns-clause-done
returns-clause-done g c places contents can =
    let start = g.D.Disk.facts c.args.disk.now in
    let mid = g.D.Disk.facts c.write_homes.new.disk in
    let new = g.D.Disk.facts c.clear_commits.new.disk in
    let at = c.args.at in
    let words = c.args.words in
    let first = c.args.first in
    let states = c.args.states.now in
    let homes = has_homes start at words places first states contents can in
    let below = are_below start at words places first states contents can in
    let touched = c.write_homes.ensures.touched words homes below in
    let rest = c.in_ok-write_homes.ensures.rest can.honest in
    let values = c.in_ok-write_homes.ensures.values words homes below in
    let honest = still_honest start mid c.write_homes.ensures.later can.honest in
    let fit = commits_fit start at words places first states contents can mid touched in
    let shut = c.clear_commits.ensures.touched honest fit in
    rolled start at words places first states contents can mid touched rest values new shut (c.in_ok-clear_commits.ensures.rest honest) (c.in_ok-clear_commits.ensures.shut honest fit)

pub returns-in_err-write_homes-clause-touched : goal.returns-in_err-write_homes-clause-touched
returns-in_err-write_homes-clause-touched g c places contents can =
    let start = g.D.Disk.facts c.args.disk.now in
    let mid = g.D.Disk.facts c.write_homes.new.disk in
    let homes = has_homes start c.args.at c.args.words places c.args.first c.args.states.now contents can in
    let below = are_below start c.args.at c.args.words places c.args.first c.args.states.now contents can in
    homes_alone start c.args.at c.args.words places c.args.first c.args.states.now contents can mid (c.write_homes.ensures.touched c.args.words homes below)

pub returns-in_err-clear_commits-clause-touched : goal.returns-in_err-clear_commits-clause-touched
returns-in_err-clear_commits-clause-touched g c places contents can =
    let start = g.D.Disk.facts c.args.disk.now in
    let mid = g.D.Disk.facts c.write_homes.new.disk in
    let new = g.D.Disk.facts c.clear_commits.new.disk in
    let at = c.args.at in
    let words = c.args.words in
    let first = c.args.first in
    let states = c.args.states.now in
    let homes = has_homes start at words places first states contents can in
    let below = are_below start at words places first states contents can in
    let touched = c.write_homes.ensures.touched words homes below in
    let rest = c.in_ok-write_homes.ensures.rest can.honest in
    let values = c.in_ok-write_homes.ensures.values words homes below in
    let honest = still_honest start mid c.write_homes.ensures.later can.honest in
    let fit = commits_fit start at words places first states contents can mid touched in
    let shut = c.clear_commits.ensures.touched honest fit in
    commits_alone start at words places first states contents can mid touched rest values new shut

pub returns-clause-touched : goal.returns-clause-touched
returns-clause-touched g c places contents can =
    let start = g.D.Disk.facts c.args.disk.now in
    let mid = g.D.Disk.facts c.write_homes.new.disk in
    let new = g.D.Disk.facts c.clear_commits.new.disk in
    let at = c.args.at in
    let words = c.args.words in
    let first = c.args.first in
    let states = c.args.states.now in
    let homes = has_homes start at words places first states contents can in
    let below = are_below start at words places first states contents can in
    let touched = c.write_homes.ensures.touched words homes below in
    let rest = c.in_ok-write_homes.ensures.rest can.honest in
    let values = c.in_ok-write_homes.ensures.values words homes below in
    let honest = still_honest start mid c.write_homes.ensures.later can.honest in
    let fit = commits_fit start at words places first states contents can mid touched in
    let shut = c.clear_commits.ensures.touched honest fit in
    commits_alone start at words places first states contents can mid touched rest values new shut

pub returns-in_err-write_homes-clause-made : goal.returns-in_err-write_homes-clause-made
returns-in_err-write_homes-clause-made g c =
    let homes = home_calls c.args.at c.args.states.now ++ Sync ∷ [] in
    let clears = clear_calls c.args.at c.args.words c.args.first c.args.states.now ++ Sync ∷ [] in
    on_err (λ ok. Makes g.D.Disk.made (homes ++ clears) ok c.args.disk.now c.write_homes.new.disk) _ c.from_residual.ensures.0
    (makes_cut g.D.Disk.made homes clears _ _ c.in_err-write_homes.ensures.made)

pub returns-in_err-clear_commits-clause-made : goal.returns-in_err-clear_commits-clause-made
returns-in_err-clear_commits-clause-made g c =
    let homes = home_calls c.args.at c.args.states.now ++ Sync ∷ [] in
    let clears = clear_calls c.args.at c.args.words c.args.first c.args.states.now ++ Sync ∷ [] in
    on_err (λ ok. Makes g.D.Disk.made (homes ++ clears) ok c.args.disk.now c.clear_commits.new.disk) _ c.from_residual-in_err-clear_commits.ensures.0
    (makes_after g.D.Disk.made homes clears false _ _ _ c.in_ok-write_homes.ensures.made c.in_err-clear_commits.ensures.made)

pub returns-clause-made : goal.returns-clause-made
returns-clause-made g c =
    let homes = home_calls c.args.at c.args.states.now ++ Sync ∷ [] in
    let clears = clear_calls c.args.at c.args.words c.args.first c.args.states.now ++ Sync ∷ [] in
    makes_after g.D.Disk.made homes clears true _ _ _ c.in_ok-write_homes.ensures.made c.in_ok-clear_commits.ensures.made

pub returns-clause-later : goal.returns-clause-later
returns-clause-later g c =
    let old = g.D.Disk.facts c.args.disk.now in
    let mid = g.D.Disk.facts c.write_homes.new.disk in
    let new = g.D.Disk.facts c.clear_commits.new.disk in
    later_trans old mid new c.write_homes.ensures.later c.clear_commits.ensures.later
