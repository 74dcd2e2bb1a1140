-- Goals of `Player::obey` (src/player.rt).
use Rattle.mwreplay.proofs.player.Player.obey.Goals as goal

pub returns-in-Come-clause-plays : goal.returns-in-Come-clause-plays
returns-in-Come-clause-plays g c = rw c.in-Come.is c.happen.ensures.plays

pub returns-in-Step-clause-plays : goal.returns-in-Step-clause-plays
returns-in-Step-clause-plays g c = rw c.in-Step.is c.step.ensures.plays

pub returns-in-File-clause-plays : goal.returns-in-File-clause-plays
returns-in-File-clause-plays g c = rw c.in-File.is c.happen-in-File.ensures.plays

pub returns-in-Before-clause-plays : goal.returns-in-Before-clause-plays
returns-in-Before-clause-plays g c = rw c.in-Before.is c.go_before.ensures.plays

pub returns-in-To-clause-plays : goal.returns-in-To-clause-plays
returns-in-To-clause-plays g c = rw c.in-To.is c.go_to.ensures.plays

pub returns-in-Restart-clause-plays : goal.returns-in-Restart-clause-plays
returns-in-Restart-clause-plays g c = rw c.in-Restart.is c.happen-in-Restart.ensures.plays
