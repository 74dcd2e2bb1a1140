-- The facts that a request knows at its point hold in every world with the same shared words, history and attempt numbers.
-- Used by: ArrivalsAndStarts, FileCalls, StepsKeepInvariant.
use Rattle.std.specs.Prelude.{[]}
use Rattle.std.proofs.Common.{ap}
use Rattle.mw_actor.specs.ActorState.{ActorState}
use Rattle.mw_world.specs.declared.config.Config.{Config}
use Rattle.mw_world.specs.Definition.Cells.{Cells}
use Rattle.mw_world.specs.Definition.History.{History}
use Rattle.mw_world.specs.Definition.State.{State}
use Rattle.mw_law_runs.specs.Moves.Memory.{Memory}
use Rattle.mw_law_runs.specs.Moves.StepMoves.{SameMemory}
use Rattle.mw_law_runs.proofs.Moves.Relied.{others_rely_on_all}
use Rattle.mw_law_runs.proofs.Moves.Shared.{reliance_is_shared}
use Rattle.mw_law_runs.specs.Knowledge.Points.{without_point}
use Rattle.mw_law_runs.specs.Knowledge.NextState.{KnowsItsPoint}
use Rattle.mw_law_runs.proofs.Knowledge.Updates.Preservation.{carries_on, keeps_all, gates_same}

pub stands_shared : (config : Config) (one other : State) (next : ActorState) → Memory config other → SameMemory one other → KnowsItsPoint other next → KnowsItsPoint one next
stands_shared config one other next memory same stands =
    carries_on 0 other one (reliance_is_shared 0 other one other same (others_rely_on_all config other 0 [] tt memory)) next
    (keeps_all other one (without_point next) (ap (λ (past : History). past.stays) same.history) (ap (λ (past : History). past.fate) same.history)
    (ap (λ (cells : Cells). cells.statuses) same.cells) (ap (λ (cells : Cells). cells.counts) same.cells) (ap (λ (cells : Cells). cells.addrs) same.cells)
    (ap (λ (cells : Cells). cells.expecteds) same.cells) (ap (λ (cells : Cells). cells.new_values) same.cells) (same.attempts next.worker) (ap (λ (cells : Cells). cells.rows) same.cells))
    (λ slot some. gates_same other one (ap (λ (cells : Cells). cells.gates) same.cells) slot) stands
