-- The statements that this crate proves of moves (elementary changes): each start has the invariant of the shared words, and
-- each move keeps it.
-- Used by: src/move_laws.rt.
use Rattle.std.specs.Prelude.{ℕ, ◌≤◌, List}
use Rattle.mw_words.specs.declared.limits.TheConstants.{MAX_VALUE}
use Rattle.mw_words.specs.Change.{word_at}
use Rattle.mw_world.specs.declared.config.Config.{Config}
use Rattle.mw_world.specs.Definition.State.{State, TenantState, IsConfig, started}
use Rattle.mw_law_runs.specs.Moves.Guards.{Guard, Guards}
use Rattle.mw_law_runs.specs.Moves.Memory.{Memory}
use Rattle.mw_law_runs.specs.Moves.Moves.{Move, made, made_all}

-- A move whose precondition holds keeps the invariant of the shared words.
abbrev pub MoveKeepsMemory : Type 0
MoveKeepsMemory = (config : Config) (state : State) (by : ℕ) (move : Move) → Guard config state by move → Memory config state → Memory config (made state by move)

-- So do several moves, one after the other.
abbrev pub MovesKeepMemory : Type 0
MovesKeepMemory = (config : Config) (state : State) (by : ℕ) (moves : List Move) → Guards config state by moves → Memory config state
    → Memory config (made_all state by moves)

-- If a world can be made of the configuration, the invariant of the shared words holds at each start at which no word of a file is above the greatest
-- value.
abbrev pub StartsHaveMemory : Type 0
StartsHaveMemory = (config : Config) (tenant_states : ℕ → TenantState) → IsConfig config
    → ((tenant address : ℕ) → word_at (tenant_states tenant).file.contents address ≤ MAX_VALUE) → Memory config (started config tenant_states)
