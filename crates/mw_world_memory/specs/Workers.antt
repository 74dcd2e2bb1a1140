-- Defines which worker state of the definition a worker in memory represents.
-- Used by: src/lines.rt, src/workers.rt, mw_simulator.
use Rattle.mw_world.specs.Definition.State.{WorkerState}
use Rattle.mw_world_memory.specs.declared.workers.WorkerState.{WorkerState as KeptWorkerState}

-- the worker state that this represents
abbrev pub worker_state_of : KeptWorkerState → WorkerState
worker_state_of worker_state = record { actor = worker_state.actor; request = worker_state.request; attempt = worker_state.attempt; kept = worker_state.kept; retiring = worker_state.retiring }
