-- Defines the passes that a new table makes, one for each worker.
-- Used by: src/after_run.rt, src/at_start.rt, src/new_table.rt, mw_core, mw_table_tests.
use Rattle.std.specs.Prelude.{ℕ, ◌≡◌, ◌<◌, List, [], ◌∷◌, length, slice_get, slice_index_or, is_none, Option, Some, None}
use Rattle.mw_actor.specs.ActorState.{ActorState}
use Rattle.mw_world.specs.Definition.State.{WorkerState, State}
use Rattle.mw_rule.specs.declared.views.View.{View}
use Rattle.mw_rule.specs.Steps.{IsReady}
use Rattle.mw_rule.specs.Splits.{knows, token_of}
use Rattle.mw_rule.specs.Rule.{Each, IsRight}
use Rattle.mw_table.specs.declared.new_table.PassState.{PassState}
use Rattle.mw_table.specs.declared.shared.Pass.{Pass}
use Rattle.mw_table.specs.declared.shared.Shared.{Shared}
use Rattle.mw_table.specs.Basis.{Basis}
use Rattle.mw_table.specs.Passes.{IsOf}

-- what a worker's pass knows at first
abbrev pub view_of : Basis → ℕ → View
view_of basis worker = knows basis.config basis.openings (Some basis.known_run) (token_of worker (basis.worker_states worker) ∷ []) []

-- what is known beside the passes: the files are left
abbrev pub left_of : Basis → View
left_of basis = knows basis.config basis.openings (Some basis.known_run) [] basis.files

-- A pass of the table, as it was made. If its worker has a request, the pass carries it, and the words of its next
-- step or call are there; else the pass is idle. It has seen no change.
pub record IsDealt (shared : Shared) (basis : Basis) (pass : Pass) : Type 0 where
  pub own : IsOf shared pass
  pub there : pass.worker < basis.config.workers
  pub view : pass.seat.me.0 ≡ view_of basis pass.worker
  pub idle : pass.idle ≡ is_none (basis.worker_states pass.worker).actor
  pub right : IsRight pass.seat.me.0
  pub ready : Each (IsReady basis.config) pass.seat.me.0.tokens

-- The passes are in the order of their workers, from worker 0 on.
abbrev pub AreInOrder : List Pass → Type 0
AreInOrder passes = (worker : ℕ) (pass : Pass) → slice_get passes worker ≡ Some pass → pass.worker ≡ worker

-- what the pass says of its worker is true
pub record IsPassState (seat : WorkerState) (pass_state : PassState) : Type 0 where
  pub attempt : pass_state.attempt ≡ seat.attempt
  pub idle : pass_state.idle ≡ is_none seat.actor

-- what a worker's pass says of it
abbrev pub pass_state_of : WorkerState → PassState
pass_state_of seat = record { attempt = seat.attempt; idle = is_none seat.actor }

-- what the passes of so many workers say of them is true, in the workers' order
pub record ArePassStates (worker_states : ℕ → WorkerState) (workers : ℕ) (pass_states : List PassState) : Type 0 where
  pub count : length pass_states ≡ workers
  pub each : (worker : ℕ) (other : PassState) → worker < workers → IsPassState (worker_states worker) (slice_index_or pass_states worker other)

-- these are the requests of so many workers, in the workers' order
pub record AreActors (state : State) (workers : ℕ) (actors : List (Option ActorState)) : Type 0 where
  pub count : length actors ≡ workers
  pub each : (worker : ℕ) → worker < workers → slice_index_or actors worker None ≡ (state.worker_states worker).actor
