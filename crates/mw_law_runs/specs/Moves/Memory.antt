-- Defines `Memory`, the invariant of the shared words at every moment of a run, with what each step needs to keep it. Memory is
-- here the shared words, the history and the numbers of the workers' attempts.
-- Used by: mw_law_store.
use Rattle.std.specs.Prelude.{ℕ, ◌≡◌}
use Rattle.mw_world.specs.declared.config.Config.{Config}
use Rattle.mw_world.specs.declared.step_labels.Phase.TheVariants.{Written}
use Rattle.mw_world.specs.Claim.Invariant.{ChangesClaimTheirSlots, SlotsTellTheirChanges, ReferencesArePinned, AttemptsAreTheirWorkers, WordsFollowTheirChanges, StaleHelpersLose}
use Rattle.mw_world.specs.Definition.State.{State}
use Rattle.mw_world.specs.Definition.Cells.{AllFit}

-- The invariant of the shared words. The parts about claims, slots, references, attempts, changes' words and stale helpers are those of the world's
-- invariant. If a change has written a word that still names its slot, the slot still has the change's number. The value at each place is in range, so a gate
-- that isn't taken has no pins.
pub record Memory (config : Config) (state : State) : Type 0 where
  pub claims : ChangesClaimTheirSlots config state
  pub slots : SlotsTellTheirChanges state
  pub references : ReferencesArePinned state
  pub attempts : AttemptsAreTheirWorkers state
  pub words : WordsFollowTheirChanges state
  pub late : StaleHelpersLose state
  pub written : (slot seq address : ℕ) → state.history.phase slot seq address ≡ Written → (state.cells.gates slot).seq ≡ seq
  pub fits : AllFit state.cells
