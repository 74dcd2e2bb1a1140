-- Goals of `free_states` (src/opening.rt).
use Rattle.std.proofs.Common.{◌+◌, ◌∙◌, ap, refl}
use Rattle.mw_file.specs.PlaceStates.{all_free}
use Rattle.mw_file.proofs.Free.{free_with}
use Rattle.mw_file.proofs.opening.free_states.Goals as goal

pub loop-preserved : goal.loop-preserved
loop-preserved c = (
  ap all_free c.in_ok-push.ensures.items ∙ free_with c.loop.states.items _ c.loop.invariant.0 refl,
  c.in_ok-push.ensures.len ∙ ap (λ n. n + 1) c.loop.invariant.1,
)
