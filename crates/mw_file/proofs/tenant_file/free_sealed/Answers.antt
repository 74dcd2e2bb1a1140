-- Goals of `free_sealed` (src/tenant_file.rt).
use Rattle.mw_file.proofs.SharedSettles.{freed_none, freed_next, freed_all}
use Rattle.mw_file.proofs.tenant_file.free_sealed.Goals as goal

pub loop-state-init : goal.loop-state-init
loop-state-init c = freed_none c.args.states.now

pub loop-state-preserved : goal.loop-state-preserved
loop-state-preserved c =
    freed_next c.loop-state.state-index c.args.states.now c.loop-state.states c.state-item.result c.freed-state.result c.loop-state.invariant c.loop-state-test.true c.freed-state.ensures

pub returns : goal.returns
returns c = freed_all c.loop-state.state-index c.args.states.now c.loop-state.states c.loop-state.invariant c.loop-state-test.false
