-- Goals of `Actor::saw_gate` (src/actor/moves.rt).
use Rattle.mw_look.specs.declared.observations.Observation.TheVariants.{SawGate}
use Rattle.mw_actor.proofs.PointLaws.{goes_at}
use Rattle.mw_actor.proofs.actor.Actor.saw_gate.Goals as goal

-- the request goes from each of these points as its program says
pub returns-in-ScanGate : goal.returns-in-ScanGate
returns-in-ScanGate c = λ next. goes_at c.args.self.now (SawGate c.args.gate) next c.self.view_is c.in-ScanGate.is c.gate_scanned.ensures

pub returns-in-ReadDirtyGate : goal.returns-in-ReadDirtyGate
returns-in-ReadDirtyGate c = λ next. goes_at c.args.self.now (SawGate c.args.gate) next c.self.view_is c.in-ReadDirtyGate.is c.dirty_gate_read.ensures

pub returns-in-ReadOtherGate : goal.returns-in-ReadOtherGate
returns-in-ReadOtherGate c = λ next. goes_at c.args.self.now (SawGate c.args.gate) next c.self.view_is c.in-ReadOtherGate.is c.other_gate_read.ensures

pub returns-in-Unpin : goal.returns-in-Unpin
returns-in-Unpin c = λ next. goes_at c.args.self.now (SawGate c.args.gate) next c.self.view_is c.in-Unpin.is c.unpinned.ensures
