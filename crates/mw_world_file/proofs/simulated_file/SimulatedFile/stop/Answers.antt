-- Goals of `SimulatedFile::stop` (src/stops.rt).
use Rattle.std.proofs.Common.{Option, sym, subst}
use Rattle.mw_world_file.specs.declared.cut.Cut.{Cut}
use Rattle.mw_world_file.specs.StoppedFiles.{IsStopped}
use Rattle.mw_world_file.proofs.StoppedFiles.{left_whole, left_before}
use Rattle.mw_world_file.proofs.simulated_file.SimulatedFile.stop.Goals as goal

pub returns-in_default : goal.returns-in_default
returns-in_default c file shows =
    let left = c.in_ok-stop_whole.field-0 in
    subst (λ (cut : Option Cut). IsStopped c.args.self.now file cut c.args.torn.now left) (sym c.in_default.is)
    (left_whole c.args.self.now c.args.torn.now left c.in_ok-stop_whole.ensures.doubt c.in_ok-stop_whole.ensures.image file shows)

pub returns-then-cut-eq0 : goal.returns-then-cut-eq0
returns-then-cut-eq0 c file shows =
    let left = c.in_ok-stop_whole-2.field-0 in
    subst (λ (cut : Option Cut). IsStopped c.args.self.now file cut c.args.torn.now left) (sym c.in-Some.is)
    (left_before c.args.self.now c.in-Some.cut c.args.torn.now left c.if-cut-eq0.true c.in_ok-stop_whole-2.ensures.doubt c.in_ok-stop_whole-2.ensures.image file shows)
