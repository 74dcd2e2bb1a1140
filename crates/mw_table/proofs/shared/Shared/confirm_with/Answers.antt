-- Goals of `Shared::confirm_with` (src/file_calls.rt).
use Rattle.std.specs.Prelude.{[]}
use Rattle.std.proofs.Common.{subst, sym}
use Rattle.mw_rule.specs.declared.views.View.{View}
use Rattle.mw_rule.specs.Splits.{takes_files}
use Rattle.mw_rule.specs.Steps.{LearnsPlainLoad}
use Rattle.mw_rule.specs.WordActions.{WentOn}
use Rattle.mw_table.specs.SeenFiles.{SeesFile}
use Rattle.mw_table.proofs.SeenFiles.{sees_file, so_with}
use Rattle.mw_table.proofs.shared.Shared.confirm_with.Goals as goal

pub returns-clause-so : goal.returns-clause-so
returns-clause-so c =
    let view = c.args.pass.now.seat.me.0 in
    let file_pass = c.args.file_pass in
    let looked = c.load_any.new.pass.seat.me.0 in
    let load = subst (λ (one : View). LearnsPlainLoad 0 c.load_any.result one looked) c.take.ensures.took c.load_any.ensures.looked in
    let went = subst (λ (one : View). WentOn [] one looked) c.take.ensures.took c.load_any.ensures.event in
    so_with view file_pass c.load_any.result looked c.requires.free load _ _ c.requires.own.config c.requires.own.openings went

pub returns-clause-sees : goal.returns-clause-sees
returns-clause-sees c =
    let view = c.args.pass.now.seat.me.0 in
    let file_pass = c.args.file_pass in
    let looked = c.load_any.new.pass.seat.me.0 in
    let load = subst (λ (one : View). LearnsPlainLoad 0 c.load_any.result one looked) c.take.ensures.took c.load_any.ensures.looked in
    subst (SeesFile file_pass view) (sym c.give_back.ensures.left) (sees_file view file_pass c.load_any.result looked c.requires.free load)
