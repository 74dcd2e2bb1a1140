-- Goals of `write_home` (src/roll.rt).
use Rattle.std.proofs.Common.{◌∙◌, Option, drop, ap, sym, subst}
use Rattle.mw_disk.specs.Runs.{Touched}
use Rattle.mw_record.specs.Records.{Pairs, home, record_over}
use Rattle.mw_file.specs.RollForward.{Behind, InRecord, IsBelow, if_open}
use Rattle.mw_file.proofs.RollLoop.{on_ok}
use Rattle.mw_file.proofs.roll.write_home.Goals as goal

pub returns-in-Sealed-clause-touched : goal.returns-in-Sealed-clause-touched
returns-in-Sealed-clause-touched g c words has below =
    let start = g.D.Disk.facts c.args.disk.now in
    let new = g.D.Disk.facts c.write_values.new.disk in
    let is = ap (λ s. if_open s c.args.state.now.writes.items) c.in-Sealed.is in
    subst (λ (r : Option Pairs). Touched (Behind c.args.at (InRecord r)) start new) (sym is)
    (c.write_values.ensures.touched words has (subst (λ (r : Option Pairs). IsBelow words r) is below))

pub returns-in-Sealed-clause-values : goal.returns-in-Sealed-clause-values
returns-in-Sealed-clause-values g c =
    let start = g.D.Disk.facts c.args.disk.now in
    let new = g.D.Disk.facts c.write_values.new.disk in
    let is = ap (λ s. if_open s c.args.state.now.writes.items) c.in-Sealed.is in
    on_ok _ _ c.write_values.result
    (λ written words has below addr lt.
    written words has (subst (λ (r : Option Pairs). IsBelow words r) is below) addr lt ∙ ap (λ r. record_over r addr (home (drop c.args.at start.reads) addr)) (sym is))
    c.write_values.ensures.values
