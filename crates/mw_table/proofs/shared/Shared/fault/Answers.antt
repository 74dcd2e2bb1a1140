-- Goals of `Shared::fault` (src/file_call_steps.rt).
use Rattle.std.proofs.Common.{◌∙◌}
use Rattle.mw_table.proofs.FileSteps.{busy_at_file, fault_asks, fault_stays}
use Rattle.mw_table.proofs.shared.Shared.fault.Goals as goal

pub fetch_or-requires : goal.fetch_or-requires
fetch_or-requires c = fault_asks c.args.self.now c.args.pass.now c.requires.own c.args.tenant c.index_of.result c.requires.may c.index_of.ensures

pub invariant_of-pass : goal.invariant_of-pass
invariant_of-pass c = record {
  numbered = (fault_stays c.args.pass.now c.fetch_or.new.seat.me.0 c.requires.may.at_file c.fetch_or.ensures.2.0).1 ∙ c.args.pass.now.numbered;
  rests = λ idle. absurd (busy_at_file c.args.pass.now c.requires.may.at_file (c.args.pass.now.rests idle));
}

pub returns-clause-own : goal.returns-clause-own
returns-clause-own c =
    let on = (fault_stays c.args.pass.now c.fetch_or.new.seat.me.0 c.requires.may.at_file c.fetch_or.ensures.2.0).0 in
    record { table = c.fetch_or.ensures.0 ∙ c.requires.own.table; config = on.same_config ∙ c.requires.own.config; openings = on.same_openings ∙ c.requires.own.openings }
