-- Goals of `Shared::find_status` (src/file_call_steps.rt).
use Rattle.std.proofs.Common.{◌∙◌}
use Rattle.mw_table.proofs.FileSteps.{busy_at_file, find_asks, find_stays}
use Rattle.mw_table.proofs.shared.Shared.find_status.Goals as goal

pub load-requires : goal.load-requires
load-requires c = find_asks c.args.self.now c.args.pass.now c.requires.own c.args.slot c.index_of.result c.requires.may c.index_of.ensures

pub invariant_of-pass : goal.invariant_of-pass
invariant_of-pass c = record {
  numbered = (find_stays c.args.pass.now c.load.result c.load.new.seat.me.0 c.requires.may.at_file c.load.ensures.2.0).1 ∙ c.args.pass.now.numbered;
  rests = λ idle. absurd (busy_at_file c.args.pass.now c.requires.may.at_file (c.args.pass.now.rests idle));
}

pub returns-clause-own : goal.returns-clause-own
returns-clause-own c =
    let on = (find_stays c.args.pass.now c.load.result c.load.new.seat.me.0 c.requires.may.at_file c.load.ensures.2.0).0 in
    record { table = c.load.ensures.0 ∙ c.requires.own.table; config = on.same_config ∙ c.requires.own.config; openings = on.same_openings ∙ c.requires.own.openings }
