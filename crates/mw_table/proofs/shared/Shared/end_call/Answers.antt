-- Goals of `Shared::end_call` (src/file_call_steps.rt).
use Rattle.std.proofs.Common.{◌∙◌}
use Rattle.mw_words.specs.declared.statuses.Status.{Status}
use Rattle.mw_words.specs.Patterns.{packed_status}
use Rattle.std.proofs.Common.{ap}
use Rattle.mw_table.proofs.FileSteps.{busy_at_file, end_asks, end_stays}
use Rattle.mw_table.proofs.shared.Shared.end_call.Goals as goal

pub compare_exchange-requires : goal.compare_exchange-requires
compare_exchange-requires c =
    end_asks c.args.self.now c.args.pass.now c.requires.own c.args.call c.args.slot c.args.status c.pack-from.result c.pack-to.result c.index_of.result c.requires.may c.index_of.ensures
    c.pack-from.ensures (c.pack-to.ensures ∙ ap (λ (one : Status). packed_status one) c.status_after.ensures.is)

pub invariant_of-pass : goal.invariant_of-pass
invariant_of-pass c = record {
  numbered = (end_stays c.args.pass.now c.compare_exchange.new.seat.me.0 c.requires.may.at_file c.compare_exchange.ensures.2.0).1 ∙ c.args.pass.now.numbered;
  rests = λ idle. absurd (busy_at_file c.args.pass.now c.requires.may.at_file (c.args.pass.now.rests idle));
}

pub returns-clause-own : goal.returns-clause-own
returns-clause-own c =
    let on = (end_stays c.args.pass.now c.compare_exchange.new.seat.me.0 c.requires.may.at_file c.compare_exchange.ensures.2.0).0 in
    record { table = c.compare_exchange.ensures.0 ∙ c.requires.own.table; config = on.same_config ∙ c.requires.own.config; openings = on.same_openings ∙ c.requires.own.openings }
