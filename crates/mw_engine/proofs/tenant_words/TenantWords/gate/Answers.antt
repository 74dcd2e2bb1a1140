-- Goals of `TenantWords::gate` (src/figures.rt).
use Rattle.std.proofs.Common.{subst, ◌∙◌}
use Rattle.mw_core.specs.FromTable.{IsOf, Shared}
use Rattle.mw_engine.proofs.PassAfterCall.{one_on}
use Rattle.mw_engine.proofs.FigureLoads.{gate_stood, no_gate}
use Rattle.mw_engine.proofs.tenant_words.TenantWords.gate.Goals as goal

pub unreachable-requires : goal.unreachable-requires
unreachable-requires c =
    let own = (subst (λ (one : Shared). IsOf one c.figure-bits.new.pass) c.shared.ensures c.figure-bits.ensures.own) in
    let stands = gate_stood c.args.self.now c.figure-bits.new.pass c.args.pass.now.seat.me.0 c.shared.result.now.pool c.args.slot c.figure-bits.result own c.requires.there c.figure-bits.ensures.looked in
    no_gate c.unpack.result stands.0 (c.unpack.ensures.is ∙ stands.1) c.in-None.is

pub returns-clause-own : goal.returns-clause-own
returns-clause-own c =
    one_on c.args.self.now.core.shared c.args.pass.now c.figure-bits.new.pass c.requires.own (subst (λ (one : Shared). IsOf one c.figure-bits.new.pass) c.shared.ensures c.figure-bits.ensures.own)
    c.figure-bits.ensures.worker c.figure-bits.ensures.looked.same_files
