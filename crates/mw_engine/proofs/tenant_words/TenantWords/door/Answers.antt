-- Goals of `TenantWords::door` (src/figures.rt).
use Rattle.std.proofs.Common.{subst, ◌∙◌}
use Rattle.mw_core.specs.FromTable.{IsOf, Shared}
use Rattle.mw_engine.specs.Identity.{quota_told}
use Rattle.mw_engine.specs.TenantWords.{lines_told}
use Rattle.mw_engine.proofs.PassAfterCall.{one_on}
use Rattle.mw_engine.proofs.FigureLoads.{door_stood, no_door, used_of}
use Rattle.mw_engine.proofs.tenant_words.TenantWords.door.Goals as goal

pub unreachable-requires : goal.unreachable-requires
unreachable-requires c =
    let stands = door_stood c.args.self.now c.figure-bits.new.pass c.args.pass.now.seat.me.0 c.shared.result.now.pool c.args.tenant c.figure-bits.result (subst (λ (one : Shared). IsOf one c.figure-bits.new.pass) c.shared.ensures c.figure-bits.ensures.own) c.requires.there c.figure-bits.ensures.looked in
    no_door c.unpack.result stands.door (c.unpack.ensures.is ∙ stands.is) c.in-None.is

pub returns-clause-few : goal.returns-clause-few
returns-clause-few c =
    let stands = door_stood c.args.self.now c.figure-bits.new.pass c.args.pass.now.seat.me.0 c.shared.result.now.pool c.args.tenant c.figure-bits.result (subst (λ (one : Shared). IsOf one c.figure-bits.new.pass) c.shared.ensures c.figure-bits.ensures.own) c.requires.there c.figure-bits.ensures.looked in
    used_of c.unpack.result stands.door c.in-Some.door (quota_told (lines_told c.args.self.now) c.args.tenant) (c.unpack.ensures.is ∙ stands.is) c.in-Some.is stands.used stands.few

pub returns-clause-quota : goal.returns-clause-quota
returns-clause-quota c =
    let stands = door_stood c.args.self.now c.figure-bits.new.pass c.args.pass.now.seat.me.0 c.shared.result.now.pool c.args.tenant c.figure-bits.result (subst (λ (one : Shared). IsOf one c.figure-bits.new.pass) c.shared.ensures c.figure-bits.ensures.own) c.requires.there c.figure-bits.ensures.looked in
    stands.few

pub returns-clause-own : goal.returns-clause-own
returns-clause-own c =
    one_on c.args.self.now.core.shared c.args.pass.now c.figure-bits.new.pass c.requires.own (subst (λ (one : Shared). IsOf one c.figure-bits.new.pass) c.shared.ensures c.figure-bits.ensures.own)
    c.figure-bits.ensures.worker c.figure-bits.ensures.looked.same_files
