-- Goals of `Engine::request` (src/tenants.rt).
use Rattle.std.proofs.Common.{◌≡◌, ◌<◌, ℕ, [], get_or, ap, sym, subst, ◌∙◌}
use Rattle.std.proofs.lemmas.List.{length-map}
use Rattle.mw_actor.specs.ActorState.{first}
use Rattle.mw_engine.specs.declared.tenant_line.Listed.{Listed}
use Rattle.mw_engine.specs.Lines.{line_of}
use Rattle.mw_engine.proofs.Branded.{formed_there, same_request}
use Rattle.mw_engine.proofs.TenantSearch.{quota_is}
use Rattle.mw_engine.proofs.RequestsMayCome.{formed_so}
use Rattle.mw_engine.proofs.engine.Engine.request.Goals as goal

pub new-requires-clause-is_change : goal.new-requires-clause-is_change
new-requires-clause-is_change g c =
    let engine = c.args.self.now in
    formed_so engine.words c.args.tenant c.args.job (formed_there engine.words g.J.EngineBrand.identity engine.same c.args.tenant c.args.job c.requires.formed)

pub returns : goal.returns
returns g c =
    let engine = c.args.self.now in
    let identity = g.J.EngineBrand.identity in
    let kept = engine.words.lines.items in
    let line = c.index-deref-from.result in
    let value = c.deref.ensures.0 in
    let formed = formed_there engine.words identity engine.same c.args.tenant c.args.job c.requires.formed in
    let here : line ≡ get_or kept c.args.tenant line = c.index-deref-from.is ∙ (λ i. get_or (value i) (c.from.ensures i) line) in
    let there = subst (λ (n : ℕ). c.args.tenant < n) (length-map kept line_of) formed.there in
    let quota = ap (λ (one : Listed). one.quota) (sym c.index-deref-from.is) ∙ sym (quota_is kept c.args.tenant line [] there here) in
    c.new.ensures ∙ ((λ i. first (c.worker.ensures i) c.args.tenant (quota i) engine.words.pool c.args.job) ∙ same_request engine.words identity engine.same c.args.pass.now.worker c.args.tenant c.args.job)
