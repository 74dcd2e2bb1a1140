-- Loop invariants of `Engine::find` (src/tenants.rt).
use Rattle.mw_engine.specs.Identity.{HasNone}
use Rattle.mw_engine.specs.TenantWords.{lines_told}
use Rattle.mw_engine.proofs.engine.Engine.find.Given as goal

-- no tenant before this one has the name
abbrev pub invariant-loop-tenant : goal.invariant-loop-tenant
invariant-loop-tenant g l = HasNone (lines_told l.self.words) l.tenant l.name.items
