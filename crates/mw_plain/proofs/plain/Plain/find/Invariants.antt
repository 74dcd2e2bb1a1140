-- Loop invariants of `Plain::find` (src/plain.rt).
use Rattle.mw_plain.specs.Search.{HasNone}
use Rattle.mw_plain.proofs.plain.Plain.find.Given as goal

-- no tenant before this one has the name
abbrev pub invariant-loop-tenant : goal.invariant-loop-tenant
invariant-loop-tenant g l = HasNone l.self l.tenant l.name.items
