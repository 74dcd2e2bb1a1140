-- Goals of `TenantFile::seal` (src/tenant_file.rt).
use Rattle.mw_file.proofs.NewPlaces.{may_prepare_none, sealed_alone}
use Rattle.mw_file.proofs.RollLoop.{on_ok}
use Rattle.mw_file.proofs.tenant_file.TenantFile.seal.Goals as goal

pub seal_with-requires-clause-ahead : goal.seal_with-requires-clause-ahead
seal_with-requires-clause-ahead g c = may_prepare_none c.args.self.now.words c.args.self.now.states.items

pub returns-clause-staged : goal.returns-clause-staged
returns-clause-staged g c = on_ok _ _ c.seal_with.result (λ are. sealed_alone c.args.self.now.states.items c.seal_with.new.self.states.items c.args.place.0 are) c.seal_with.ensures.staged
