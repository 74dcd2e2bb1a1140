-- Goals of `first_worker` (src/services.rt).
use Rattle.std.specs.Prelude.{◌≡◌, ◌∷◌, All, List}
use Rattle.std.specs.Vec.Iter.{into_iter_items}
use Rattle.std.proofs.Common.{subst, sym}
use Rattle.mw_engine.specs.declared.Pass.{Pass}
use Rattle.mw_engine.specs.Brand.{Identity}
use Rattle.mw_engine.specs.Passes.{IsNew}
use Rattle.mw_service.proofs.Workers.{of_next}
use Rattle.mw_programs.proofs.services.first_worker.Goals as goal

-- the first of the passes is new, as all of them are
first_new : (identity : Identity) (passes given rest : List Pass) (pass : Pass) → given ≡ pass ∷ rest → given ≡ passes → All (IsNew identity) passes → IsNew identity pass
first_new identity passes given rest pass next same new = of_next (IsNew identity) given rest pass next (subst (λ (each : List Pass). All (IsNew identity) each) (sym same) new)

-- it is one of the engine's, and has no request
pub new-requires : goal.new-requires
new-requires g c =
    let new = first_new g.J.EngineBrand.identity c.args.passes.items (into_iter_items c.into_iter.result) (into_iter_items c.next.new.self) c.in-Some.pass c.in-Some.ensures.items c.into_iter.ensures.rest c.requires in
    record { own = new.own; idle = new.idle }

pub returns-in-Some : goal.returns-in-Some
returns-in-Some g c =
    subst (λ (pass : Pass). IsNew g.J.EngineBrand.identity pass) (sym c.new.ensures)
    (first_new g.J.EngineBrand.identity c.args.passes.items (into_iter_items c.into_iter.result) (into_iter_items c.next.new.self) c.in-Some.pass c.in-Some.ensures.items c.into_iter.ensures.rest c.requires)
