-- Goals of `World::enter` (src/world/turns.rt): the tenant's marks, the worker and the claims take in the label of the step.
use Rattle.std.proofs.Common.{arith, length, refl, ◌<◌, ◌∙◌}
use Rattle.std.proofs.lemmas.List.{length-set}
use Rattle.mw_simulator.proofs.WorldAfterStep.{enters}
use Rattle.mw_simulator.proofs.SoundBooks.{sound_stays}
use Rattle.mw_simulator.proofs.Unchanged.{books_kept}
use Rattle.mw_simulator.proofs.world.World.enter.Goals as goal

pub returns-clause-shows : goal.returns-clause-shows
returns-clause-shows c state actor shows =
    enters c.args.self.now _ state c.args.worker c.from-2.result c.from.result c.args.attempt c.len-kept.result actor c.args.next c.args.label c.index_mut-worker_state.result.now c.label.new.self c.index_mut.result.now c.mark.new.self
    shows c.from-2.ensures (c.from.ensures ∙ c.tenant.ensures) refl refl refl refl c.requires.worker c.requires.tenant c.index_mut-worker_state.ensures.value c.index_mut.ensures.value
    c.mark.ensures.closed c.mark.ensures.lines c.len-kept.ensures c.label.ensures c.label-2.ensures

pub returns-clause-files : goal.returns-clause-files
returns-clause-files c =
    let there : c.from.result < length c.args.self.now.tenant_states.items = omega (arith, c.from.ensures, c.tenant.ensures, c.requires.tenant) in
    let was = c.index_mut.result.now in
    books_kept c.args.self.now.tenant_states.items c.from.result was (record was { lines = c.mark.new.self }) there c.index_mut.ensures.value refl

pub invariant_of-self : goal.invariant_of-self
invariant_of-self c =
    let world = c.args.self.now in
    let there : c.from.result < length c.args.self.now.tenant_states.items = omega (arith, c.from.ensures, c.tenant.ensures, c.requires.tenant) in
    let was = c.index_mut.result.now in
    record {
      configured = world.configured;
      workers = length-set world.worker_states.items c.from-2.result _ ∙ world.workers;
      tenants = length-set world.tenant_states.items c.from.result _ ∙ world.tenants;
      places = world.places;
      books = sound_stays world.config world.tenant_states.items c.from.result was (record was { lines = c.mark.new.self }) there c.index_mut.ensures.value refl world.books;
    }
