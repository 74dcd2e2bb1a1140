-- Goals of `World::give` (src/world/turns.rt): the reply adds a mark, and the worker has no request.
use Rattle.std.proofs.Common.{arith, length, refl, ◌<◌, ◌∙◌}
use Rattle.std.proofs.lemmas.List.{length-set}
use Rattle.mw_simulator.proofs.WorldAfterStep.{gives}
use Rattle.mw_simulator.proofs.SoundBooks.{sound_stays}
use Rattle.mw_simulator.proofs.Unchanged.{books_kept}
use Rattle.mw_simulator.proofs.world.World.give.Goals as goal

pub returns-clause-shows : goal.returns-clause-shows
returns-clause-shows c state shows =
    gives c.args.self.now _ state c.args.worker c.args.tenant c.from.result c.from-2.result c.index_mut-worker_state.result.now c.index_mut.result.now c.more.new.self
    shows c.from.ensures c.from-2.ensures refl refl refl refl refl c.requires.worker c.requires.tenant c.index_mut-worker_state.ensures.value c.index_mut.ensures.value
    c.more.ensures.closed c.more.ensures.lines

pub returns-clause-files : goal.returns-clause-files
returns-clause-files c =
    let there : c.from-2.result < length c.args.self.now.tenant_states.items = omega (arith, c.from-2.ensures, c.requires.tenant) in
    let was = c.index_mut.result.now in
    books_kept c.args.self.now.tenant_states.items c.from-2.result was (record was { lines = c.more.new.self }) there c.index_mut.ensures.value refl

pub invariant_of-self : goal.invariant_of-self
invariant_of-self c =
    let world = c.args.self.now in
    let there : c.from-2.result < length c.args.self.now.tenant_states.items = omega (arith, c.from-2.ensures, c.requires.tenant) in
    let was = c.index_mut.result.now in
    record {
      configured = world.configured;
      workers = length-set world.worker_states.items c.from.result _ ∙ world.workers;
      tenants = length-set world.tenant_states.items c.from-2.result _ ∙ world.tenants;
      places = world.places;
      books = sound_stays world.config world.tenant_states.items c.from-2.result was (record was { lines = c.more.new.self }) there c.index_mut.ensures.value refl world.books;
    }
