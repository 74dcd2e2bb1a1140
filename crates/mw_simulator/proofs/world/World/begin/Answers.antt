-- Goals of `World::begin` (src/world/turns.rt): the request adds a mark and a number, and the worker is at its first step.
use Rattle.std.proofs.Common.{refl, ◌∙◌, ◌<◌, ◌+◌, ap, arith, length, Some}
use Rattle.std.proofs.lemmas.List.{length-set}
use Rattle.mw_lone.specs.declared.marks.Mark.TheVariants.{Ask}
use Rattle.mw_world.specs.Definition.LabelEffects.{more}
use Rattle.mw_simulator.proofs.Arrivals.{first_so, quota_at}
use Rattle.mw_simulator.proofs.WorldAfterStep.{begins}
use Rattle.mw_simulator.proofs.SoundBooks.{sound_stays}
use Rattle.mw_simulator.proofs.Unchanged.{books_kept}
use Rattle.mw_simulator.proofs.world.World.begin.Goals as goal

pub returns-clause-shows : goal.returns-clause-shows
returns-clause-shows c state shows is =
    let shown = c.index_mut-tenant_state.result.now in
    let quota = quota_at c.args.self.now state c.from.result c.args.tenant shown shows c.from.ensures c.requires.tenant c.index_mut-tenant_state.ensures.value in
    begins c.args.self.now _ state c.args.worker c.args.tenant c.from-2.result c.from.result c.args.request c.args.job.now c.new-actor.result c.index_mut-worker_state.result.now shown c.more.new.self
    shows c.from-2.ensures c.from.ensures refl refl refl
    (first_so c.new-actor.result c.args.worker c.args.tenant shown.quota (state.tenant_states c.args.tenant).quota c.args.self.now.config.pool c.copy.result c.args.job.now
    c.new-actor.ensures quota c.copy.ensures)
    is refl refl c.requires.worker c.requires.tenant c.index_mut-worker_state.ensures.value c.index_mut-tenant_state.ensures.value
    c.more.ensures.closed (c.more.ensures.lines ∙ ap (λ job. more shown.lines.lines.items (Some (Ask c.args.request job))) c.copy-2.ensures)

pub returns-clause-files : goal.returns-clause-files
returns-clause-files c =
    let there : c.from.result < length c.args.self.now.tenant_states.items = omega (arith, c.from.ensures, c.requires.tenant) in
    let was = c.index_mut-tenant_state.result.now in
    books_kept c.args.self.now.tenant_states.items c.from.result was (record was { lines = c.more.new.self; asked = c.args.request + 1 }) there c.index_mut-tenant_state.ensures.value refl

pub invariant_of-self : goal.invariant_of-self
invariant_of-self c =
    let world = c.args.self.now in
    let there : c.from.result < length c.args.self.now.tenant_states.items = omega (arith, c.from.ensures, c.requires.tenant) in
    let was = c.index_mut-tenant_state.result.now in
    record {
      configured = world.configured;
      workers = length-set world.worker_states.items c.from-2.result _ ∙ world.workers;
      tenants = length-set world.tenant_states.items c.from.result _ ∙ world.tenants;
      places = world.places;
      books = sound_stays world.config world.tenant_states.items c.from.result was (record was { lines = c.more.new.self; asked = c.args.request + 1 }) there c.index_mut-tenant_state.ensures.value refl world.books;
    }
