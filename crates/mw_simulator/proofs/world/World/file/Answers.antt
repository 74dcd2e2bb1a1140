-- Goals of `World::file` (src/world/calls.rt): the tenant has the file of this book.
use Rattle.std.proofs.Common.{arith, length, refl, subst, sym, ◌<◌, ◌∙◌}
use Rattle.std.proofs.lemmas.List.{length-set}
use Rattle.mw_world_file.specs.SoundBooks.{HasSound}
use Rattle.mw_world.specs.Definition.State.{tenant_at}
use Rattle.mw_simulator.proofs.CallEndLaws.{refiled}
use Rattle.mw_simulator.proofs.SoundBooks.{sound_set}
use Rattle.mw_simulator.proofs.Unchanged.{book_here, books_kept_but}
use Rattle.mw_simulator.proofs.world.World.file.Goals as goal

pub returns-clause-shows : goal.returns-clause-shows
returns-clause-shows c state file shows of =
    refiled c.args.self.now _ state c.args.tenant c.from.result c.index_mut.result.now c.args.book file shows refl refl refl refl c.from.ensures c.requires.tenant c.index_mut.ensures.value refl of

pub returns-clause-is : goal.returns-clause-is
returns-clause-is c =
    book_here c.args.self.now.tenant_states.items c.from.result c.args.tenant (record c.index_mut.result.now { book = c.args.book }) c.from.ensures c.requires.tenant

pub returns-clause-others : goal.returns-clause-others
returns-clause-others c = books_kept_but c.args.self.now.tenant_states.items c.from.result c.args.tenant (record c.index_mut.result.now { book = c.args.book }) c.from.ensures

pub invariant_of-self : goal.invariant_of-self
invariant_of-self c =
    let world = c.args.self.now in
    let there : c.from.result < length world.tenant_states.items = omega (arith, c.from.ensures, c.requires.tenant) in
    record {
      configured = world.configured;
      workers = world.workers;
      tenants = length-set world.tenant_states.items c.from.result _ ∙ world.tenants;
      places = world.places;
      books =
          sound_set world.config world.tenant_states.items c.from.result (record c.index_mut.result.now { book = c.args.book }) there
          (subst (λ tenant. HasSound (tenant_at world.config tenant).words c.args.book) (sym c.from.ensures) c.requires.sound) world.books;
    }
