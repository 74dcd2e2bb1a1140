-- Goals of `World::reserve` (src/world/turns.rt): room is made, and the world in memory represents the same world.
use Rattle.std.proofs.Common.{refl, ◌<◌, ◌∙◌, length, arith}
use Rattle.std.proofs.lemmas.List.{length-set}
use Rattle.mw_simulator.proofs.WorldAfterStep.{reserved, room_made}
use Rattle.mw_simulator.proofs.SoundBooks.{sound_stays}
use Rattle.mw_simulator.proofs.Unchanged.{room_alone}
use Rattle.mw_simulator.proofs.world.World.reserve.Goals as goal

pub returns-in_err-reserve-clause-shows : goal.returns-in_err-reserve-clause-shows
returns-in_err-reserve-clause-shows c =
    let there : c.from.result < length c.args.self.now.tenant_states.items = omega (arith, c.from.ensures, c.requires.tenant) in
    λ state shows. reserved c.args.self.now _ state c.from.result c.index_mut.result.now c.reserve.new.self shows refl refl refl refl there c.index_mut.ensures.value c.reserve.ensures.same (λ past recalls. recalls)

pub returns-clause-shows : goal.returns-clause-shows
returns-clause-shows c =
    let there : c.from.result < length c.args.self.now.tenant_states.items = omega (arith, c.from.ensures, c.requires.tenant) in
    λ state shows. reserved c.args.self.now _ state c.from.result c.index_mut.result.now c.reserve.new.self shows refl refl refl refl there c.index_mut.ensures.value c.reserve.ensures.same c.reserve-2.ensures.keeps

pub returns-clause-room : goal.returns-clause-room
returns-clause-room c =
    let there : c.from.result < length c.args.self.now.tenant_states.items = omega (arith, c.from.ensures, c.requires.tenant) in
    room_made c.reserve-2.result c.reserve-2.new.self c.args.self.now.tenant_states.items c.from.result c.args.tenant _ c.from.ensures there c.in_ok-reserve.ensures.room c.reserve-2.ensures.room

pub invariant_of-self : goal.invariant_of-self
invariant_of-self c =
    let world = c.args.self.now in
    let there : c.from.result < length c.args.self.now.tenant_states.items = omega (arith, c.from.ensures, c.requires.tenant) in
    let was = c.index_mut.result.now in
    record {
      configured = world.configured;
      workers = world.workers;
      tenants = length-set world.tenant_states.items c.from.result _ ∙ world.tenants;
      places = world.places;
      books = sound_stays world.config world.tenant_states.items c.from.result was (record was { lines = c.reserve.new.self }) there c.index_mut.ensures.value refl world.books;
    }

pub invariant_of-self-2 : goal.invariant_of-self-2
invariant_of-self-2 c =
    let world = c.args.self.now in
    let there : c.from.result < length c.args.self.now.tenant_states.items = omega (arith, c.from.ensures, c.requires.tenant) in
    let was = c.index_mut.result.now in
    record {
      configured = world.configured;
      workers = world.workers;
      tenants = length-set world.tenant_states.items c.from.result _ ∙ world.tenants;
      places = world.places;
      books = sound_stays world.config world.tenant_states.items c.from.result was (record was { lines = c.reserve.new.self }) there c.index_mut.ensures.value refl world.books;
    }

pub returns-in_err-reserve-clause-unchanged : goal.returns-in_err-reserve-clause-unchanged
returns-in_err-reserve-clause-unchanged c =
    let there : c.from.result < length c.args.self.now.tenant_states.items = omega (arith, c.from.ensures, c.requires.tenant) in
    room_alone c.args.self.now _ c.from.result c.index_mut.result.now c.reserve.new.self refl refl refl refl there c.index_mut.ensures.value c.reserve.ensures.same (record { claims = refl; fault_decided = refl })

pub returns-clause-unchanged : goal.returns-clause-unchanged
returns-clause-unchanged c =
    let there : c.from.result < length c.args.self.now.tenant_states.items = omega (arith, c.from.ensures, c.requires.tenant) in
    room_alone c.args.self.now _ c.from.result c.index_mut.result.now c.reserve.new.self refl refl refl refl there c.index_mut.ensures.value c.reserve.ensures.same c.reserve-2.ensures.same
