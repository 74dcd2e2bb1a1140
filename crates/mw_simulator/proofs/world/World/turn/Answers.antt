-- Goals of `World::turn` (src/world/turns.rt): a step changes the shared words, and then the request goes on.
use Rattle.std.proofs.Common.{refl, ◌≡◌, ◌∙◌, ap, sym, subst, true, false, is_some}
use Rattle.mw_look.specs.Observations.{observation_of}
use Rattle.mw_look.specs.Steps.{place_of}
use Rattle.mw_actor.specs.Asks.{asks}
use Rattle.mw_actor.specs.Program.{replied}
use Rattle.mw_world.specs.Definition.Turns.{turned}
use Rattle.mw_world_memory.specs.StepsInBits.{cells_after}
use Rattle.mw_simulator.specs.Representation.{Represents}
use Rattle.mw_simulator.specs.StepParts.{with_cells}
use Rattle.mw_world_memory.specs.BitsMatch.{BitsMatch}
use Rattle.mw_simulator.proofs.WorldAfterStep.{recelled}
use Rattle.mw_simulator.proofs.StepPartLaws.{made_there, no_such_place, place_is, turned_is, turns}
use Rattle.mw_simulator.proofs.Unchanged.{unchanged_books}
use Rattle.mw_simulator.proofs.world.World.turn.Goals as goal

pub returns-in_default-make-clause-ends : goal.returns-in_default-make-clause-ends
returns-in_default-make-clause-ends c state shows =
    let actor = c.in-Some.actor in
    let kept = c.reserve.ensures.shows state shows in
    let there = made_there c.args.self.now.config c.args.self.now.cells c.reserve.new.self.cells c.ask-op.result (asks actor) false c.args.self.now.places c.reserve.ensures.cells c.ask-op.ensures.is c.in_default-make.ensures.there in (
      no_such_place c.args.self.now.config state c.args.worker actor (state.worker_states c.args.worker).actor (c.in-Some.ensures.shown state shows) there,
      recelled c.reserve.new.self _ state state.cells kept refl refl refl refl (subst (λ bits. BitsMatch bits state.cells) (sym (c.make.ensures.none c.in_default-make.is)) kept.tied) kept.fit,
    )

pub returns-clause-ends : goal.returns-clause-ends
returns-clause-ends c state shows =
    let actor = c.in-Some.actor in
    let kept = c.reserve.ensures.shows state shows in
    let made = c.in-Some-make.ensures.makes in
    let stand = cells_after (asks actor) state.cells in
    let tied = made.tie state.cells (asks actor) c.ask-op.ensures.is kept.tied kept.fit c.ask-op.ensures.fits in
    let fit = made.fit state.cells (asks actor) c.ask-op.ensures.is kept.tied kept.fit c.ask-op.ensures.fits in
    let at = c.place.ensures ∙ ap (λ op. place_of op) c.ask-op.ensures.is ∙ place_is (asks actor) in
    let observation = ap (λ p. observation_of p c.in-Some-make.got) at ∙ made.observation state.cells (asks actor) c.ask-op.ensures.is kept.tied kept.fit c.ask-op.ensures.fits in
    let there = made_there c.args.self.now.config c.args.self.now.cells c.reserve.new.self.cells c.ask-op.result (asks actor) true c.args.self.now.places c.reserve.ensures.cells c.ask-op.ensures.is c.in-Some-make.ensures.there in
    let none : is_some (replied actor) ≡ false = sym (c.is_some.ensures ∙ ap (λ reply. is_some reply) c.reply.ensures) ∙ c.if-is_some.false in
    let moved = c.go_on.ensures.shows (with_cells state stand) (recelled c.reserve.new.self _ state stand kept refl refl refl refl tied fit) at in
    record {
      state = turned state c.args.worker actor;
      is = turns c.args.self.now.config state c.args.worker actor (state.worker_states c.args.worker).actor (c.in-Some.ensures.shown state shows) none there;
      shows = subst (λ s. Represents c.go_on.new.self s) (turned_is state c.args.worker actor stand (observation_of c.place.result c.in-Some-make.got) refl observation) moved;
    }

pub returns-then-is_err-clause-files : goal.returns-then-is_err-clause-files
returns-then-is_err-clause-files c = unchanged_books c.args.self.now c.reserve.new.self c.reserve.ensures.unchanged

pub returns-in_default-make-clause-files : goal.returns-in_default-make-clause-files
returns-in_default-make-clause-files c = unchanged_books c.args.self.now c.reserve.new.self c.reserve.ensures.unchanged

pub returns-clause-files : goal.returns-clause-files
returns-clause-files c tenant = c.go_on.ensures.files tenant ∙ unchanged_books c.args.self.now c.reserve.new.self c.reserve.ensures.unchanged tenant
