-- Goals of `request_of` (src/race_tests.rt).
use Rattle.std.proofs.Common.{ap, subst, sym, ◌∙◌}
use Rattle.mw_actor.specs.ActorState.{ActorState}
use Rattle.mw_core.specs.FromTable.{IsCarried}
use Rattle.mw_table_tests.proofs.NewPassesOfWorlds.{carried_at_first}
use Rattle.mw_table_tests.proofs.race_tests.request_of.Goals as goal

pub returns-in-None : goal.returns-in-None
returns-in-None c =
    let actor = c.in_ok-actor.actor.now in
    let pass = c.args.pass.now in
    subst (λ (one : ActorState). IsCarried pass one) (sym c.copy.ensures)
    (carried_at_first c.args.core.now.shared c.args.world.now c.args.run.now.events pass actor c.requires.reached c.requires.dealt
    (λ state shows. ap (λ (worker : _). (state.worker_states worker).actor) (sym c.worker.ensures) ∙ c.in_ok-actor.ensures state shows) (sym c.reply.ensures ∙ c.in-None.is))
