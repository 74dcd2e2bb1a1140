-- Goals of `gets` (src/neighbour_tests.rt).
use Rattle.std.proofs.Common.{ap, sym, subst, ◌∙◌}
use Rattle.mw_words.specs.declared.jobs.Job.TheVariants.{Get}
use Rattle.mw_actor.specs.ActorState.{ActorState, first}
use Rattle.mw_core.specs.FromTable.{MayCome}
use Rattle.mw_table_tests.proofs.ReadsMayCome.{get_comes}
use Rattle.mw_table_tests.proofs.neighbour_tests.gets.Goals as goal

pub try_look-requires-clause-comes : goal.try_look-requires-clause-comes
try_look-requires-clause-comes c =
    let pass = c.loop-number.pass in
    λ idle. subst (λ (actor : ActorState). MayCome pass.seat.me.0 pass.worker actor) (sym (c.new-actor.ensures ∙ ap (λ worker. first worker c.args.tenant 1 2 (Get 0)) c.worker.ensures))
    (get_comes c.args.core.now.shared pass c.args.tenant c.loop-number.invariant)
