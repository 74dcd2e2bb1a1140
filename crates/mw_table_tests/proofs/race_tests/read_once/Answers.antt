-- Goals of `read_once` (src/race_tests.rt).
use Rattle.std.proofs.Common.{ap, refl, sym, subst, ◌∙◌}
use Rattle.mw_words.specs.declared.jobs.Job.TheVariants.{Get}
use Rattle.mw_actor.specs.ActorState.{ActorState, first}
use Rattle.mw_core.specs.FromTable.{MayCome}
use Rattle.mw_core.specs.ReadRounds.{IsLook}
use Rattle.mw_table_tests.proofs.ReadsMayCome.{read_comes}
use Rattle.mw_table_tests.proofs.race_tests.read_once.Goals as goal

pub try_look-requires-clause-comes : goal.try_look-requires-clause-comes
try_look-requires-clause-comes c =
    let pass = c.args.pass.now in
    λ idle. subst (λ (actor : ActorState). MayCome pass.seat.me.0 pass.worker actor) (sym (c.new-actor.ensures ∙ ap (λ worker. first worker 0 c.args.quota 3 (Get c.args.address)) c.worker.ensures))
    (read_comes c.args.core.now.shared c.args.quota c.args.address pass c.requires.may c.requires.address)

pub try_look-requires-clause-look : goal.try_look-requires-clause-look
try_look-requires-clause-look c = subst IsLook (sym c.new-actor.ensures) (record { address = c.args.address; job = refl; at_first = refl })
