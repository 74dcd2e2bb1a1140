-- Goals of `by_steps` (src/steps.rt).
use Rattle.std.specs.Prelude.{is_some}
use Rattle.std.proofs.Common.{refl, sym, ap, subst, ◌∙◌}
use Rattle.mw_words.specs.declared.jobs.Job.{Job}
use Rattle.mw_engine.specs.FromBelow.{ActorState}
use Rattle.mw_engine.specs.Identity.{IsFor}
use Rattle.mw_engine.specs.Requests.{IsRequest}
use Rattle.mw_engine_tests.proofs.steps.by_steps.Goals as goal

pub loop-init : goal.loop-init
loop-init g c =
    let identity = g.J.EngineBrand.identity in
    let pass = c.args.pass.now in
    record {
      own = c.requires.own;
      comes = λ idle. subst (λ (one : ActorState). IsRequest identity pass.worker one) (sym c.request-actor.ensures)
          (record { formed = subst (λ (job : Job). IsFor identity.lines c.args.tenant job) (sym c.copy.ensures) c.requires.formed; is = refl });
      goes_on = λ busy. absurd (let never = sym c.requires.idle ∙ busy in cc);
    }
