-- Goals of `read_tenant` (src/config.rt).
use Rattle.std.proofs.Common.{List, ℕ, refl, sym, subst, arith}
use Rattle.mw_schedule.specs.Playable.{IsFree}
use Rattle.mw_schedule.proofs.Tenants.{none_named}
use Rattle.std.proofs.lemmas.Grind.{common_steps}
use Rattle.mw_schedule.proofs.config.read_tenant.Goals as goal

pub returns : goal.returns
returns c =
    let earlier = c.args.earlier.now in
    let none = none_named earlier c.in_ok-name.name.now (sym c.if-is_tenant.ensures) in
    record {
      named = c.in_ok-read_name.ensures.0;
      new = subst (λ (name : List ℕ). IsFree name earlier) (sym c.in_ok-read_name.ensures.1) none;
      words = (c.in_ok-number_within.ensures.0, omega arith);
      quota = (c.in_ok-number_within-2.ensures.0, omega arith);
      slots = omega arith;
      fresh = refl;
    }

pub returns-in_err-number_within-2 : goal.returns-in_err-number_within-2
returns-in_err-number_within-2 c = grind (arith, common_steps)
