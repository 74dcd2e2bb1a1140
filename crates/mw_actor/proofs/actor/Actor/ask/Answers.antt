-- Goals of `Actor::ask` (src/actor/asks.rt).
use Rattle.std.specs.Prelude.{◌≡◌, Bool, true, false, cond, Some, None}
use Rattle.mw_look.specs.declared.steps.Op.{Op}
use Rattle.mw_look.specs.Steps.{op_of}
use Rattle.mw_actor.specs.ActorState.{ActorState}
use Rattle.mw_actor.specs.Asks.{asks}
use Rattle.mw_actor.specs.Parts.{Part, Admitting, Holding, Deciding, Helping, Sweeping, Leaving, part_of, same_part, step_in}
use Rattle.mw_actor.proofs.actor.Actor.ask.Goals as goal

only_some : (test : Bool) (step op : Op) → Some step ≡ cond test (Some op) None → step ≡ op
only_some true step op is = cc
only_some false step op is = cc

-- where there is a next step in a part, it is the request's next step
step_is : (part : Part) (actor : ActorState) (step : Op) → Some step ≡ step_in part actor → step ≡ op_of (asks actor)
step_is part actor step is = only_some (same_part (part_of actor.point) part) step (op_of (asks actor)) is

pub returns-in-Some : goal.returns-in-Some
returns-in-Some c = record { is = step_is Admitting c.args.self.now c.in-Some.step c.in-Some.ensures.is; fits = c.in-Some.ensures.fits }

pub returns-in-Some-step_holding : goal.returns-in-Some-step_holding
returns-in-Some-step_holding c = record { is = step_is Holding c.args.self.now c.in-Some-step_holding.step c.in-Some-step_holding.ensures.is; fits = c.in-Some-step_holding.ensures.fits }

pub returns-in-Some-step_deciding : goal.returns-in-Some-step_deciding
returns-in-Some-step_deciding c = record { is = step_is Deciding c.args.self.now c.in-Some-step_deciding.step c.in-Some-step_deciding.ensures.is; fits = c.in-Some-step_deciding.ensures.fits }

pub returns-in-Some-step_helping : goal.returns-in-Some-step_helping
returns-in-Some-step_helping c = record { is = step_is Helping c.args.self.now c.in-Some-step_helping.step c.in-Some-step_helping.ensures.is; fits = c.in-Some-step_helping.ensures.fits }

pub returns-in-Some-step_sweeping : goal.returns-in-Some-step_sweeping
returns-in-Some-step_sweeping c = record { is = step_is Sweeping c.args.self.now c.in-Some-step_sweeping.step c.in-Some-step_sweeping.ensures.is; fits = c.in-Some-step_sweeping.ensures.fits }

pub returns-in-Some-step_leaving : goal.returns-in-Some-step_leaving
returns-in-Some-step_leaving c = record { is = step_is Leaving c.args.self.now c.in-Some-step_leaving.step c.in-Some-step_leaving.ensures.is; fits = c.in-Some-step_leaving.ensures.fits }
