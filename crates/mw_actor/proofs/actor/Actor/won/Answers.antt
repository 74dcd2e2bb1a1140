-- Goals of `Actor::won` (src/actor/moves.rt).
use Rattle.std.proofs.Common.{refl, ap, sym, ◌∙◌}
use Rattle.mw_look.specs.declared.observations.Observation.TheVariants.{Won}
use Rattle.mw_actor.specs.declared.points.Point.TheVariants.{FillStatus}
use Rattle.mw_actor.specs.ActorState.{ActorState}
use Rattle.mw_actor.proofs.PointLaws.{goes_at}
use Rattle.mw_actor.proofs.actor.Actor.won.Goals as goal

-- an admitted change scans the gates from the first on
pub returns-in-Admit : goal.returns-in-Admit
returns-in-Admit c = λ next. goes_at c.args.self.now Won next c.self.view_is c.in-Admit.is refl

-- a change that claimed its slot is written there, word by word
pub returns-in-Claim : goal.returns-in-Claim
returns-in-Claim c = λ next. goes_at c.args.self.now Won next c.self.view_is c.in-Claim.is (ap FillStatus c.of_gate.ensures)

pub returns-in-FillAddr : goal.returns-in-FillAddr
returns-in-FillAddr c = λ next. goes_at c.args.self.now Won next c.self.view_is c.in-FillAddr.is refl

pub returns-in-FillExpected : goal.returns-in-FillExpected
returns-in-FillExpected c = λ next. goes_at c.args.self.now Won next c.self.view_is c.in-FillExpected.is refl

pub returns-in-FillNew : goal.returns-in-FillNew
returns-in-FillNew c = λ next. goes_at c.args.self.now Won next c.self.view_is c.in-FillNew.is c.next_fill.ensures

-- a row is announced before the attempt
pub returns-in-AnnounceRow : goal.returns-in-AnnounceRow
returns-in-AnnounceRow c = λ next. goes_at c.args.self.now Won next c.self.view_is c.in-AnnounceRow.is c.plants.ensures

-- an attempt that was made is resolved only after the target's status was loaded
pub returns-in-Plant : goal.returns-in-Plant
returns-in-Plant c = λ next. rw (ap (λ (a : ActorState). a.point) (sym c.self.view_is) ∙ c.in-Plant.is) (cc)

-- a pinned change is the new target
pub returns-in-PinOther : goal.returns-in-PinOther
returns-in-PinOther c = λ next. goes_at c.args.self.now Won next c.self.view_is c.in-PinOther.is c.turns_to.ensures

-- a slot that was freed is counted off the door
pub returns-in-FreeSlot : goal.returns-in-FreeSlot
returns-in-FreeSlot c = λ next. goes_at c.args.self.now Won next c.self.view_is c.in-FreeSlot.is refl

-- the words of a slot are written one after the other
pub returns-in-FillStatus : goal.returns-in-FillStatus
returns-in-FillStatus c = λ next. goes_at c.args.self.now Won next c.self.view_is c.in-FillStatus.is refl

pub returns-in-FillCount : goal.returns-in-FillCount
returns-in-FillCount c = λ next. goes_at c.args.self.now Won next c.self.view_is c.in-FillCount.is refl
