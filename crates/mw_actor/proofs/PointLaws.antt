-- What the code says of the point that it matched on holds of the request: the step for which it asks, where it goes, and
-- its reply. Used by: Actor::reply, Actor::step_holding, Actor::won, among others.
use Rattle.std.specs.Prelude.{ℕ, ◌≡◌, true, Some}
use Rattle.std.specs.declared.option.Option.{Option}
use Rattle.std.proofs.Common.{ap, ◌∙◌, sym}
use Rattle.mw_words.specs.declared.replies.Reply.{Reply}
use Rattle.mw_look.specs.declared.steps.Op.{Op}
use Rattle.mw_look.specs.Steps.{StepFits, op_of}
use Rattle.mw_look.specs.declared.observations.Observation.{Observation}
use Rattle.mw_actor.specs.declared.points.Point.{Point}
use Rattle.mw_actor.specs.ActorState.{ActorState}
use Rattle.mw_actor.specs.Asks.{asks, asks_at}
use Rattle.mw_actor.specs.Parts.{Part, part_of, same_part, step_in}
use Rattle.mw_actor.specs.Program.{changes, reply_at, replied}

-- the step of a point is the next step of a request at that point
pub asks_in : (part : Part) (actor : ActorState) {inside : ActorState} {point : Point} {op : Op} → inside ≡ actor → inside.point ≡ point → same_part (part_of point) part ≡ true → op ≡ op_of (asks_at actor point) → Some op ≡ step_in part actor
asks_in part actor is at same step = rw (ap (λ (a : ActorState). a.point) (sym is) ∙ at, same) (ap Some step)

-- it fits if the step of the point fits
pub fits_at : (actor : ActorState) {inside : ActorState} {point : Point} → inside ≡ actor → inside.point ≡ point → StepFits (asks_at actor point) → StepFits (asks actor)
fits_at actor is at fits = rw (ap (λ (a : ActorState). a.point) (sym is) ∙ at) fits

-- the request goes where it goes from that point
pub goes_at : (actor : ActorState) {inside : ActorState} {point to : Point} (observation : Observation) (next : ℕ) → inside ≡ actor → inside.point ≡ point → to ≡ changes actor next point observation → to ≡ changes actor next actor.point observation
goes_at actor observation next is at goes = rw (ap (λ (a : ActorState). a.point) (sym is) ∙ at) goes

-- the reply at that point is the request's
pub replies_at : (actor : ActorState) {inside : ActorState} {point : Point} {reply : Option Reply} → inside ≡ actor → inside.point ≡ point → reply ≡ reply_at point → reply ≡ replied actor
replies_at actor is at replies = rw (ap (λ (a : ActorState). a.point) (sym is) ∙ at) replies
