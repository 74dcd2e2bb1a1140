-- After a step a request is the same. If it then needs its file, it has come to a call on it. Used by: Engine::advance.
use Rattle.std.specs.Prelude.{◌≡◌, Bool, true, false, Option, Some, None}
use Rattle.std.proofs.Common.{refl, sym, ap, ◌∙◌}
use Rattle.mw_words.specs.declared.replies.Reply.{Reply}
use Rattle.mw_actor.specs.ActorState.{ActorState}
use Rattle.mw_actor.specs.Program.{replied}
use Rattle.mw_world.specs.Definition.Calls.{Called, called_at}
use Rattle.mw_core.specs.FromTable.{Pass}
use Rattle.mw_core.specs.declared.calls.Advance.{Advance}
use Rattle.mw_core.specs.declared.calls.Advance.TheVariants.{NeedsFile, Finished}
use Rattle.mw_core.specs.Steps.{Ends, answer_of}
use Rattle.mw_engine.specs.Steps.{EndsAs, IsAtCall, IsSameRequest}

not_answered : (reply : Option Reply) → answer_of reply ≡ NeedsFile → ⊥
not_answered None is = cc
not_answered (Some reply) is = cc

some_not : (call : Called) → Some call ≡ None → ⊥
some_not call is = cc

ends_at_call : (old new : Pass) (actor next : ActorState) (result : Advance) (reply : Option Reply) (called : Option Called) → replied actor ≡ reply → called_at actor.point ≡ called
    → Ends old new actor next result reply called → result ≡ NeedsFile → IsAtCall next
ends_at_call old new actor next result (Some reply) called is at ends file = absurd (let never : Finished ≡ NeedsFile = sym ends.0 ∙ file in cc)
ends_at_call old new actor next result None (Some call) is at ends file = record {
  running = ap replied ends.1.same_request ∙ is;
  comes = λ none. some_not call (sym at ∙ (ap (λ (one : ActorState). called_at one.point) (sym ends.1.same_request) ∙ none));
}
ends_at_call old new actor next result None None is at ends file = absurd (not_answered (replied next) (sym ends.0 ∙ file))

-- if a file is needed, the request has come to a call on it
pub at_call : (idle : Bool) (old new : Pass) (actor next : ActorState) (result : Advance) → EndsAs idle old new actor next result → result ≡ NeedsFile → IsAtCall next
at_call true old new actor next result ends file = absurd (not_answered (replied next) (sym ends.0 ∙ file))
at_call false old new actor next result ends file = ends_at_call old new actor next result (replied actor) (called_at actor.point) refl refl ends file

same_as : (actor next : ActorState) → next ≡ actor → IsSameRequest actor next
same_as actor next same = record { same_worker = ap (λ (one : ActorState). one.worker) same; same_tenant = ap (λ (one : ActorState). one.tenant) same; same_job = ap (λ (one : ActorState). one.job) same }

ends_same : (old new : Pass) (actor next : ActorState) (result : Advance) (reply : Option Reply) (called : Option Called) → Ends old new actor next result reply called → IsSameRequest actor next
ends_same old new actor next result (Some reply) called ends = same_as actor next ends.1.same_request
ends_same old new actor next result None (Some call) ends = same_as actor next ends.1.same_request
ends_same old new actor next result None None ends = record {
  same_worker = ap (λ (one : ActorState). one.worker) ends.1.told;
  same_tenant = ap (λ (one : ActorState). one.tenant) ends.1.told;
  same_job = ap (λ (one : ActorState). one.job) ends.1.told;
}

-- it is the same request
pub same_request : (idle : Bool) (old new : Pass) (actor next : ActorState) (result : Advance) → EndsAs idle old new actor next result → IsSameRequest actor next
same_request true old new actor next result ends = record {
  same_worker = ap (λ (one : ActorState). one.worker) ends.1.told;
  same_tenant = ap (λ (one : ActorState). one.tenant) ends.1.told;
  same_job = ap (λ (one : ActorState). one.job) ends.1.told;
}
same_request false old new actor next result ends = ends_same old new actor next result (replied actor) (called_at actor.point) ends
