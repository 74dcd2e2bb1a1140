-- A pass still belongs to the table after a step, a round of a read, or a load.
-- Used by: Engine::make_step, try_look, TenantWords::door, gate.
use Rattle.std.specs.Prelude.{ℕ, ◌≡◌, ◌<◌, Bool, true, false, List, [], ◌∷◌, Option, Some, None, Result}
use Rattle.std.proofs.Common.{sym, ap, subst, ◌∙◌}
use Rattle.mw_words.specs.declared.replies.Reply.{Reply}
use Rattle.mw_look.specs.declared.observations.Observation.{Observation}
use Rattle.mw_actor.specs.ActorState.{ActorState}
use Rattle.mw_actor.specs.Program.{replied}
use Rattle.mw_world.specs.Definition.Calls.{Called, called_at}
use Rattle.mw_core.specs.FromTable.{IsFree, IsOf, Pass, Shared, View, config_of}
use Rattle.mw_core.specs.declared.calls.Advance.{Advance}
use Rattle.mw_core.specs.declared.read_rounds.WhyAgain.{WhyAgain}
use Rattle.mw_core.specs.Steps.{Advances, Ends}
use Rattle.mw_core.specs.ReadRounds.{Looks, Walked, Walks, heard}
use Rattle.mw_engine.specs.Passes.{IsOneOf}

pub one_on : (shared : Shared) (old new : Pass) → IsOneOf shared old → IsOf shared new → new.worker ≡ old.worker → new.seat.me.0.files ≡ old.seat.me.0.files → IsOneOf shared new
one_on shared old new own is same files = record {
  own = is;
  there = subst (λ (n : ℕ). n < (config_of shared.table.shared.key).workers) (sym same) own.there;
  free = files ∙ own.free;
}

pub one_free : (shared : Shared) (old new : Pass) → IsOneOf shared old → IsOf shared new → new.worker ≡ old.worker → IsFree new → IsOneOf shared new
one_free shared old new own is same free = record {
  own = is;
  there = subst (λ (n : ℕ). n < (config_of shared.table.shared.key).workers) (sym same) own.there;
  free = free;
}

-- no step of a request changes which file passes its pass has
ends_files : (old new : Pass) (actor next : ActorState) (result : Advance) (reply : Option Reply) (called : Option Called) → Ends old new actor next result reply called
    → new.seat.me.0.files ≡ old.seat.me.0.files
ends_files old new actor next result (Some reply) called ends = ap (λ (pass : Pass). pass.seat.me.0.files) ends.1.same_pass
ends_files old new actor next result None (Some call) ends = ap (λ (pass : Pass). pass.seat.me.0.files) ends.1.same_pass
ends_files old new actor next result None None ends = ends.1.took.same_files

pub advanced_files : (old new : Pass) (actor next : ActorState) (result : Advance) → Advances old new actor next result → new.seat.me.0.files ≡ old.seat.me.0.files
advanced_files old new actor next result advances = ends_files old new actor next result (replied actor) (called_at actor.point) advances

walks_files : (comes : Bool) (actor : ActorState) (told : Observation) (old new : View) → Walks comes actor told old new → new.files ≡ old.files
walks_files true actor told old new walks = walks.took.same_files
walks_files false actor told old new walks = walks.took.same_files

walked_files : (comes : Bool) (actor : ActorState) (address : ℕ) (observation : List Observation) (old new : View) → Walked comes actor address observation old new → new.files ≡ old.files
walked_files comes actor address [] old new walked = absurd walked
walked_files comes actor address (told ∷ []) old new walked = walks_files comes (heard actor address []) told old new walked
walked_files comes actor address (told ∷ before ∷ earlier) old new walked =
    walks_files false (heard actor address (before ∷ earlier)) told walked.0 new walked.3 ∙ walked_files comes actor address (before ∷ earlier) old walked.0 walked.1

pub looks_files : (old new : Pass) (actor next : ActorState) (result : Result Reply WhyAgain) → Looks old new actor next result → new.seat.me.0.files ≡ old.seat.me.0.files
looks_files old new actor next result looks = walked_files old.idle actor looks.address looks.observation old.seat.me.0 new.seat.me.0 looks.walked
