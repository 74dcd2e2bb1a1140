-- A pass that may make a step of a request isn't idle. A pass whose request has its reply may become idle.
-- Used by: calls of Shared, mw_core.
use Rattle.std.specs.Prelude.{ℕ, ◌≡◌, ◌≢◌, Bool, true, List, [], ◌∷◌, map, is_none, Option, Some, None}
use Rattle.std.proofs.Common.{refl, sym, ap, ◌∙◌}
use Rattle.mw_words.specs.declared.replies.Reply.{Reply}
use Rattle.mw_look.specs.declared.steps.Op.{Op}
use Rattle.mw_actor.specs.ActorState.{ActorState}
use Rattle.mw_actor.specs.Program.{replied}
use Rattle.mw_rule.specs.declared.views.WorkerToken.{WorkerToken}
use Rattle.mw_rule.specs.declared.views.View.{View}
use Rattle.mw_rule.specs.Steps.{IsNextStep, HasToken, LearnsPlainLoad, settled_as}
use Rattle.mw_table.specs.declared.shared.Pass.{Pass}
use Rattle.mw_table.specs.Basis.{Basis}
use Rattle.mw_table.specs.CarriedRequest.{IsCarried}
use Rattle.mw_table.specs.NewPasses.{view_of}
use Rattle.mw_table.specs.Idleness.{IsIdle, has_none}

none_of : (found : Option ActorState) → is_none found ≡ true → found ≡ None
none_of None is = refl
none_of (Some actor) is = absurd (cc)

pub some_none : (actor : ActorState) → Some actor ≡ None → ⊥
some_none actor is = cc

one_of : (one other : Bool) → one ∷ [] ≡ other ∷ [] → one ≡ other
one_of one other is = ap (λ (all : List Bool). first_of all) is
  where
    first_of : List Bool → Bool
    first_of [] = true
    first_of (first ∷ rest) = first

-- an idle pass's worker has no request
pub none_carried : (view : View) (worker : ℕ) (token : WorkerToken) → HasToken view worker token → IsIdle view → token.actor ≡ None
none_carried view worker token has rests = none_of token.actor (one_of (has_none token) true (sym (ap (map has_none) has.only) ∙ rests))

pub busy : (view : View) (worker : ℕ) (op : Op) → IsNextStep view worker op → IsIdle view → ⊥
busy view worker op drives rests = some_none drives.actor (sym drives.carries ∙ none_carried view worker drives.token drives.has rests)

-- a load that is no event leaves an idle pass idle
pub rests_on : (index bits : ℕ) (old new : View) → LearnsPlainLoad index bits old new → IsIdle old → IsIdle new
rests_on index bits old new looked rests = ap (map has_none) looked.same_token ∙ rests

none_left : (token : WorkerToken) (actor : ActorState) (reply : Option Reply) → reply ≢ None → (settled_as token actor reply).actor ≡ None
none_left token actor None stands = absurd (stands refl)
none_left token actor (Some reply) stands = refl

-- a pass carries a request no more when the request has its reply
pub rests_then : (pass : Pass) (actor : ActorState) → IsCarried pass actor → replied actor ≢ None → IsIdle pass.seat.me.0
rests_then pass actor carried stands =
    ap (map has_none) carried.carries.only ∙ ap (λ (one : Option ActorState). is_none one ∷ []) (none_left carried.token actor (replied actor) stands)

-- a new pass is idle if its worker has no request
pub rests_first : (basis : Basis) (worker : ℕ) (view : View) → view ≡ view_of basis worker → is_none (basis.worker_states worker).actor ≡ true → IsIdle view
rests_first basis worker view is none = ap (λ (one : View). map has_none one.tokens) is ∙ ap (λ (test : Bool). test ∷ []) none
