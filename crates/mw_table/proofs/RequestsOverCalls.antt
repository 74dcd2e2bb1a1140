-- A pass still carries its request over each step of a call on the request's file. Used by: mw_core.
use Rattle.std.specs.Prelude.{ℕ, ◌≡◌, Bool, true, false, cond, List, [], ◌∷◌, ◌++◌, map, Some, None}
use Rattle.std.proofs.Common.{refl, sym, ap, subst, ◌∙◌}
use Rattle.mw_words.specs.declared.jobs.Entry.{Entry}
use Rattle.mw_look.specs.declared.observations.Got.TheVariants.{File as GotFile}
use Rattle.mw_look.specs.declared.observations.Observation.TheVariants.{Filed}
use Rattle.mw_look.specs.declared.steps.Call.{Call}
use Rattle.mw_look.specs.declared.steps.Call.TheVariants.{Prepare as PrepareCall, Seal as SealCall, Settle as SettleCall, Cancel as CancelCall}
use Rattle.mw_look.specs.Steps.{op_of}
use Rattle.mw_actor.specs.ActorState.{ActorState, own_entries}
use Rattle.mw_actor.specs.Asks.{asks}
use Rattle.mw_actor.specs.Program.{tells}
use Rattle.mw_world.specs.Definition.Calls.{Called, called_at}
use Rattle.mw_rule.specs.Calls.FileTokens.{file_token_filed}
use Rattle.mw_rule.specs.declared.file_token.FileToken.{FileToken}
use Rattle.mw_rule.proofs.Calls.WorldAfterCalls.{requests_go_on_from_calls}
use Rattle.mw_rule.specs.declared.views.WorkerEvent.TheVariants.{Called as WorkerEventCalled}
use Rattle.mw_rule.specs.declared.views.HeldFile.{HeldFile}
use Rattle.mw_rule.specs.declared.views.WorkerToken.{WorkerToken}
use Rattle.mw_rule.specs.declared.views.View.{View}
use Rattle.mw_rule.specs.Steps.{IsReady, IsReadyAt, IsReadyFor, settled}
use Rattle.mw_rule.specs.FileCalls.{Calls, LearnsFileCall, broken_so, fails, filed_so, place_held, went}
use Rattle.mw_rule.specs.Rule.{Each}
use Rattle.mw_table.specs.declared.shared.Pass.{Pass}
use Rattle.mw_table.specs.CarriedRequest.{IsCarried}
use Rattle.mw_table.specs.FileCalls.{IsAtFile, faulted_so}
use Rattle.mw_table.specs.HeldFiles.{HasFile}
use Rattle.mw_table.specs.Meet.{IsSamePass}
use Rattle.mw_table.proofs.CarriedRequests.{running_so}

-- taking a file, giving it back, and the load of a status from which the call starts leave the request as it was
pub carried_so : (old new : Pass) (actor : ActorState) → IsSamePass old new → new.seat.me.0.tokens ≡ old.seat.me.0.tokens → new.seat.me.0.config ≡ old.seat.me.0.config → IsCarried old actor → IsCarried new actor
carried_so old new actor same token config carried = record {
  token = carried.token;
  carries = record {
    own = carried.carries.own ∙ sym same.same_worker;
    same_attempt = carried.carries.same_attempt ∙ sym same.same_attempt;
    only = token ∙ carried.carries.only;
  };
  ready = subst (λ one. IsReadyFor one (Some actor)) (sym config) carried.ready;
}

-- the pass carries a request that is at this call, on the file that it has
pub calls_so : (pass : Pass) (actor : ActorState) (called : Called) (held : HeldFile) → IsCarried pass actor → called_at actor.point ≡ Some called → pass.seat.me.0.files ≡ held ∷ [] → held.file.tenant ≡ actor.tenant
    → Calls pass.seat.me.0 pass.worker actor called held
calls_so pass actor called held carried comes only its = record {
  token = record carried.token { actor = Some actor };
  has = record {
    only = carried.carries.only ∙ ap (λ (one : WorkerToken). one ∷ []) (running_so carried.token actor (requests_go_on_from_calls actor called comes).unreplied);
    own = carried.carries.own;
  };
  carries = refl;
  comes_to = comes;
  only = only;
  its = its;
}

-- the pass carries the request that was told how the call went
pub carried_on_call : (old new : Pass) (actor : ActorState) (called : Called) (held : HeldFile) (well : Bool) (after : FileToken) → IsSamePass old new → IsCarried old actor → called_at actor.point ≡ Some called
    → LearnsFileCall well held after old.seat.me.0 new.seat.me.0 → IsCarried new (tells actor (Filed well) new.attempt)
carried_on_call old new actor called held well after same carried comes is =
    let token = carried.token in
    let goes = requests_go_on_from_calls actor called comes in
    let told = tells actor (Filed well) token.attempt in
    let then : WorkerToken = record token { made = token.made ++ WorkerEventCalled ∷ []; found = token.found ++ record { op = op_of (asks actor); got = GotFile well } ∷ [] } in
    let had : old.seat.me.0.tokens ≡ record token { actor = Some actor } ∷ [] = carried.carries.only ∙ ap (λ (one : WorkerToken). one ∷ []) (running_so token actor goes.unreplied) in
    let has : new.seat.me.0.tokens ≡ record then { actor = Some told } ∷ [] = is.token ∙ ap (map (went well)) had in
    let next : token.attempt ≡ new.attempt = carried.carries.same_attempt ∙ sym same.same_attempt in
    let settles : record then { actor = Some told } ≡ settled then told = sym (running_so then told (goes.onward well token.attempt)) in
    let only : new.seat.me.0.tokens ≡ settled then (tells actor (Filed well) new.attempt) ∷ [] =
    has ∙ (ap (λ (one : WorkerToken). one ∷ []) settles ∙ ap (λ (n : ℕ). settled then (tells actor (Filed well) n) ∷ []) next) in
    record {
      token = then;
      carries = record { own = carried.carries.own ∙ sym same.same_worker; same_attempt = next; only = only };
      ready =
          let all : Each (IsReady new.seat.me.0.config) (record then { actor = Some told } ∷ []) = subst (λ (some : List WorkerToken). Each (IsReady new.seat.me.0.config) some) has is.ready in
          subst (λ (n : ℕ). IsReadyFor new.seat.me.0.config (Some (tells actor (Filed well) n))) next all.0;
    }

-- the words that the call's end may use are there
pub at_file_so : (pass : Pass) (actor : ActorState) (called : Called) (held : HeldFile) → IsCarried pass actor → called_at actor.point ≡ Some called → pass.seat.me.0.files ≡ held ∷ [] → held.file.tenant ≡ actor.tenant
    → IsAtFile pass
at_file_so pass actor called held carried comes only its = record {
  actor = actor;
  called = called;
  held = held;
  calls = calls_so pass actor called held carried comes only its;
  words = subst (IsReadyAt pass.seat.me.0.config actor) comes (carried.ready (requests_go_on_from_calls actor called comes).unreplied);
}

-- After the call the pass still has the file, and may give it back.
filed_tenant : (call : Call) (file_passes : FileToken) (slot place : ℕ) (entries : List Entry) → (file_token_filed call file_passes slot place entries).tenant ≡ file_passes.tenant
filed_tenant PrepareCall file_passes slot place entries = refl
filed_tenant SealCall file_passes slot place entries = refl
filed_tenant SettleCall file_passes slot place entries = refl
filed_tenant CancelCall file_passes slot place entries = refl

faulted_tenant : (failed : Bool) (view : View) (called : Called) (held : HeldFile) → (cond failed held.file (broken_so view called held)).tenant ≡ held.file.tenant
faulted_tenant true view called held = refl
faulted_tenant false view called held = refl

went_has : (well : Bool) (held : HeldFile) (after : FileToken) (old new : View) (tenant : ℕ) → LearnsFileCall well held after old new → after.tenant ≡ tenant → HasFile new tenant
went_has well held after old new tenant is its = record { held = record held { file = after; found = None }; only = is.keeps; its = its; idle = refl }

pub skipped_has : (held : HeldFile) (old new : View) (tenant : ℕ) → LearnsFileCall true held held.file old new → held.file.tenant ≡ tenant → HasFile new tenant
skipped_has held old new tenant is its = went_has true held held.file old new tenant is its

pub ended_has : (actor : ActorState) (called : Called) (held : HeldFile) (old new : View) (tenant : ℕ) → LearnsFileCall true held (filed_so old actor called held) old new → held.file.tenant ≡ tenant → HasFile new tenant
ended_has actor called held old new tenant is its = went_has true held (filed_so old actor called held) old new tenant is (filed_tenant called.call held.file called.change.slot (place_held old called held) (own_entries actor) ∙ its)

pub faulted_has : (called : Called) (held : HeldFile) (old new : View) (tenant : ℕ) → LearnsFileCall false held (faulted_so old called held) old new → held.file.tenant ≡ tenant → HasFile new tenant
faulted_has called held old new tenant is its = went_has false held (faulted_so old called held) old new tenant is (faulted_tenant (fails old called held) old called held ∙ its)
