-- A request that was answered VAL, NO or BUSY makes no change, at any moment from the reply on.
-- Used by: refused_requests_make_no_change.
use Rattle.std.specs.Prelude.{ℕ, ◌≡◌, ◌≢◌, ◌⊎◌, false, []}
use Rattle.std.proofs.Common.{refl, sym, ap, ◌∙◌, inl, inr}
use Rattle.std.proofs.lemmas.Option.{same_Some, none-some}
use Rattle.mw_words.specs.declared.replies.Reply.{Reply}
use Rattle.mw_words.specs.declared.replies.Reply.TheVariants.{Val, Yes as SaysYes, No as SaysNo, Busy as SaysBusy, Fault as SaysFault, Worn as SaysWorn}
use Rattle.mw_lone.specs.Store.{RequestState, request}
use Rattle.mw_law_store.specs.Worn.{is_worn_reply}
use Rattle.mw_law_store.specs.Simulation.{IsSimulated}
use Rattle.mw_law_threads.specs.Whole.Refusals.{RefusedRequestsMakeNoChange, TellsOfNoChange}
use Rattle.mw_law_threads.specs.Whole.WholeChanges.{IsPending, IsUnsealed}
use Rattle.mw_law_threads.proofs.Whole.AnsweredRequests.{IsAnswered}
use Rattle.mw_law_threads.proofs.Whole.StoresInDoubt.{IsOfFault}
use Rattle.mw_law_threads.proofs.Whole.StoresOfRuns.{IsSimulatedSo, simulated_so}
use Rattle.mw_law_threads.proofs.Whole.WholeChangeLaws.{in_doubt_so, not_there, not_sealed}

-- such a reply is no YES, no FAULT and no WORN
no_yes : (reply : Reply) → TellsOfNoChange reply → reply ≢ SaysYes
no_yes (Val value) tells is = cc
no_yes (SaysNo address value) tells is = cc
no_yes SaysBusy tells is = cc
no_yes SaysYes tells is = absurd tells
no_yes SaysFault tells is = absurd tells
no_yes SaysWorn tells is = absurd tells

no_fault : (reply : Reply) → TellsOfNoChange reply → SaysFault ≢ reply
no_fault (Val value) tells is = cc
no_fault (SaysNo address value) tells is = cc
no_fault SaysBusy tells is = cc
no_fault SaysYes tells is = absurd tells
no_fault SaysFault tells is = absurd tells
no_fault SaysWorn tells is = absurd tells

no_worn : (reply : Reply) → TellsOfNoChange reply → is_worn_reply reply ≡ false
no_worn (Val value) tells = refl
no_worn (SaysNo address value) tells = refl
no_worn SaysBusy tells = refl
no_worn SaysYes tells = absurd tells
no_worn SaysFault tells = absurd tells
no_worn SaysWorn tells = absurd tells

pub refused_requests_make_no_change : RefusedRequestsMakeNoChange
refused_requests_make_no_change config openings events state tenant index n reply played low handed tells =
    record { unsealed = unsealed answered; not_in_doubt = in_doubt by.fault answered }
  where
    by : IsSimulatedSo config openings events state tenant
    by = simulated_so config openings tenant low events state played

    mine : IsSimulated openings state tenant
    mine = record { store = by.store; simulated = by.simulated }

    answered : IsAnswered by.store n reply
    answered = by.said index n reply handed (no_worn reply tells)

    unsealed : IsAnswered by.store n reply → IsUnsealed openings state tenant n
    unsealed (inl said) = not_sealed config openings events state tenant played low mine n said.found said.is_asked (λ yes. no_yes reply tells (same_Some reply SaysYes (sym said.says ∙ yes)))
    unsealed (inr gone) = not_there config openings events state tenant played low mine n gone.none

    apart : (is : IsOfFault by.store) → IsAnswered by.store n reply → is.owner ≢ n
    apart is (inl said) same =
        let one = same_Some is.found said.found (sym is.is_asked ∙ ap (request by.store) same ∙ said.is_asked) in
        no_fault reply tells (same_Some SaysFault reply (sym is.says ∙ ap (λ (it : RequestState). it.placed) one ∙ said.says))
    apart is (inr gone) same = none-some is.found (sym gone.none ∙ ap (request by.store) (sym same) ∙ is.is_asked)

    in_doubt : (by.store.in_doubt ≡ []) ⊎ IsOfFault by.store → IsAnswered by.store n reply
        → ((state.tenant_states tenant).file.doubt ≡ []) ⊎ ((owner : ℕ) × IsPending openings state tenant owner (state.tenant_states tenant).file.doubt × (owner ≢ n))
    in_doubt (inl none) is = inl (by.simulated.refines.holds.in_doubt ∙ none)
    in_doubt (inr fault) is = elim (in_doubt_so config openings events state tenant played low mine fault) [
      | inl none ↦ inl none
      | inr pending ↦ inr (fault.owner, pending, apart fault is)
    ]
