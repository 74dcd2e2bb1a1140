-- A thread with a file's token may end its call in each way that the token allows. Until then, what the call relies on stays
-- true.
-- Used by: calls_end_by_file_token.
use Rattle.std.specs.Prelude.{ℕ, ◌≡◌, ◌≢◌, ◌<◌, ◌⊎◌, true, List, length, Some}
use Rattle.std.proofs.Common.{refl, sym, ap, subst, ◌∙◌, inl, inr}
use Rattle.mw_words.specs.declared.places.At.TheVariants.{Status as AtStatus}
use Rattle.mw_words.specs.declared.statuses.Status.{Status}
use Rattle.mw_look.specs.declared.observations.Observation.{Observation}
use Rattle.mw_look.specs.declared.observations.Observation.TheVariants.{Won, Filed}
use Rattle.mw_look.specs.Observations.{seen}
use Rattle.mw_actor.specs.ActorState.{ActorState}
use Rattle.mw_actor.specs.Program.{tells}
use Rattle.mw_world.specs.declared.outcomes.Outcome.TheVariants.{Good}
use Rattle.mw_world.specs.Files.State.{File, entries_at}
use Rattle.mw_world.specs.Maps.{upd}
use Rattle.mw_world.specs.declared.config.Config.{Config}
use Rattle.mw_world.specs.declared.step_labels.StepLabel.{StepLabel}
use Rattle.mw_world.specs.declared.step_labels.StepLabel.TheVariants.{Nothing}
use Rattle.mw_world.specs.Claim.Headline.{IsExecution}
use Rattle.mw_world.specs.Definition.Calls.{Called, breaks, device_calls, faults, good_label, goes_well, is_made, place_for, skips, starts_from, status_after}
use Rattle.mw_world.specs.Definition.Events.{WorldEvent}
use Rattle.mw_world.specs.Definition.LabelEffects.{marked}
use Rattle.mw_world.specs.Definition.State.{TenantState, TenantStart, State}
use Rattle.mw_world.specs.Definition.Turns.{Made, moved}
use Rattle.mw_law_runs.proofs.Knowledge.Updates.Preservation.{upd_else, upd_here}
use Rattle.mw_law_runs.proofs.Numbers.{same_or_other}
use Rattle.mw_rule.specs.declared.file_token.FileToken.{FileToken}
use Rattle.mw_rule.specs.Calls.OtherEvents.{AreBesideFile, IsBesideFile}
use Rattle.mw_rule.specs.Calls.CallsByToken.{CallingStays, CallingStaysLong, CallsEndByFileToken, End, EndsBy, FindsFault, GoesWell, IsCalling, KeepsGifts, MayEnd, MeetsFault, Skips, found_by, label_by, outcome_of, file_token_by, step_of, went_well}
use Rattle.mw_rule.specs.Calls.CallEnds.{CallEnds, exchange_of, load_of}
use Rattle.mw_rule.specs.Calls.FileTokens.{file_told}
use Rattle.mw_rule.specs.Calls.TokensInWorlds.{HasFileToken, TellsOfCall, place_by}
use Rattle.mw_rule.proofs.Calls.CallEndLaws.{calls_end_well, calls_find_faults, calls_meet_faults, calls_skip}
use Rattle.mw_rule.proofs.Calls.WorldAfterCalls.{LeavesWorkerState, fault_leaves, good_leaves, worker_state_after}
use Rattle.mw_rule.proofs.Calls.CallStartLaws.{calls_can_start}
use Rattle.mw_rule.proofs.Calls.TokenLaws.{calls_are_made_by_file_token, file_tokens_stay, file_tokens_stay_long, file_tokens_stay_over_calls, file_tokens_tell_of_calls}
use Rattle.mw_rule.proofs.Calls.StableStatusLaws.{statuses_wait, statuses_wait_long, still_at}

pub calling_stays : CallingStays
calling_stays config openings events state next worker actor called status file_token event played calling starts beside is =
    let started = subst (λ (one : Status). starts_from called.call one ≡ true) (sym calling.found) starts in
    let waited = statuses_wait config openings events state next worker actor called event played calling.at_call started
    (subst (λ (tenant : ℕ). IsBesideFile state tenant event) calling.same_tenant beside) is in
    record {
      at_call = still_at state next worker actor called waited calling.at_call;
      found = waited.status ∙ calling.found;
      same_tenant = calling.same_tenant;
      has = file_tokens_stay config state next event file_token beside is calling.has;
    }

pub calling_stays_long : CallingStaysLong
calling_stays_long config openings events later state last worker actor called status file_token played calling starts beside is =
    let started = subst (λ (one : Status). starts_from called.call one ≡ true) (sym calling.found) starts in
    let waited = statuses_wait_long config openings events later state last worker actor called played calling.at_call started
    (subst (λ (tenant : ℕ). AreBesideFile config tenant state later) calling.same_tenant beside) is in
    record {
      at_call = waited.at_call;
      found = waited.waited.status ∙ calling.found;
      same_tenant = calling.same_tenant;
      has = file_tokens_stay_long config later state last file_token beside is calling.has;
    }

-- one tenant's state changes, and what the start gave it stays
same_gifts : (tenant_states : ℕ → TenantState) (tenant : ℕ) (now : TenantState) → KeepsGifts (tenant_states tenant) now → (other : ℕ) → KeepsGifts (tenant_states other) (upd tenant_states tenant now other)
same_gifts tenant_states tenant now keeps other = by_tenant (same_or_other other tenant)
  where
    by_tenant : (other ≡ tenant) ⊎ (other ≢ tenant) → KeepsGifts (tenant_states other) (upd tenant_states tenant now other)
    by_tenant (inl same) = subst (λ k. KeepsGifts (tenant_states k) (upd tenant_states tenant now k)) (sym same) (subst (KeepsGifts (tenant_states tenant)) (sym (upd_here tenant_states tenant now)) keeps)
    by_tenant (inr apart) =
        subst (KeepsGifts (tenant_states other)) (sym (upd_else tenant_states tenant other now apart)) (record { quota = refl; places = refl; is_up = refl; asked = refl; closed = refl })

module _ (config : Config) (openings : ℕ → TenantStart) (events : List WorldEvent) (state : State) (worker : ℕ) (actor : ActorState) (called : Called) (status : Status) (file_token : FileToken)
    (played : IsExecution config openings events state) (calling : IsCalling config state worker actor called status file_token) where
  abbrev file : File
  file = (state.tenant_states actor.tenant).file

  abbrev place : ℕ
  place = place_for called.call file (state.tenant_states actor.tenant).quota called.change.slot

  abbrev here : Status
  here = state.cells.statuses called.change.slot

  told : TellsOfCall config state actor called file_token
  told = file_tokens_tell_of_calls config openings events state worker actor called file_token played calling.at_call calling.same_tenant calling.has

  same_places : (state.tenant_states actor.tenant).quota ≡ length file_token.places
  same_places = ap (λ (tenant : ℕ). (state.tenant_states tenant).quota) (sym calling.same_tenant) ∙ sym calling.has.long

  started : starts_from called.call status ≡ true → starts_from called.call here ≡ true
  started starts = ap (starts_from called.call) calling.found ∙ starts

  -- the world after a call that ended so
  ends_by : (end : End) (made : Made) → made.observation ≡ Filed (went_well end) → made.label ≡ label_by end called status → LeavesWorkerState made.label
      → CallEnds config state worker actor (outcome_of end) (step_of end actor called status) (found_by end state.cells actor called status) made
      → HasFileToken config (moved state worker actor made) (file_token_by end file_token actor called) → EndsBy config state worker actor called status file_token end
  ends_by end made observation label leaves ended has = record {
    next = moved state worker actor made;
    happens = ended.happens;
    words = ended.words;
    worker_state = worker_state_after state worker actor called made calling.at_call.comes_to leaves
        ∙ ap (λ (one : Observation). record (state.worker_states worker) { actor = Some (tells actor one (state.worker_states worker).attempt) }) observation;
    worker_states = λ other apart. upd_else state.worker_states worker other _ apart;
    tenant_states = λ tenant apart. upd_else state.tenant_states actor.tenant tenant _ apart;
    gifts = same_gifts state.tenant_states actor.tenant _ (record { quota = refl; places = refl; is_up = refl; asked = refl; closed = refl });
    marks = ap (λ (tenant_state : TenantState). tenant_state.lines) (upd_here state.tenant_states actor.tenant _)
        ∙ ap (λ (one : StepLabel). marked one (state.worker_states worker) state.history (state.tenant_states actor.tenant).lines) label;
    has = has;
  }

  skips_so : MayEnd Skips called status file_token → EndsBy config state worker actor called status file_token Skips
  skips_so may =
      let made = skips state actor called.change file in
      ends_by Skips made refl refl (λ past lines worker_state. refl)
      (subst (λ (one : Status). CallEnds config state worker actor Good (load_of called) (seen (AtStatus called.change.slot) one) made) calling.found
      (calls_skip config openings events state worker actor called played calling.at_call (ap (starts_from called.call) calling.found ∙ may)))
      (file_tokens_stay_over_calls config state worker actor made file_token refl calling.has)

  goes_so : MayEnd GoesWell called status file_token → EndsBy config state worker actor called status file_token GoesWell
  goes_so may =
      let made = goes_well state actor called.change file called.call here place in
      let starts = started may.0 in
      ends_by GoesWell made refl (ap (λ (one : Status). good_label called.call called.change (status_after called.call one)) calling.found) (good_leaves called.call called.change _)
      (subst (λ (one : Status). CallEnds config state worker actor Good (exchange_of called one) Won made) calling.found
      (calls_end_well config openings events state worker actor called played calling.at_call starts (told.fails ∙ may.1)))
      (calls_are_made_by_file_token config openings events state worker actor called file_token played calling.at_call starts calling.same_tenant calling.has may.1).well

  meets_so : (number : ℕ) → MayEnd (MeetsFault number) called status file_token → EndsBy config state worker actor called status file_token (MeetsFault number)
  meets_so number may =
      let made = breaks state actor called.change file called.call place in
      let starts = started may.0 in
      let within = (calls_can_start config openings events state worker actor called played calling.at_call starts (told.fails ∙ may.1)).within in
      let calls : device_calls called.call (entries_at file place) ≡ device_calls called.call (entries_at (file_told file_token) (place_by file_token called)) =
      ap (λ (places : ℕ). device_calls called.call (entries_at file (place_for called.call file places called.change.slot))) same_places
      ∙ told.calls (subst (λ (places : ℕ). place_for called.call file places called.change.slot < places) same_places within) in
      ends_by (MeetsFault number) made refl refl (fault_leaves called.call called.change)
      (calls_meet_faults config openings events state worker actor called number played calling.at_call starts (told.fails ∙ may.1) (ap (λ (many : ℕ). is_made many number) calls ∙ may.2))
      (calls_are_made_by_file_token config openings events state worker actor called file_token played calling.at_call starts calling.same_tenant calling.has may.1).fault

  finds_so : MayEnd FindsFault called status file_token → EndsBy config state worker actor called status file_token FindsFault
  finds_so may =
      let made = faults state actor called.change file file Nothing in
      ends_by FindsFault made refl refl (λ past lines worker_state. refl)
      (calls_find_faults config openings events state worker actor called played calling.at_call (started may.0) (told.fails ∙ may.1))
      (file_tokens_stay_over_calls config state worker actor made file_token refl calling.has)

pub calls_end_by_file_token : CallsEndByFileToken
calls_end_by_file_token config openings events state worker actor called status file_token Skips played calling may = skips_so config openings events state worker actor called status file_token played calling may
calls_end_by_file_token config openings events state worker actor called status file_token GoesWell played calling may = goes_so config openings events state worker actor called status file_token played calling may
calls_end_by_file_token config openings events state worker actor called status file_token (MeetsFault number) played calling may =
    meets_so config openings events state worker actor called status file_token played calling number may
calls_end_by_file_token config openings events state worker actor called status file_token FindsFault played calling may = finds_so config openings events state worker actor called status file_token played calling may
