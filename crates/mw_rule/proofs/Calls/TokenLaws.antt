-- What a file token (the ghost capability to call that file) says of its file stays true over others' events, and over calls
-- by the thread that has it.
-- Used by: file_tokens_tell_tenants, calls_are_made_by_file_token, mw_table.
use Rattle.std.specs.Prelude.{ℕ, ◌≡◌, ◌<◌, ◌≤◌, ◌⊎◌, not, nat_lt, true, false, List, length, Option}
use Rattle.std.proofs.Common.{refl, sym, ap, subst, ◌∙◌, inl, inr, arith}
use Rattle.std.proofs.lemmas.Bool.Decides.{nat_tests}
use Rattle.std.proofs.lemmas.Bool.{cases_lt}
use Rattle.std.proofs.lemmas.Option.{slice_get_past}
use Rattle.mw_words.specs.declared.jobs.Entry.{Entry}
use Rattle.mw_words.specs.Change.{is_change}
use Rattle.mw_look.specs.declared.steps.Call.{Call}
use Rattle.mw_look.specs.declared.steps.Call.TheVariants.{Prepare as PrepareCall, Seal as SealCall, Settle as SettleCall, Cancel as CancelCall}
use Rattle.mw_actor.specs.ActorState.{ActorState, own_entries}
use Rattle.mw_world.specs.Files.State.{File, Prepared, Sealed, broken, entries_at, entries_in, is_empty, is_sealed, share_a_word}
use Rattle.mw_world.proofs.MapLaws.{upd_here}
use Rattle.mw_world.specs.declared.config.Config.{Config}
use Rattle.mw_world.specs.Definition.Calls.{Called, breaks, doubt_of, filed, goes_well, place_for}
use Rattle.mw_world.specs.Definition.State.{State, TenantState}
use Rattle.mw_world.specs.Definition.Turns.{Made, moved}
use Rattle.mw_rule.specs.declared.file_token.FileToken.{FileToken}
use Rattle.mw_rule.specs.declared.file_token.PlaceKept.{PlaceKept}
use Rattle.mw_rule.specs.Calls.OtherEvents.{KeepsFile}
use Rattle.mw_rule.specs.Calls.FileTokens.{TellsCall, TellsFile, file_told, place_if, file_token_broken, file_token_filed}
use Rattle.mw_rule.specs.Calls.CallStarts.{CanStart, HasApart, HasPrepared, HasSealed, IsFitFor, TakesChange}
use Rattle.mw_rule.specs.Calls.TokensInWorlds.{CallsAreMadeByFileToken, EachFileHasAToken, HasFileToken, IsCallByFileToken, FileTokensStay, FileTokensStayLong, FileTokensStayOverCalls, FileTokensTellOfCalls, StartsHaveFileTokens, TellsOfCall, place_by, file_token_after, file_token_after_fault}
use Rattle.mw_rule.proofs.Calls.OtherEventLaws.{one_kept, others_leave_files, others_leave_files_long}
use Rattle.mw_rule.proofs.Calls.TokensAfterCalls.{file_tokens_follow_calls, file_tokens_follow_faults}
use Rattle.mw_rule.proofs.Calls.CallStartLaws.{calls_can_start, calls_have_words}
use Rattle.mw_rule.proofs.Calls.TokensTellCalls.{opened_told, file_tokens_tell_files, same_entries, tells_call}

pub starts_have_file_tokens : StartsHaveFileTokens
starts_have_file_tokens config openings tenant = opened_told tenant (openings tenant).quota config.pool (openings tenant).words (not (openings tenant).is_up)

pub each_file_has_a_token : EachFileHasAToken
each_file_has_a_token config state tenant = file_tokens_tell_files tenant (state.tenant_states tenant).quota config.pool (state.tenant_states tenant).file

-- a tenant's state with the same file has the same token
kept_told : (many_slots : ℕ) (file_token : FileToken) (old new : TenantState) → KeepsFile old new → TellsFile old.quota many_slots file_token old.file → TellsFile new.quota many_slots file_token new.file
kept_told many_slots file_token old new kept told = subst (λ (places : ℕ). TellsFile places many_slots file_token new.file) (sym kept.quota) (subst (TellsFile old.quota many_slots file_token) (sym kept.file) told)

pub file_tokens_stay : FileTokensStay
file_tokens_stay config state next event file_token beside is has =
    kept_told config.pool file_token (state.tenant_states file_token.tenant) (next.tenant_states file_token.tenant) (others_leave_files config state next event file_token.tenant beside is) has

pub file_tokens_stay_long : FileTokensStayLong
file_tokens_stay_long config events state last file_token beside is has =
    kept_told config.pool file_token (state.tenant_states file_token.tenant) (last.tenant_states file_token.tenant) (others_leave_files_long config events state last file_token.tenant beside is) has

pub file_tokens_stay_over_calls : FileTokensStayOverCalls
file_tokens_stay_over_calls config state worker actor made file_token same has =
    kept_told config.pool file_token (state.tenant_states file_token.tenant) ((moved state worker actor made).tenant_states file_token.tenant)
    (one_kept state.tenant_states actor.tenant _ (record { file = same; quota = refl; places = refl; is_up = refl }) file_token.tenant) has

-- The file that a token tells is as a call needs it if the tenant's file is.
module _ (many_places many_slots : ℕ) (file_token : FileToken) (file : File) (tells : TellsFile many_places many_slots file_token file) where
  abbrev told : File
  told = file_told file_token

  long_same : length file.contents ≡ length told.contents
  long_same = ap (λ (words : List ℕ). length words) tells.contents

  formed_there : (place : ℕ) → place < many_places → is_change (length file.contents) (entries_at file place) ≡ true → is_change (length told.contents) (entries_at told place) ≡ true
  formed_there place low formed = (λ i. is_change (sym long_same i) (entries_in (sym (tells.places place low) i))) ∙ formed

  prepared_there : (place : ℕ) → HasPrepared file many_places place → HasPrepared told many_places place
  prepared_there place has = record {
    within = has.within;
    stands = sym (tells.places place has.within) ∙ has.stands ∙ ap (λ (entries : List Entry). Prepared entries) (same_entries many_places many_slots file_token file tells place has.within);
    formed = formed_there place has.within has.formed;
  }

  sealed_there : (place : ℕ) → HasSealed file many_places place → HasSealed told many_places place
  sealed_there place has = record {
    within = has.within;
    stands = sym (tells.places place has.within) ∙ has.stands ∙ ap (λ (entries : List Entry). Sealed entries) (same_entries many_places many_slots file_token file tells place has.within);
    formed = formed_there place has.within has.formed;
  }

  -- past its last place the token tells of no change
  not_past : (other : ℕ) → many_places ≤ other → is_sealed (told.places other) ≡ true → ⊥
  not_past other high sealed = false_true (sym (ap (λ (found : Option PlaceKept). is_sealed (place_if found)) (slice_get_past file_token.places other (omega (arith, high, tells.long)))) ∙ sealed)
    where
      false_true : false ≡ true → ⊥
      false_true e = cc

  apart_there : (place : ℕ) → HasApart file many_places place → HasApart told many_places place
  apart_there place has = record {
    prepared = prepared_there place has.prepared;
    apart = λ other sealed. by_place other sealed (cases_lt other many_places);
  }
    where
      by_place : (other : ℕ) → is_sealed (told.places other) ≡ true → (other < many_places) ⊎ (many_places ≤ other) → share_a_word (entries_at told place) (entries_at told other) ≡ false
      by_place other sealed (inl low) =
          (λ i. share_a_word (entries_in (sym (tells.places place has.prepared.within) i)) (entries_in (sym (tells.places other low) i)))
          ∙ has.apart other (ap is_sealed (tells.places other low) ∙ sealed)
      by_place other sealed (inr high) = absurd (not_past other high sealed)

  takes_there : (place : ℕ) (entries : List Entry) → TakesChange file many_places place entries → TakesChange told many_places place entries
  takes_there place entries takes = record {
    within = takes.within;
    empty = sym (tells.places place takes.within) ∙ takes.empty;
    lowest = λ other less. ap is_empty (sym (tells.places other (let low = takes.within in omega (arith, less, low)))) ∙ takes.lowest other less;
    formed = ap (λ (many : ℕ). is_change many entries) (sym long_same) ∙ takes.formed;
  }

  fit_there : (call : Call) (place : ℕ) (entries : List Entry) → IsFitFor call file many_places place entries → IsFitFor call told many_places place entries
  fit_there PrepareCall place entries fit = takes_there place entries fit
  fit_there SealCall place entries fit = apart_there place fit
  fit_there SettleCall place entries fit = sealed_there place fit
  fit_there CancelCall place entries fit = prepared_there place fit

  start_there : (config : Config) (actor : ActorState) (called : Called) → called.change.slot < many_slots → CanStart config actor called file many_places → CanStart config actor called told many_places
  start_there config actor called low can =
      let tells_it = tells_call many_places many_slots file_token file tells called.call called.change.slot (own_entries actor) low in
      record {
        long = sym long_same ∙ can.long;
        within = subst (λ (place : ℕ). place < many_places) tells_it.place can.within;
        can = sym tells_it.can ∙ can.can;
        fit = subst (λ (place : ℕ). IsFitFor called.call told many_places place (own_entries actor)) tells_it.place
            (fit_there called.call (place_for called.call file many_places called.change.slot) (own_entries actor) can.fit);
      }

-- the token after a call is for the same tenant's file
same_tenant : (call : Call) (file_token : FileToken) (slot place : ℕ) (entries : List Entry) → (file_token_filed call file_token slot place entries).tenant ≡ file_token.tenant
same_tenant PrepareCall file_token slot place entries = refl
same_tenant SealCall file_token slot place entries = refl
same_tenant SettleCall file_token slot place entries = refl
same_tenant CancelCall file_token slot place entries = refl

module _ (config : Config) (state : State) (worker : ℕ) (actor : ActorState) (file_token : FileToken) (same : file_token.tenant ≡ actor.tenant) (has : HasFileToken config state file_token) where
  abbrev tenant_state : TenantState
  tenant_state = state.tenant_states actor.tenant

  its_own : TellsFile tenant_state.quota config.pool file_token tenant_state.file
  its_own = subst (λ (tenant : ℕ). TellsFile (state.tenant_states tenant).quota config.pool file_token (state.tenant_states tenant).file) same has

  -- the token of the file that a call leaves
  left_by : (made : Made) (after : FileToken) → after.tenant ≡ file_token.tenant → TellsFile tenant_state.quota config.pool after made.file → HasFileToken config (moved state worker actor made) after
  left_by made after its tells =
      subst (λ (now : TenantState). TellsFile now.quota config.pool after now.file) (sym (upd_here state.tenant_states actor.tenant after.tenant _ (its ∙ same))) tells

  module _ (called : Called) (low : called.change.slot < config.pool) where
    abbrev place : ℕ
    place = place_for called.call tenant_state.file tenant_state.quota called.change.slot

    tells_it : TellsCall tenant_state.quota called.change.slot called.call (own_entries actor) (file_told file_token) tenant_state.file
    tells_it = tells_call tenant_state.quota config.pool file_token tenant_state.file its_own called.call called.change.slot (own_entries actor) low

    tells_of : TellsOfCall config state actor called file_token
    tells_of = subst (λ (places : ℕ). TellsCall places called.change.slot called.call (own_entries actor) (file_told file_token) tenant_state.file) (sym its_own.long) tells_it

    same_place : place ≡ place_by file_token called
    same_place = tells_it.place ∙ ap (λ (places : ℕ). place_for called.call (file_told file_token) places called.change.slot) (sym its_own.long)

    by_file_token : CanStart config actor called tenant_state.file tenant_state.quota → IsCallByFileToken config state worker actor called file_token
    by_file_token can =
        let slot = called.change.slot in
        let status = state.cells.statuses slot in
        record {
          can = subst (CanStart config actor called (file_told file_token)) (sym its_own.long) (start_there tenant_state.quota config.pool file_token tenant_state.file its_own config actor called low can);
          well = left_by (goes_well state actor called.change tenant_state.file called.call status place) (file_token_after file_token actor called)
              (same_tenant called.call file_token slot (place_by file_token called) (own_entries actor))
              (subst (λ (at : ℕ). TellsFile tenant_state.quota config.pool (file_token_filed called.call file_token slot at (own_entries actor)) (filed called.call tenant_state.file slot place (own_entries actor))) same_place
              (file_tokens_follow_calls tenant_state.quota config.pool slot place called.call (own_entries actor) file_token tenant_state.file its_own can.within));
          fault = left_by (breaks state actor called.change tenant_state.file called.call place) (file_token_after_fault file_token called) refl
              (subst (λ (at : ℕ). TellsFile tenant_state.quota config.pool (file_token_broken file_token (doubt_of called.call (entries_at (file_told file_token) at))) (broken tenant_state.file (doubt_of called.call (entries_at tenant_state.file place))))
              same_place
              (file_tokens_follow_faults tenant_state.quota config.pool place called.call file_token tenant_state.file its_own can.within));
        }

is_low : (n limit : ℕ) → nat_lt n limit ≡ true → n < limit
is_low n limit is = grind (arith, nat_tests, is)

pub file_tokens_tell_of_calls : FileTokensTellOfCalls
file_tokens_tell_of_calls config openings events state worker actor called file_token played at same has =
    let words = calls_have_words config openings events state worker actor called played at in
    tells_of config state worker actor file_token same has called (is_low called.change.slot config.pool words.slot)

pub calls_are_made_by_file_token : CallsAreMadeByFileToken
calls_are_made_by_file_token config openings events state worker actor called file_token played at starts same has fine =
    let words = calls_have_words config openings events state worker actor called played at in
    let low = is_low called.change.slot config.pool words.slot in
    let fails = (tells_of config state worker actor file_token same has called low).fails in
    by_file_token config state worker actor file_token same has called low (calls_can_start config openings events state worker actor called played at starts (fails ∙ fine))
