-- If one device call of a file call may fail after a run, so may any other device call of that file call.
-- Used by: moves_are_of_the_run, mw_table.
use Rattle.std.specs.Prelude.{ℕ, ◌≡◌, ◌<◌, true, false, List, [], ◌∷◌, ◌++◌, Some}
use Rattle.std.specs.Option.{option_and_then}
use Rattle.std.proofs.Common.{sym, ap, subst, ◌∙◌, append_assoc, arith}
use Rattle.std.proofs.lemmas.Bool.Decides.{nat_tests}
use Rattle.std.proofs.lemmas.Option.{same_Some}
use Rattle.mw_words.specs.declared.statuses.Status.{Status}
use Rattle.mw_actor.specs.ActorState.{ActorState, own_entries}
use Rattle.mw_world.specs.declared.outcomes.Outcome.TheVariants.{Fail}
use Rattle.mw_world.specs.Files.State.{File, entries_at}
use Rattle.mw_world.specs.declared.config.Config.{Config}
use Rattle.mw_world.specs.Definition.Calls.{Called, breaks, called_at, device_calls, is_made, place_for, starts_from}
use Rattle.mw_world.specs.Definition.Events.{WorldEvent, File as FileEvent}
use Rattle.mw_world.specs.Definition.State.{State, tenants_of, world_at}
use Rattle.mw_world.specs.Definition.Turns.{moved}
use Rattle.mw_world.specs.Definition.World.{run, step}
use Rattle.mw_world.proofs.RunsExtend.{run-extends}
use Rattle.mw_rule.specs.Calls.FileTokens.{TellsCall, TellsFile, file_told}
use Rattle.mw_rule.specs.Calls.CallStarts.{CanStart, HasWords, IsAtCall}
use Rattle.mw_rule.proofs.Calls.CallEndLaws.{calls_meet_faults}
use Rattle.mw_rule.proofs.Calls.CallStartLaws.{calls_can_start, calls_have_words}
use Rattle.mw_rule.proofs.Calls.TokensTellCalls.{file_tokens_tell_calls}
use Rattle.mw_rule.specs.declared.views.Finished.{Finished}
use Rattle.mw_rule.specs.declared.views.HeldFile.{HeldFile}
use Rattle.mw_rule.specs.declared.views.WorkerToken.{WorkerToken}
use Rattle.mw_rule.specs.declared.views.View.{View}
use Rattle.mw_rule.specs.KnownRuns.{given_to}
use Rattle.mw_rule.specs.FileCalls.{Calls, fails, place_held, places_held}
use Rattle.mw_rule.specs.WordActions.{WentOn}
use Rattle.mw_rule.specs.Rule.{Each, Fits, Holds, HoldsFile, IsHandedOut, Waits, WaitsIf, events_of_worker}
use Rattle.mw_rule.proofs.HandedReplies.{handed_however}
use Rattle.mw_rule.proofs.KnownRunLaws.{plain_fails}
use Rattle.mw_rule.proofs.WorkerStretches.{made_on}
use Rattle.mw_rule.proofs.Totals.{each_on}

module _ (old new : View) (worker : ℕ) (actor : ActorState) (called : Called) (held : HeldFile) (by : Calls old worker actor called held) (status : Status)
    (found : held.found ≡ Some (record { worker = worker; status = status })) (sound : fails old called held ≡ false) (one : ℕ) (went : WentOn (FileEvent worker (Fail one) ∷ []) old new) where
  abbrev config : Config
  config = old.config

  abbrev state : State
  state = went.state

  abbrev all : List WorldEvent
  all = went.before ++ went.events

  abbrev slot : ℕ
  slot = called.change.slot

  abbrev quota : ℕ
  quota = (state.tenant_states actor.tenant).quota

  abbrev file : File
  file = (state.tenant_states actor.tenant).file

  abbrev place : ℕ
  place = place_for called.call file quota slot

  -- what the thread knew was true
  holds : Holds config went.openings state went.events by.token
  holds = (subst (Each (Holds config went.openings state went.events)) by.has.only went.knew.token).0

  at_call : IsAtCall state worker actor called
  at_call = record { sits = ap (λ (n : ℕ). (state.worker_states n).actor) (sym by.has.own) ∙ (holds.actor ∙ by.carries); comes_to = by.comes_to }

  words : HasWords config actor called
  words = calls_have_words config went.openings all state worker actor called went.played at_call

  held_file : HoldsFile config state held
  held_file = (subst (Each (HoldsFile config state)) by.only went.knew.files).0

  tells : TellsFile quota config.pool held.file file
  tells = subst (λ (tenant : ℕ). TellsFile (state.tenant_states tenant).quota config.pool held.file (state.tenant_states tenant).file) by.its held_file.tells

  same_quota : quota ≡ places_held old called held
  same_quota = ap (λ (tenant : ℕ). (state.tenant_states tenant).quota) (sym by.its) ∙ (went.knew.gave held.file.tenant held_file.there).quota

  low_slot : slot < config.pool
  low_slot = let is = words.slot in grind (arith, nat_tests, is)

  telling : TellsCall quota slot called.call (own_entries actor) (file_told held.file) file
  telling = file_tokens_tell_calls quota config.pool slot called.call (own_entries actor) held.file file tells low_slot

  same_place : place ≡ place_held old called held
  same_place = telling.place ∙ ap (λ (places : ℕ). place_for called.call (file_told held.file) places slot) same_quota

  waits : Waits state held.file.tenant (record { worker = worker; status = status })
  waits = subst (WaitsIf state held.file.tenant) found held_file.waits

  same_actor : waits.actor ≡ actor
  same_actor = same_Some waits.actor actor (sym waits.at_call.sits ∙ at_call.sits)

  same_call : waits.called ≡ called
  same_call = same_Some waits.called called (sym waits.at_call.comes_to ∙ ap (λ (other : ActorState). called_at other.point) same_actor ∙ by.comes_to)

  starts : starts_from called.call (state.cells.statuses slot) ≡ true
  starts =
      ap (λ (other : Called). starts_from other.call (state.cells.statuses other.change.slot)) (sym same_call)
      ∙ (ap (starts_from waits.called.call) waits.is ∙ waits.starts)

  start : CanStart config actor called file quota
  start = calls_can_start config went.openings all state worker actor called went.played at_call starts (telling.fails ∙ sound)

  -- whichever device call fails, the world after it is the same
  fails_so : (number : ℕ) → is_made (device_calls called.call (entries_at (file_told held.file) (place_held old called held))) number ≡ true
      → step config state (FileEvent worker (Fail number)) ≡ Some (moved state worker actor (breaks state actor called.change file called.call place))
  fails_so number is =
      let known : is_made (device_calls called.call (entries_at file place)) number ≡ true =
      ap (λ (calls : ℕ). is_made calls number) (telling.calls start.within ∙ ap (λ (there : ℕ). device_calls called.call (entries_at (file_told held.file) there)) (sym telling.place ∙ same_place)) ∙ is in
      (calls_meet_faults config went.openings all state worker actor called number went.played at_call starts (telling.fails ∙ sound) known).happens

  runs_so : (other : ℕ) → step config state (FileEvent worker (Fail other)) ≡ step config state (FileEvent worker (Fail one))
      → run config (world_at config went.openings) (went.before ++ (went.events ++ FileEvent worker (Fail other) ∷ [])) ≡ Some went.next
  runs_so other same =
      let first = world_at config went.openings in
      let on : (number : ℕ) → run config first (went.before ++ (went.events ++ FileEvent worker (Fail number) ∷ [])) ≡ step config state (FileEvent worker (Fail number)) =
      λ number.
      ap (run config first) (sym (append_assoc went.before went.events (FileEvent worker (Fail number) ∷ [])))
      ∙ (run-extends config first all (FileEvent worker (Fail number)) ∙ ap (option_and_then (λ after. step config after (FileEvent worker (Fail number)))) went.played.runs) in
      on other ∙ (same ∙ (sym (on one) ∙ went.goes_on.runs))

  made_so : (other its : ℕ) → events_of_worker its (went.events ++ FileEvent worker (Fail other) ∷ []) ≡ events_of_worker its (went.events ++ FileEvent worker (Fail one) ∷ [])
  made_so other its = made_on its went.events (FileEvent worker (Fail other) ∷ []) ∙ sym (made_on its went.events (FileEvent worker (Fail one) ∷ []))

  holds_so : (other : ℕ) (token : WorkerToken) → Holds config went.openings went.next (went.events ++ FileEvent worker (Fail one) ∷ []) token
      → Holds config went.openings went.next (went.events ++ FileEvent worker (Fail other) ∷ []) token
  holds_so other token so = record {
    there = so.there;
    actor = so.actor;
    attempt = so.attempt;
    request = so.request;
    made = made_so other token.worker ∙ so.made;
    begun = so.begun;
    evidence = so.evidence;
  }

  handed_so : (other : ℕ) (its : Finished) → IsHandedOut config (world_at config went.openings) (went.before ++ (went.events ++ FileEvent worker (Fail one) ∷ [])) its
      → IsHandedOut config (world_at config went.openings) (went.before ++ (went.events ++ FileEvent worker (Fail other) ∷ [])) its
  handed_so other its handed =
      subst (λ (events : List WorldEvent). IsHandedOut config (world_at config went.openings) events its) (append_assoc went.before went.events (FileEvent worker (Fail other) ∷ []))
      (handed_however config (world_at config went.openings) state all worker (Fail one) (Fail other) its went.played.runs
      (subst (λ (events : List WorldEvent). IsHandedOut config (world_at config went.openings) events its) (sym (append_assoc went.before went.events (FileEvent worker (Fail one) ∷ []))) handed))

  knows_so : (other : ℕ) → Fits config went.openings went.next (went.events ++ FileEvent worker (Fail other) ∷ []) new
  knows_so other = record {
    same_config = went.knows.same_config;
    gave = went.knows.gave;
    token =
        each_on (Holds config went.openings went.next (went.events ++ FileEvent worker (Fail one) ∷ [])) (Holds config went.openings went.next (went.events ++ FileEvent worker (Fail other) ∷ []))
        (holds_so other) new.tokens went.knows.token;
    seen = went.knows.seen;
    told = went.knows.told;
    right = went.knows.right;
    over = went.knows.over;
    files = went.knows.files;
  }

  pub any_number : (other : ℕ) → is_made (device_calls called.call (entries_at (file_told held.file) (place_held old called held))) one ≡ true
      → is_made (device_calls called.call (entries_at (file_told held.file) (place_held old called held))) other ≡ true → WentOn (FileEvent worker (Fail other) ∷ []) old new
  any_number other is_one is_other = record {
    openings = went.openings;
    before = went.before;
    events = went.events;
    state = state;
    next = went.next;
    played = went.played;
    goes_on = record { made = went.goes_on.made; starts = went.goes_on.starts; runs = runs_so other (fails_so other is_other ∙ sym (fails_so one is_one)) };
    no_starts = went.no_starts;
    follows = went.follows;
    known_run = went.known_run ∙ ap (λ (events : List WorldEvent). Some (record { openings = given_to went.openings (tenants_of config); before = went.before; events = events })) (plain_fails went.events worker one other);
    knew = went.knew;
    knows = knows_so other;
    handed = each_on (IsHandedOut config (world_at config went.openings) (went.before ++ (went.events ++ FileEvent worker (Fail one) ∷ [])))
        (IsHandedOut config (world_at config went.openings) (went.before ++ (went.events ++ FileEvent worker (Fail other) ∷ []))) (handed_so other) new.mine went.handed;
  }
