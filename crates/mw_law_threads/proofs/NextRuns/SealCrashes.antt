-- A call that seals a change is cut off: the model's stop may cut it off there, and what is in doubt then is the change that
-- the call seals. Used by: FoundAfterCrashLaws.
use Rattle.std.specs.Prelude.{ℕ, ◌≡◌, ◌<◌, ◌&&◌, ◌==◌, if◌then◌else◌, not, nat_le, Bool, true, false, List, Some}
use Rattle.std.specs.Option.{option_map}
use Rattle.std.proofs.Common.{sym, ap, subst, ◌∙◌, arith}
use Rattle.std.proofs.lemmas.Bool.Decides.{nat_tests}
use Rattle.std.proofs.lemmas.Option.{same_Some}
use Rattle.mw_words.specs.declared.statuses.Status.{Status}
use Rattle.mw_look.specs.declared.steps.Call.{Call}
use Rattle.mw_look.specs.declared.steps.Call.TheVariants.{Seal as SealCall}
use Rattle.mw_actor.specs.ActorState.{ActorState, own_entries}
use Rattle.mw_world.specs.Files.State.{File, entries_at}
use Rattle.mw_world.specs.declared.config.Config.{Config}
use Rattle.mw_world.specs.declared.events.Interrupted.{Interrupted}
use Rattle.mw_world.specs.Claim.Headline.{IsExecution}
use Rattle.mw_world.specs.Definition.Calls.{Called as CallOn, called_at, calls_made, can_be_made, fails_on, place_for, starts_from}
use Rattle.mw_world.specs.Definition.Events.{WorldEvent}
use Rattle.mw_world.specs.Definition.Extent.{has_slot}
use Rattle.mw_world.specs.Definition.Restarts.{call_of, doubt_if, doubt_then, may_be_cut, may_interrupt, stopped_at, stopped_call, under_way}
use Rattle.mw_world.specs.Definition.State.{State, TenantStart}
use Rattle.mw_rule.specs.Calls.CallStarts.{CanStart, HasWords, IsAtCall}
use Rattle.mw_rule.specs.Calls.FileTokens.{TellsCall, TellsFile, file_told}
use Rattle.mw_rule.specs.FileCalls.{Calls}
use Rattle.mw_rule.specs.Rule.{Each, Holds, HoldsFile, Waits, WaitsIf}
use Rattle.mw_rule.specs.declared.views.HeldFile.{HeldFile}
use Rattle.mw_rule.specs.declared.views.View.{View}
use Rattle.mw_rule.proofs.Calls.CallStartLaws.{calls_can_start, calls_have_words}
use Rattle.mw_rule.proofs.Calls.TokensTellCalls.{file_tokens_tell_calls}

-- a number is itself
same_number : (n : ℕ) → (n == n) ≡ true
same_number n = grind (arith, nat_tests)

-- The thread of a call has its request, its file, and the status from which the call starts; all of it is so in this world.
module _ (config : Config) (openings : ℕ → TenantStart) (events all : List WorldEvent) (state : State) (played : IsExecution config openings all state)
    (view : View) (worker : ℕ) (actor : ActorState) (called : CallOn) (held : HeldFile) (by : Calls view worker actor called held) (tokens : Each (Holds config openings state events) view.tokens) (so : HoldsFile config state held)
    (status : Status) (found : held.found ≡ Some (record { worker = worker; status = status })) (sound : fails_on called.call (file_told held.file) ≡ false) where
  abbrev slot : ℕ
  slot = called.change.slot

  abbrev quota : ℕ
  quota = (state.tenant_states actor.tenant).quota

  abbrev file : File
  file = (state.tenant_states actor.tenant).file

  abbrev place : ℕ
  place = place_for called.call file quota slot

  holds : Holds config openings state events by.token
  holds = (subst (Each (Holds config openings state events)) by.has.only tokens).0

  sits : (state.worker_states worker).actor ≡ Some actor
  sits = ap (λ (n : ℕ). (state.worker_states n).actor) (sym by.has.own) ∙ (holds.actor ∙ by.carries)

  at_call : IsAtCall state worker actor called
  at_call = record { sits = sits; comes_to = by.comes_to }

  words : HasWords config actor called
  words = calls_have_words config openings all state worker actor called played at_call

  tells : TellsFile quota config.pool held.file file
  tells = subst (λ (tenant : ℕ). TellsFile (state.tenant_states tenant).quota config.pool held.file (state.tenant_states tenant).file) by.its so.tells

  low_slot : slot < config.pool
  low_slot = let is = words.slot in grind (arith, nat_tests, is)

  telling : TellsCall quota slot called.call (own_entries actor) (file_told held.file) file
  telling = file_tokens_tell_calls quota config.pool slot called.call (own_entries actor) held.file file tells low_slot

  waits : Waits state held.file.tenant (record { worker = worker; status = status })
  waits = subst (WaitsIf state held.file.tenant) found so.waits

  same_actor : waits.actor ≡ actor
  same_actor = same_Some waits.actor actor (sym waits.at_call.sits ∙ sits)

  same_call : waits.called ≡ called
  same_call = same_Some waits.called called (sym waits.at_call.comes_to ∙ ap (λ (other : ActorState). called_at other.point) same_actor ∙ by.comes_to)

  starts : starts_from called.call (state.cells.statuses slot) ≡ true
  starts =
      ap (λ (other : CallOn). starts_from other.call (state.cells.statuses other.change.slot)) (sym same_call)
      ∙ (ap (starts_from waits.called.call) waits.is ∙ waits.starts)

  fails_not : fails_on called.call file ≡ false
  fails_not = telling.fails ∙ sound

  start : CanStart config actor called file quota
  start = calls_can_start config openings all state worker actor called played at_call starts fails_not

  -- the stop after the call's first device call
  abbrev cut : Interrupted
  cut = record { worker = worker; made = 1 }

  stopped : call_of config state cut ≡ Some (stopped_call config state actor 1 called)
  stopped = ap (stopped_at config state 1) sits ∙ ap (option_map (stopped_call config state actor 1)) by.comes_to

  -- what the call seals is the change in its place, as the file's token tells it
  pub same_entries : entries_at file place ≡ entries_at (file_told held.file) (place_for called.call (file_told held.file) quota slot)
  same_entries = telling.entries_there start.within

  module _ (seals : called.call ≡ SealCall) where
    by_tests : (slots can starts_so fails : Bool) → slots ≡ true → can ≡ true → starts_so ≡ true → fails ≡ false → nat_le 1 (if slots && can then (if starts_so && not fails then 2 else 0) else 0) ≡ true
    by_tests slots can starts_so fails there may is none = λ i. nat_le 1 (if there i && may i then (if is i && not (none i) then 2 else 0) else 0)

    two : nat_le 1 (if has_slot config slot && can_be_made called.call file quota place (own_entries actor) then calls_made SealCall (state.cells.statuses slot) file place else 0) ≡ true
    two = by_tests (has_slot config slot) (can_be_made called.call file quota place (own_entries actor)) (starts_from SealCall (state.cells.statuses slot)) (fails_on SealCall file)
        words.slot start.can (ap (λ (one : Call). starts_from one (state.cells.statuses slot)) (sym seals) ∙ starts) (ap (λ (one : Call). fails_on one file) (sym seals) ∙ fails_not)

    enough : nat_le 1 (stopped_call config state actor 1 called).calls ≡ true
    enough = ap (λ (one : Call). nat_le 1 (if has_slot config slot && can_be_made called.call file quota place (own_entries actor) then calls_made one (state.cells.statuses slot) file place else 0)) seals ∙ two

    pub may_be_cut_off : may_interrupt config state actor.tenant (Some cut) ≡ true
    may_be_cut_off =
        ap (may_be_cut actor.tenant) stopped
        ∙ (ap (λ (same : Bool). same && nat_le 1 (stopped_call config state actor 1 called).calls) (same_number actor.tenant) ∙ enough)

    pub in_doubt : doubt_then file (under_way config state (Some cut)) ≡ entries_at file place
    in_doubt = ap (doubt_then file) stopped ∙ ap (λ (one : Call). doubt_if one file.doubt 1 (entries_at file place)) seals
