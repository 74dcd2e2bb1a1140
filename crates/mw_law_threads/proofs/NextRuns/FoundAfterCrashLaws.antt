-- What a start finds after a crash of running threads is what the model's stop may have left. A crash in a seal is a stop in
-- that seal.
-- Used by: crashes_leave_next_runs.
use Rattle.std.specs.Prelude.{ℕ, ◌≡◌, ◌<◌, ◌⊎◌, ◌++◌, true, false, length, List, Option, Some, None}
use Rattle.std.proofs.Common.{refl, sym, ap, subst, ◌∙◌, inl, inr}
use Rattle.atomic_table.specs.Table.{State as Table}
use mathlib.Core.Option.{some}
use lib.ListN.{get_elem?}
use Rattle.mw_words.specs.Change.{put}
use Rattle.mw_look.specs.declared.steps.Call.{Call}
use Rattle.mw_look.specs.declared.steps.Call.TheVariants.{Prepare as PrepareCall, Seal as SealCall, Settle as SettleCall, Cancel as CancelCall}
use Rattle.mw_actor.specs.ActorState.{ActorState}
use Rattle.mw_disk.specs.Facts.{Facts}
use Rattle.mw_world.specs.Files.Calls.{place_for}
use Rattle.mw_world.specs.Files.Crashes.{at_stake}
use Rattle.mw_world.specs.Files.State.{File, entries_at}
use Rattle.mw_world.specs.declared.config.Config.{Config}
use Rattle.mw_world.specs.declared.events.Interrupted.{Interrupted}
use Rattle.mw_world.specs.Definition.Calls.{Called as CallOn, fails_on}
use Rattle.mw_world.specs.Definition.Events.{WorldEvent}
use Rattle.mw_world.specs.Definition.Restarts.{doubt_then, may_interrupt, under_way}
use Rattle.mw_world.specs.Definition.State.{TenantStart, tenants_of}
use Rattle.mw_rule.specs.Calls.FileTokens.{file_told}
use Rattle.mw_rule.specs.FromLaws.{put_sealed, sealed_of}
use Rattle.mw_rule.specs.Rule.{HoldsFile, IsLive, TableInvariant, words_given}
use Rattle.mw_rule.specs.declared.views.View.{View}
use Rattle.mw_core.specs.FileCalls.{found_for, held_as, stake_by}
use Rattle.mw_table.specs.FromRule.{End, FindsFault, GoesWell, MayEnd, MeetsFault, Skips}
use Rattle.mw_law_threads.proofs.Durable.DurableLaws.{contents_by, held_at, its_tenant, of_view, so}
use Rattle.mw_law_threads.proofs.History.OneHistoryLaws.{fits_live}
use Rattle.mw_law_threads.proofs.NextRuns.SealCrashes.{in_doubt, may_be_cut_off, same_entries}
use Rattle.mw_law_threads.specs.Durable.CrashMoments.{AfterTheEvent, AtRest, BeforeDeviceCalls, BeforeTheEvent, CallOnFile, CrashMoment, InACopy, IsHeld, first_disk, last_disk, stake_at, token_at}
use Rattle.mw_law_threads.specs.Durable.Durable.{LeavesChangesOfRun}
use Rattle.mw_law_threads.specs.Durable.Starts.{GivesEither}
use Rattle.mw_law_threads.specs.NextRuns.FoundAfterCrashes.{CrashesLeaveNextRuns, IsAtItsCall}
use Rattle.mw_law_threads.specs.NextRuns.FoundAfter.{IsFoundAfter}

module _ {D : Type 0} (facts : D → Facts) (config : Config) (begun : (ℕ → TenantStart) → List WorldEvent → Type 0) (s : Table ActorState View) (id tenant : ℕ) (view : View) (tied : TableInvariant config begun s)
    (crash : CrashMoment facts s tenant) (given : TenantStart) (at : get_elem? s.views id ≡ some view) (live : IsLive view)
    (left : LeavesChangesOfRun facts config begun tied view tenant (stake_at facts crash) (first_disk facts crash) (last_disk facts crash))
    (gives : GivesEither (put_sealed (words_given view tenant) left.0.sealed) (stake_at facts crash) given) where
  holds : HoldsFile config tied.state (held_as (token_at facts crash) (held_at facts crash).found)
  holds = so facts config begun s id view tied at live (token_at facts crash) (held_at facts crash)

  low : tenant < tenants_of config
  low = subst (λ (n : ℕ). n < tenants_of config) (its_tenant facts crash) holds.there

  sealed : sealed_of tied.past.openings tied.state tenant ≡ left.0.sealed
  sealed = sym (λ i. sealed_of (left.1.0 i) (left.1.3 i) tenant) ∙ left.0.are.are

  contents : (tied.state.tenant_states tenant).file.contents ≡ put_sealed (words_given view tenant) left.0.sealed
  contents = contents_by config tied.past.openings tied.past.before tied.events tied.state view tenant tied.past.played (tied.known id view at).known
      (of_view facts config begun s id view tied at live (token_at facts crash) (held_at facts crash)) low
      ∙ ap (put_sealed (words_given view tenant)) sealed

  -- with a stop that leaves in doubt what was at stake
  after : (interrupted : Option Interrupted) → may_interrupt config tied.state tenant interrupted ≡ true
      → stake_at facts crash ≡ doubt_then (tied.state.tenant_states tenant).file (under_way config tied.state interrupted) → IsFoundAfter config tied.state tenant given.words
  after interrupted may stake = record { interrupted = interrupted; may = may; found = found gives.words_are }
    where
      found : (given.words ≡ put_sealed (words_given view tenant) left.0.sealed) ⊎ (given.words ≡ put (put_sealed (words_given view tenant) left.0.sealed) (stake_at facts crash))
          → (given.words ≡ (tied.state.tenant_states tenant).file.contents)
          ⊎ (given.words ≡ put (tied.state.tenant_states tenant).file.contents (doubt_then (tied.state.tenant_states tenant).file (under_way config tied.state interrupted)))
      found (inl before) = inl (before ∙ sym contents)
      found (inr put_over) = inr (put_over ∙ ap (λ (words : List ℕ). put words (stake_at facts crash)) (sym contents) ∙ ap (put (tied.state.tenant_states tenant).file.contents) stake)

  -- with the change in doubt at stake
  quiet : stake_at facts crash ≡ (token_at facts crash).doubt → IsFoundAfter config tied.state tenant given.words
  quiet same = after None refl (same ∙ (sym holds.tells.doubt ∙ ap (λ (n : ℕ). (tied.state.tenant_states n).file.doubt) (its_tenant facts crash)))

-- In a call, by its end.
module _ {D : Type 0} (facts : D → Facts) (config : Config) (begun : (ℕ → TenantStart) → List WorldEvent → Type 0) (s : Table ActorState View) (id tenant : ℕ) (view : View) (tied : TableInvariant config begun s)
    (call : CallOnFile facts tenant) (held : IsHeld s call.token) (given : TenantStart) (at : get_elem? s.views id ≡ some view) (live : IsLive view) (within : (stake_by call.once.end call.once.called call.token ≡ call.token.doubt) ⊎ IsAtItsCall facts call held)
    (left : LeavesChangesOfRun facts config begun tied view tenant (stake_at facts (BeforeTheEvent call held)) (first_disk facts (BeforeTheEvent call held)) (last_disk facts (BeforeTheEvent call held)))
    (gives : GivesEither (put_sealed (words_given view tenant) left.0.sealed) (stake_at facts (BeforeTheEvent call held)) given) where
  abbrev called : CallOn
  called = call.once.called

  abbrev told : File
  told = file_told call.token

  abbrev worker : ℕ
  worker = call.old.worker

  abbrev Found : Type 0
  Found = IsFoundAfter config tied.state tenant given.words

  quiet_so : stake_by call.once.end called call.token ≡ call.token.doubt → Found
  quiet_so = quiet facts config begun s id tenant view tied (BeforeTheEvent call held) given at live left gives

  -- what the call would seal is at stake
  at_work : IsAtItsCall facts call held → stake_by call.once.end called call.token ≡ at_stake called.call told (place_for called.call told (length call.token.places) called.change.slot)
      → held.found ≡ Some (record { worker = worker; status = call.once.status }) → fails_on called.call told ≡ false → Found
  at_work at_call stake found sound = by_call called.call refl
    where
      by_call : (one : Call) → called.call ≡ one → Found
      by_call PrepareCall is = quiet_so (stake ∙ ap (λ (it : Call). at_stake it told (place_for it told (length call.token.places) called.change.slot)) is)
      by_call SettleCall is = quiet_so (stake ∙ ap (λ (it : Call). at_stake it told (place_for it told (length call.token.places) called.change.slot)) is)
      by_call CancelCall is = quiet_so (stake ∙ ap (λ (it : Call). at_stake it told (place_for it told (length call.token.places) called.change.slot)) is)
      by_call SealCall is =
          let openings = tied.past.openings in
          let all = tied.past.before ++ tied.events in
          let state = tied.state in
          let its = held_as call.token held.found in
          let tokens = (fits_live config begun s tied held.id held.view held.at held.live).token in
          let holds_it = so facts config begun s id view tied at live call.token held in
          let quota = (state.tenant_states call.actor.tenant).quota in
          let may = may_be_cut_off config openings tied.events all state tied.past.played held.view worker call.actor called its at_call.calls tokens holds_it call.once.status found sound is in
          let doubt = in_doubt config openings tied.events all state tied.past.played held.view worker call.actor called its at_call.calls tokens holds_it call.once.status found sound is in
          let entries = same_entries config openings tied.events all state tied.past.played held.view worker call.actor called its at_call.calls tokens holds_it call.once.status found sound in
          let cut : Interrupted = record { worker = worker; made = 1 } in
          let seals = stake ∙ ap (λ (it : Call). at_stake it told (place_for it told (length call.token.places) called.change.slot)) is
          ∙ sym (ap (λ (it : Call). entries_at told (place_for it told quota called.change.slot)) is) ∙ sym entries ∙ sym doubt in
          after facts config begun s id tenant view tied (BeforeTheEvent call held) given at live left gives (Some cut)
          (subst (λ (n : ℕ). may_interrupt config state n (Some cut) ≡ true) call.its may)
          (subst (λ (n : ℕ). stake_by call.once.end called call.token ≡ doubt_then (state.tenant_states n).file (under_way config state (Some cut))) call.its seals)

  at_its_call : IsAtItsCall facts call held → Found
  at_its_call at_call = by_end call.once.end refl call.once.may at_call.found
    where
      by_end : (end : End) → call.once.end ≡ end → MayEnd end called call.once.status call.token → held.found ≡ found_for end worker call.once.status → Found
      by_end Skips is may found = quiet_so (ap (λ (it : End). stake_by it called call.token) is)
      by_end GoesWell is may found = at_work at_call (ap (λ (it : End). stake_by it called call.token) is) found may.1
      by_end (MeetsFault number) is may found = at_work at_call (ap (λ (it : End). stake_by it called call.token) is) found may.1
      by_end FindsFault is may found = quiet_so (ap (λ (it : End). stake_by it called call.token) is)

  in_call : Found
  in_call = elim within [ inl same ↦ quiet_so same | inr at_call ↦ at_its_call at_call ]

pub crashes_leave_next_runs : {D : Type 0} (facts : D → Facts) (config : Config) (begun : (ℕ → TenantStart) → List WorldEvent → Type 0) → CrashesLeaveNextRuns facts config begun
crashes_leave_next_runs facts config begun s id tenant view tied (AtRest rest) given at live within left gives = quiet facts config begun s id tenant view tied (AtRest rest) given at live left gives refl
crashes_leave_next_runs facts config begun s id tenant view tied (BeforeDeviceCalls call held) given at live within left gives =
    quiet facts config begun s id tenant view tied (BeforeDeviceCalls call held) given at live left gives refl
crashes_leave_next_runs facts config begun s id tenant view tied (BeforeTheEvent call held) given at live within left gives = in_call facts config begun s id tenant view tied call held given at live within left gives
crashes_leave_next_runs facts config begun s id tenant view tied (AfterTheEvent call held) given at live within left gives =
    quiet facts config begun s id tenant view tied (AfterTheEvent call held) given at live left gives refl
crashes_leave_next_runs facts config begun s id tenant view tied (InACopy rest after read) given at live within left gives =
    quiet facts config begun s id tenant view tied (InACopy rest after read) given at live left gives refl
