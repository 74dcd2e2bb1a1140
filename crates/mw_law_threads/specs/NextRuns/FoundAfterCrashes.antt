-- Defines that a start after a crash of running threads finds what the model's stop may have left.
-- Used by: crashes_leave_next_runs (src/next_run_laws.rt).
use Rattle.std.specs.Prelude.{ℕ, ◌≡◌, ◌⊎◌, List}
use mathlib.Core.Option.{some}
use lib.ListN.{get_elem?}
use Rattle.atomic_table.specs.Table.{State as Table}
use Rattle.mw_actor.specs.ActorState.{ActorState}
use Rattle.mw_disk.specs.Facts.{Facts}
use Rattle.mw_world.specs.declared.config.Config.{Config}
use Rattle.mw_world.specs.Definition.Events.{WorldEvent}
use Rattle.mw_world.specs.Definition.State.{TenantStart}
use Rattle.mw_rule.specs.FileCalls.{Calls}
use Rattle.mw_rule.specs.FromLaws.{put_sealed}
use Rattle.mw_rule.specs.Rule.{IsLive, TableInvariant, words_given}
use Rattle.mw_rule.specs.declared.views.View.{View}
use Rattle.mw_core.specs.FileCalls.{found_for, held_as, stake_by}
use Rattle.mw_law_threads.specs.Durable.CrashMoments.{AfterTheEvent, AtRest, BeforeDeviceCalls, BeforeTheEvent, CallOnFile, CrashMoment, InACopy, IsHeld, first_disk, last_disk, stake_at}
use Rattle.mw_law_threads.specs.Durable.Durable.{LeavesChangesOfRun}
use Rattle.mw_law_threads.specs.Durable.Starts.{GivesEither}
use Rattle.mw_law_threads.specs.NextRuns.FoundAfter.{IsFoundAfter}

module _ {D : Type 0} (facts : D → Facts) where
  -- The thread that has the token is that of the call: it carries the call's request for its worker. It has loaded the change's status
  -- for the call, if the call starts from it. So it is when the call makes its device calls.
  pub record IsAtItsCall {s : Table ActorState View} {tenant : ℕ} (call : CallOnFile facts tenant) (held : IsHeld s call.token) : Type 0 where
    pub calls : Calls held.view call.old.worker call.actor call.once.called (held_as call.token held.found)
    pub found : held.found ≡ found_for call.once.end call.old.worker call.once.status

  -- If the crash came in a call that seals a change, from its device calls to its event, its thread has loaded the change's status. A
  -- call that seals none leaves the change in doubt at stake.
  abbrev pub CameAtDeviceCallsOfSeal : {s : Table ActorState View} {tenant : ℕ} → CrashMoment facts s tenant → Type 0
  CameAtDeviceCallsOfSeal (AtRest rest) = Unit {0}
  CameAtDeviceCallsOfSeal (BeforeDeviceCalls call held) = Unit {0}
  CameAtDeviceCallsOfSeal (BeforeTheEvent call held) = (stake_by call.once.end call.once.called call.token ≡ call.token.doubt) ⊎ IsAtItsCall call held
  CameAtDeviceCallsOfSeal (AfterTheEvent call held) = Unit {0}
  CameAtDeviceCallsOfSeal (InACopy rest after read) = Unit {0}

  module _ (config : Config) (begun : (ℕ → TenantStart) → List WorldEvent → Type 0) where
    -- The table is under the rule. A crash came that left whole changes, at rest, in a copy or in a call, also in a seal. A start
    -- gave the tenant what the crash left. Then it found, in the model's words, what a stop of the run's last world may have left.
    abbrev pub CrashesLeaveNextRuns : Type 0
    CrashesLeaveNextRuns = (s : Table ActorState View) (id tenant : ℕ) (view : View) (tied : TableInvariant config begun s) (crash : CrashMoment facts s tenant) (given : TenantStart)
        → get_elem? s.views id ≡ some view → IsLive view → CameAtDeviceCallsOfSeal crash
        → (left : LeavesChangesOfRun facts config begun tied view tenant (stake_at facts crash) (first_disk facts crash) (last_disk facts crash))
        → GivesEither (put_sealed (words_given view tenant) left.0.sealed) (stake_at facts crash) given
        → IsFoundAfter config tied.state tenant given.words
