-- Defines what the table's calls on tenants' files require of a pass, and what the pass learns from them.
-- Used by: src/file_call_steps.rt, src/file_calls.rt, src/meet.rt, mw_core.
use Rattle.std.specs.Prelude.{ℕ, ◌≡◌, ◌<◌, true, false, cond, List, [], ◌∷◌, ◌++◌, Option, Some}
use Rattle.mw_words.specs.declared.statuses.Status.{Status}
use Rattle.mw_words.specs.Patterns.{IsStatusInRange, unpacked_status}
use Rattle.mw_look.specs.declared.steps.Call.{Call}
use Rattle.mw_actor.specs.ActorState.{ActorState}
use Rattle.mw_world.specs.declared.outcomes.Outcome.TheVariants.{Good, Fail}
use Rattle.mw_world.specs.Files.State.{entries_at}
use Rattle.mw_world.specs.declared.config.Config.{Config}
use Rattle.mw_world.specs.Claim.Headline.{IsExecution}
use Rattle.mw_world.specs.Definition.Calls.{Called, device_calls, is_made}
use Rattle.mw_world.specs.Definition.Events.{WorldEvent, File as FileEvent}
use Rattle.mw_world.specs.Definition.State.{State, TenantStart, tenants_of}
use Rattle.mw_rule.specs.KnownRuns.{KnownRun, ExtendsKnownRun, known_run_of}
use Rattle.mw_rule.specs.Calls.CallStarts.{HasWords}
use Rattle.mw_rule.specs.Calls.FileTokens.{file_told, TellsFile}
use Rattle.mw_rule.specs.declared.file_token.FileToken.{FileToken}
use Rattle.mw_rule.specs.Prefixes.{Gave, opening_at}
use Rattle.mw_rule.specs.declared.views.HeldFile.{HeldFile}
use Rattle.mw_rule.specs.declared.views.View.{View}
use Rattle.mw_rule.specs.RunEvents.{events_loaded, starts_by}
use Rattle.mw_rule.specs.WordActions.{WentOn}
use Rattle.mw_rule.specs.FileCalls.{Calls, Loaded, LearnsFileCall, broken_so, fails, filed_so, place_held}
use Rattle.mw_table.specs.declared.file_pass.FilePass.{FilePass}
use Rattle.mw_table.specs.declared.shared.Pass.{Pass}
use Rattle.mw_table.specs.declared.shared.Shared.{Shared}
use Rattle.mw_table.specs.HeldFiles.{file_among}
use Rattle.mw_table.specs.Origins.{config_of, openings_of}

-- The file pass is one of this table, and knows what its world is made of and what the latest start gave.
pub record IsFilePassOf (shared : Shared) (file_pass : FilePass) : Type 0 where
  pub table : file_pass.seat.table_id ≡ shared.table.shared.table_id
  pub config : file_pass.seat.me.0.config ≡ config_of shared.table.shared.key
  pub openings : file_pass.seat.me.0.openings ≡ openings_of shared.table.shared.key

-- what is known of the file by whoever has its pass
abbrev pub file_kept : FilePass → FileToken
file_kept file_pass = file_among file_pass.seat.me.0.files

-- What is known of a tenant's file is true in a world of this configuration, after some run. That run's latest start
-- gave the tenants this, and the run extends the one that was known, if one was.
pub record IsSoOfWorld (config : Config) (given : List TenantStart) (known : Option KnownRun) (tenant : ℕ) (file_passes : FileToken) : Type 0 where
  pub openings : ℕ → TenantStart
  pub before : List WorldEvent
  pub events : List WorldEvent
  pub state : State
  pub played : IsExecution config openings (before ++ events) state
  pub goes_on : ExtendsKnownRun known (Some (known_run_of config openings before events))
  pub gave : (tenant : ℕ) → tenant < tenants_of config → Gave openings state tenant (opening_at given tenant)
  pub there : tenant < tenants_of config
  pub tells : TellsFile (state.tenant_states tenant).quota config.pool file_passes (state.tenant_states tenant).file

-- The pass has no file. That is so at all times but during a call on one.
abbrev pub IsFree : Pass → Type 0
IsFree pass = pass.seat.me.0.files ≡ []

-- The pass carries a request that is at a call on its tenant's file, and it has that file and no other. The words
-- that the call's end may use are in the table.
pub record IsAtFile (pass : Pass) : Type 0 where
  pub actor : ActorState
  pub called : Called
  pub held : HeldFile
  pub calls : Calls pass.seat.me.0 pass.worker actor called held
  pub words : HasWords pass.seat.me.0.config actor called

-- The call is for the change of this slot.
pub record MayFind (pass : Pass) (slot : ℕ) : Type 0 where
  pub at_file : IsAtFile pass
  pub is_slot : at_file.called.change.slot ≡ slot

-- The call is this one, for the change of this slot. This status was found for it, and it doesn't fail on the file:
-- the file hasn't failed, or the call makes no device call.
pub record MayExchange (pass : Pass) (call : Call) (slot : ℕ) (status : Status) : Type 0 where
  pub at_file : IsAtFile pass
  pub is_call : at_file.called.call ≡ call
  pub is_slot : at_file.called.change.slot ≡ slot
  pub found : at_file.held.found ≡ Some (record { worker = pass.worker; status = status })
  pub sound : fails pass.seat.me.0 at_file.called at_file.held ≡ false
  pub in_range : IsStatusInRange status

-- The call is on this tenant's file, and it started. Either it fails because the file had failed before; or it makes
-- device calls, and the caller says that one of them failed.
pub record MayFault (pass : Pass) (tenant : ℕ) : Type 0 where
  pub at_file : IsAtFile pass
  pub is_tenant : at_file.actor.tenant ≡ tenant
  pub status : Status
  pub found : at_file.held.found ≡ Some (record { worker = pass.worker; status = status })
  pub failed : fails pass.seat.me.0 at_file.called at_file.held ≡ false → (number : ℕ)
      × (is_made (device_calls at_file.called.call (entries_at (file_told at_file.held.file) (place_held pass.seat.me.0 at_file.called at_file.held))) number ≡ true)

-- what is known of a file after a call on it that failed; if the file had failed before, what was known of it before
abbrev pub faulted_so : View → Called → HeldFile → FileToken
faulted_so view called held = cond (fails view called held) held.file (broken_so view called held)

-- What a thread learns from the load of its call's status, by the bits that were found. The request is at one call alone.
abbrev pub FindsStatus : ℕ → View → View → Type 0
FindsStatus bits old new = (worker : ℕ) (actor : ActorState) (called : Called) (held : HeldFile) → Calls old worker actor called held → Loaded worker actor called held bits old new

-- what it learns when its call ends well
abbrev pub EndsWell : View → View → Type 0
EndsWell old new = (worker : ℕ) (actor : ActorState) (called : Called) (held : HeldFile) → Calls old worker actor called held → LearnsFileCall true held (filed_so old actor called held) old new

-- what it learns when its call ends in a fault
abbrev pub EndsInFault : View → View → Type 0
EndsInFault old new = (worker : ℕ) (actor : ActorState) (called : Called) (held : HeldFile) → Calls old worker actor called held → LearnsFileCall false held (faulted_so old called held) old new

-- The event that extends a run with the load of a status: none if the call starts from the status, else the call.
abbrev pub AddsLoadEvent : ℕ → View → View → Type 0
AddsLoadEvent bits old new = (worker : ℕ) (actor : ActorState) (called : Called) (held : HeldFile) → Calls old worker actor called held
    → WentOn (events_loaded (starts_by called.call (unpacked_status bits)) worker) old new

-- the event that extends a run when the call ends well
abbrev pub AddsCallEvent : View → View → Type 0
AddsCallEvent old new = (worker : ℕ) (actor : ActorState) (called : Called) (held : HeldFile) → Calls old worker actor called held → WentOn (FileEvent worker Good ∷ []) old new

-- The event that extends a run when the call ends in a fault. If the file had failed before, no device call failed in
-- it; else the one that the caller names, whichever of the call's device calls that is.
pub record HasFailed (worker : ℕ) (called : Called) (held : HeldFile) (old new : View) : Type 0 where
  pub before : fails old called held ≡ true → WentOn (FileEvent worker Good ∷ []) old new
  pub now : fails old called held ≡ false → (number : ℕ) → is_made (device_calls called.call (entries_at (file_told held.file) (place_held old called held))) number ≡ true
      → WentOn (FileEvent worker (Fail number) ∷ []) old new

-- The same of the call at which the request is.
abbrev pub AddsFaultEvent : View → View → Type 0
AddsFaultEvent old new = (worker : ℕ) (actor : ActorState) (called : Called) (held : HeldFile) → Calls old worker actor called held → HasFailed worker called held old new
