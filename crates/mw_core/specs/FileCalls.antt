-- Defines a whole call on a tenant's file, for the request that a pass carries.
-- Used by: src/file_calls.rt, mw_engine, mw_law_threads.
use Rattle.std.specs.Prelude.{ℕ, ◌≡◌, Bool, List, [], ◌∷◌, length, map, Option, Some, None}
use Rattle.mw_words.specs.declared.jobs.Entry.{Entry}
use Rattle.mw_words.specs.declared.statuses.Status.{Status}
use Rattle.mw_look.specs.declared.steps.Call.{Call}
use Rattle.mw_look.specs.declared.steps.Call.TheVariants.{Prepare as PrepareCall}
use Rattle.mw_look.specs.declared.steps.Op.{Op}
use Rattle.mw_look.specs.declared.steps.Op.TheVariants.{File as FileOp}
use Rattle.mw_look.specs.declared.observations.Observation.TheVariants.{Filed}
use Rattle.mw_actor.specs.ActorState.{ActorState, own_entries}
use Rattle.mw_actor.specs.Program.{tells}
use Rattle.mw_disk.specs.Facts.{Facts}
use Rattle.mw_world.specs.declared.outcomes.Outcome.TheVariants.{Good, Fail}
use Rattle.mw_world.specs.Files.Calls.{place_for}
use Rattle.mw_world.specs.Files.Crashes.{at_stake}
use Rattle.mw_world.specs.Definition.Calls.{Called as CallOn, called_at}
use Rattle.mw_world.specs.Definition.Events.{WorldEvent, File as FileEvent}
use Rattle.mw_book.specs.declared.book.Book.{Book}
use Rattle.mw_book.specs.declared.waiting.Waiting.{Waiting}
use Rattle.mw_book.specs.Crashes.{LeavesEither}
use Rattle.mw_book.specs.OpenFile.{OnDisk, disk_in}
use Rattle.mw_book.specs.Ends.{WasBroken, WasMade, WasRefused}
use Rattle.mw_table.specs.FromRule.{Each, End, FileToken, FindsFault, FoundStatus, GoesWell, HeldFile, ExtendsKnownRun, IsReady, ExtendsView, LeavesRest, MayEnd, MeetsFault, WorkerToken, Serves, Skips, View, LearnsFileCall, WentOn, after_call, without_file, file_told, file_token_by, went, went_well}
use Rattle.mw_table.specs.declared.shared.Pass.{Pass}
use Rattle.mw_table.specs.HeldFiles.{file_among}
use Rattle.mw_core.specs.Books.{AgreesFor}

-- The entries that a call takes, if these are its change's own: a prepare takes them all, any other call none.
abbrev pub AreTaken : Call → List Entry → List Entry → Type 0
AreTaken PrepareCall entries own = entries ≡ own
AreTaken call entries own = entries ≡ []

-- the slot of a change that waits, and its entries
abbrev pub slot_and_entries : Waiting → ℕ × List Entry
slot_and_entries waiting = (waiting.slot, waiting.entries.items)

-- A request with these entries whose next operation is this one: the slot and the entries of the change that it will prepare, if the
-- operation is a prepare.
abbrev pub prepares : Op → List Entry → Option (ℕ × List Entry)
prepares (FileOp PrepareCall slot) entries = Some (slot, entries)
prepares op entries = None

-- What a call did to the book while these changes waited, by how it ended: nothing if it didn't start; it was made; a device
-- call failed in it, to which the world gives this number, counted from 1; or nothing, because the file had failed before.
module _ {D : Type 0} (facts : D → Facts) (called : CallOn) (entries : List Entry) (waiting : List Waiting) (file_token : FileToken) (old new : Book D) where
  abbrev pub EndsThere : End → Type 0
  EndsThere Skips = new ≡ old
  EndsThere GoesWell = WasMade facts called.call called.change.slot entries waiting (file_told file_token) old new
  EndsThere (MeetsFault number) = (broken : WasBroken facts called.call called.change.slot entries waiting (file_told file_token) old new) × (broken.number ≡ number)
  EndsThere FindsFault = WasRefused facts called.call called.change.slot entries waiting (file_told file_token) old new

-- The change at stake during the call. If it was made or a device call failed in it: the change that a seal seals, as
-- far as it got, or else the one in doubt before. If not: the one in doubt before.
abbrev pub stake_by : End → CallOn → FileToken → List Entry
stake_by GoesWell called file_token = at_stake called.call (file_told file_token) (place_for called.call (file_told file_token) (length file_token.places) called.change.slot)
stake_by (MeetsFault number) called file_token = at_stake called.call (file_told file_token) (place_for called.call (file_told file_token) (length file_token.places) called.change.slot)
stake_by end called file_token = file_token.doubt

-- If a crash comes at any time during the call, an honest disk has a file of the words from before the call, or of
-- these with the change at stake put over them.
abbrev pub StaysSafe : {D : Type 0} → (D → Facts) → CallOn → FileToken → Book D → Book D → End → Type 0
StaysSafe facts called file_token old new end = OnDisk facts (LeavesEither file_token.contents (stake_by end called file_token)) (disk_in old.held) (disk_in new.held)

-- the event of a worker's call that ended so
abbrev pub event_of : ℕ → End → WorldEvent
event_of worker (MeetsFault number) = FileEvent worker (Fail number)
event_of worker end = FileEvent worker Good

-- what a thread knows of a file: this, and the status that was found for the call under way, if one is
abbrev pub held_as : FileToken → Option FoundStatus → HeldFile
held_as file found = record { file = file; found = found }

-- the status that was found before the call: none for a call that didn't start
abbrev pub found_for : End → ℕ → Status → Option FoundStatus
found_for Skips worker status = None
found_for end worker status = Some (record { worker = worker; status = status })

-- The call extends a run by one event: it was made, and ended so. `with_file` is what the thread knew just before
-- that event: it has its request as before, knows the same of the file, has the status that was found, and may have
-- seen more. What the thread knows last is true after the event.
pub record IsOneEvent (worker : ℕ) (end : End) (status : Status) (file_token : FileToken) (old last : View) : Type 0 where
  pub with_file : View
  pub keeps : ExtendsView old with_file
  pub same_token : with_file.tokens ≡ old.tokens
  pub same_mine : with_file.mine ≡ old.mine
  pub has : with_file.files ≡ held_as file_token (found_for end worker status) ∷ []
  pub went_on : WentOn (event_of worker end ∷ []) with_file last

-- The same if the thread has the file for this call alone. Then it gives it back, with what is known of it by now.
pub record IsOneEventWithFile (worker : ℕ) (end : End) (status : Status) (file_token kept : FileToken) (old new : View) : Type 0 where
  pub last : View
  pub has : last.files ≡ held_as kept None ∷ []
  pub left : new ≡ without_file last
  pub event : IsOneEvent worker end status file_token old last

-- What the thread knows after the call. Its token has the call, what it had seen may only have grown, it finished no
-- request, and it has the files that it had.
pub record HasFiled (well : Bool) (old new : View) : Type 0 where
  pub files : LeavesRest old new
  pub token : new.tokens ≡ map (went well) old.tokens
  pub ready : Each (IsReady new.config) new.tokens
  pub same_files : new.files ≡ old.files

-- The worker's request is at a call. That call was made, while these changes waited, with the file that its thread has, and ended so; it went well
-- or not. The thread knows what is true of the file after it. The run that it knows extends the one that it was told.
pub record MakesCall {D : Type 0} (facts : D → Facts) (waiting : List Waiting) (worker : ℕ) (old new : View) (actor : ActorState) (before after : Book D) (well : Bool) : Type 0 where
  pub called : CallOn
  pub comes_to : called_at actor.point ≡ Some called
  pub status : Status
  pub end : End
  pub may : MayEnd end called status (file_among old.files)
  pub there : EndsThere facts called (own_entries actor) waiting (file_among old.files) before after end
  pub safe : StaysSafe facts called (file_among old.files) before after end
  pub well_is : well ≡ went_well end
  pub held : HeldFile
  pub went : LearnsFileCall well held (file_token_by end (file_among old.files) actor called) old new
  pub event : IsOneEvent worker end status (file_among old.files) old new
  pub follows : ExtendsKnownRun old.learned_run new.known_run

-- The request's call on its tenant's file was made once, while these changes waited. It ended so, and extends a run by that event. The request was
-- told of that end, and the file token is the one after it. Book and token agreed before it, and agree after it.
pub record FilesOnce {D : Type 0} (facts : D → Facts) (waiting : List Waiting) (old new : Pass) (actor next : ActorState) (before after : Book D) (file_token kept : FileToken) : Type 0 where
  pub called : CallOn
  pub comes_to : called_at actor.point ≡ Some called
  pub status : Status
  pub end : End
  pub may : MayEnd end called status file_token
  pub there : EndsThere facts called (own_entries actor) waiting file_token before after end
  pub safe : StaysSafe facts called file_token before after end
  pub filed : HasFiled (went_well end) old.seat.me.0 new.seat.me.0
  pub told : next ≡ tells actor (Filed (went_well end)) new.attempt
  pub kept_is : kept ≡ file_token_by end file_token actor called
  pub its : file_token.tenant ≡ actor.tenant
  pub agreed : AgreesFor facts before old.seat.me.0 actor.tenant file_token
  pub agrees : AgreesFor facts after old.seat.me.0 actor.tenant kept
  pub event : IsOneEventWithFile old.worker end status file_token kept old.seat.me.0 new.seat.me.0
  -- what a thread has served from an earlier view on, it still serves
  pub serves : (first : View) (token : WorkerToken) → Serves first old.seat.me.0 token actor → Serves first new.seat.me.0 (after_call (went_well end) token actor) next
