-- Defines the moments at which a crash may come, of one tenant's file: between two calls, in a call before its device calls, in one
-- before its event (its one step on the shared words), in one after it, and in a copy.
-- Used by: specs/Durable/Durable, specs/AfterReplies, specs/NextRuns/FoundAfterCrashes, specs/NextRuns/TablesInTurn.
use Rattle.std.specs.Prelude.{ℕ, ◌≡◌, List, [], ◌∷◌, Option}
use mathlib.Core.Option.{some}
use lib.ListN.{get_elem?}
use Rattle.atomic_table.specs.Table.{State as Table}
use Rattle.mw_words.specs.declared.jobs.Entry.{Entry}
use Rattle.mw_actor.specs.ActorState.{ActorState}
use Rattle.mw_disk.specs.Facts.{Facts}
use Rattle.mw_rule.specs.Rule.{IsLive}
use Rattle.mw_rule.specs.declared.views.FoundStatus.{FoundStatus}
use Rattle.mw_rule.specs.declared.views.View.{View}
use Rattle.mw_book.specs.declared.book.Book.{Book}
use Rattle.mw_book.specs.declared.waiting.Waiting.{Waiting}
use Rattle.mw_book.specs.OpenFile.{disk_in}
use Rattle.mw_core.specs.FileCalls.{FilesOnce, held_as, stake_by}
use Rattle.mw_core.specs.FromTable.{FilePass, FileToken, Pass, file_kept}
use Rattle.mw_engine.specs.Brand.{Identity}
use Rattle.mw_engine.specs.FromBelow.{IsOnlyRead}
use Rattle.mw_engine.specs.GuardedFile.{IsKept}

-- One live thread of the table has this file token, and no other file's: that of a pass in a call on the file, or that of the file pass.
-- A call may have found its change's status.
pub record IsHeld (s : Table ActorState View) (token : FileToken) : Type 0 where
  pub id : ℕ
  pub view : View
  pub at : get_elem? s.views id ≡ some view
  pub live : IsLive view
  pub found : Option FoundStatus
  pub has : view.files ≡ held_as token found ∷ []

module _ {D : Type 0} (facts : D → Facts) where
  -- No call on the tenant's file is under way: its file pass is of the table, and is kept with this book.
  pub record IsAtRest (s : Table ActorState View) (tenant : ℕ) : Type 0 where
    pub identity : Identity
    pub book : Book D
    pub file_pass : FilePass
    pub kept : IsKept facts identity book file_pass
    pub its : file_pass.tenant ≡ tenant
    pub id : ℕ
    pub at : get_elem? s.views id ≡ some file_pass.seat.me.0

  -- A whole call on the tenant's file, which any pass makes: on this book and with this token, which are those after it in the end.
  pub record CallOnFile (tenant : ℕ) : Type 0 where
    pub old : Pass
    pub new : Pass
    pub actor : ActorState
    pub next : ActorState
    pub before : Book D
    pub after : Book D
    pub token : FileToken
    pub kept : FileToken
    pub waiting : List Waiting
    pub once : FilesOnce facts waiting old new actor next before after token kept
    pub its : actor.tenant ≡ tenant

  -- A crash comes at this moment of the table:
  --
  -- - while no call on the tenant's file is under way;
  -- - in a call, before its device calls: a thread has the token of before the call. The crash finds the disk of before it;
  -- - in a call, before its event: a thread still has the token of before the call. The crash may find any moment of the whole call;
  -- - in a call, after its event: a thread has the token of after the call, whose device calls are over;
  -- - in a copy for a backup, which is no call of the model: the file is only read, from the book that the file pass is kept with to
  --   this one. The crash may find any moment of the copy.
  pub data CrashMoment (s : Table ActorState View) (tenant : ℕ) : Type 0 where
    AtRest : IsAtRest s tenant → CrashMoment s tenant
    BeforeDeviceCalls : (call : CallOnFile tenant) → IsHeld s call.token → CrashMoment s tenant
    BeforeTheEvent : (call : CallOnFile tenant) → IsHeld s call.token → CrashMoment s tenant
    AfterTheEvent : (call : CallOnFile tenant) → IsHeld s call.kept → CrashMoment s tenant
    InACopy : (rest : IsAtRest s tenant) (after : Book D) → IsOnlyRead facts rest.book after → CrashMoment s tenant

  module _ {s : Table ActorState View} {tenant : ℕ} where
    -- the token that a thread has at that moment
    abbrev pub token_at : CrashMoment s tenant → FileToken
    token_at (AtRest rest) = file_kept rest.file_pass
    token_at (BeforeDeviceCalls call held) = call.token
    token_at (BeforeTheEvent call held) = call.token
    token_at (AfterTheEvent call held) = call.kept
    token_at (InACopy rest after read) = file_kept rest.file_pass

    -- The change at stake: the one that the call seals, from its device calls to its event. Else it is the one in doubt.
    abbrev pub stake_at : CrashMoment s tenant → List Entry
    stake_at (AtRest rest) = (file_kept rest.file_pass).doubt
    stake_at (BeforeDeviceCalls call held) = call.token.doubt
    stake_at (BeforeTheEvent call held) = stake_by call.once.end call.once.called call.token
    stake_at (AfterTheEvent call held) = call.kept.doubt
    stake_at (InACopy rest after read) = (file_kept rest.file_pass).doubt

    -- the tenant's disk at the first moment that the crash may find
    abbrev pub first_disk : CrashMoment s tenant → Option D
    first_disk (AtRest rest) = disk_in rest.book.held
    first_disk (BeforeDeviceCalls call held) = disk_in call.before.held
    first_disk (BeforeTheEvent call held) = disk_in call.before.held
    first_disk (AfterTheEvent call held) = disk_in call.after.held
    first_disk (InACopy rest after read) = disk_in rest.book.held

    -- and at the last one
    abbrev pub last_disk : CrashMoment s tenant → Option D
    last_disk (AtRest rest) = disk_in rest.book.held
    last_disk (BeforeDeviceCalls call held) = disk_in call.before.held
    last_disk (BeforeTheEvent call held) = disk_in call.after.held
    last_disk (AfterTheEvent call held) = disk_in call.after.held
    last_disk (InACopy rest after read) = disk_in after.held
