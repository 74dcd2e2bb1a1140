-- Defines by which calls and copies a tenant's book came from that of the start, by the run that a thread knows, and which bytes a crash
-- may have left of the file meanwhile.
-- Used by: specs/GuardedFile, mw_law_threads. A change here changes what the lock of a tenant's file says of all calls and crashes since the start.
use Rattle.std.specs.Prelude.{◌≡◌, ◌⊎◌, ℕ, zero, suc, not, List, slice_get, Some, Vec, Result}
use Rattle.std.specs.declared.alloc.Global.{Global}
use Rattle.mw_words.specs.Change.{put}
use Rattle.mw_actor.specs.ActorState.{ActorState}
use Rattle.mw_disk.specs.Facts.{Facts}
use Rattle.mw_record.specs.Damages.{file_words}
use Rattle.mw_file.specs.declared.tenant_file.CopyFault.{CopyFault}
use Rattle.mw_world.specs.Definition.State.{TenantStart}
use Rattle.mw_book.specs.declared.book.Book.{Book}
use Rattle.mw_book.specs.declared.waiting.Waiting.{Waiting}
use Rattle.mw_book.specs.Copies.{CopyEnds, IsOnlyRead}
use Rattle.mw_core.specs.FileCalls.{FilesOnce, stake_by}
use Rattle.mw_core.specs.FromTable.{ExtendsKnownRun, FileToken, IsCarried, Pass, View, file_token_opened, opening_at}
use Rattle.mw_engine.specs.Brand.{Identity}
use Rattle.mw_engine.specs.DisksAtStart.{disk_read}
use Rattle.mw_engine.specs.Passes.{IsPassOf}

-- One copy of the book's file was made, or tried. An honest disk was at most read, by the device calls of a copy.
pub record IsCopied {D : Type 0} (facts : D → Facts) (before after : Book D) : Type 0 where
  pub result : Result (Vec ℕ Global) CopyFault
  pub read : IsOnlyRead facts before after
  pub ends : CopyEnds facts before after result

-- the file token of a tenant at a start that gave it this, in a world of so many slots
abbrev pub token_given : ℕ → ℕ → TenantStart → FileToken
token_given tenant slots given = file_token_opened tenant given.quota slots given.words (not given.is_up)

-- Of a tenant's file, by the run that this thread knows.
module _ {D : Type 0} (facts : D → Facts) (identity : Identity) (view : View) (tenant : ℕ) where
  -- One whole call was made on the book `before`, for the request that a pass of the engine carried. The file token `token` told of the
  -- file. `after` and `kept` are the book and the token after the call. The run that the pass then knew has the call as its last event, and
  -- is a beginning of the thread's run. So the token told what was true in that run's world.
  pub record CallInRun (before after : Book D) (token kept : FileToken) : Type 0 where
    pub old : Pass
    pub new : Pass
    pub actor : ActorState
    pub next : ActorState
    pub waiting : List Waiting
    pub own : IsPassOf identity old
    pub carried : IsCarried old actor
    pub its : actor.tenant ≡ tenant
    pub once : FilesOnce facts waiting old new actor next before after token kept
    pub in_run : ExtendsKnownRun new.seat.me.0.known_run view.known_run

  -- These bytes are a file of the words before a call in the run, or of these with the change at stake in that call put over them.
  pub record IsLeftByCall (image : List ℕ) : Type 0 where
    pub before : Book D
    pub after : Book D
    pub token : FileToken
    pub kept : FileToken
    pub call : CallInRun before after token kept
    pub words_are : (file_words image ≡ Some token.contents) ⊎ (file_words image ≡ Some (put token.contents (stake_by call.once.end call.once.called token)))

  -- These bytes are a file of the words that the latest start gave the tenant, or what a call in the run may leave.
  abbrev pub IsLeftInRun : List ℕ → Type 0
  IsLeftInRun image = (file_words image ≡ Some (opening_at identity.openings tenant).words) ⊎ IsLeftByCall image

  -- The book was used once: by a call in the run, or by a copy, which leaves the file token as it is.
  abbrev pub IsUsedOnce : Book D → FileToken → Book D → FileToken → Type 0
  IsUsedOnce before token after kept = CallInRun before after token kept ⊎ (IsCopied facts before after × (kept ≡ token))

  -- It was used so many times, and nothing else was done to it: each time with the book and the token that the time before left.
  abbrev pub IsUsed : ℕ → Book D → FileToken → Book D → FileToken → Type 0
  IsUsed zero first opened book token = (book ≡ first) × (token ≡ opened)
  IsUsed (suc more) first opened book token = (between : Book D) × (told : FileToken) × IsUsed more first opened between told × IsUsedOnce between told book token

  -- The token comes from that of the start, and the book from one on such a disk, by calls in the run and by copies alone:
  -- the disk was as honest as the tenant's at the start, at the same moment, and a read gave the same.
  pub record IsUsedSinceStart (book : Book D) (token : FileToken) : Type 0 where
    pub first : Book D
    pub on : slice_get identity.disks tenant ≡ Some (disk_read facts first.held)
    pub count : ℕ
    pub uses : IsUsed count first (token_given tenant identity.config.pool (opening_at identity.openings tenant)) book token
