-- Defines what a call on a tenant's file does, as an engine makes it.
-- Used by: src/file_calls.rt, src/file_lock/one_call.rt, mw_law_threads.
use Rattle.std.specs.Prelude.{◌≡◌, ℕ, zero, suc, List}
use Rattle.mw_actor.specs.ActorState.{ActorState}
use Rattle.mw_disk.specs.Facts.{Facts}
use Rattle.mw_book.specs.declared.book.Book.{Book}
use Rattle.mw_book.specs.declared.waiting.Waiting.{Waiting}
use Rattle.mw_core.specs.FromTable.{FilePass, ExtendsKnownRun, Pass, file_kept}
use Rattle.mw_core.specs.FileCalls.{FilesOnce}
use Rattle.mw_engine.specs.Brand.{Identity}
use Rattle.mw_engine.specs.GuardedFile.{IsKept}

-- One call was made on the file of the request's tenant, the call to which the request had come. It was made on the
-- book that is kept with this tenant's file pass, by what the file pass told. The book and the file pass that are kept
-- afterwards are this tenant's too. The run that the file pass then knows is the one that the pass knows. It goes on
-- from the run that the file pass knew before.
pub record FilesOne {D : Type 0} (facts : D → Facts) (identity : Identity) (old new : Pass) (actor next : ActorState) : Type 0 where
  pub before : Book D
  pub after : Book D
  pub file_pass : FilePass
  pub returned : FilePass
  pub kept_before : IsKept facts identity before file_pass
  pub kept_after : IsKept facts identity after returned
  pub its : file_pass.tenant ≡ actor.tenant
  pub its_still : returned.tenant ≡ actor.tenant
  pub follows : ExtendsKnownRun file_pass.seat.me.0.known_run returned.seat.me.0.known_run
  pub known : returned.seat.me.0.known_run ≡ new.seat.me.0.known_run
  -- the changes that waited, whose records the call may have written too
  pub waiting : List Waiting
  pub once : FilesOnce facts waiting old new actor next before after (file_kept file_pass) (file_kept returned)

module _ {D : Type 0} (facts : D → Facts) (identity : Identity) where
  -- So many calls were made on the request's file, one after another. Nothing else was done to the request: no other step was made.
  abbrev pub MadeByCalls : ℕ → Pass → ActorState → Pass → ActorState → Type 0
  MadeByCalls zero old actor new next = (new ≡ old) × (next ≡ actor)
  MadeByCalls (suc more) old actor new next = (pass : Pass) × (between : ActorState) × FilesOne facts identity old pass actor between × MadeByCalls more pass between new next

  -- Calls on its file were made for the request, or none. No other step was made.
  pub record IsMadeByCalls (old : Pass) (actor : ActorState) (new : Pass) (next : ActorState) : Type 0 where
    pub count : ℕ
    pub calls : MadeByCalls count old actor new next
