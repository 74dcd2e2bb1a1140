-- The book and file pass that a lock keeps are what the table's calls require, and a call on the file leaves them so.
-- Used by: GuardedFile::file, GuardedFile::into_disk, `locked`.
use Rattle.std.specs.Prelude.{◌≡◌, ◌<◌, ℕ, suc, true, is_some, List, ◌∷◌, slice_get, Option, Some, None}
use Rattle.std.proofs.Common.{refl, sym, ap, subst, ◌∙◌, inl}
use Rattle.std.proofs.Math.Logic.{∥∥₁_map}
use Rattle.mw_disk.specs.Facts.{Facts}
use Rattle.mw_file.specs.declared.tenant_file.TenantFile.{TenantFile}
use Rattle.mw_book.specs.declared.book.Book.{Book}
use Rattle.mw_book.specs.declared.waiting.Waiting.{Waiting}
use Rattle.mw_book.specs.Crashes.{LeavesEither}
use Rattle.mw_book.specs.OpenFile.{OnDisk, disk_in}
use Rattle.mw_actor.specs.ActorState.{ActorState}
use Rattle.mw_core.specs.FromTable.{ExtendsKnownRun, FilePass, FileToken, IsCarried, IsFilePassOf, IsSoOfWorld, Pass, Shared, config_of, file_kept, opening_at, openings_of}
use Rattle.mw_core.specs.FileCalls.{FilesOnce, stake_by}
use Rattle.mw_core.specs.Books.{AgreesThere}
use Rattle.mw_engine.specs.Brand.{Identity, identity_on}
use Rattle.mw_engine.specs.CallsSinceStart.{IsLeftInRun, IsUsedSinceStart}
use Rattle.mw_engine.specs.DisksAtStart.{IsOnItsDisk}
use Rattle.mw_engine.specs.GuardedFile.{AgreesOnce, AreKept, IsKept, KeepsFor}
use Rattle.mw_engine.specs.Passes.{IsOneOf, IsPassOf}
use Rattle.mw_engine.proofs.AgreementForms.{agrees_of, agrees_once}
use Rattle.mw_engine.proofs.DisksOfFiles.{called_on_disk}
use Rattle.mw_engine.proofs.UsesOfFiles.{call_of, left_by, left_still, used_again}

module _ {D : Type 0} (facts : D → Facts) (shared : Shared) (identity : Identity) (same : identity_on shared identity.lines identity.disks ≡ identity) where
  -- it is a file pass of the table, and the book agrees with it
  pub file_pass_of : (book : Book D) (file_pass : FilePass) → IsKept facts identity book file_pass → IsFilePassOf shared file_pass
  file_pass_of book file_pass kept = record {
    table = kept.own ∙ sym (ap (λ (one : Identity). one.table) same);
    config = kept.config ∙ sym (ap (λ (one : Identity). one.config) same);
    openings = kept.openings ∙ sym (ap (λ (one : Identity). one.openings) same);
  }

  pub there_of : (book : Book D) (file_pass : FilePass) → IsKept facts identity book file_pass → AgreesThere facts shared book file_pass
  there_of book file_pass kept =
      agrees_of facts book (file_kept file_pass) (opening_at (openings_of shared.table.shared.key) file_pass.tenant).quota (config_of shared.table.shared.key).pool
      (subst (λ (one : Identity). AgreesOnce facts book (file_kept file_pass) (opening_at one.openings file_pass.tenant).quota one.config.pool) (sym same) kept.agrees)

  -- a pass of the table is one of the engine
  pub pass_of : (pass : Pass) → IsOneOf shared pass → IsPassOf identity pass
  pass_of pass own = record {
    table = own.own.table ∙ ap (λ (one : Identity). one.table) same;
    config = own.own.config ∙ ap (λ (one : Identity). one.config) same;
    openings = own.own.openings ∙ ap (λ (one : Identity). one.openings) same;
    there = subst (λ (one : Identity). pass.worker < one.config.workers) same own.there;
    free = own.free;
  }

  pub kept_of : (book : Book D) (file_pass : FilePass) → IsFilePassOf shared file_pass → is_some book.held ≡ (opening_at identity.openings file_pass.tenant).is_up
      → IsOnItsDisk facts (IsLeftInRun facts identity file_pass.seat.me.0 file_pass.tenant) identity.disks file_pass.tenant book.held
      → ∥ IsUsedSinceStart facts identity file_pass.seat.me.0 file_pass.tenant book (file_kept file_pass) ∥₁ → AgreesThere facts shared book file_pass → IsKept facts identity book file_pass
  kept_of book file_pass own opened its_disk its_uses agrees = record {
    own = own.table ∙ ap (λ (one : Identity). one.table) same;
    config = own.config ∙ ap (λ (one : Identity). one.config) same;
    openings = own.openings ∙ ap (λ (one : Identity). one.openings) same;
    opened = opened;
    its_disk = its_disk;
    its_uses = its_uses;
    agrees = subst (λ (one : Identity). AgreesOnce facts book (file_kept file_pass) (opening_at one.openings file_pass.tenant).quota one.config.pool) same
        (agrees_once facts book (file_kept file_pass) (opening_at (openings_of shared.table.shared.key) file_pass.tenant).quota (config_of shared.table.shared.key).pool agrees);
  }

-- What a file pass tells is so in the engine's world.
pub so_there : (shared : Shared) (identity : Identity) (file_pass : FilePass) → identity_on shared identity.lines identity.disks ≡ identity
    → IsSoOfWorld (config_of shared.table.shared.key) (openings_of shared.table.shared.key) file_pass.seat.me.0.known_run file_pass.tenant (file_kept file_pass)
    → IsSoOfWorld identity.config identity.openings file_pass.seat.me.0.known_run file_pass.tenant (file_kept file_pass)
so_there shared identity file_pass same so = subst (λ (one : Identity). IsSoOfWorld one.config one.openings file_pass.seat.me.0.known_run file_pass.tenant (file_kept file_pass)) same so

module _ {D : Type 0} (facts : D → Facts) (identity : Identity) where
  -- a lock that has this file pass keeps it
  pub keeps_some : (book : Book D) (file_pass : FilePass) (tenant : ℕ) → IsKept facts identity book file_pass → file_pass.tenant ≡ tenant → KeepsFor facts identity book (Some file_pass) tenant
  keeps_some book file_pass tenant kept its = record {
    there = refl;
    kept = λ one is. let same : file_pass ≡ one = cc in subst (λ (r : FilePass). IsKept facts identity book r) same kept;
    its = λ one is. let same : file_pass ≡ one = cc in sym (ap (λ (r : FilePass). r.tenant) same) ∙ its;
  }

  -- books and file passes agree pair by pair, whatever number the first pair has
  abbrev pub ArePaired : List (Book D) → List FilePass → Type 0
  ArePaired books file_passes = (index : ℕ) (book : Book D) (file_pass : FilePass) → slice_get books index ≡ Some book → slice_get file_passes index ≡ Some file_pass → IsKept facts identity book file_pass

  pub paired : (books : List (Book D)) (file_passes : List FilePass) → AreKept facts identity books file_passes → ArePaired books file_passes
  paired books file_passes kept = λ index book file_pass is its. (kept index book file_pass is its).1

  -- the first book and file pass that are left are kept, and so are the rest
  pub first_kept : (book : Book D) (file_pass : FilePass) (books left : List (Book D)) (file_passes others : List FilePass) → books ≡ book ∷ left → file_passes ≡ file_pass ∷ others → ArePaired books file_passes
      → IsKept facts identity book file_pass
  first_kept book file_pass books left file_passes others at also kept = kept 0 book file_pass (ap (λ all. slice_get all 0) at) (ap (λ all. slice_get all 0) also)

  pub rest_kept : (book : Book D) (file_pass : FilePass) (books left : List (Book D)) (file_passes others : List FilePass) → books ≡ book ∷ left → file_passes ≡ file_pass ∷ others → ArePaired books file_passes
      → ArePaired left others
  rest_kept book file_pass books left file_passes others at also kept =
      λ tenant one other is its. kept (suc tenant) one other (ap (λ all. slice_get all (suc tenant)) at ∙ is) (ap (λ all. slice_get all (suc tenant)) also ∙ its)

-- if there was a disk, there still is one
still_on : {D : Type 0} (facts : D → Facts) (becomes : Facts → Facts → Type 0) (old new : Option (TenantFile D)) → OnDisk facts becomes (disk_in old) (disk_in new) → is_some new ≡ is_some old
still_on facts becomes None None on = refl
still_on facts becomes (Some old) (Some new) on = refl
still_on facts becomes None (Some new) on = absurd on
still_on facts becomes (Some old) None on = absurd on

-- a call leaves a book its file, if it has one
pub still_held : {D : Type 0} (facts : D → Facts) (waiting : List Waiting) (old new : Pass) (actor next : ActorState) (before after : Book D) (file_passes kept : FileToken) → FilesOnce facts waiting old new actor next before after file_passes kept
    → is_some after.held ≡ is_some before.held
still_held facts waiting old new actor next before after file_passes kept once = still_on facts (LeavesEither file_passes.contents (stake_by once.end once.called file_passes)) before.held after.held once.safe

-- The book and the file pass that come back from a call are kept as those of before the call were.
pub kept_over : {D : Type 0} (facts : D → Facts) (shared : Shared) (identity : Identity) (same : identity_on shared identity.lines identity.disks ≡ identity) (waiting : List Waiting) (old new : Pass) (actor next : ActorState) (before after : Book D) (file_pass returned : FilePass)
    → IsOneOf shared old → IsCarried old actor → file_pass.tenant ≡ actor.tenant → IsKept facts identity before file_pass → FilesOnce facts waiting old new actor next before after (file_kept file_pass) (file_kept returned)
    → IsFilePassOf shared returned → returned.tenant ≡ file_pass.tenant → ExtendsKnownRun file_pass.seat.me.0.known_run returned.seat.me.0.known_run → returned.seat.me.0.known_run ≡ new.seat.me.0.known_run
    → AgreesThere facts shared after returned → IsKept facts identity after returned
kept_over facts shared identity same waiting old new actor next before after file_pass returned mine carried its kept once own whose follows known agrees =
    let first = file_pass.seat.me.0 in
    let now = returned.seat.me.0 in
    let token = file_kept file_pass in
    let pass = pass_of facts shared identity same old mine in
    let call = call_of facts identity waiting old new actor next before after token (file_kept returned) now file_pass.tenant pass carried (sym its) once known in
    kept_of facts shared identity same after returned own
    (still_held facts waiting old new actor next before after token (file_kept returned) once ∙ (kept.opened ∙ ap (λ (tenant : ℕ). (opening_at identity.openings tenant).is_up) (sym whose)))
    (subst (λ (tenant : ℕ). IsOnItsDisk facts (IsLeftInRun facts identity now tenant) identity.disks tenant after.held) (sym whose)
    (called_on_disk facts identity.disks file_pass.tenant (IsLeftInRun facts identity first file_pass.tenant) (IsLeftInRun facts identity now file_pass.tenant)
    token.contents (stake_by once.end once.called token) before.held after.held (left_still facts identity first now file_pass.tenant follows)
    (left_by facts identity waiting old new actor next before after token (file_kept returned) now file_pass.tenant pass carried (sym its) once known) once.safe kept.its_disk))
    (subst (λ (tenant : ℕ). ∥ IsUsedSinceStart facts identity now tenant after (file_kept returned) ∥₁) (sym whose)
    (∥∥₁_map kept.its_uses (λ was. used_again facts identity first now file_pass.tenant follows before token after (file_kept returned) was (inl call)))) agrees

none_there : (file_pass : Option FilePass) → is_some file_pass ≡ true → file_pass ≡ None → ⊥
none_there None there is = cc
none_there (Some file_pass) there is = cc

pub no_file_pass : (file_pass : Option FilePass) → is_some file_pass ≡ true → file_pass ≡ None → ⊥
no_file_pass file_pass there is = none_there file_pass there is
