-- A tenant's open file is on a disk with the past of the one that it opened on: at the start, after a call on it, and after a copy.
-- Used by: GuardedFileLaws, FileCopies, PartsAgree.
use Rattle.std.specs.Prelude.{◌≡◌, ◌⊎◌, ◌≤◌, ℕ, Bool, true, false, is_some, List, map, slice_get, Option, Some, None, IsTrue}
use Rattle.std.specs.Option.{option_map}
use Rattle.std.proofs.Common.{refl, sym, ap, subst, ◌∙◌, arith, inl, inr}
use Rattle.std.proofs.Math.Logic.{∥∥₁_map}
use Rattle.std.proofs.lemmas.Bool.{cases_lt}
use Rattle.std.proofs.lemmas.List.{ext_get_or}
use Rattle.std.proofs.lemmas.Option.{slice_get-map}
use Rattle.mw_words.specs.declared.jobs.Entry.{Entry}
use Rattle.mw_words.specs.Change.{put}
use Rattle.mw_disk.specs.Facts.{Facts}
use Rattle.mw_disk.specs.Runs.{LeavesOnly}
use Rattle.mw_record.specs.Damages.{file_words}
use Rattle.mw_record.specs.Records.{Pairs}
use Rattle.mw_file.specs.declared.tenant_file.TenantFile.{TenantFile}
use Rattle.mw_file.specs.File.{disk_of, has_failed}
use Rattle.mw_file.specs.RecoveryInvariant.{RecoversTo}
use Rattle.mw_book.specs.declared.book.Book.{Book}
use Rattle.mw_book.specs.Copies.{HeldIsOnlyRead}
use Rattle.mw_book.specs.Crashes.{LeavesEither}
use Rattle.mw_book.specs.OpenFile.{FileRecoversTo, OnDisk, disk_in, has_failed_in}
use Rattle.mw_engine.specs.DisksAtStart.{DiskAtStart, HasPastOf, IsOnItsDisk, disk_read, disk_told, disks_in}
use Rattle.mw_engine.specs.OpenedFiles.{book_file}

-- these bytes are a file without damage
abbrev IsUndamaged : List ℕ → Type 0
IsUndamaged image = is_some (file_words image) ≡ true

-- the same, and P holds of them
abbrev IsWhole : (List ℕ → Type 0) → List ℕ → Type 0
IsWhole P image = IsUndamaged image × ∥ P image ∥₁

-- a file of either of two lists of words has no damage
either_undamaged : (image words other : List ℕ) → (file_words image ≡ Some words) ⊎ (file_words image ≡ Some other) → IsUndamaged image
either_undamaged image words other (inl is) = ap is_some is
either_undamaged image words other (inr is) = ap is_some is

-- Time goes on, and a crash meanwhile leaves no damage, but only what has Q. What has P has Q.
past_later : (P Q : List ℕ → Type 0) (start : DiskAtStart) (old new : Facts) → ((image : List ℕ) → P image → Q image) → HasPastOf P start old → LeavesOnly old new (IsWhole Q) → HasPastOf Q start new
past_later P Q start old new on was leaves =
    let since_start = was.later in
    let since_old = leaves.later.later in
    record {
      honest = subst (λ (b : Bool). IsTrue b) (sym leaves.later.honest) was.honest;
      later = omega (arith, since_start, since_old);
      began = λ image left. was.began image (leaves.later.past start.moment image since_start left);
      whole = λ moment image low high left. elim (cases_lt moment old.moment) [
        | inl before ↦ was.whole moment image low (omega (arith, before)) (leaves.later.past moment image (omega (arith, before)) left)
        | inr since ↦ (leaves.each image (moment, since, high, left)).0
      ];
      left = λ moment image low high left. elim (cases_lt moment old.moment) [
        | inl before ↦ ∥∥₁_map (was.left moment image low (omega (arith, before)) (leaves.later.past moment image (omega (arith, before)) left)) (on image)
        | inr since ↦ (leaves.each image (moment, since, high, left)).1
      ];
    }

-- the disk at the start has its own past, if it is synced and a read gives a file, of which P holds
past_begins : (P : List ℕ → Type 0) (f : Facts) (contents : List ℕ) → ((image : List ℕ) → f.image f.moment image → image ≡ f.reads) → file_words f.reads ≡ Some contents → P f.reads → IsTrue f.honest
    → HasPastOf P (disk_told f) f
past_begins P f contents rest words its honest =
    let there : (moment : ℕ) (image : List ℕ) → f.moment ≤ moment → moment ≤ f.moment → f.image moment image → image ≡ f.reads =
    λ moment image low high left.
    let now : moment ≡ f.moment = omega (arith, low, high) in
    rest image (subst (λ (k : ℕ). f.image k image) now left) in
    record {
      honest = honest;
      later = omega arith;
      began = rest;
      whole = λ moment image low high left. ap (λ (bytes : List ℕ). is_some (file_words bytes)) (there moment image low high left) ∙ ap is_some words;
      left = λ moment image low high left. ∣ subst P (sym (there moment image low high left)) its ∣₁;
    }

module _ {D : Type 0} (facts : D → Facts) where
  -- a file of a book that has not failed has not failed
  sound_of : (book : Book D) (file : TenantFile D) → book.held ≡ Some file → book.has_failed ≡ false → has_failed file ≡ false
  sound_of book file is sound = sym (ap has_failed_in is) ∙ (book.same_failed ∙ sound)

  -- the disk that is kept of a tenant's book is that of its file
  pub disk_there : (books : List (Book D)) (tenant : ℕ) (book : Book D) → slice_get books tenant ≡ Some book → slice_get (disks_in facts books) tenant ≡ Some (disk_read facts book.held)
  disk_there books tenant book at =
      slice_get-map (disk_read facts) (map book_file books) tenant ∙ ap (option_map (disk_read facts)) (slice_get-map book_file books tenant ∙ ap (option_map book_file) at)

  kept_disk : (books : List (Book D)) (tenant : ℕ) (book : Book D) (file : TenantFile D) (start : DiskAtStart) → slice_get books tenant ≡ Some book → book.held ≡ Some file
      → slice_get (disks_in facts books) tenant ≡ Some (Some start) → disk_told (facts (disk_of file)) ≡ start
  kept_disk books tenant book file start at is kept =
      let both : Some (Some (disk_told (facts (disk_of file)))) ≡ Some (Some start) = sym (disk_there books tenant book at ∙ ap (λ (held : Option (TenantFile D)). Some (disk_read facts held)) is) ∙ kept in
      cc

  -- at the start each open file is on its disk
  pub begins_on_disk : (P : List ℕ → Type 0) (books : List (Book D)) (tenant : ℕ) (book : Book D) (contents : List ℕ) (doubt : Pairs) → ((image : List ℕ) → file_words image ≡ Some contents → P image)
      → slice_get books tenant ≡ Some book → ((file : TenantFile D) → book.held ≡ Some file → book.has_failed ≡ false) → FileRecoversTo facts book.held contents doubt
      → IsOnItsDisk facts P (disks_in facts books) tenant book.held
  begins_on_disk P books tenant book contents doubt its at sound stands = λ start file kept is honest.
      let stays : FileRecoversTo facts (Some file) contents doubt = subst (λ (held : Option (TenantFile D)). FileRecoversTo facts held contents doubt) is stands in
      let not_failed = sound_of book file is (sound file is) in
      subst (λ (one : DiskAtStart). IsTrue one.honest → HasPastOf P one (facts (disk_of file))) (kept_disk books tenant book file start at is kept)
      (λ so.
      let recovers : RecoversTo facts file contents doubt = stays so in
      let words = (recovers.read not_failed).words_are in
      past_begins P (facts (disk_of file)) contents (recovers.inside not_failed).rest words (its (facts (disk_of file)).reads words) so) honest

  module _ (disks : List (Option DiskAtStart)) (tenant : ℕ) where
    -- the file's disk was used, and a crash meanwhile leaves no damage, but only what has Q
    used_on_disk : (P Q : List ℕ → Type 0) (old new : TenantFile D) → ((image : List ℕ) → P image → Q image) → (IsTrue (facts (disk_of old)).honest → LeavesOnly (facts (disk_of old)) (facts (disk_of new)) (IsWhole Q))
        → IsOnItsDisk facts P disks tenant (Some old) → IsOnItsDisk facts Q disks tenant (Some new)
    used_on_disk P Q old new on leaves was = λ start file kept is honest.
        let same : new ≡ file = cc in
        let past = was start old kept refl honest in
        subst (λ (one : TenantFile D). HasPastOf Q start (facts (disk_of one))) same (past_later P Q start (facts (disk_of old)) (facts (disk_of new)) on past (leaves past.honest))

    -- a call leaves the file on its disk
    pub called_on_disk : (P Q : List ℕ → Type 0) (words : List ℕ) (change : List Entry) (old new : Option (TenantFile D)) → ((image : List ℕ) → P image → Q image) → ((image : List ℕ) → (file_words image ≡ Some words) ⊎ (file_words image ≡ Some (put words change)) → Q image)
        → OnDisk facts (LeavesEither words change) (disk_in old) (disk_in new) → IsOnItsDisk facts P disks tenant old → IsOnItsDisk facts Q disks tenant new
    called_on_disk P Q words change None None on its left was = λ start file kept is honest. absurd (cc)
    called_on_disk P Q words change (Some old) (Some new) on its left was = used_on_disk P Q old new on (λ honest. let leaves = left honest in record {
      later = leaves.later;
      each = λ image may. let either = leaves.each image may in (either_undamaged image words (put words change) either, ∣ its image either ∣₁);
    }) was
    called_on_disk P Q words change None (Some new) on its left was = absurd left
    called_on_disk P Q words change (Some old) None on its left was = absurd left

    -- so does a copy
    pub copied_on_disk : (P : List ℕ → Type 0) (old new : Option (TenantFile D)) → HeldIsOnlyRead facts old new → IsOnItsDisk facts P disks tenant old → IsOnItsDisk facts P disks tenant new
    copied_on_disk P None None only was = was
    copied_on_disk P (Some old) (Some new) only was = λ start file kept is honest.
        let same : new ≡ file = cc in
        let past = was start old kept refl honest in
        let since = past.later in
        let touched = only.touched past.honest in
        subst (λ (one : TenantFile D). HasPastOf P start (facts (disk_of one))) same (past_later P P start (facts (disk_of old)) (facts (disk_of new)) (λ image its. its) past (record {
          later = touched.later;
          each = λ image left.
              let before = touched.each left.0 image left.1 left.2 left.3 in
              let like : image ≡ before.0 = ext_get_or 0 image before.0 before.2.size (λ k low. before.2.outside k (λ nowhere. nowhere)) in
              let now = (facts (disk_of old)).moment in
              subst (IsWhole P) (sym like) (past.whole now before.0 since (omega arith) before.1, past.left now before.0 since (omega arith) before.1);
        }))
    copied_on_disk P None (Some new) only was = absurd only
    copied_on_disk P (Some old) None only was = absurd only
