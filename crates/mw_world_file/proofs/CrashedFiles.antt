-- A crash at any moment of a call leaves the words from before the call, or these with one complete change.
-- Used by: SimulatedFile::prepare, seal, settle, cancel.
use Rattle.std.proofs.Common.{◌≡◌, ℕ, true, false, List, length, Some, Result, Ok, Err, refl, sym, ap, subst, ◌∙◌, inl, inr}
use Rattle.mw_words.specs.declared.jobs.Entry.{Entry}
use Rattle.arrayvec.specs.ArrayVec.{ArrayVec}
use Rattle.mw_memory_disk.specs.Memory.{Memory, memory_facts}
use Rattle.mw_disk.specs.Runs.{LeavesOnly}
use Rattle.mw_disk.proofs.RunLaws.{leaves_wider}
use Rattle.mw_record.specs.Records.{Pairs}
use Rattle.mw_record.specs.Layout.{pairs_of}
use Rattle.mw_record.proofs.ReadAgain.{put-put_pairs}
use Rattle.mw_look.specs.declared.steps.Call.{Call}
use Rattle.mw_look.specs.declared.steps.Call.TheVariants.{Seal as SealCall}
use Rattle.mw_file.specs.declared.tenant_file.TenantFile.{TenantFile}
use Rattle.mw_file.specs.declared.tenant_file.FileFault.{FileFault}
use Rattle.mw_file.specs.declared.tenant_file.FileFault.TheVariants.{Disk, Failed}
use Rattle.mw_file.specs.File.{disk_of, states_of, has_failed, Ends}
use Rattle.mw_file.specs.RecoveryInvariant.{RecoversTo, IsBeforeOrAfter, ContentsStay, ChangeIsSealed}
use Rattle.mw_file.specs.PlaceStates.{writes_of_place}
use Rattle.mw_world_file.specs.declared.device.Device.TheVariants.{Open}
use Rattle.mw_world_file.specs.declared.places.Place.TheVariants.{Prepared as KeptPrepared}
use Rattle.mw_world_file.specs.declared.simulated_file.SimulatedFile.{SimulatedFile}
use Rattle.mw_world.specs.declared.outcomes.Outcome.{Outcome}
use Rattle.mw_world.specs.declared.outcomes.Outcome.TheVariants.{Good, Fail}
use Rattle.mw_world_file.specs.Books.{Represents, quota_of}
use Rattle.mw_world.specs.Files.Calls.{place_for}
use Rattle.mw_world.specs.Files.Crashes.{IsFileOfEither, at_stake}
use Rattle.mw_world_file.specs.Crashes.{IsCrashSafe}
use Rattle.mw_world_file.specs.Devices.{disk_under}
use Rattle.mw_world.specs.Files.State.{File, entries_in}
use Rattle.mw_world_file.specs.CallEffects.{failing}
use Rattle.mw_world_file.proofs.SealedFiles.{writes_are}
use Rattle.mw_world_file.proofs.WorkedFiles.{IsAt, keeps_open, told_there}
use Rattle.mw_world.proofs.EitherFile.{of_either}

-- what a crash leaves of a disk doesn't depend on the scripted fault
untold : {P : List ℕ → Type 0} (outcome : Outcome) (disk before now : Memory) → (outcome ≡ Good → before ≡ disk) → ((number : ℕ) → outcome ≡ Fail number → before ≡ failing disk number)
    → LeavesOnly (memory_facts before) (memory_facts now) P → LeavesOnly (memory_facts disk) (memory_facts now) P
untold {P = P} Good disk before now well bad leaves = subst (λ d. LeavesOnly (memory_facts d) (memory_facts now) P) (well refl) leaves
untold {P = P} (Fail number) disk before now well bad leaves =
    let on : LeavesOnly (memory_facts (failing disk number)) (memory_facts now) P = subst (λ d. LeavesOnly (memory_facts d) (memory_facts now) P) (bad number refl) leaves in
    record { later = record { later = on.later.later; honest = on.later.honest; past = on.later.past; kept = on.later.kept }; each = on.each }

-- A call on a copy of a book's file.
module _ (old new : SimulatedFile) (held before now : TenantFile Memory) (slot : ℕ) (outcome : Outcome) (is_old : old.device ≡ Open held) (is_new : new.device ≡ Open now)
    (well : outcome ≡ Good → disk_of before ≡ disk_of held) (bad : (number : ℕ) → outcome ≡ Fail number → disk_of before ≡ failing (disk_of held) number)
    (copied : (contents : List ℕ) (doubt : Pairs) → RecoversTo memory_facts held contents doubt → RecoversTo memory_facts before contents doubt) where
  -- what a crash leaves of the copy's file, it leaves of the book's disk
  under_books : (words : List ℕ) (change : List Entry) → LeavesOnly (memory_facts (disk_of before)) (memory_facts (disk_of now)) (IsBeforeOrAfter (length (states_of before)) words (pairs_of change))
      → LeavesOnly (memory_facts (disk_under old.device)) (memory_facts (disk_under new.device)) (IsFileOfEither words change)
  under_books words change leaves =
      subst (λ d. LeavesOnly (memory_facts (disk_under d)) (memory_facts (disk_under new.device)) (IsFileOfEither words change)) (sym is_old)
      (subst (λ d. LeavesOnly (memory_facts (disk_of held)) (memory_facts (disk_under d)) (IsFileOfEither words change)) (sym is_new)
      (untold outcome (disk_of held) (disk_of before) (disk_of now) well bad
      (leaves_wider (memory_facts (disk_of before)) (memory_facts (disk_of now)) (of_either (length (states_of before)) words change) leaves)))

  -- a call that leaves the words, and the change in doubt
  pub stays_safe : (call : Call) → ((file : File) → at_stake call file (place_for call file (quota_of old) slot) ≡ file.doubt) → ContentsStay memory_facts before now → IsCrashSafe old call slot new
  stays_safe call none safe file shows =
      subst (λ es. LeavesOnly (memory_facts (disk_under old.device)) (memory_facts (disk_under new.device)) (IsFileOfEither file.contents es)) (sym (none file ∙ shows.same_doubt))
      (subst (λ ws. LeavesOnly (memory_facts (disk_under old.device)) (memory_facts (disk_under new.device)) (IsFileOfEither ws old.doubt.items)) (sym shows.same_contents)
      (under_books old.contents.items old.doubt.items
      (safe refl old.contents.items (pairs_of old.doubt.items) (copied old.contents.items (pairs_of old.doubt.items) (keeps_open old held is_old file shows))).moments))

  -- a seal, for each answer
  module _ (number : ℕ) (entries : ArrayVec Entry) (is : IsAt old slot number (KeptPrepared entries)) (same : states_of before ≡ states_of held) (r : Result (Unit {0}) FileFault)
      (unfailed : has_failed before ≡ false) (calls : ℕ) (ends : Ends memory_facts calls before now r) (safe : ChangeIsSealed memory_facts before now (writes_of_place (states_of before) number) r) where
    sealed_moments : (file : File) → Represents old file → (answer : Result (Unit {0}) FileFault) → Ends memory_facts calls before now answer → ChangeIsSealed memory_facts before now (pairs_of entries.items) answer
        → LeavesOnly (memory_facts (disk_of before)) (memory_facts (disk_of now)) (IsBeforeOrAfter (length (states_of before)) old.contents.items (pairs_of entries.items))
    sealed_moments file shows (Ok x) ended sealed =
        (sealed refl old.contents.items (pairs_of old.doubt.items) (copied old.contents.items (pairs_of old.doubt.items) (keeps_open old held is_old file shows))).moments
    sealed_moments file shows (Err Disk) ended sealed =
        (sealed refl old.contents.items (pairs_of old.doubt.items) (copied old.contents.items (pairs_of old.doubt.items) (keeps_open old held is_old file shows))).moments
    sealed_moments file shows (Err Failed) ended sealed = absurd (let e : true ≡ false = sym ended.before ∙ unfailed in cc)

    pub seal_safe : IsCrashSafe old SealCall slot new
    seal_safe file shows =
        let there : entries_in (file.places (file.place_of slot)) ≡ entries.items = ap entries_in (told_there old slot number (KeptPrepared entries) is file shows) in
        subst (λ es. LeavesOnly (memory_facts (disk_under old.device)) (memory_facts (disk_under new.device)) (IsFileOfEither file.contents es)) (sym there)
        (subst (λ ws. LeavesOnly (memory_facts (disk_under old.device)) (memory_facts (disk_under new.device)) (IsFileOfEither ws entries.items)) (sym shows.same_contents)
        (under_books old.contents.items entries.items
        (sealed_moments file shows r ends (subst (λ w. ChangeIsSealed memory_facts before now w r) (writes_are old slot number entries is held is_old before same) safe))))
