-- Proves `CallEnds.StartEnds` for the two starts that get a slot: `Prepared`, and `Unprepared` (the file failed; the reply is
-- FAULT).
-- Used by: LoadedFile::admit.
use Rattle.std.proofs.Common.{◌≡◌, ℕ, ◌+◌, ◌<◌, true, false, length, Some, Result, Ok, Err, is_err, refl, sym, ap, ◌∙◌, inl, inr, arith}
use Rattle.std.proofs.lemmas.Bool.{cases_eq}
use Rattle.arrayvec.specs.ArrayVec.{ArrayVec}
use Rattle.mw_disk.specs.Facts.{Facts}
use Rattle.mw_disk.specs.Runs.{Later}
use Rattle.mw_disk.proofs.RunLaws.{was_honest}
use Rattle.mw_words.specs.declared.jobs.Entry.{Entry}
use Rattle.mw_words.specs.declared.jobs.Job.TheVariants.{Cas}
use Rattle.mw_words.specs.declared.replies.Reply.TheVariants.{Fault}
use Rattle.mw_file.specs.declared.place_states.Stage.TheVariants.{Free, Prepared as PreparedStage}
use Rattle.mw_file.specs.declared.tenant_file.TenantFile.{TenantFile}
use Rattle.mw_file.specs.declared.tenant_file.Place.{Place}
use Rattle.mw_file.specs.declared.tenant_file.FileFault.{FileFault}
use Rattle.mw_file.specs.declared.tenant_file.FileFault.TheVariants.{Disk, Failed}
use Rattle.mw_file.specs.File.{disk_of, states_of, has_failed, Ends, MetFault, WentWell}
use Rattle.mw_file.proofs.Free.{free_stage_at}
use Rattle.mw_file.specs.RecoveryInvariant.{ContentsStay}
use Rattle.mw_file.specs.PlaceStates.{stage_of, free_place, IsStaged}
use Rattle.mw_record.specs.Layout.{pairs_of}
use Rattle.mw_plain.specs.declared.loaded_file.LoadedFile.{LoadedFile}
use Rattle.mw_plain.specs.declared.loaded_file.Begun.TheVariants.{Done, Prepared as PreparedIn}
use Rattle.mw_plain.specs.Cases.{Unprepared, Prepared}
use Rattle.mw_plain.specs.CallEnds.{StartEnds}

-- if the file had not failed, a call that answered an error met a fault
pub met_fault : {D T : Type 0} (facts : D → Facts) (calls : ℕ) (old new : TenantFile D) (r : Result T FileFault) → is_err r ≡ true → has_failed old ≡ false → Ends facts calls old new r
    → MetFault facts calls old new
met_fault facts calls old new (Ok x) bad sound ends = absurd (cc)
met_fault facts calls old new (Err Disk) bad sound ends = ends
met_fault facts calls old new (Err Failed) bad sound ends = absurd (let no : true ≡ false = sym ends.before ∙ sound in cc)

module _ {D : Type 0} (facts : D → Facts) where
  pub unprepared : (quota : ℕ) (old new : LoadedFile D) (entries : ArrayVec Entry) (r : Result Place FileFault) → old.faulted ≡ false → old.used < quota
      → new.words ≡ old.words → new.used ≡ old.used + 1 → new.faulted ≡ true
      → is_err r ≡ true → Ends facts 2 old.file new.file r → Later (facts (disk_of old.file)) (facts (disk_of new.file)) → ContentsStay facts old.file new.file
      → StartEnds facts Unprepared quota (Some old) (Some new) (Cas entries) (Done Fault)
  unprepared quota old new entries r up room words used faulted bad ends later safe = record {
    made = (up, (met_fault facts 2 old.file new.file r bad (old.sound up) ends).made);
    fits = λ s of_quota backs. record { running = backs.faulted ∙ up; change = refl; below = omega (arith, of_quota, backs.used, room) };
    reply = λ s backs. refl;
    after = λ s backs. record {
      used = ap (λ n. n + 1) backs.used ∙ sym used;
      faulted = sym faulted;
      words = backs.words ∙ ap (λ v. v.items) (sym words);
    };
    keeps = λ s keeps honest. let before = was_honest _ _ later honest in (safe before s.words (pairs_of s.in_doubt) (keeps before)).after;
    moments = λ s keeps honest. (safe honest s.words (pairs_of s.in_doubt) (keeps honest)).moments;
    ended = refl;
    places = λ so_many. ap length (met_fault facts 2 old.file new.file r bad (old.sound up) ends).states;
    opened = tt;
    kept = λ place others was now. absurd (let no : true ≡ false = sym faulted ∙ now in cc);
  }

  pub prepared : (quota : ℕ) (old new : LoadedFile D) (entries copy : ArrayVec Entry) (place : Place) → old.faulted ≡ false → old.used < quota
      → new.words ≡ old.words → new.used ≡ old.used + 1 → new.faulted ≡ old.faulted → copy ≡ entries
      → WentWell facts 2 old.file new.file → free_place (states_of old.file) ≡ Some place.0
      → IsStaged (states_of old.file) (states_of new.file) place.0 PreparedStage (pairs_of entries.items)
      → Later (facts (disk_of old.file)) (facts (disk_of new.file)) → ContentsStay facts old.file new.file
      → StartEnds facts Prepared quota (Some old) (Some new) (Cas entries) (PreparedIn place copy)
  prepared quota old new entries copy place up room words used faulted same well lowest staged later safe = record {
    made = (up, well.made);
    fits = λ s of_quota backs. record { running = backs.faulted ∙ up; change = refl; below = omega (arith, of_quota, backs.used, room) };
    reply = λ s backs. refl;
    after = λ s backs. record {
      used = ap (λ n. n + 1) backs.used ∙ sym used;
      faulted = backs.faulted ∙ sym faulted;
      words = backs.words ∙ ap (λ v. v.items) (sym words);
    };
    keeps = λ s keeps honest. let before = was_honest _ _ later honest in (safe before s.words (pairs_of s.in_doubt) (keeps before)).after;
    moments = λ s keeps honest. (safe honest s.words (pairs_of s.in_doubt) (keeps honest)).moments;
    ended = refl;
    places = λ so_many. staged.count;
    opened = record {
      change = ap Cas (sym same);
      up = faulted ∙ up;
      here = λ _. (staged.stage_here, staged.writes_here ∙ ap (λ (es : ArrayVec Entry). pairs_of es.items) (sym same));
      alone = λ others was. let no : Free ≡ PreparedStage = sym free ∙ (was up).0 in absurd (cc);
    };
    kept = λ other others was now. elim (cases_eq other place.0) [
      | inl here ↦ let no : Free ≡ PreparedStage = sym free ∙ ap (stage_of (states_of old.file)) (sym here) ∙ (was up).0 in absurd (cc)
      | inr apart ↦ (staged.stage_there other apart ∙ (was up).0, staged.writes_there other apart ∙ (was up).1)
    ];
  } where
    free : stage_of (states_of old.file) place.0 ≡ Free
    free = free_stage_at (states_of old.file) place.0 lowest
