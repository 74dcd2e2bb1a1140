-- A file that was only read recovers to the words to which it recovered, and its first bytes are a file of these words.
-- Used by: TenantFile::copy_bytes, mw_book.
use Rattle.std.proofs.Common.{◌≡◌, ℕ, false, List, length, take, is_none, Option, Some, None, Result, Ok, Err, Vec, if◌then◌else◌, refl, sym, ◌∙◌, subst}
use Rattle.std.specs.declared.alloc.Global.{Global}
use Rattle.mw_disk.specs.Facts.{Facts}
use Rattle.mw_disk.specs.Runs.{Touched, LeavesOnly}
use Rattle.mw_disk.proofs.RunLaws.{leaves_touched, leaves_now, later_refl, touched_none}
use Rattle.mw_record.specs.declared.damages.Damage.{Damage}
use Rattle.mw_record.specs.declared.layout.TheConstants.{MAX_FILE}
use Rattle.mw_record.specs.Records.{Pairs}
use Rattle.mw_record.specs.Damages.{damage_of, words_in}
use Rattle.mw_record.proofs.FirstBytes.{file_words_first, places_of_first}
use Rattle.mw_file.specs.declared.place_states.PlaceState.{PlaceState}
use Rattle.mw_file.specs.declared.tenant_file.TenantFile.{TenantFile}
use Rattle.mw_file.specs.declared.tenant_file.CopyFault.{CopyFault}
use Rattle.mw_file.specs.declared.tenant_file.CopyFault.TheVariants.{Failed, Disk, Memory}
use Rattle.mw_file.specs.Copies.{FrontEnds, CopyEnds, IsOnlyRead}
use Rattle.mw_file.specs.File.{disk_of, at_of, words_of as number_of, states_of, has_failed}
use Rattle.mw_file.specs.OpeningEnds.{front}
use Rattle.mw_file.specs.RecoveryInvariant.{IsFile, IsBeforeOrAfter, RecoversTo, ContentsStay}
use Rattle.mw_file.specs.RollForward.{Nowhere}
use Rattle.mw_file.specs.Stores.{Stores, IsDurable}
use Rattle.mw_file.proofs.Opened.{rest_stays}
use Rattle.mw_file.proofs.Parts.{same_all}
use Rattle.mw_file.proofs.Safety.{durable_as}

-- a file that has words has no damage
undamaged_by : (damage : Option Damage) (ws : List ℕ) (contents : List ℕ) → (if is_none damage then Some ws else None) ≡ Some contents → damage ≡ None
undamaged_by None ws contents is = refl
undamaged_by (Some fault) ws contents is = absurd (cc)

-- the first bytes of a file are a file of the same words and places
pub front_is_file : (bytes contents : List ℕ) (places : ℕ) → IsFile places contents bytes → IsFile places contents (take MAX_FILE bytes)
front_is_file bytes contents places file =
    let none : damage_of bytes ≡ None = undamaged_by (damage_of bytes) (words_in bytes) contents file.words_are in
    record {
      words_are = file_words_first bytes ∙ file.words_are;
      places_are = places_of_first bytes none ∙ file.places_are;
    }

module _ {D : Type 0} (facts : D → Facts) (old new : TenantFile D) where
  -- so are those that a copy reads
  pub front_is_backup : (bytes contents : List ℕ) (doubt : Pairs) → has_failed old ≡ false → bytes ≡ front (facts (disk_of old)) → RecoversTo facts old contents doubt
      → IsFile (length (states_of old)) contents bytes
  front_is_backup bytes contents doubt sound is was =
      subst (IsFile (length (states_of old)) contents) (sym is) (front_is_file (facts (disk_of old)).reads contents (length (states_of old)) (was.read sound))

  -- a file that was only read keeps its words, and a crash meanwhile does no harm
  pub only_read_safe : IsOnlyRead facts old new → ContentsStay facts old new
  only_read_safe only honest contents doubt was =
      let f0 : Facts = facts (disk_of old) in
      let f1 : Facts = facts (disk_of new) in
      let touched : Touched Nowhere f0 f1 = only.touched honest in
      let same : f1.reads ≡ f0.reads = same_all f0.reads f1.reads touched.seen in
      let was_sound : has_failed new ≡ false → has_failed old ≡ false = λ sound. sym only.failed ∙ sound in
      let moments : LeavesOnly f0 f1 (IsBeforeOrAfter (length (states_of old)) contents doubt) = leaves_touched Nowhere f0 f1 touched
      (λ d c left like. subst (IsBeforeOrAfter (length (states_of old)) contents doubt) (sym (same_all d c like)) (was.left d left)) in
      let durable : has_failed new ≡ false → IsDurable f1 (at_of old) (number_of old) contents (states_of old) = λ sound.
      let before = was.inside (was_sound sound) in
      record {
        rest = rest_stays f0 f1 touched before.rest;
        stores = subst (λ (bytes : List ℕ). Stores bytes (at_of old) (number_of old) contents (states_of old)) (sym same) before.stores;
      } in
      record {
        moments = moments;
        after = record {
          count = was.count ∙ sym only.words;
          read = λ sound. subst (λ (s : List PlaceState). IsFile (length s) contents f1.reads) (sym only.states)
              (subst (IsFile (length (states_of old)) contents) (sym same) (was.read (was_sound sound)));
          certain = λ sound. was.certain (was_sound sound);
          left = λ image left. subst (λ (s : List PlaceState). IsBeforeOrAfter (length s) contents doubt image) (sym only.states) (leaves_now f0 f1 moments image left);
          inside = λ sound. durable_as f1 (at_of old) (at_of new) (number_of old) (number_of new) contents contents (states_of old) (states_of new) only.at only.words refl only.states
              (durable sound);
        };
      }

-- How a copy ended, if it read the bytes as this says.
pub copy_ends : {D : Type 0} (facts : D → Facts) (old new : TenantFile D) (r : Result (Vec ℕ Global) CopyFault) → has_failed old ≡ false
    → FrontEnds (facts (disk_of old)) (facts (disk_of new)) r → CopyEnds facts old new r
copy_ends facts old new (Ok bytes) sound ended = record {
  sound = sound;
  front_read = ended;
  backup = λ honest contents doubt was. front_is_backup facts old new bytes.items contents doubt sound (ended.bytes_are honest) was;
}
copy_ends facts old new (Err Failed) sound ended = absurd ended
copy_ends facts old new (Err Disk) sound ended = record { sound = sound; made = ended }
copy_ends facts old new (Err Memory) sound ended = record { sound = sound; made = ended }

-- a file that was not touched was only read
pub not_read : {D : Type 0} (facts : D → Facts) (file : TenantFile D) → IsOnlyRead facts file file
not_read facts file = record {
  at = refl;
  words = refl;
  states = refl;
  failed = refl;
  later = later_refl (facts (disk_of file));
  touched = λ honest. touched_none Nowhere (facts (disk_of file));
}
