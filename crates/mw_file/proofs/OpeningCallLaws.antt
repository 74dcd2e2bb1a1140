-- The device calls of an opening are those of its parts, one after the other.
-- Used by: read_front, read_file, recover, make_ready, give_second.
use Rattle.std.proofs.Common.{◌≡◌, ◌++◌, ◌*◌, ◌==◌, if◌then◌else◌, ℕ, Bool, true, false, List, [], length, replicate, IsTrue, None, Some, is_none, Result, Ok, Err, is_err, is_ok, refl, sym, ap, ◌∙◌, subst, inr}
use Rattle.std.proofs.lemmas.Bool.{cond-true, cond-false, false≢true}
use Rattle.std.proofs.lemmas.List.{length-replicate}
use Rattle.mw_disk.specs.DeviceCalls.{DeviceCall, Length, ReadAt, Makes}
use Rattle.mw_disk.specs.Facts.{Facts}
use Rattle.mw_disk.proofs.MakesLaws.{Made, makes_none, makes_one, makes_after, makes_cut}
use Rattle.mw_record.specs.declared.damages.Damage.{Damage}
use Rattle.mw_record.specs.declared.layout.Layout.TheVariants.{First, Second}
use Rattle.mw_record.specs.declared.layout.TheConstants.{PLACES_GROW}
use Rattle.mw_record.specs.Layout.{size, second_part}
use Rattle.mw_record.specs.Damages.{damage_of, is_switched, layout_of, words_of, found_places, places_of, words_in}
use Rattle.mw_file.specs.OpeningCalls.{front_list, read_list, migration_list, repair_list, ready_list, open_list}
use Rattle.mw_file.specs.OpeningEnds.{WasRead, begins_at, front}
use Rattle.mw_file.proofs.Ready.{is_unset, is_set, places_unset, begins_unset}

-- all device calls of a call that answered no error went well; of one that answered an error, one failed
pub made_well : {D T E : Type 0} (made : Made D) (calls : List DeviceCall) (old new : D) (r : Result T E) → is_err r ≡ false → Makes made calls (is_ok r) old new → Makes made calls true old new
made_well made calls old new (Ok x) well is = is
made_well made calls old new (Err e) well is = absurd (cc)

pub made_badly : {D T E : Type 0} (made : Made D) (calls : List DeviceCall) (old new : D) (r : Result T E) → is_err r ≡ true → Makes made calls (is_ok r) old new → Makes made calls false old new
made_badly made calls old new (Ok x) failed is = absurd (cc)
made_badly made calls old new (Err e) failed is = is

-- so many bytes are read, if there are any to read
pub front_made : {D : Type 0} (made : Made D) (count : ℕ) (well : Bool) (old new : D) → (count == 0) ≡ false → made (ReadAt 0 count) well old new → Makes made (front_list count) well old new
front_made made count well old new some read = rw some (makes_one made (ReadAt 0 count) well old new read)

-- there are bytes of this length which are the front of the disk if it is honest, since that is as long
pub front_bytes : (f : Facts) (count : ℕ) (b : Bool) → f.honest ≡ b → (IsTrue f.honest → length (front f) ≡ count) → (image : List ℕ) × WasRead f image × (length image ≡ count)
front_bytes f count true is long = (front f, (λ honest. refl), long is)
front_bytes f count false is long = (replicate count 0, (λ honest. absurd (false≢true (sym is ∙ honest))), length-replicate count 0)

-- the migration, if its offset and its bytes are known by other names
pub migration_as : {D : Type 0} (made : Made D) (at at2 : ℕ) (second second2 : List ℕ) (well : Bool) (old new : D) → at ≡ at2 → second ≡ second2
    → Makes made (migration_list at second) well old new → Makes made (migration_list at2 second2) well old new
migration_as made at at2 second second2 well old new is_at is_second makes =
    subst (λ (k : ℕ). Makes made (migration_list k second2) well old new) is_at (subst (λ (bs : List ℕ). Makes made (migration_list at bs) well old new) is_second makes)

-- what makes a file ready, by the layout that was found
module _ (image words : List ℕ) where
  pub ready_unset : layout_of image ≡ First → migration_list (size First (words_of image) (found_places image)) (second_part (PLACES_GROW * found_places image) words) ≡ ready_list image words
  ready_unset is =
      ap (λ n. migration_list (size First (words_of image) (found_places image)) (second_part n words)) (places_unset image is)
      ∙ ap (λ k. migration_list k (second_part (places_of image) words)) (begins_unset image is)
      ∙ sym (cond-false (is_switched image) (repair_list image) (migration_list (begins_at image) (second_part (places_of image) words)) (is_unset image is))

  pub ready_set : layout_of image ≡ Second → repair_list image ≡ ready_list image words
  ready_set is = sym (cond-true (is_switched image) (repair_list image) (migration_list (begins_at image) (second_part (places_of image) words)) (is_set image is))

-- an opening has asked for the length, and then read so many bytes
module _ {D : Type 0} (made : Made D) (image : List ℕ) (count : ℕ) (long : length image ≡ count) (d0 d1 d2 : D) (first : made Length true d0 d1) where
  pub read_made : (well : Bool) → Makes made (front_list count) well d1 d2 → Makes made (read_list (length image)) well d0 d2
  read_made well read = inr (d1, first, subst (λ (n : ℕ). Makes made (front_list n) well d1 d2) (sym long) read)

  -- the read failed
  pub failed_read : Makes made (front_list count) false d1 d2 → Makes made (open_list image) false d0 d2
  failed_read read = makes_cut made (read_list (length image)) (if is_none (damage_of image) then ready_list image (words_in image) else []) d0 d2 (read_made false read)

-- an opening has read these bytes
module _ {D : Type 0} (made : Made D) (image : List ℕ) (d0 d1 : D) (read : Makes made (read_list (length image)) true d0 d1) where
  -- the file is damaged
  pub damaged_read : (damage : Damage) → damage_of image ≡ Some damage → Makes made (open_list image) true d0 d1
  damaged_read damage found =
      subst (λ (rest : List DeviceCall). Makes made (read_list (length image) ++ rest) true d0 d1)
      (sym (cond-false (is_none (damage_of image)) (ready_list image (words_in image)) [] (ap is_none found)))
      (makes_after made (read_list (length image)) [] true d0 d1 d1 read (makes_none made d1))

  -- the file is not damaged, and was made ready, or a call of that failed
  pub made_ready : (words : List ℕ) (well : Bool) (d2 : D) → damage_of image ≡ None → words ≡ words_in image
      → Makes made (ready_list image words) well d1 d2 → Makes made (open_list image) well d0 d2
  made_ready words well d2 none has ready =
      let told : Makes made (ready_list image (words_in image)) well d1 d2 = subst (λ (ws : List ℕ). Makes made (ready_list image ws) well d1 d2) has ready in
      subst (λ (rest : List DeviceCall). Makes made (read_list (length image) ++ rest) well d0 d2)
      (sym (cond-true (is_none (damage_of image)) (ready_list image (words_in image)) [] (ap is_none none)))
      (makes_after made (read_list (length image)) (ready_list image (words_in image)) well d0 d1 d2 read told)
