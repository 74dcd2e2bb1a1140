-- An opening ends as it promises: what was read, and how the file was then made ready, decide how.
-- Used by: recover.
use Rattle.std.proofs.Common.{◌≡◌, ◌≤◌, ◌<◌, ◌+◌, ℕ, List, length, take, true, false, Some, None, IsTrue, refl, sym, ap, ◌∙◌, arith, subst}
use Rattle.mw_disk.specs.Facts.{Facts, IsSynced}
use Rattle.mw_disk.specs.Runs.{Good, Bad, Later, Touched, LeavesOnly}
use Rattle.mw_disk.proofs.RunLaws.{good_trans, then_bad, later_trans, still_honest}
use Rattle.mw_record.specs.declared.layout.TheConstants.{MAX_FILE}
use Rattle.mw_record.specs.declared.damages.Damage.{Damage}
use Rattle.mw_record.specs.Layout.{second_part}
use Rattle.mw_record.specs.Damages.{damage_of, is_switched, at_of as told_at, words_in, words_of as told_words, places_of}
use Rattle.mw_file.specs.declared.place_states.PlaceState.{PlaceState}
use Rattle.mw_file.specs.declared.tenant_file.TenantFile.{TenantFile}
use Rattle.mw_file.specs.File.{disk_of, at_of, words_of, states_of, has_failed}
use Rattle.mw_file.specs.Migration.{InSwitch, Grown, given_second}
use Rattle.mw_file.specs.OpeningEnds.{open_calls, read_calls, ready_calls, begins_at, CanOpen, OpensSafely, SparesFirst, KeepsFirst, IsDamaged, DiskFailed, IsOpened}
use Rattle.mw_file.specs.OpeningReads.{IsRead}
use Rattle.mw_file.specs.PlaceStates.{all_free}
use Rattle.mw_file.specs.RecoveryInvariant.{IsFile}
use Rattle.mw_file.specs.Stores.{IsDurable}
use Rattle.mw_file.proofs.Opened.{first_spared, first_kept_on, second_told, second_given, nothing_written, rest_stays, reads_stay, all_ready, can_open, whole_words, whole_damage, calls_sound, calls_damaged}
use Rattle.mw_file.proofs.Ready.{open_file}
use Rattle.mw_file.proofs.Safety.{keeps_well, durable_as}

-- the bytes have this damage
pub is_damaged : {D : Type 0} (facts : D → Facts) (start now : D) (image : List ℕ) (damage : Damage) → IsRead (facts start) (facts now) image → damage_of image ≡ Some damage
    → IsDamaged facts start now damage
is_damaged facts start now image damage was_read found = record {
  later = was_read.later;
  unchanged = λ honest rest. nothing_written (facts start) (facts now) (was_read.quiet honest) rest;
  untouched = was_read.untouched;
  image = image;
  seen = was_read.seen;
  found = found;
  whole = λ honest. whole_damage (facts start).reads image damage (was_read.seen honest) found;
  made = subst (λ (k : ℕ). Good k (facts start) (facts now)) (calls_damaged image damage (length image) refl found) was_read.made;
}

-- A file was made ready for calls, or a device call of that failed. It has what these bytes tell, and these words.
pub record IsPrepared (old new : Facts) (image words : List ℕ) : Type 0 where
  pub later : Later old new
  pub moments : CanOpen old image words → LeavesOnly old new (IsFile (places_of image) words)
  pub read : CanOpen old image words → IsFile (places_of image) words new.reads
  pub touched : CanOpen old image words → is_switched image ≡ true → Touched (λ k. told_at image ≤ k) old new
  pub grown : CanOpen old image words → is_switched image ≡ false → Grown InSwitch (begins_at image) old new

-- the bytes have no damage
module _ (f0 f1 f2 : Facts) (image words : List ℕ) (was_read : IsRead f0 f1 image) (none : damage_of image ≡ None) (filled : words ≡ words_in image)
    (prepared : IsPrepared f1 f2 image words) where
  can : IsTrue f0.honest → IsSynced f0 → CanOpen f1 image words
  can honest rest =
      let touched = was_read.quiet honest in
      subst (λ (ws : List ℕ). CanOpen f1 image ws) (sym filled)
      (can_open f1 image (still_honest f0 f1 was_read.later honest) (rest_stays f0 f1 touched rest)
      (was_read.seen honest ∙ ap (λ b. take MAX_FILE b) (sym (reads_stay f0 f1 touched rest))) none)

  unchanged : OpensSafely f0 f2
  unchanged honest rest =
      let fits = can honest rest in
      all_ready f0 f1 (was_read.quiet honest) rest f2 (places_of image) words (open_file f1 image words fits) (prepared.moments fits) (prepared.read fits)

  spared : SparesFirst f0 f2
  spared = first_spared f0 f1 f2 image was_read.quiet was_read.seen (λ honest rest set. prepared.touched (can honest rest) set)

  kept : KeepsFirst f0 f2
  kept = first_kept_on f0 f1 f2 image was_read.quiet was_read.seen none (λ honest rest unset. prepared.grown (can honest rest) unset)

  calls : read_calls image + ready_calls image ≡ open_calls image
  calls = calls_sound image (length image) refl none

-- a device call failed
pub disk_failed : {D : Type 0} (facts : D → Facts) (start before after : D) (image words : List ℕ) → IsRead (facts start) (facts before) image → damage_of image ≡ None → words ≡ words_in image
    → IsPrepared (facts before) (facts after) image words → Bad (ready_calls image) (facts before) (facts after) → DiskFailed facts start after
disk_failed facts start before after image words was_read none filled prepared bad =
    let f0 : Facts = facts start in
    let f1 : Facts = facts before in
    let f2 : Facts = facts after in
    record {
      later = later_trans f0 f1 f2 was_read.later prepared.later;
      unchanged = unchanged f0 f1 f2 image words was_read none filled prepared;
      first_stays = spared f0 f1 f2 image words was_read none filled prepared;
      first_kept = kept f0 f1 f2 image words was_read none filled prepared;
      calls = open_calls image;
      made = subst (λ (k : ℕ). Bad k f0 f2) (calls f0 f1 f2 image words was_read none filled prepared) (then_bad (read_calls image) (ready_calls image) f0 f1 f2 was_read.made bad);
      within = λ honest. let e = ap open_calls (was_read.seen honest) in omega (arith, e);
    }

-- The file is open: it begins where the bytes tell, and has their words and these states.
pub record IsHeld {D : Type 0} (file : TenantFile D) (image words : List ℕ) (states : List PlaceState) : Type 0 where
  pub at : at_of file ≡ begins_at image
  pub count : words_of file ≡ told_words image
  pub long : words_of file ≡ length words
  pub states_are : states_of file ≡ states
  pub places : length (states_of file) ≡ places_of image
  pub some_place : 0 < length (states_of file)
  pub free : IsTrue (all_free (states_of file))
  pub sound : has_failed file ≡ false

-- all device calls went well
pub is_opened : {D : Type 0} (facts : D → Facts) (start before : D) (file : TenantFile D) (image words : List ℕ) (states : List PlaceState) → IsRead (facts start) (facts before) image
    → damage_of image ≡ None → words ≡ words_in image → IsPrepared (facts before) (facts (disk_of file)) image words → Good (ready_calls image) (facts before) (facts (disk_of file))
    → (CanOpen (facts before) image words → IsDurable (facts (disk_of file)) (begins_at image) (told_words image) words states)
    → (CanOpen (facts before) image words → is_switched image ≡ false
    → (facts (disk_of file)).reads ≡ given_second (begins_at image) (second_part (places_of image) words) (facts before).reads)
    → IsHeld file image words states → IsOpened facts start file words
is_opened facts start before file image words states was_read none filled prepared good durable given held =
    let f0 : Facts = facts start in
    let f1 : Facts = facts before in
    let f2 : Facts = facts (disk_of file) in
    let fits : IsTrue f0.honest → IsSynced f0 → CanOpen f1 image words = can f0 f1 f2 image words was_read none filled prepared in
    record {
      later = later_trans f0 f1 f2 was_read.later prepared.later;
      unchanged = unchanged f0 f1 f2 image words was_read none filled prepared;
      first_stays = spared f0 f1 f2 image words was_read none filled prepared;
      first_kept = kept f0 f1 f2 image words was_read none filled prepared;
      begins = second_told f0 f1 f2 image was_read.quiet was_read.seen none (λ honest rest. (durable (fits honest rest)).stores.has.head);
      given = second_given f0 f1 f2 image was_read.quiet was_read.seen none (λ honest rest unset.
          given (fits honest rest) unset ∙ ap (λ ws. given_second (begins_at image) (second_part (places_of image) ws) f1.reads) filled);
      image = image;
      seen = was_read.seen;
      undamaged = none;
      made = subst (λ (k : ℕ). Good k f0 f2) (calls f0 f1 f2 image words was_read none filled prepared) (good_trans (read_calls image) (ready_calls image) f0 f1 f2 was_read.made good);
      read = filled;
      count = held.long;
      places = held.places;
      some_place = held.some_place;
      free = held.free;
      sound = held.sound;
      whole = λ honest. whole_words f0.reads image (was_read.seen honest) none ∙ ap Some (sym filled);
      keeps = λ honest rest. keeps_well facts file words (sym held.long)
          (durable_as f2 (begins_at image) (at_of file) (told_words image) (words_of file) words words states (states_of file) held.at held.count refl held.states_are (durable (fits honest rest)));
    }
