-- After a crash, the store alone may start with the words that the tenant's file then has. Used by: a_restart_goes_on.
use Rattle.std.proofs.Common.{◌≡◌, ℕ, true, false, not, arith, List, [], ◌∷◌, Option, Some, None, Result, Ok, Err, IsTrue, refl, sym, ap, subst, ◌∙◌, inl, inr}
use Rattle.std.specs.Prelude.{◌&&◌, Vec}
use Rattle.std.proofs.lemmas.Bool.{cases_Bool}
use Rattle.std.proofs.lemmas.Option.{same_Some}
use Rattle.std.specs.declared.alloc.Global.{Global}
use Rattle.mw_disk.specs.Facts.{Facts, IsSynced}
use Rattle.mw_disk.proofs.RunLaws.{leaves_now}
use Rattle.mw_words.specs.declared.jobs.Entry.{Entry}
use Rattle.mw_words.specs.declared.jobs.Job.{Job}
use Rattle.mw_words.specs.Change.{put}
use Rattle.mw_record.specs.Layout.{pairs_of}
use Rattle.mw_record.specs.Records.{Pairs}
use Rattle.mw_record.proofs.ReadAgain.{put-put_pairs}
use Rattle.mw_file.specs.declared.tenant_file.TenantFile.{TenantFile}
use Rattle.mw_file.specs.declared.opening.OpenFault.{OpenFault}
use Rattle.mw_file.specs.declared.opening.OpenFault.TheVariants.{Damage, Disk, Memory}
use Rattle.mw_file.specs.Reopenings.{Holds, NotDamaged}
use Rattle.mw_file.specs.RecoveryInvariant.{IsFile, IsBeforeOrAfter}
use Rattle.mw_file.specs.OpeningEnds.{Opens, Fails, OpensSafely, SameFile}
use Rattle.mw_lone.specs.Store.{Store, request, entries_of, is_empty, is_quota, store_after_start}
use Rattle.mw_lone.proofs.SoundStores.{length-put}
use Rattle.mw_plain.specs.Cases.{CanChange, under_way}
use Rattle.mw_plain.specs.Restarts.{MayStartWith, RestartGoesOn}
use Rattle.mw_plain.proofs.Runs.{both, when, may-stop}

nothing : (es : List Entry) → is_empty es ≡ true → es ≡ []
nothing [] is = refl
nothing (e ∷ es) is = absurd (cc)

-- a start may find nothing of a change in doubt
without : (s : Store) → MayStartWith s None s.words
without s = record { take = false; legal = λ opened quota may. when (is_quota quota) _ may; count = refl }

-- or all of it; if none is in doubt, that is the same
with_doubt : (s : Store) → MayStartWith s None (put s.words s.in_doubt)
with_doubt s = elim (cases_Bool (is_empty s.in_doubt)) [
  | inl is ↦ record {
    take = false;
    legal = λ opened quota may. when (is_quota quota) _ may ∙ ap (λ es. Some (store_after_start s (put s.words es) opened quota)) (sym (nothing s.in_doubt is));
    count = length-put s.words s.in_doubt;
  }
  | inr other ↦ record {
    take = true;
    legal = λ opened quota may. when (not (is_empty s.in_doubt) && is_quota quota) _ (both _ _ (ap not other) may);
    count = length-put s.words s.in_doubt;
  }
]

-- nothing of a change that was interrupted, or all of it
stopped : (s : Store) (n : ℕ) (job : Job) → request s n ≡ Some (under_way job) → CanChange s job → MayStartWith s (Some n) s.words × MayStartWith s (Some n) (put s.words (entries_of job))
stopped s n job at can = (
  record { take = false; legal = λ opened quota may. may-stop s n job false opened quota at can may; count = refl },
  record { take = true; legal = λ opened quota may. may-stop s n job true opened quota at can may; count = length-put s.words (entries_of job) },
)

-- these bytes are a file of words that the store may start with
pub record Found (s : Store) (interrupted : Option ℕ) (places : ℕ) (image : List ℕ) : Type 0 where
  pub words : List ℕ
  pub start : MayStartWith s interrupted words
  pub file : IsFile places words image

pub found_either : (s : Store) (interrupted : Option ℕ) (places : ℕ) (entries : List Entry) (image : List ℕ) → MayStartWith s interrupted s.words → MayStartWith s interrupted (put s.words entries)
    → IsBeforeOrAfter places s.words (pairs_of entries) image → Found s interrupted places image
found_either s interrupted places entries image before after (inl is) = record { words = s.words; start = before; file = is }
found_either s interrupted places entries image before after (inr is) =
    record { words = put s.words entries; start = after; file = subst (λ ws. IsFile places ws image) (sym (put-put_pairs entries s.words)) is }

pub found_doubt : (s : Store) (places : ℕ) (image : List ℕ) → IsBeforeOrAfter places s.words (pairs_of s.in_doubt) image → Found s None places image
found_doubt s places image either = found_either s None places s.in_doubt image (without s) (with_doubt s) either

pub found_change : (s : Store) (n places : ℕ) (job : Job) (image : List ℕ) → request s n ≡ Some (under_way job) → CanChange s job → IsBeforeOrAfter places s.words (pairs_of (entries_of job)) image → Found s (Some n) places image
found_change s n places job image at can either = let both = stopped s n job at can in found_either s (Some n) places (entries_of job) image both.0 both.1 either

module _ {D : Type 0} (facts : D → Facts) where
  not_damaged : (contents : List ℕ) (change : Pairs) (fault : OpenFault) → NotDamaged facts contents change fault → (other : List ℕ) → NotDamaged facts other [] fault
  not_damaged contents change (Damage damage) holds other = holds
  not_damaged contents change Disk holds other = tt
  not_damaged contents change Memory holds other = tt

  -- the file of such bytes is the same after the opening
  same_file : (places : ℕ) (words before image : List ℕ) → IsFile places words before → SameFile before image → IsFile places words image
  same_file places words before image is same = record { words_are = same.words ∙ is.words_are; places_are = same.places ∙ is.places_are }

  unchanged_of : (disk : D) (fault : OpenFault) (after : D) → Fails facts disk fault after → OpensSafely (facts disk) (facts after)
  unchanged_of disk (Damage damage) after fails = fails.unchanged
  unchanged_of disk Disk after fails = fails.unchanged
  unchanged_of disk Memory after fails = fails.unchanged

  pub goes_on : (s : Store) (interrupted : Option ℕ) (places : ℕ) (contents : List ℕ) (change : Pairs) (disk : D) (opened : Result (TenantFile D × Vec ℕ Global) (OpenFault × D))
      → Found s interrupted places (facts disk).reads → IsTrue (facts disk).honest → IsSynced (facts disk) → Opens facts disk opened → Holds facts contents change opened → RestartGoesOn facts s interrupted places opened
  goes_on s interrupted places contents change disk (Ok opened) found honest rest opens holds =
      let read : found.words ≡ opened.1.items = same_Some _ _ (sym found.file.words_are ∙ opens.whole honest) in
      let keeps = opens.keeps honest rest in
      let start = subst (MayStartWith s interrupted) read found.start in
      let same_places = sym (keeps.read opens.sound).places_are ∙ (opens.unchanged honest rest).read.places ∙ found.file.places_are in
      record {
        start = start;
        keeps = keeps;
        places_are = same_places;
        fits = λ line count room. record {
          count = opens.count ∙ start.count ∙ sym count;
          read = sym opens.count;
          room = omega (arith, room, same_places);
          free = opens.free;
          sound = opens.sound;
        };
      }
  goes_on s interrupted places contents change disk (Err failed) found honest rest opens holds = record {
    sound = not_damaged contents change failed.0 holds s.words;
    words = found.words;
    start = found.start;
    left = λ image may. same_file places found.words (facts disk).reads image found.file
        (leaves_now (facts disk) (facts failed.1) (unchanged_of disk failed.0 failed.1 opens honest rest).left image may);
  }
