-- A start that opens what a crash left, also through openings that were cut off, finds the words that the crash left, and no
-- damage. Used by: starts_find_changes.
use Rattle.std.specs.Prelude.{ℕ, ◌≡◌, is_none, if◌then◌else◌, List, [], ◌∷◌, Option, Some, None, Vec, Result, Ok, Err, IsTrue}
use Rattle.std.specs.declared.alloc.Global.{Global}
use Rattle.std.proofs.Common.{sym, ap, subst, ◌∙◌, inl, inr}
use Rattle.std.proofs.lemmas.Option.{none-some, same_Some}
use Rattle.mw_words.specs.declared.jobs.Entry.{Entry}
use Rattle.mw_words.specs.Change.{put}
use Rattle.mw_disk.specs.Facts.{Facts, IsSynced}
use Rattle.mw_record.specs.Damages.{file_words, words_in}
use Rattle.mw_record.specs.declared.damages.Damage.{Damage as DamageKind}
use Rattle.mw_file.proofs.Reopened.{unchanged_of}
use Rattle.mw_file.specs.OpeningEnds.{Fails, IsDamaged, Opens, SameFile}
use Rattle.mw_file.specs.Reopenings.{NotDamaged}
use Rattle.mw_file.specs.declared.opening.OpenFault.{OpenFault}
use Rattle.mw_file.specs.declared.opening.OpenFault.TheVariants.{Damage, Disk, Memory}
use Rattle.mw_file.specs.declared.tenant_file.TenantFile.{TenantFile}
use Rattle.mw_world.specs.Files.Crashes.{IsFileOfEither}
use Rattle.mw_law_threads.specs.Durable.Starts.{FindsEither, LeftByOpenings, Opening, StartsFindChanges}

module _ {E : Type 0} (facts : E → Facts) (disk : E) (honest : IsTrue (facts disk).honest) (rest : IsSynced (facts disk)) (words : List ℕ) (more : List Entry) where
  -- a damaged file has no words
  no_damage : (after : E) (damage : DamageKind) (found : List ℕ) → IsDamaged facts disk after damage → file_words (facts disk).reads ≡ Some found → ⊥
  no_damage after damage found damaged is =
      none-some found (sym (ap (λ (o : Option DamageKind). if is_none o then Some (words_in (facts disk).reads) else None) (damaged.whole honest)) ∙ is)

  none_damaged : (after : E) (damage : DamageKind) → IsDamaged facts disk after damage → IsFileOfEither words more (facts disk).reads → ⊥
  none_damaged after damage damaged (inl before) = no_damage after damage words damaged before
  none_damaged after damage damaged (inr after_it) = no_damage after damage (put words more) damaged after_it

  by_fault : (fault : OpenFault) (after : E) → Fails facts disk fault after → IsFileOfEither words more (facts disk).reads → NotDamaged facts words [] fault
  by_fault (Damage damage) after fails either = absurd (none_damaged after damage fails either)
  by_fault Disk after fails either = tt
  by_fault Memory after fails either = tt

  pub finds : (opened : Result (TenantFile E × Vec ℕ Global) (OpenFault × E)) → Opens facts disk opened → IsFileOfEither words more (facts disk).reads → FindsEither facts words more opened
  finds (Ok opened) opens (inl before) = (inl (same_Some opened.1.items words (sym (opens.whole honest) ∙ before)), opens.keeps honest rest)
  finds (Ok opened) opens (inr after) = (inr (same_Some opened.1.items (put words more) (sym (opens.whole honest) ∙ after)), opens.keeps honest rest)
  finds (Err failed) opens either = by_fault failed.0 failed.1 opens either

module _ {E : Type 0} (facts : E → Facts) (words : List ℕ) (more : List Entry) where
  same_words : (before image : List ℕ) → SameFile before image → IsFileOfEither words more before → IsFileOfEither words more image
  same_words before image same (inl one) = inl (same.words ∙ one)
  same_words before image same (inr one) = inr (same.words ∙ one)

  -- openings that were cut off leave the words as they were
  through_openings : (first : List ℕ) (openings : List (Opening facts)) (last : List ℕ) → LeftByOpenings facts first openings last → IsFileOfEither words more first → IsFileOfEither words more last
  through_openings first [] last same either = subst (IsFileOfEither words more) (sym same) either
  through_openings first (one ∷ later) last left either =
      let same = (unchanged_of facts one.disk one.opened one.opens one.honest one.synced).left.each left.1 left.2 in
      through_openings left.1 later last left.3 (same_words first left.1 (subst (λ (read : List ℕ). SameFile read left.1) left.0 same) either)

pub starts_find_changes : {D E : Type 0} (facts : D → Facts) (again : E → Facts) → StartsFindChanges facts again
starts_find_changes facts again view tenant more old new left honest image came openings disk opened reached its_honest rest opens =
    finds again disk its_honest rest _ more opened opens (through_openings again _ more image openings (again disk).reads reached ((left.leaves honest).each image came))
