-- A file opens after a crash with the words before, or with these and the change in doubt.
-- Used by: mw_law_threads, crash_in_an_opening, crash_of_a_file.
use Rattle.std.proofs.Common.{◌≡◌, ℕ, List, [], Some, None, is_none, if◌then◌else◌, Result, Ok, Err, Vec, Global, IsTrue, sym, ap, ◌∙◌, inl, inr, subst}
use Rattle.mw_disk.specs.Facts.{Facts, IsSynced}
use Rattle.mw_record.specs.Records.{Pairs, put_pairs}
use Rattle.mw_record.specs.Damages.{file_words, damage_of, words_in}
use Rattle.mw_record.specs.declared.damages.Damage.{Damage as DamageKind}
use Rattle.mw_file.specs.declared.tenant_file.TenantFile.{TenantFile}
use Rattle.mw_file.specs.declared.opening.OpenFault.{OpenFault}
use Rattle.mw_file.specs.declared.opening.OpenFault.TheVariants.{Damage, Disk, Memory}
use Rattle.mw_file.specs.RecoveryInvariant.{IsFile, IsBeforeOrAfter, RecoversTo}
use Rattle.mw_file.specs.OpeningEnds.{SameFile, OpensSafely, Opens, disk_after}
use Rattle.mw_file.specs.Reopenings.{Holds}

pub same_trans : (a b c : List ℕ) → SameFile a b → SameFile b c → SameFile a c
same_trans a b c ab bc = record { words = bc.words ∙ ab.words; places = bc.places ∙ ab.places }

-- an opening leaves the file unchanged, however it ends
pub unchanged_of : {D : Type 0} (facts : D → Facts) (disk : D) (opened : Result (TenantFile D × Vec ℕ Global) (OpenFault × D)) → Opens facts disk opened
    → OpensSafely (facts disk) (facts (disk_after opened))
unchanged_of facts disk (Ok opened) ends = ends.unchanged
unchanged_of facts disk (Err (Damage damage, after)) ends = ends.unchanged
unchanged_of facts disk (Err (Disk, after)) ends = ends.unchanged
unchanged_of facts disk (Err (Memory, after)) ends = ends.unchanged

-- a damaged file has no words
damaged : (b contents : List ℕ) (damage : DamageKind) → file_words b ≡ Some contents → damage_of b ≡ Some damage → ⊥
damaged b contents damage some found =
    let none : file_words b ≡ None = ap (λ d. if is_none d then Some (words_in b) else None) found in
    let e : ⊥ = cc (some, none) in e

module _ {D : Type 0} (facts : D → Facts) (contents : List ℕ) (change : Pairs) (disk : D) (honest : IsTrue (facts disk).honest) (rest : IsSynced (facts disk)) where
  -- a file that opens has the words of its bytes
  opened_with : (words : List ℕ) (places : ℕ) (file : TenantFile D) (given : List ℕ) → file_words (facts disk).reads ≡ Some given → RecoversTo facts file given []
      → IsFile places words (facts disk).reads → RecoversTo facts file words []
  opened_with words places file given whole keeps is =
      let same : Some given ≡ Some words = sym whole ∙ is.words_are in
      let e : given ≡ words = cc in
      subst (λ (ws : List ℕ). RecoversTo facts file ws []) e keeps

  no_damage : (places : ℕ) (damage : DamageKind) → damage_of (facts disk).reads ≡ Some damage → IsBeforeOrAfter places contents change (facts disk).reads → ⊥
  no_damage places damage found either = elim either [
    | inl is ↦ damaged (facts disk).reads contents damage is.words_are found
    | inr is ↦ damaged (facts disk).reads (put_pairs change contents) damage is.words_are found
  ]

  pub holds_again : (places : ℕ) (opened : Result (TenantFile D × Vec ℕ Global) (OpenFault × D)) → IsBeforeOrAfter places contents change (facts disk).reads → Opens facts disk opened
      → Holds facts contents change opened
  holds_again places (Ok opened) either ends = elim either [
    | inl is ↦ inl (opened_with contents places opened.0 opened.1.items (ends.whole honest) (ends.keeps honest rest) is)
    | inr is ↦ inr (opened_with (put_pairs change contents) places opened.0 opened.1.items (ends.whole honest) (ends.keeps honest rest) is)
  ]
  holds_again places (Err (Damage damage, after)) either ends = no_damage places damage (ends.whole honest) either
  holds_again places (Err (Disk, after)) either ends = tt
  holds_again places (Err (Memory, after)) either ends = tt
