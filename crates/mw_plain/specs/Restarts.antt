-- Defines with which words and quota a tenant's store alone may start after a crash.
-- Used by: restarts.rt. A change here changes the law a_restart_goes_on.
use Rattle.std.specs.Prelude.{◌≡◌, ◌≤◌, ℕ, Bool, List, [], length, Option, Some, Vec, Result, Ok, Err, IsTrue}
use Rattle.std.specs.declared.alloc.Global.{Global}
use Rattle.mw_disk.specs.Facts.{Facts, MayLeave}
use Rattle.mw_file.specs.declared.tenant_file.TenantFile.{TenantFile}
use Rattle.mw_file.specs.declared.opening.OpenFault.{OpenFault}
use Rattle.mw_file.specs.File.{states_of}
use Rattle.mw_file.specs.Reopenings.{NotDamaged}
use Rattle.mw_file.specs.RecoveryInvariant.{RecoversTo, IsFile}
use Rattle.mw_config.specs.declared.lines.TenantLine.{TenantLine}
use Rattle.mw_lone.specs.Store.{Store, step, store_after_start, is_quota}
use Rattle.mw_lone.specs.declared.marks.Mark.TheVariants.{Restart}
use Rattle.mw_plain.specs.Lines.{FitsLine}

-- The store alone may start with these words, and with every quota that a tenant may have. The start takes all or
-- nothing of the change that was interrupted or is in doubt. There are as many words as before.
pub record MayStartWith (s : Store) (interrupted : Option ℕ) (words : List ℕ) : Type 0 where
  pub take : Bool
  pub legal : (opened : Bool) (quota : ℕ) → IsTrue (is_quota quota) → step s (Restart interrupted take opened quota) ≡ Some (store_after_start s words opened quota)
  pub count : length words ≡ length s.words

module _ {D : Type 0} (facts : D → Facts) where
  -- The store may start with the words that were read. The file represents them, no change is in doubt, and it has so
  -- many places. A line with as many words and a quota up to these places fits it.
  pub record GoesOn (s : Store) (interrupted : Option ℕ) (places : ℕ) (opened : TenantFile D × Vec ℕ Global) : Type 0 where
    pub start : MayStartWith s interrupted opened.1.items
    pub keeps : RecoversTo facts opened.0 opened.1.items []
    pub places_are : length (states_of opened.0) ≡ places
    pub fits : (line : TenantLine) → line.words ≡ length s.words → line.quota ≤ places → FitsLine line (Some opened)

  -- An opening that fails loses nothing. The file was not found damaged. There are words that the store may start with,
  -- such that a crash leaves a file of these words and so many places.
  pub record StaysBehind (s : Store) (interrupted : Option ℕ) (places : ℕ) (fault : OpenFault) (disk : D) : Type 0 where
    pub sound : NotDamaged facts s.words [] fault
    pub words : List ℕ
    pub start : MayStartWith s interrupted words
    pub left : (image : List ℕ) → MayLeave (facts disk) image → IsFile places words image

  -- the opening of what a crash left, by its answer
  abbrev pub RestartGoesOn : Store → Option ℕ → ℕ → Result (TenantFile D × Vec ℕ Global) (OpenFault × D) → Type 0
  RestartGoesOn s interrupted places (Ok opened) = GoesOn s interrupted places opened
  RestartGoesOn s interrupted places (Err failed) = StaysBehind s interrupted places failed.0 failed.1
