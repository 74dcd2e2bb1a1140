-- Defines the parts of a tenant's open file by name, and how a call on it ends.
-- Used by: many crates from mw_config on, laws.rt, tenant_file.rt. A change here changes what each call promises.
use Rattle.std.specs.Prelude.{◌≡◌, ℕ, Bool, true, false, List, Result, Ok, Err}
use Rattle.mw_disk.specs.Facts.{Facts}
use Rattle.mw_disk.specs.Runs.{Good, Bad}
use Rattle.mw_file.specs.declared.place_states.PlaceState.{PlaceState}
use Rattle.mw_file.specs.declared.tenant_file.TenantFile.{TenantFile}
use Rattle.mw_file.specs.declared.tenant_file.FileFault.{FileFault}
use Rattle.mw_file.specs.declared.tenant_file.FileFault.TheVariants.{Disk, Failed}

module _ {D : Type 0} where
  -- the disk that the file is on
  abbrev pub disk_of : TenantFile D → D
  disk_of file = file.disk

  -- the offset at which its second layout begins, in bytes
  abbrev pub at_of : TenantFile D → ℕ
  at_of file = file.at

  -- how many words it has
  abbrev pub words_of : TenantFile D → ℕ
  words_of file = file.words

  -- the states of its places, in order of number
  abbrev pub states_of : TenantFile D → List PlaceState
  states_of file = file.states.items

  -- a device call for a change has failed since it was opened; one for a copy doesn't count
  abbrev pub has_failed : TenantFile D → Bool
  has_failed file = file.failed

-- Two files are equal: in their disks, offsets, numbers of words, places, and in whether they have failed.
pub record IsCopy {D : Type 0} (old new : TenantFile D) : Type 0 where
  pub disk : disk_of new ≡ disk_of old
  pub at : at_of new ≡ at_of old
  pub words : words_of new ≡ words_of old
  pub states : states_of new ≡ states_of old
  pub failed : has_failed new ≡ has_failed old

module _ {D : Type 0} (facts : D → Facts) where
  -- The call went well: it made so many device calls, as an honest disk counts them, and none failed.
  pub record WentWell (calls : ℕ) (old new : TenantFile D) : Type 0 where
    pub before : has_failed old ≡ false
    pub after : has_failed new ≡ false
    pub at : at_of new ≡ at_of old
    pub words : words_of new ≡ words_of old
    pub made : Good calls (facts (disk_of old)) (facts (disk_of new))

  -- The device failed: fewer than so many device calls went well, then one failed, and it was the last one. From now on the file
  -- has failed, and its places are what they were.
  pub record MetFault (calls : ℕ) (old new : TenantFile D) : Type 0 where
    pub before : has_failed old ≡ false
    pub after : has_failed new ≡ true
    pub at : at_of new ≡ at_of old
    pub words : words_of new ≡ words_of old
    pub states : states_of new ≡ states_of old
    pub made : Bad calls (facts (disk_of old)) (facts (disk_of new))

  -- The file had failed before, and the call changed nothing.
  pub record HadFailed (old new : TenantFile D) : Type 0 where
    pub before : has_failed old ≡ true
    pub same : new ≡ old

  -- How a call that needs so many device calls ended, by its answer.
  abbrev pub Ends : {T : Type 0} → ℕ → TenantFile D → TenantFile D → Result T FileFault → Type 0
  Ends calls old new (Ok x) = WentWell calls old new
  Ends calls old new (Err Disk) = MetFault calls old new
  Ends calls old new (Err Failed) = HadFailed old new
