-- After a device call of a call failed, the book has the words and places that it had, and its file has failed.
-- Used by: SimulatedFile::prepare, seal, settle.
use Rattle.std.proofs.Common.{◌≡◌, ℕ, true, false, length, Result, Ok, Err, is_ok, sym, ap, ◌∙◌, subst}
use Rattle.mw_memory_disk.specs.Memory.{Memory, memory_facts}
use Rattle.mw_file.specs.declared.tenant_file.TenantFile.{TenantFile}
use Rattle.mw_file.specs.declared.tenant_file.FileFault.{FileFault}
use Rattle.mw_file.specs.declared.tenant_file.FileFault.TheVariants.{Disk, Failed}
use Rattle.mw_file.specs.File.{states_of, words_of, has_failed, Ends}
use Rattle.mw_world_file.specs.declared.device.Device.TheVariants.{Open}
use Rattle.mw_world_file.specs.declared.simulated_file.SimulatedFile.{SimulatedFile}
use Rattle.mw_world_file.specs.Devices.{AreKept}
use Rattle.mw_world_file.specs.Books.{places_of_file}
use Rattle.mw_world_file.proofs.WorkedFiles.{places_open, kept_open, sized_open}

pub record IsFaulted (old : SimulatedFile) (now : TenantFile Memory) : Type 0 where
  pub sized : words_of now ≡ length old.contents.items
  pub has : length (states_of now) ≡ places_of_file old
  pub kept : AreKept (states_of now) old.places.items
  pub failed : has_failed now ≡ true

-- the call was made on a copy of the book's file, and answered an error
pub faulted : {T : Type 0} (old : SimulatedFile) (held before now : TenantFile Memory) (calls : ℕ) (r : Result T FileFault) → old.device ≡ Open held → states_of before ≡ states_of held
    → words_of before ≡ words_of held → has_failed before ≡ false → is_ok r ≡ false → Ends memory_facts calls before now r → IsFaulted old now
faulted old held before now calls (Ok x) is states words unfailed bad ends = absurd (let e : true ≡ false = bad in cc)
faulted old held before now calls (Err Disk) is states words unfailed bad ends = record {
  sized = ends.words ∙ words ∙ sized_open old held is;
  has = ap length (ends.states ∙ states) ∙ places_open old held is;
  kept = subst (λ ss. AreKept ss old.places.items) (sym (ends.states ∙ states)) (kept_open old held is);
  failed = ends.after;
}
faulted old held before now calls (Err Failed) is states words unfailed bad ends = absurd (let e : true ≡ false = sym ends.before ∙ unfailed in cc)
