-- After a call on a file, the new book's disk is the old book's disk after the device calls of that call.
-- Used by: SimulatedFile::prepare, seal, settle, cancel.
use Rattle.std.proofs.Common.{◌≡◌, ℕ, ◌+◌, ◌==◌, ◌&&◌, min, nat_le, Bool, true, false, Some, Result, Ok, Err, is_ok, refl, sym, ap, subst, ◌∙◌, inl, inr, arith}
use Rattle.std.proofs.lemmas.Bool.{cases_Bool, cond-false, and_parts, eqb-true}
use Rattle.mw_look.specs.declared.steps.Call.{Call}
use Rattle.mw_disk.specs.Facts.{most_counted}
use Rattle.mw_disk.specs.Runs.{Later, Good as AllWell, Bad as OneFailed}
use Rattle.mw_memory_disk.specs.Memory.{Memory, memory_facts, plan_of, with_fault}
use Rattle.mw_file.specs.declared.tenant_file.TenantFile.{TenantFile}
use Rattle.mw_file.specs.declared.tenant_file.FileFault.{FileFault}
use Rattle.mw_file.specs.declared.tenant_file.FileFault.TheVariants.{Disk, Failed}
use Rattle.mw_file.specs.File.{disk_of, has_failed, Ends}
use Rattle.mw_world_file.specs.declared.device.Device.TheVariants.{Open}
use Rattle.mw_world_file.specs.declared.simulated_file.SimulatedFile.{SimulatedFile}
use Rattle.mw_world.specs.declared.outcomes.Outcome.{Outcome}
use Rattle.mw_world.specs.declared.outcomes.Outcome.TheVariants.{Good, Fail}
use Rattle.mw_world_file.specs.Devices.{disk_under, IsReady}
use Rattle.mw_world_file.specs.CallEffects.{calls_for, failing, CallsRan, CameOf}
use Rattle.mw_world_file.proofs.WorkedFiles.{unfailed_open}

-- what is known of the disks of two open files is known of their books
opened : (old new : SimulatedFile) (held now : TenantFile Memory) (call : Call) (slot : ℕ) (outcome : Outcome) → old.device ≡ Open held → new.device ≡ Open now
    → CallsRan (calls_for old call slot) outcome (disk_of held) (disk_of now) → Later (memory_facts (disk_of held)) (memory_facts (disk_of now)) → CameOf old call slot outcome (Ok new)
opened old new held now call slot outcome before after ran later = (
  subst (λ d. CallsRan (calls_for old call slot) outcome (disk_under d) (disk_under new.device)) (sym before)
      (subst (λ d. CallsRan (calls_for old call slot) outcome (disk_of held) (disk_under d)) (sym after) ran),
  subst (λ d. Later (memory_facts (disk_under d)) (memory_facts (disk_under new.device))) (sym before)
      (subst (λ d. Later (memory_facts (disk_of held)) (memory_facts (disk_under d))) (sym after) later),
)

-- a call that went well
pub came_well : (old new : SimulatedFile) (held before now : TenantFile Memory) (call : Call) (slot calls : ℕ) (outcome : Outcome) → old.device ≡ Open held → new.device ≡ Open now → outcome ≡ Good
    → disk_of before ≡ disk_of held → calls ≡ calls_for old call slot → AllWell calls (memory_facts (disk_of before)) (memory_facts (disk_of now))
    → Later (memory_facts (disk_of before)) (memory_facts (disk_of now)) → CameOf old call slot outcome (Ok new)
came_well old new held before now call slot calls outcome is_old is_new well copied many ran later =
    opened old new held now call slot outcome is_old is_new
    (subst (λ o. CallsRan (calls_for old call slot) o (disk_of held) (disk_of now)) (sym well)
    (subst (λ n. AllWell n (memory_facts (disk_of held)) (memory_facts (disk_of now))) many
    (subst (λ d. AllWell calls (memory_facts d) (memory_facts (disk_of now))) copied ran)))
    (subst (λ d. Later (memory_facts d) (memory_facts (disk_of now))) copied later)

-- A ready disk with one of its next calls scripted to fail, and the disk after a call on the file during which memory
-- wasn't out.
module _ (disk before now : Memory) (number : ℕ) (ready : IsReady disk) (told : before ≡ failing disk number) (plan : (j : ℕ) → (memory_facts before).plan j ≡ with_fault disk number j)
    (granted : now.refused ≡ disk.refused) where
  -- the call that fails is the scripted one, and its number is in the range that can be counted
  abbrev is_told : ℕ → Bool
  is_told j = (j + 1 == number) && nat_le (disk.calls + number) most_counted

  -- no other call failed
  none_else : (calls : ℕ) (failed : OneFailed calls (memory_facts before) (memory_facts now)) → is_told failed.well ≡ false → ⊥
  none_else calls failed other =
      let goes : (memory_facts before).plan failed.well ≡ Some true =
      plan failed.well ∙ cond-false (is_told failed.well) (Some false) (plan_of disk failed.well) other ∙ ready.plan failed.well in
      let e : now.refused ≡ min (before.refused + 1) most_counted = failed.spared refl goes in
      let same : before.refused ≡ disk.refused = ap (λ m. m.refused) told in
      let none = ready.granted in
      omega (arith, e, same, none, granted)

  failed_there : (calls : ℕ) (failed : OneFailed calls (memory_facts before) (memory_facts now)) → failed.well + 1 ≡ number
  failed_there calls failed = elim (cases_Bool (is_told failed.well)) [
    | inl is ↦ eqb-true (failed.well + 1) number (and_parts (failed.well + 1 == number) (nat_le (disk.calls + number) most_counted) is).0
    | inr other ↦ absurd (none_else calls failed other)
  ]

  ran_to_fault : (calls : ℕ) → OneFailed calls (memory_facts before) (memory_facts now) → CallsRan calls (Fail number) disk now
  ran_to_fault calls failed =
      subst (λ d. (one : OneFailed calls (memory_facts d) (memory_facts now)) × (one.well + 1 ≡ number)) told (failed, failed_there calls failed)

-- a call on the file that didn't answer Ok met the fault
bad_answer : {T : Type 0} (before now : TenantFile Memory) (calls : ℕ) (r : Result T FileFault) → has_failed before ≡ false → is_ok r ≡ false → Ends memory_facts calls before now r
    → OneFailed calls (memory_facts (disk_of before)) (memory_facts (disk_of now))
bad_answer before now calls (Ok x) unfailed bad ends = absurd (let e : true ≡ false = bad in cc)
bad_answer before now calls (Err Disk) unfailed bad ends = ends.made
bad_answer before now calls (Err Failed) unfailed bad ends = absurd (let e : true ≡ false = sym ends.before ∙ unfailed in cc)

-- a call in which a device call failed
pub came_to_fault : {T : Type 0} (old new : SimulatedFile) (held before now : TenantFile Memory) (call : Call) (slot calls number : ℕ) (outcome : Outcome) (r : Result T FileFault) → old.device ≡ Open held
    → new.device ≡ Open now → old.has_failed ≡ false → outcome ≡ Fail number → disk_of before ≡ failing (disk_of held) number
    → ((j : ℕ) → (memory_facts (disk_of before)).plan j ≡ with_fault (disk_of held) number j) → has_failed before ≡ has_failed held → calls ≡ calls_for old call slot → is_ok r ≡ false
    → Ends memory_facts calls before now r → (disk_of now).refused ≡ (disk_of held).refused → Later (memory_facts (disk_of before)) (memory_facts (disk_of now))
    → CameOf old call slot outcome (Ok new)
came_to_fault old new held before now call slot calls number outcome r is_old is_new sound fails told plan as_failed many bad ends granted later =
    opened old new held now call slot outcome is_old is_new
    (subst (λ o. CallsRan (calls_for old call slot) o (disk_of held) (disk_of now)) (sym fails)
    (subst (λ n. CallsRan n (Fail number) (disk_of held) (disk_of now)) many
    (ran_to_fault (disk_of held) (disk_of before) (disk_of now) number (subst (λ d. IsReady (disk_under d)) is_old (old.ready sound)) told plan granted calls
    (bad_answer before now calls r (as_failed ∙ unfailed_open old held is_old sound) bad ends))))
    (record { later = on.later; honest = on.honest; past = on.past; kept = on.kept }) where
      on : Later (memory_facts (failing (disk_of held) number)) (memory_facts (disk_of now))
      on = subst (λ d. Later (memory_facts d) (memory_facts (disk_of now))) told later
