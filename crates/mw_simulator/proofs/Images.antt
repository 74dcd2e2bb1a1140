-- If every run is durably linearizable, a crash leaves the words of the tenant's store alone, with the change in doubt or
-- without it. The crash comes between events or during a call. Used by: Crashes, OpenedImages.
use Rattle.std.specs.Option.{option_map}
use Rattle.std.proofs.Common.{◌≡◌, ◌∙◌, ◌<◌, ℕ, zero, suc, List, [], ◌∷◌, length, slice_get, Option, Some, None, refl, sym, ap, subst, inl, arith}
use Rattle.mw_words.specs.declared.jobs.Entry.{Entry}
use Rattle.mw_disk.specs.Facts.{MayLeave}
use Rattle.mw_memory_disk.specs.Memory.{memory_facts}
use Rattle.mw_world_file.specs.declared.device.Device.{Device}
use Rattle.mw_world_file.specs.declared.device.Device.TheVariants.{Open, Shut}
use Rattle.mw_world.specs.Files.Crashes.{IsFileOfEither}
use Rattle.mw_world_file.specs.Devices.{disk_under, DeviceRecoversTo}
use Rattle.mw_world.proofs.EitherFile.{of_either}
use Rattle.mw_world_file.specs.declared.simulated_file.SimulatedFile.{SimulatedFile}
use Rattle.mw_lone.specs.Store.{entries_in_doubt}
use Rattle.mw_world.specs.Claim.Headline.{EveryRunIsDurablyLinearizable}
use Rattle.mw_world.specs.Definition.Restarts.{interrupted_request, under_way}
use Rattle.mw_world.specs.Definition.State.{tenants_of}
use Rattle.mw_world_memory.specs.declared.tenants.TenantState.{TenantState as TenantStateInMemory}
use Rattle.mw_simulator.specs.Crashes.{IsCrashSafe, stop_in_call}
use Rattle.mw_simulator.specs.Images.{EveryImageBetweenEventsIsOfStore, EveryImageInACallIsOfStore}

-- an image of a device that recovers to these words with this change in doubt
pub image_of_device : (device : Device) (places : ℕ) (words : List ℕ) (doubt : List Entry) (image : List ℕ) → DeviceRecoversTo device places words doubt → MayLeave (memory_facts (disk_under device)) image
    → IsFileOfEither words doubt image
image_of_device (Open file) places words doubt image stands may = of_either _ words doubt image (stands.left image may)
image_of_device (Shut disk) places words doubt image stands may = inl (stands.1 image may).words_are

-- a tenant that is found in memory is one of the tenants there
there : (tenant_states : List TenantStateInMemory) (tenant : ℕ) (shown : TenantStateInMemory) → slice_get tenant_states tenant ≡ Some shown → tenant < length tenant_states
there [] tenant shown is = absurd (let e : None ≡ Some shown = is in cc)
there (tenant_state ∷ tenant_states) zero shown is = omega arith
there (tenant_state ∷ tenant_states) (suc tenant) shown is = let lt = there tenant_states tenant shown is in omega (arith, lt)

-- between events, a crash leaves the store's words of a tenant in memory
pub images_at_rest : EveryRunIsDurablyLinearizable → EveryImageBetweenEventsIsOfStore
images_at_rest serves config openings events state world tenant shown store image is same_config shows is_shown legal may =
    let lt = there world.tenant_states.items tenant shown is_shown in
    let low : tenant < tenants_of config = subst (λ n. tenant < n) (world.tenants ∙ ap tenants_of same_config) lt in
    let served = serves config openings events state tenant is low in
    let same_store : served.store ≡ store = (let e : Some served.store ≡ Some store = sym served.legal ∙ legal in cc) in
    let book = (shows.tenant_states tenant shown is_shown).book in
    let words : shown.book.contents.items ≡ store.words = sym book.same_contents ∙ served.left.words ∙ ap (λ s. s.words) same_store in
    let doubt : shown.book.doubt.items ≡ store.in_doubt = sym book.same_doubt ∙ served.left.in_doubt None refl ∙ ap (λ s. s.in_doubt) same_store in
    subst (λ ws. IsFileOfEither ws store.in_doubt image) words
    (subst (λ es. IsFileOfEither shown.book.contents.items es image) doubt
    (image_of_device shown.book.device shown.book.file_places shown.book.contents.items shown.book.doubt.items image book.stands may))

-- a tenant whose book is found is one of the tenants there
pub there_at : (tenant_states : List TenantStateInMemory) (tenant : ℕ) (book : SimulatedFile) → option_map (λ tenant_state. tenant_state.book) (slice_get tenant_states tenant) ≡ Some book → tenant < length tenant_states
there_at tenant_states tenant book at = by (slice_get tenant_states tenant) refl
  where
    by : (o : Option TenantStateInMemory) → slice_get tenant_states tenant ≡ o → tenant < length tenant_states
    by None none = absurd (let e : None ≡ Some book = sym (ap (λ o. option_map (λ tenant_state. tenant_state.book) o) none) ∙ at in cc)
    by (Some shown) is = there tenant_states tenant shown is

-- so it is during a call
pub images_in_a_call : EveryRunIsDurablyLinearizable → EveryImageInACallIsOfStore
images_in_a_call serves config openings events state old new worker outcome tenant was now store image is same_config shows steps of_tenant is_was is_now legal left =
    let low : tenant < tenants_of config = subst (λ n. tenant < n) (old.tenants ∙ ap tenants_of same_config) (there_at old.tenant_states.items tenant was is_was) in
    let served = serves config openings events state tenant is low in
    let same_store : served.store ≡ store = (let e : Some served.store ≡ Some store = sym served.legal ∙ legal in cc) in
    let safe = subst (λ c. IsCrashSafe c state worker tenant was now) same_config (steps.moments state shows tenant was now of_tenant is_was is_now) in
    let interrupted = stop_in_call worker safe.made in
    record {
      made = safe.made;
      may = safe.may;
      is = subst (λ s. IsFileOfEither s.words (entries_in_doubt s (interrupted_request (under_way config state interrupted))) image) same_store
          (subst (λ ws. IsFileOfEither ws (entries_in_doubt served.store (interrupted_request (under_way config state interrupted))) image) served.left.words
          (subst (λ es. IsFileOfEither (state.tenant_states tenant).file.contents es image) (served.left.in_doubt interrupted safe.may) (safe.moments.each image left)));
    }
