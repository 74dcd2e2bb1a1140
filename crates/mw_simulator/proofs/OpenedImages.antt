-- If every run is durably linearizable, a crash while a start opens a tenant's file leaves the words that the start found.
-- The store alone allows these.
-- Used by: every_image_is_of_store.
use Rattle.std.specs.Prelude.{ℕ, zero, suc, ◌≡◌, ◌<◌, ◌==◌, ◌&&◌, Bool, true, false, if◌then◌else◌, List, Vec, length, slice_get, Option, Some, None}
use Rattle.std.specs.declared.alloc.Global.{Global}
use Rattle.std.proofs.Common.{refl, sym, ap, subst, ◌∙◌, inl, inr, arith}
use Rattle.std.proofs.lemmas.Bool.{and_parts, cases_lt}
use Rattle.std.proofs.lemmas.Option.{slice_get_cases}
use Rattle.mw_disk.specs.Facts.{MayHaveLeft}
use Rattle.mw_memory_disk.specs.Memory.{memory_facts}
use Rattle.mw_lone.specs.Store.{Store, entries_in_doubt}
use Rattle.mw_world_file.specs.declared.simulated_file.SimulatedFile.{SimulatedFile}
use Rattle.mw_world_file.specs.Devices.{disk_under}
use Rattle.mw_world.specs.Files.State.{File}
use Rattle.mw_world.specs.declared.config.Config.{Config}
use Rattle.mw_world.specs.declared.events.Event.TheVariants.{Restart as IsRestart}
use Rattle.mw_world.specs.declared.events.Interrupted.{Interrupted}
use Rattle.mw_world.specs.declared.events.Stop.{Stop}
use Rattle.mw_world.specs.Claim.Headline.{EveryRunIsDurablyLinearizable, IsRun, LeavesStore}
use Rattle.mw_world.specs.Definition.Events.{Found, WorldEvent}
use Rattle.mw_world.specs.Definition.Restarts.{UnderWay, doubt_then, found_of, interrupted_request, is_sealed_then, may_all_be_found, may_be_found, may_fail, may_find, may_interrupt, opened_file, quotas_then, restarted, under_way}
use Rattle.mw_world.specs.Definition.State.{TenantStart, State, may_be_quotas, places_of, store_of, tenants_of}
use Rattle.mw_world_memory.specs.declared.tenants.TenantState.{TenantState as TenantStateInMemory}
use Rattle.mw_simulator.specs.declared.world.World.{World}
use Rattle.mw_simulator.specs.Images.{EveryImageInAStartIsOfStore, EveryImageIsOfStore, IsLeftInStart}
use Rattle.mw_simulator.specs.Events.{Started, Steps, outage_of}
use Rattle.mw_simulator.specs.Representation.{Represents}
use Rattle.mw_simulator.specs.UnchangedParts.{book_at}
use Rattle.mw_simulator.proofs.Crashes.{Found as FoundBook, tenant_found}
use Rattle.mw_simulator.proofs.Images.{images_at_rest, images_in_a_call, there_at}

-- what may be found of all tenants may be found of each
among : (config : Config) (state : State) (founds : List Found) (count tenant : ℕ) → may_all_be_found config state founds count ≡ true → tenant < count
    → may_be_found config state tenant (found_of founds tenant) ≡ true
among config state founds zero tenant all lt = absurd (omega (arith, lt))
among config state founds (suc count) tenant all lt =
    let parts = and_parts (may_all_be_found config state founds count) (may_be_found config state count (found_of founds count)) all in
    elim (cases_lt tenant count) [
      | inl low ↦ among config state founds count tenant parts.0 low
      | inr past ↦
          let same : count ≡ tenant = omega (arith, lt, past) in
          subst (λ k. may_be_found config state k (found_of founds k) ≡ true) same parts.1
    ]

-- the parts of a test that held
held : {A : Type 0} (counted may fit : Bool) (x y : A) → (if counted && may && fit then Some x else None) ≡ Some y → (may ≡ true) × (x ≡ y)
held true true true x y is = (refl, cc)
held true true false x y is = absurd (cc)
held true false fit x y is = absurd (cc)
held false may fit x y is = absurd (cc)

opened_contents : (words : List ℕ) (fails_at : Option ℕ) → (opened_file words fails_at).contents ≡ words
opened_contents words None = refl
opened_contents words (Some number) = refl

-- What may be found of a tenant's file, as its store alone says.
may_find_so : (config : Config) (state : State) (tenant : ℕ) (interrupted : Option Interrupted) (found : Found) (store : Store) (words : List ℕ) → LeavesStore config state tenant store
    → found.interrupted ≡ interrupted → may_be_found config state tenant found ≡ true → found.words ≡ words
    → may_find (is_sealed_then (under_way config state interrupted)) store.words (entries_in_doubt store (interrupted_request (under_way config state interrupted))) words ≡ true
may_find_so config state tenant interrupted found store words leaves same may are =
    subst (λ ws. may_find (is_sealed_then call) store.words (entries_in_doubt store (interrupted_request call)) ws ≡ true) are
    (subst (λ ws. may_find (is_sealed_then call) ws (entries_in_doubt store (interrupted_request call)) found.words ≡ true) leaves.words
    (subst (λ es. may_find (is_sealed_then call) file.contents es found.words ≡ true) (leaves.in_doubt interrupted parts.0.0) parts.0.1))
  where
    file : File
    file = (state.tenant_states tenant).file

    call : Option UnderWay
    call = under_way config state interrupted

    parts : ((may_interrupt config state tenant interrupted ≡ true) × (may_find (is_sealed_then call) file.contents (doubt_then file call) found.words ≡ true)) × (may_fail found.opening_calls found.fails_at ≡ true)
    parts =
        let all : (may_interrupt config state tenant interrupted && may_find (is_sealed_then call) file.contents (doubt_then file call) found.words && may_fail found.opening_calls found.fails_at) ≡ true =
        subst (λ o. (may_interrupt config state tenant o && may_find (is_sealed_then (under_way config state o)) file.contents (doubt_then file (under_way config state o)) found.words && may_fail found.opening_calls found.fails_at) ≡ true) same may in
        let two = and_parts (may_interrupt config state tenant interrupted && may_find (is_sealed_then call) file.contents (doubt_then file call) found.words) (may_fail found.opening_calls found.fails_at) all in
        (and_parts (may_interrupt config state tenant interrupted) (may_find (is_sealed_then call) file.contents (doubt_then file call) found.words) two.0, two.1)

-- A start of a world in memory.
module _ (openings : ℕ → TenantStart) (events : List WorldEvent) (state : State) (old new : World) (stops : Vec Stop Global) (tenant : ℕ) (now : SimulatedFile) (store : Store) (image : List ℕ)
    (serves : EveryRunIsDurablyLinearizable) (is : IsRun old.config openings events state) (shows : Represents old state) (steps : Steps old (IsRestart stops) new) (is_now : book_at new tenant ≡ Some now)
    (legal : store_of openings state tenant ≡ Some store) (left : MayHaveLeft (memory_facts (disk_under now.device)) 0 image) where
  low : tenant < tenants_of old.config
  low = let lt = there_at new.tenant_states.items tenant now is_now in omega (arith, lt, new.tenants, ap tenants_of steps.config)

  abbrev start : Started old new state stops.items
  start = steps.happens state shows

  abbrev kept : FoundBook new tenant now
  kept = tenant_found new tenant now is_now

  abbrev found : Found
  found = found_of start.founds tenant

  leads : (may_all_be_found old.config state start.founds (tenants_of old.config) ≡ true) × (restarted old.config state start.founds ≡ start.leads.state)
  leads = held (length start.founds == tenants_of old.config) (may_all_be_found old.config state start.founds (tenants_of old.config))
      (may_be_quotas old.config (quotas_then state start.founds) (places_of state)) (restarted old.config state start.founds) start.leads.state start.leads.is

  -- the words of the new book are those that were found
  words_are : found.words ≡ now.contents.items
  words_are =
      sym (opened_contents found.words found.fails_at) ∙ ap (λ (one : State). (one.tenant_states tenant).file.contents) leads.1
      ∙ (start.leads.shows.tenant_states tenant kept.shown kept.is).book.same_contents ∙ ap (λ (book : SimulatedFile). book.contents.items) kept.same

  left_by : (was : TenantStateInMemory) → slice_get old.tenant_states.items tenant ≡ Some was → IsLeftInStart old.config state (outage_of stops.items tenant).interrupted store now.contents.items image
  left_by was at =
      let opened = start.found tenant was kept.shown at kept.is in
      let served = serves old.config openings events state tenant is low in
      let same_store : served.store ≡ store = (let e : Some served.store ≡ Some store = sym served.legal ∙ legal in cc) in
      let may = among old.config state start.founds (tenants_of old.config) tenant leads.0 low in
      let since : MayHaveLeft (memory_facts (disk_under kept.shown.book.device)) (memory_facts opened.came.first).moment image =
      subst (λ t. MayHaveLeft (memory_facts (disk_under kept.shown.book.device)) t image) (sym opened.came.begins)
      (subst (λ (book : SimulatedFile). MayHaveLeft (memory_facts (disk_under book.device)) 0 image) (sym kept.same) left) in
      record {
        is = opened.came.moments.each image since ∙ ap Some words_are;
        found = may_find_so old.config state tenant (outage_of stops.items tenant).interrupted found store now.contents.items (subst (LeavesStore old.config state tenant) same_store served.left)
            opened.found_so.same_call may words_are;
      }

  left_in_start : IsLeftInStart old.config state (outage_of stops.items tenant).interrupted store now.contents.items image
  left_in_start = elim ((slice_get_cases old.tenant_states.items tenant).1) [
    | inl w ↦ left_by w.0 w.2
    | inr past ↦ absurd (omega (arith, low, past.0, old.tenants))
  ]

images_in_a_start : EveryRunIsDurablyLinearizable → EveryImageInAStartIsOfStore
images_in_a_start serves config openings events state old new stops tenant now store image is same_config shows steps is_now legal left =
    subst (λ c. IsLeftInStart c state (outage_of stops.items tenant).interrupted store now.contents.items image) same_config
    (left_in_start openings events state old new stops tenant now store image serves (subst (λ c. IsRun c openings events state) (sym same_config) is) shows steps is_now legal left)

pub images_of_store : EveryRunIsDurablyLinearizable → EveryImageIsOfStore
images_of_store serves = record { at_rest = images_at_rest serves; in_a_call = images_in_a_call serves; in_a_start = images_in_a_start serves }
