-- A crash at any moment of a simulated call on a tenant's file leaves the words from before, or these with the change in
-- doubt.
-- Used by: World::call, World::end.
use Rattle.std.specs.Prelude.{ℕ, ◌≡◌, ◌==◌, ◌&&◌, not, nat_le, Bool, true, false, if◌then◌else◌, List, length, slice_get, Option, Some, None, OnOk, Result, Ok, Err}
use Rattle.std.specs.Option.{option_map}
use Rattle.std.proofs.Common.{refl, sym, ap, subst, ◌∙◌, inl, inr, arith}
use Rattle.std.proofs.lemmas.Bool.{and_from, eq-eqb, le-leb}
use Rattle.mw_memory_disk.specs.Memory.{memory_facts}
use Rattle.mw_disk.specs.Runs.{LeavesOnly}
use Rattle.mw_disk.proofs.RunLaws.{leaves_same}
use Rattle.mw_words.specs.declared.jobs.Entry.{Entry}
use Rattle.mw_words.specs.declared.statuses.Status.{Status}
use Rattle.mw_look.specs.declared.steps.Call.{Call}
use Rattle.mw_look.specs.declared.steps.Call.TheVariants.{Prepare as PrepareCall, Seal as SealCall, Settle as SettleCall, Cancel as CancelCall}
use Rattle.mw_actor.specs.ActorState.{ActorState, own_entries}
use Rattle.mw_world_file.specs.declared.simulated_file.SimulatedFile.{SimulatedFile}
use Rattle.mw_world.specs.declared.outcomes.Outcome.{Outcome}
use Rattle.mw_world_file.specs.Books.{Represents as ShowsFile, quota_of}
use Rattle.mw_world.specs.Files.Crashes.{IsFileOfEither, at_stake}
use Rattle.mw_world_file.specs.Devices.{disk_under}
use Rattle.mw_world.specs.Files.State.{File, entries_at}
use Rattle.mw_world.specs.declared.config.Config.{Config}
use Rattle.mw_world.specs.Definition.Calls.{Called, called_at, calling, calls_made, can_be_made, device_calls, ends, fails_on, place_for, starts_from}
use Rattle.mw_world.specs.Definition.Extent.{has_slot}
use Rattle.mw_world.specs.Definition.Restarts.{doubt_if, doubt_then, may_be_cut, may_interrupt, stopped_at, stopped_call, under_way}
use Rattle.mw_world.specs.Definition.State.{State, tenant_at}
use Rattle.mw_world.specs.Definition.Turns.{Made}
use Rattle.mw_world_memory.specs.declared.tenants.TenantState.{TenantState as TenantStateInMemory}
use Rattle.mw_simulator.specs.declared.world.World.{World}
use Rattle.mw_simulator.specs.Crashes.{IsCrashSafe, stop_in_call}
use Rattle.mw_simulator.specs.CallEnds.{IsStarted, TouchesFile}
use Rattle.mw_simulator.specs.Representation.{Represents, RepresentsTenant}
use Rattle.mw_simulator.specs.UnchangedParts.{SameBooks, book_at, served_by}
use Rattle.mw_simulator.proofs.Images.{image_of_device}

pub on_any : {T E : Type 0} {P : Type 0} (r : Result T E) → P → OnOk r P
on_any (Ok x) is = is
on_any (Err e) is = tt

pub on_ok : {T E : Type 0} {P Q : Type 0} (r : Result T E) → (P → Q) → OnOk r P → OnOk r Q
on_ok (Ok x) goes is = goes is
on_ok (Err e) goes is = tt

-- two values found at one place are one
pub same_some : {A : Type 0} (o : Option A) (x y : A) → o ≡ Some x → o ≡ Some y → x ≡ y
same_some {A = A} o x y is so = same x y (sym is ∙ so)
  where
    same : (x y : A) → Some x ≡ Some y → x ≡ y
    same x y e = cc

-- a file in memory is the file of some tenant
pub record Found (world : World) (tenant : ℕ) (book : SimulatedFile) : Type 0 where
  pub shown : TenantStateInMemory
  pub is : slice_get world.tenant_states.items tenant ≡ Some shown
  pub same : shown.book ≡ book

pub tenant_found : (world : World) (tenant : ℕ) (book : SimulatedFile) → book_at world tenant ≡ Some book → Found world tenant book
tenant_found world tenant book at = by (slice_get world.tenant_states.items tenant) refl
  where
    by : (o : Option TenantStateInMemory) → slice_get world.tenant_states.items tenant ≡ o → Found world tenant book
    by None none = absurd (let e : None ≡ Some book = sym (ap (λ o. option_map (λ tenant_state. tenant_state.book) o) none) ∙ at in cc)
    by (Some shown) is = record { shown = shown; is = is; same = same_some (Some shown.book) shown.book book refl (sym (ap (λ o. option_map (λ tenant_state. tenant_state.book) o) is) ∙ at) }

-- that tenant represents the tenant state of the world
pub tenant_state_of : (world : World) (state : State) (tenant : ℕ) (book : SimulatedFile) → Represents world state → (found : Found world tenant book)
    → RepresentsTenant (tenant_at world.config tenant).words found.shown (state.tenant_states tenant)
tenant_state_of world state tenant book shows found = shows.tenant_states tenant found.shown found.is

-- how many device calls a call makes before its change is in doubt
abbrev made_for : Call → ℕ
made_for SealCall = 1
made_for call = 0

stake_is : (call : Call) (file : File) (place : ℕ) → at_stake call file place ≡ doubt_if call file.doubt (made_for call) (entries_at file place)
stake_is PrepareCall file place = refl
stake_is SealCall file place = refl
stake_is SettleCall file place = refl
stake_is CancelCall file place = refl

none_made : (call : Call) (doubt entries : List Entry) → doubt_if call doubt 0 entries ≡ doubt
none_made PrepareCall doubt entries = refl
none_made SealCall doubt entries = refl
none_made SettleCall doubt entries = refl
none_made CancelCall doubt entries = refl

enough_made : (call : Call) (calls : ℕ) (entries : List Entry) → calls ≡ device_calls call entries → nat_le (made_for call) calls ≡ true
enough_made PrepareCall calls entries is = le-leb 0 calls (omega arith)
enough_made SealCall calls entries is = ap (λ n. nat_le 1 n) is
enough_made SettleCall calls entries is = le-leb 0 calls (omega arith)
enough_made CancelCall calls entries is = le-leb 0 calls (omega arith)

-- A call that was made makes all its device calls.
module _ (config : Config) (state : State) (actor : ActorState) (called : Called) (outcome : Outcome) (made : Made) (slot : has_slot config called.change.slot ≡ true)
    (starts : starts_from called.call (state.cells.statuses called.change.slot) ≡ true) (sound : fails_on called.call (state.tenant_states actor.tenant).file ≡ false)
    (is : calling config state actor called outcome ≡ Some made) where
  abbrev file_then : File
  file_then = (state.tenant_states actor.tenant).file

  abbrev place_then : ℕ
  place_then = place_for called.call file_then (state.tenant_states actor.tenant).quota called.change.slot

  abbrev status_then : Status
  status_then = state.cells.statuses called.change.slot

  abbrev can_be : Bool
  can_be = can_be_made called.call file_then (state.tenant_states actor.tenant).quota place_then (own_entries actor)

  abbrev by_tests : Bool → Bool → Bool → Option Made
  by_tests a b d = ends state actor called.change file_then a b d called.call status_then place_then (calls_made called.call status_then file_then place_then) outcome

  calling_so : calling config state actor called outcome ≡ by_tests true false can_be
  calling_so = ap (λ a. by_tests a (fails_on called.call file_then) can_be) starts ∙ ap (λ b. by_tests true b can_be) sound

  could_be : (b : Bool) → can_be ≡ b → can_be ≡ true
  could_be true e = e
  could_be false e = absurd (let none : None ≡ Some made = sym (calling_so ∙ ap (λ d. by_tests true false d) e) ∙ is in cc)

  calls_are : (many : ℕ) → (stopped_call config state actor many called).calls ≡ device_calls called.call (entries_at file_then place_then)
  calls_are many =
      ap (λ (b : Bool). if b && can_be then calls_made called.call status_then file_then place_then else 0) slot
      ∙ ap (λ (b : Bool). if b then calls_made called.call status_then file_then place_then else 0) (could_be can_be refl)
      ∙ ap (λ (b : Bool). if b && not (fails_on called.call file_then) then device_calls called.call (entries_at file_then place_then) else 0) starts
      ∙ ap (λ (b : Bool). if not b then device_calls called.call (entries_at file_then place_then) else 0) sound

-- The call that a worker's request comes to.
module _ (config : Config) (state : State) (worker : ℕ) (actor : ActorState) (called : Called) (is : Some actor ≡ (state.worker_states worker).actor) (at : called_at actor.point ≡ Some called) where
  under_is : (made : ℕ) → under_way config state (stop_in_call worker made) ≡ Some (stopped_call config state actor made called)
  under_is made = ap (λ o. stopped_at config state made o) (sym is) ∙ ap (λ o. option_map (stopped_call config state actor made) o) at

  may_stop : (made : ℕ) → nat_le made (stopped_call config state actor made called).calls ≡ true → may_interrupt config state actor.tenant (stop_in_call worker made) ≡ true
  may_stop made many =
      ap (λ o. may_be_cut actor.tenant o) (under_is made)
      ∙ and_from (actor.tenant == actor.tenant) (nat_le made (stopped_call config state actor made called).calls) (eq-eqb actor.tenant actor.tenant refl) many

  -- a crash leaves a file of the words before, or of these with the change then in doubt
  in_midst : (made : ℕ) (change : List Entry) (old new : SimulatedFile) → nat_le made (stopped_call config state actor made called).calls ≡ true
      → change ≡ doubt_then (state.tenant_states actor.tenant).file (Some (stopped_call config state actor made called))
      → LeavesOnly (memory_facts (disk_under old.device)) (memory_facts (disk_under new.device)) (IsFileOfEither (state.tenant_states actor.tenant).file.contents change)
      → IsCrashSafe config state worker actor.tenant old new
  in_midst made change old new many same leaves = record {
    made = made;
    may = may_stop made many;
    moments = subst (λ es. LeavesOnly (memory_facts (disk_under old.device)) (memory_facts (disk_under new.device)) (IsFileOfEither (state.tenant_states actor.tenant).file.contents es))
        (same ∙ ap (λ o. doubt_then (state.tenant_states actor.tenant).file o) (sym (under_is made))) leaves;
  }

  -- the file is unchanged
  untouched_safe : (world : World) (book : SimulatedFile) → Represents world state → Found world actor.tenant book → IsCrashSafe config state worker actor.tenant book book
  untouched_safe world book shows found = subst (λ b. IsCrashSafe config state worker actor.tenant b b) found.same
      (in_midst 0 file.doubt kept kept (le-leb 0 (stopped_call config state actor 0 called).calls (omega arith)) (sym (none_made called.call file.doubt _))
      (leaves_same (memory_facts (disk_under kept.device)) (λ image may.
      subst (λ ws. IsFileOfEither ws file.doubt image) (sym one.book.same_contents)
      (subst (λ es. IsFileOfEither kept.contents.items es image) (sym one.book.same_doubt)
      (image_of_device kept.device kept.file_places kept.contents.items kept.doubt.items image one.book.stands may)))))
    where
      file : File
      file = (state.tenant_states actor.tenant).file

      kept : SimulatedFile
      kept = found.shown.book

      one : RepresentsTenant (tenant_at world.config actor.tenant).words found.shown (state.tenant_states actor.tenant)
      one = tenant_state_of world state actor.tenant book shows found

  -- the call was made on the file
  worked_safe : (world ended : World) (status : Status) (outcome : Outcome) (made : Made) → Represents world state → (one : IsStarted world ended actor.tenant called status)
      → has_slot config called.change.slot ≡ true → state.cells.statuses called.change.slot ≡ status → calling config state actor called outcome ≡ Some made
      → IsCrashSafe config state worker actor.tenant one.worked.was one.worked.now
  worked_safe world ended status outcome made shows one slot same is_made =
      in_midst (made_for called.call) (at_stake called.call file place) one.worked.was one.worked.now
      (enough_made called.call _ (entries_at file place)
      (calls_are config state actor called outcome made slot (ap (λ s. starts_from called.call s) same ∙ one.starts) (one.sound state shows) is_made (made_for called.call)))
      (stake_is called.call file place) leaves
    where
      file : File
      file = (state.tenant_states actor.tenant).file

      place : ℕ
      place = place_for called.call file (state.tenant_states actor.tenant).quota called.change.slot

      found : Found world actor.tenant one.worked.was
      found = tenant_found world actor.tenant one.worked.was one.worked.is_old

      tenant_state : RepresentsTenant (tenant_at world.config actor.tenant).words found.shown (state.tenant_states actor.tenant)
      tenant_state = tenant_state_of world state actor.tenant one.worked.was shows found

      leaves : LeavesOnly (memory_facts (disk_under one.worked.was.device)) (memory_facts (disk_under one.worked.now.device)) (IsFileOfEither file.contents (at_stake called.call file place))
      leaves = subst (λ places. LeavesOnly (memory_facts (disk_under one.worked.was.device)) (memory_facts (disk_under one.worked.now.device))
          (IsFileOfEither file.contents (at_stake called.call file (place_for called.call file places called.change.slot)))) (sym (ap quota_of found.same) ∙ tenant_state.places)
          (one.worked.safe file (subst (λ b. ShowsFile b file) found.same tenant_state.book))

  pub call_safe : (old world ended new : World) (status : Status) (outcome : Outcome) (made : Made) → SameBooks old world → SameBooks ended new → Represents world state
      → TouchesFile world ended actor.tenant called status → has_slot config called.change.slot ≡ true → state.cells.statuses called.change.slot ≡ status
      → calling config state actor called outcome ≡ Some made → served_by old worker ≡ Some actor.tenant
      → (tenant : ℕ) (was now : SimulatedFile) → served_by old worker ≡ Some tenant → book_at old tenant ≡ Some was → book_at new tenant ≡ Some now → IsCrashSafe config state worker tenant was now
  call_safe old world ended new status outcome made first last shows touches slot same is_made serves tenant was now of_tenant =
      subst (λ t. book_at old t ≡ Some was → book_at new t ≡ Some now → IsCrashSafe config state worker t was now) (same_some (served_by old worker) actor.tenant tenant serves of_tenant)
      (λ is_was is_now. by touches (first actor.tenant ∙ is_was) (sym (last actor.tenant) ∙ is_now))
    where
      by : TouchesFile world ended actor.tenant called status → book_at world actor.tenant ≡ Some was → book_at ended actor.tenant ≡ Some now → IsCrashSafe config state worker actor.tenant was now
      by (inl stays) is_was is_now =
          subst (λ b. IsCrashSafe config state worker actor.tenant was b) (same_some (book_at world actor.tenant) was now is_was (sym (stays actor.tenant) ∙ is_now))
          (untouched_safe world was shows (tenant_found world actor.tenant was is_was))
      by (inr one) is_was is_now =
          subst (λ b. IsCrashSafe config state worker actor.tenant b now) (same_some (book_at world actor.tenant) one.worked.was was one.worked.is_old is_was)
          (subst (λ b. IsCrashSafe config state worker actor.tenant one.worked.was b) (same_some (book_at ended actor.tenant) one.worked.now now one.worked.is_new is_now)
          (worked_safe world ended status outcome made shows one slot same is_made))
