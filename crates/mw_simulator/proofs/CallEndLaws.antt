-- A call on a tenant's file in the simulated world ends as the definition says. A call that can't end so is refused.
-- Used by: World::call, end, work, close, come, among others.
use Rattle.std.specs.Prelude.{ℕ, ◌&&◌, ◌≤◌, ◌⊎◌, not, List, length, slice_get, slice_set, slice_index_or, OnOk, is_err, Result, Ok, Err, ◌≡◌, ◌<◌, Bool, true, false, cond, if◌then◌else◌, is_some, nat_lt, IfSome, Option, Some, None}
use Rattle.std.specs.declared.alloc.AllocError.{AllocError}
use Rattle.std.specs.Option.{option_and_then, option_map}
use Rattle.std.proofs.Common.{refl, sym, ap, subst, ◌∙◌, inl, inr, arith}
use Rattle.std.proofs.lemmas.Bool.{cases_eq}
use Rattle.std.proofs.lemmas.Bool.Decides.{nat_tests}
use Rattle.mw_words.specs.declared.places.At.TheVariants.{Door as AtDoor, Status as AtStatus}
use Rattle.mw_words.specs.declared.statuses.Status.{Status}
use Rattle.mw_words.specs.Patterns.{IsStatusInRange, packed_status, unpacked_status}
use Rattle.mw_look.specs.declared.observations.Got.{Got}
use Rattle.mw_look.specs.declared.steps.Call.{Call}
use Rattle.mw_look.specs.declared.steps.Kind.TheVariants.{Fault as FaultKind}
use Rattle.mw_look.specs.declared.steps.Op.{Op}
use Rattle.mw_look.specs.Steps.{op_of, fetch}
use Rattle.mw_words.specs.declared.jobs.Entry.{Entry}
use Rattle.mw_look.specs.declared.observations.Observation.TheVariants.{Filed}
use Rattle.mw_actor.specs.ActorState.{ActorState, own_entries}
use Rattle.mw_actor.specs.Program.{tells}
use Rattle.mw_world_file.specs.declared.simulated_file.SimulatedFile.{SimulatedFile}
use Rattle.mw_world_file.specs.declared.faults.BookFault.{BookFault}
use Rattle.mw_world_file.specs.declared.faults.BookFault.TheVariants.{NotEnabled, Memory}
use Rattle.mw_world.specs.declared.outcomes.Outcome.{Outcome}
use Rattle.mw_world.specs.declared.outcomes.Outcome.TheVariants.{Good, Fail}
use Rattle.mw_world_file.specs.Books.{Represents as ShowsFile, quota_of}
use Rattle.mw_world.specs.Files.State.{File, entries_at}
use Rattle.mw_world_file.specs.CallEffects.{Works, worked, may_end, left_by}
use Rattle.mw_world.specs.Maps.{upd}
use Rattle.mw_world.specs.declared.step_labels.StepLabel.TheVariants.{Nothing}
use Rattle.mw_world.specs.declared.config.Config.{Config}
use Rattle.mw_world.specs.Definition.Calls.{Called, calling, ends, starts_from, fails_on, is_formed, suits, place_for, device_calls, is_made, status_after, skips, called_at, call_if, moved_if}
use Rattle.mw_world.specs.Definition.Calls as calls
use Rattle.mw_world.specs.Definition.Cells.{Cells, write}
use Rattle.mw_world.specs.Definition.Extent.{has_slot}
use Rattle.mw_world.specs.Definition.LabelEffects.{marked, with_label, with_intent, with_labels}
use Rattle.mw_world.specs.Definition.State.{State, TenantState, WorkerState, tenants_of}
use Rattle.mw_world.specs.Definition.Turns.{Made, goes_on, moved, next_attempt}
use Rattle.mw_world_memory.specs.declared.tenants.TenantState.{TenantState as TenantStateInMemory}
use Rattle.mw_simulator.specs.declared.world.calls.Ended.{Ended}
use Rattle.mw_simulator.specs.declared.world.World.{World}
use Rattle.mw_world_memory.specs.Bits.{bits_at}
use Rattle.mw_simulator.specs.CallEnds.{called as called_then, Closed, Closes, IsBookOf, SameButFiles, cells_closed, label_closed, ended, is_good, faulted, skipped, refused, makes_none}
use Rattle.mw_world_memory.specs.declared.claims.ClaimLog.{ClaimLog}
use Rattle.mw_world_memory.specs.Claims.{Recalls}
use Rattle.mw_world_memory.specs.Lines.{HasRoomForLine}
use Rattle.mw_world_memory.specs.StepsInBits.{Makes, is_step_there}
use Rattle.mw_simulator.specs.Representation.{Leads, Represents}
use Rattle.mw_simulator.specs.StepParts.{HasRoom, told, with_cells, with_file}
use Rattle.mw_world_memory.specs.BitsMatch.{BitsMatch}
use Rattle.mw_simulator.proofs.WorldAfterStep.{IsHome, ShowsTenantStates, RepresentsWorkers, set_keeps_at, ShowsOne, tenant_states_set, element, recelled, upd_here, upd_else}
use Rattle.mw_simulator.proofs.Frames.{upd_again}
use Rattle.mw_world_memory.proofs.MadeSteps.{status_is}
use Rattle.mw_world_memory.proofs.BitsMatchLaws.{write_fits}

below : (m n : ℕ) → m < n → nat_lt m n ≡ true
below m n lt = grind (arith, nat_tests, lt)

-- a tenant's door gets the fault
pub faults : (old new : World) (state : State) (op : Op) (got : Option Got) (tenant : ℕ) → Represents old state → new.config ≡ old.config → new.worker_states ≡ old.worker_states → new.tenant_states ≡ old.tenant_states → new.claims ≡ old.claims
    → op ≡ op_of (fetch FaultKind (AtDoor tenant)) → tenant < tenants_of old.config → is_some got ≡ is_step_there op old.cells → IfSome got (Makes op old.cells new.cells)
    → Represents new (with_cells state (faulted state.cells tenant))
faults old new state op got tenant shows config worker_states tenant_states claims is has there made = by got there made
  where
    stands : is_step_there op old.cells ≡ true
    stands = ap (λ o. is_step_there o old.cells) is ∙ old.places (AtDoor tenant) ∙ below tenant (tenants_of old.config) has

    by : (g : Option Got) → is_some g ≡ is_step_there op old.cells → IfSome g (Makes op old.cells new.cells) → Represents new (with_cells state (faulted state.cells tenant))
    by None none makes = absurd (cc (none, stands))
    by (Some g) some makes =
        recelled old new state (faulted state.cells tenant) shows config worker_states tenant_states claims
        (makes.tie state.cells (fetch FaultKind (AtDoor tenant)) is shows.tied shows.fit (omega arith, omega arith))
        (makes.fit state.cells (fetch FaultKind (AtDoor tenant)) is shows.tied shows.fit (omega arith, omega arith))

-- a slot's status after a call that went well
pub closes_well : (old new : World) (state : State) (tenant slot bits : ℕ) (call : Call) (status after : Status) (outcome : Outcome) → Represents old state
    → new.config ≡ old.config → new.worker_states ≡ old.worker_states → new.tenant_states ≡ old.tenant_states → new.claims ≡ old.claims
    → outcome ≡ Good → after ≡ status_after call status → IsStatusInRange after → bits ≡ packed_status after
    → ((cells : Cells) (x : Status) → bits ≡ packed_status x → BitsMatch old.cells cells → BitsMatch new.cells (write cells (AtStatus slot) x))
    → Represents new (with_cells state (cells_closed state.cells tenant call slot status outcome))
closes_well old new state tenant slot bits call status after outcome shows config worker_states tenant_states claims good is fits packed ties =
    subst (λ o. Represents new (with_cells state (cells_closed state.cells tenant call slot status o))) (sym good)
    (subst (λ x. Represents new (with_cells state (write state.cells (AtStatus slot) x))) is
    (recelled old new state (write state.cells (AtStatus slot) after) shows config worker_states tenant_states claims
    (ties state.cells after packed shows.tied) (write_fits state.cells (AtStatus slot) after fits shows.fit)))

-- the status of a slot that exists
pub status_at : (world : World) (state : State) (slot : ℕ) → Represents world state
    → option_and_then unpacked_status (bits_at world.cells (AtStatus slot)) ≡ (if has_slot world.config slot then Some (state.cells.statuses slot) else None)
status_at world state slot shows = status_is world.cells state.cells slot shows.tied shows.fit
    ∙ ap (λ (b : Bool). cond b (Some (state.cells.statuses slot)) None) (world.places (AtStatus slot))

-- a tenant with the file that it has already
same_tenant_states : (tenant_states : ℕ → TenantState) (tenant : ℕ) → upd tenant_states tenant (record (tenant_states tenant) { file = (tenant_states tenant).file }) ≡ tenant_states
same_tenant_states tenant_states tenant = λ q k. at k q
  where
    at : (k : ℕ) → upd tenant_states tenant (tenant_states tenant) k ≡ tenant_states k
    at k = elim (cases_eq k tenant) [
      | inl e ↦ upd_here tenant_states tenant k (tenant_states tenant) e ∙ sym (ap (λ i. tenant_states i) e)
      | inr apart ↦ upd_else tenant_states tenant k (tenant_states tenant) apart
    ]

pub same_file : (state : State) (tenant : ℕ) → with_file state tenant (state.tenant_states tenant).file ≡ state
same_file state tenant = ap (λ (tenant_states : ℕ → TenantState). record state { tenant_states = tenant_states }) (same_tenant_states state.tenant_states tenant)

-- what a call makes if no device call fails, and if one does, with the file after it
abbrev pub made_by : State → ActorState → Called → ℕ → Status → Outcome → File → Made
made_by state actor called tenant status outcome file = record {
  cells = cells_closed state.cells tenant called.call called.change.slot status outcome;
  file = file;
  observation = Filed (is_good outcome);
  label = label_closed called.call called.change status outcome;
}

module _ (config : Config) (state : State) (actor : ActorState) (called : Called) (status : Status) (outcome : Outcome) (same : state.cells.statuses called.change.slot ≡ status) where
  abbrev file_then : File
  file_then = (state.tenant_states actor.tenant).file

  abbrev places_then : ℕ
  places_then = (state.tenant_states actor.tenant).quota

  abbrev place_then : ℕ
  place_then = place_for called.call file_then places_then called.change.slot

  abbrev by_tests : Bool → Bool → Bool → Status → Option Made
  by_tests starts fails formed now =
      ends state actor called.change file_then starts fails (formed && suits called.call file_then places_then place_then) called.call now place_then
      (if starts && not fails then device_calls called.call (entries_at file_then place_then) else 0) outcome

  calling_by : (starts fails formed : Bool) → starts_from called.call status ≡ starts → fails_on called.call file_then ≡ fails → is_formed called.call file_then (own_entries actor) ≡ formed
      → calling config state actor called outcome ≡ by_tests starts fails formed status
  calling_by starts fails formed is_start is_fail is_form =
      ap (λ now. by_tests (starts_from called.call now) (fails_on called.call file_then) (is_formed called.call file_then (own_entries actor)) now) same
      ∙ ap (λ b. by_tests b (fails_on called.call file_then) (is_formed called.call file_then (own_entries actor)) status) is_start
      ∙ ap (λ b. by_tests starts b (is_formed called.call file_then (own_entries actor)) status) is_fail
      ∙ ap (λ b. by_tests starts fails b status) is_form

  -- the status isn't the one that the call starts from
  pub call_skips : (new : World) (result : Result Ended BookFault) → starts_from called.call status ≡ false → result ≡ makes_none skipped outcome → Represents new state
      → Closes new state actor.tenant (calling config state actor called outcome) result
  call_skips new result none is shows =
      subst (λ r. Closes new state actor.tenant (calling config state actor called outcome) r) (sym is)
      (by outcome (calling_by false (fails_on called.call file_then) (is_formed called.call file_then (own_entries actor)) none refl refl))
    where
      by : (o : Outcome) → calling config state actor called outcome ≡ calls.makes_none state actor called.change file_then (skips state actor called.change file_then) o
          → Closes new state actor.tenant (calling config state actor called outcome) (makes_none skipped o)
      by Good e = record { made = skips state actor called.change file_then; is = e; observation = refl; label = refl; shows = subst (λ s. Represents new s) (sym (same_file state actor.tenant)) shows }
      by (Fail number) e = (e, shows)

  -- the file failed before
  pub call_refuses : (old new : World) (result : Result Ended BookFault) → starts_from called.call status ≡ true → fails_on called.call file_then ≡ true → result ≡ makes_none refused outcome
      → (outcome ≡ Good → Represents new (with_cells state (faulted state.cells actor.tenant))) → ((outcome ≡ Good → ⊥) → Represents new state)
      → Closes new state actor.tenant (calling config state actor called outcome) result
  call_refuses old new result starts fails is good other =
      subst (λ r. Closes new state actor.tenant (calling config state actor called outcome) r) (sym is)
      (by outcome (calling_by true true (is_formed called.call file_then (own_entries actor)) starts fails refl) good other)
    where
      by : (o : Outcome) → calling config state actor called outcome ≡ calls.makes_none state actor called.change file_then (calls.faults state actor called.change file_then file_then Nothing) o
          → (o ≡ Good → Represents new (with_cells state (faulted state.cells actor.tenant))) → ((o ≡ Good → ⊥) → Represents new state)
          → Closes new state actor.tenant (calling config state actor called outcome) (makes_none refused o)
      by Good e g h = record {
        made = calls.faults state actor called.change file_then file_then Nothing;
        is = e;
        observation = refl;
        label = refl;
        shows = subst (λ s. Represents new s) (sym (same_file (with_cells state (faulted state.cells actor.tenant)) actor.tenant)) (g refl);
      }
      by (Fail number) e g h = (e, h (λ bad. absurd (cc (bad))))

  -- the change to write down isn't well formed
  pub call_unformed : starts_from called.call status ≡ true → fails_on called.call file_then ≡ false → is_formed called.call file_then (own_entries actor) ≡ false
      → calling config state actor called outcome ≡ None
  call_unformed starts fails formed = calling_by true false false starts fails formed

  -- the call is made if its place suits it and it may end so
  by_place : (suit : Bool) (made : ℕ) (o : Outcome)
      → ends state actor called.change file_then true false suit called.call status place_then made o
      ≡ option_map (made_by state actor called actor.tenant status o) (if suit then (if may_end made o then Some (left_by called.call file_then called.change.slot place_then (own_entries actor) o) else None) else None)
  by_place false made o = refl
  by_place true made Good = refl
  by_place true made (Fail number) = by (is_made made number)
    where
      by : (b : Bool) → (if b then Some (calls.breaks state actor called.change file_then called.call place_then) else None)
          ≡ option_map (made_by state actor called actor.tenant status (Fail number)) (if b then Some (left_by called.call file_then called.change.slot place_then (own_entries actor) (Fail number)) else None)
      by true = refl
      by false = refl

  calling_works : starts_from called.call status ≡ true → fails_on called.call file_then ≡ false → is_formed called.call file_then (own_entries actor) ≡ true
      → calling config state actor called outcome ≡ option_map (made_by state actor called actor.tenant status outcome) (worked called.call file_then places_then called.change.slot (own_entries actor) outcome)
  calling_works starts fails formed = calling_by true false true starts fails formed
      ∙ by_place (suits called.call file_then places_then place_then) (device_calls called.call (entries_at file_then place_then)) outcome

  module _ (starts : starts_from called.call status ≡ true) (fails : fails_on called.call file_then ≡ false) (formed : is_formed called.call file_then (own_entries actor) ≡ true)
      (quota : ℕ) (places : quota ≡ places_then) where
    at_quota : calling config state actor called outcome ≡ option_map (made_by state actor called actor.tenant status outcome) (worked called.call file_then quota called.change.slot (own_entries actor) outcome)
    at_quota = calling_works starts fails formed
        ∙ ap (λ n. option_map (made_by state actor called actor.tenant status outcome) (worked called.call file_then n called.change.slot (own_entries actor) outcome)) (sym places)

    -- it was made, and this is the file after it
    pub call_works : (new : World) (after : File) (end : Ended) → worked called.call file_then quota called.change.slot (own_entries actor) outcome ≡ Some after
        → end ≡ ended called.call called.change status outcome
        → Represents new (with_cells (with_file state actor.tenant after) (cells_closed state.cells actor.tenant called.call called.change.slot status outcome))
        → Closed new state actor.tenant (calling config state actor called outcome) end
    call_works new after end is is_end shows = subst (λ e. Closed new state actor.tenant (calling config state actor called outcome) e) (sym is_end)
        (record {
          made = made_by state actor called actor.tenant status outcome after;
          is = at_quota ∙ ap (option_map (made_by state actor called actor.tenant status outcome)) is;
          observation = refl;
          label = refl;
          shows = shows;
        })

    -- it can't be made, or memory is out
    pub call_fails : (new : World) (book : SimulatedFile) (fault : BookFault) → Represents new state → quota_of book ≡ quota → (worked called.call file_then (quota_of book) called.change.slot (own_entries actor) outcome ≡ None ⊎ fault ≡ Memory)
        → Closes new state actor.tenant (calling config state actor called outcome) (Err fault)
    call_fails new book Memory shows same_quota why = shows
    call_fails new book NotEnabled shows same_quota why = elim why [
      | inl none ↦ (
        at_quota ∙ ap (λ n. option_map (made_by state actor called actor.tenant status outcome) (worked called.call file_then n called.change.slot (own_entries actor) outcome)) (sym same_quota)
            ∙ ap (option_map (made_by state actor called actor.tenant status outcome)) none,
        shows,
      )
      | inr bad ↦ absurd (cc)
    ]

-- why a call on a book failed
pub why_failed : (book : SimulatedFile) (call : Call) (slot : ℕ) (entries : List Entry) (outcome : Outcome) (fault : BookFault) (file : File) → Works book call slot entries outcome (Err fault)
    → ShowsFile book file → worked call file (quota_of book) slot entries outcome ≡ None ⊎ fault ≡ Memory
why_failed book call slot entries outcome NotEnabled file fails shows = inl (fails file shows)
why_failed book call slot entries outcome Memory file fails shows = inr refl

-- a tenant that was looked up
pub found_at : (kept : List TenantStateInMemory) (place tenant : ℕ) (shown : TenantStateInMemory) → place ≡ tenant → tenant < length kept → shown ≡ slice_index_or kept place shown → slice_get kept tenant ≡ Some shown
found_at kept place tenant shown at there is = element kept tenant shown there (subst (λ i. shown ≡ slice_index_or kept i shown) at is)

pub shown_at : (world : World) (state : State) (place tenant : ℕ) (shown : TenantStateInMemory) → Represents world state → place ≡ tenant → tenant < length world.tenant_states.items
    → shown ≡ slice_index_or world.tenant_states.items place shown → ShowsOne world.config tenant shown (state.tenant_states tenant)
shown_at world state place tenant shown shows at there is = shows.tenant_states tenant shown (found_at world.tenant_states.items place tenant shown at there is)

pub same_found : (kept : List TenantStateInMemory) (tenant : ℕ) (one other : TenantStateInMemory) → slice_get kept tenant ≡ Some one → slice_get kept tenant ≡ Some other → one ≡ other
same_found kept tenant one other is so = same_one one other (sym is ∙ so)
  where
    same_one : (x y : TenantStateInMemory) → Some x ≡ Some y → x ≡ y
    same_one x y e = cc

-- the change that a call writes down is well formed for the file, or isn't
pub formed_is : (call : Call) (file : File) (contents : List ℕ) (count : ℕ) (entries own : List Entry) (result is : Bool) → file.contents ≡ contents → count ≡ length contents → entries ≡ own
    → ((f : File) → length f.contents ≡ count → result ≡ is_formed call f entries) → result ≡ is → is_formed call file own ≡ is
formed_is call file contents count entries own result is same counted owned tells so =
    ap (λ es. is_formed call file es) (sym owned) ∙ sym (tells file (ap (λ (xs : List ℕ). length xs) same ∙ sym counted)) ∙ so

pub room_if : (result : Result (Unit {0}) AllocError) (P : Type 0) → OnOk result P → is_err result ≡ false → P
room_if (Ok x) P room ok = room
room_if (Err e) P room ok = absurd (cc)

-- a tenant with another file
pub refiled : (old new : World) (state : State) (tenant place : ℕ) (shown : TenantStateInMemory) (book : SimulatedFile) (file : File)
    → Represents old state → new.config ≡ old.config → new.cells ≡ old.cells → new.worker_states ≡ old.worker_states → new.claims ≡ old.claims
    → place ≡ tenant → tenant < length old.tenant_states.items → shown ≡ slice_index_or old.tenant_states.items place shown
    → new.tenant_states.items ≡ slice_set old.tenant_states.items place (record shown { book = book }) → IsBookOf old.config state tenant book file
    → Represents new (with_file state tenant file)
refiled old new state tenant place shown book file shows config cells worker_states claims at there is tenant_states of = record {
  tied = subst (λ bits. BitsMatch bits state.cells) (sym cells) shows.tied;
  fit = shows.fit;
  worker_states = subst (λ kept. RepresentsWorkers kept.items state.worker_states) (sym worker_states) shows.worker_states;
  idle = subst (λ c. (k : ℕ) → c.workers ≤ k → (state.worker_states k).actor ≡ None) (sym config) shows.idle;
  homes = subst (λ (c : Config). (k : ℕ) → IsHome c (state.worker_states k)) (sym config) shows.homes;
  claims = subst (λ known. Recalls known state.history) (sym claims) shows.claims;
  tenant_states = subst (λ (c : Config). ShowsTenantStates c new.tenant_states.items (upd state.tenant_states tenant after)) (sym config)
      (subst (λ kept. ShowsTenantStates old.config kept (upd state.tenant_states tenant after)) (sym (tenant_states ∙ ap (λ i. slice_set old.tenant_states.items i (record shown { book = book })) at))
      (tenant_states_set old.config old.tenant_states.items state.tenant_states tenant (record shown { book = book }) after there
      (record { book = of.shows; quota = one.quota; places = of.places; file_places = of.file_places; words_are = of.words; asked = one.asked; closed = one.closed; lines = one.lines }) shows.tenant_states));
}
  where
    after : TenantState
    after = record (state.tenant_states tenant) { file = file }

    one : ShowsOne old.config tenant shown (state.tenant_states tenant)
    one = shows.tenant_states tenant shown (element old.tenant_states.items tenant shown there (subst (λ i. shown ≡ slice_index_or old.tenant_states.items i shown) at is))

-- the room stays, because the marks stay
pub room_stays : (claims : ClaimLog) (kept : List TenantStateInMemory) (place : ℕ) (shown : TenantStateInMemory) (book : SimulatedFile) → place < length kept → shown ≡ slice_index_or kept place shown
    → (tenant : ℕ) → HasRoom claims kept tenant → HasRoom claims (slice_set kept place (record shown { book = book })) tenant
room_stays claims kept place shown book there is tenant room = record {
  label = room.label;
  line = λ tenant_state here. set_keeps_at (λ k (one : TenantStateInMemory) (other : Unit {0}). (k ≡ tenant) → HasRoomForLine one.lines) kept (λ k. tt) place (record shown { book = book }) there
      (λ e. room.line shown (subst (λ i. slice_get kept i ≡ Some shown) e (element kept place shown there is)))
      (λ k one here e. room.line one (subst (λ i. slice_get kept i ≡ Some one) e here)) tenant tenant_state here refl;
}

pub both_same : (old middle new : World) → SameButFiles old middle → SameButFiles middle new → SameButFiles old new
both_same old middle new one other = record {
  config = other.config ∙ one.config;
  worker_states = other.worker_states ∙ one.worker_states;
  claims = other.claims ∙ one.claims;
  count = other.count ∙ one.count;
  room = λ tenant room. other.room tenant (one.room tenant room);
}

-- the world after a request was told how its call on a file ended
called_moved : (state : State) (worker : ℕ) (actor : ActorState) (made : Made) → told (called_then state actor.tenant made) worker actor made.observation made.label ≡ moved state worker actor made
called_moved state worker actor made = ap at_tenant_state here ∙ ap with_tenant_states (upd_again state.tenant_states actor.tenant refiled_one last_one)
  where
    worker_state : WorkerState
    worker_state = state.worker_states worker

    next : ActorState
    next = tells actor made.observation (next_attempt actor.point worker_state.attempt)

    refiled_one : TenantState
    refiled_one = record (state.tenant_states actor.tenant) { file = made.file }

    with_lines : TenantState → TenantState
    with_lines tenant_state = record tenant_state { lines = marked made.label worker_state state.history tenant_state.lines }

    last_one : TenantState
    last_one = record refiled_one { lines = marked made.label worker_state state.history refiled_one.lines }

    at_tenant_state : TenantState → State
    at_tenant_state tenant_state = record {
      cells = made.cells;
      worker_states = upd state.worker_states worker (goes_on (with_labels made.label state.history tenant_state.lines worker_state) next (next_attempt actor.point worker_state.attempt));
      tenant_states = upd (upd state.tenant_states actor.tenant refiled_one) actor.tenant (record tenant_state { lines = marked made.label worker_state state.history tenant_state.lines });
      history = with_intent (with_label made.label worker actor worker_state.request state.history) worker next;
    }

    with_tenant_states : (ℕ → TenantState) → State
    with_tenant_states tenant_states = record {
      cells = made.cells;
      worker_states = upd state.worker_states worker (goes_on (with_labels made.label state.history refiled_one.lines worker_state) next (next_attempt actor.point worker_state.attempt));
      tenant_states = tenant_states;
      history = with_intent (with_label made.label worker actor worker_state.request state.history) worker next;
    }

    here : upd state.tenant_states actor.tenant refiled_one actor.tenant ≡ refiled_one
    here = upd_here state.tenant_states actor.tenant actor.tenant refiled_one refl

pub has_status : (b : Bool) (x y : Status) → Some y ≡ (if b then Some x else None) → b ≡ true
has_status true x y is = refl
has_status false x y is = absurd (cc)

pub status_is_so : (b : Bool) (x y : Status) → Some y ≡ (if b then Some x else None) → x ≡ y
status_is_so true x y is = same_status x y is
  where
    same_status : (x y : Status) → Some y ≡ Some x → x ≡ y
    same_status x y e = cc
status_is_so false x y is = absurd (cc)

module _ (config : Config) (state : State) (worker : ℕ) (actor : ActorState) (request : Option ActorState) (called : Called) (status : Status) (outcome : Outcome)
    (is : Some actor ≡ request) (at : called_at actor.point ≡ Some called) (slot : Some status ≡ (if has_slot config called.change.slot then Some (state.cells.statuses called.change.slot) else None)) where
  call_so : calls.call config state worker request outcome ≡ moved_if state worker actor (calling config state actor called outcome)
  call_so = ap (λ r. calls.call config state worker r outcome) (sym is) ∙ ap (λ c. call_if config state worker actor c outcome) at
      ∙ ap (λ (b : Bool). if b then moved_if state worker actor (calling config state actor called outcome) else None) (has_status (has_slot config called.change.slot) (state.cells.statuses called.change.slot) status slot)

  pub call_ends_well : (ended new : World) (end : Ended) → Closed ended state actor.tenant (calling config state actor called outcome) end
      → ((s : State) → Represents ended s → Represents new (told s worker actor (Filed end.went_well) end.label))
      → Leads (calls.call config state worker request outcome) new
  call_ends_well ended new end closed tells = record {
    state = moved state worker actor closed.made;
    is = call_so ∙ ap (λ made. moved_if state worker actor made) closed.is;
    shows = subst (λ s. Represents new s)
        (ap (λ n. told (called_then state actor.tenant closed.made) worker actor n end.label) (sym closed.observation)
        ∙ ap (λ n. told (called_then state actor.tenant closed.made) worker actor closed.made.observation n) (sym closed.label)
        ∙ called_moved state worker actor closed.made)
        (tells (called_then state actor.tenant closed.made) closed.shows);
  }
