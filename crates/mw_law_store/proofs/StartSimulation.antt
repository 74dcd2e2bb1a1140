-- After a start each tenant's part of the world refines its store alone, which says what a crash leaves of the tenant's file.
-- Used by: mw_law_threads.
use Rattle.std.specs.Prelude.{ℕ, ◌≡◌, ◌≢◌, ◌<◌, ◌≤◌, ◌==◌, ◌&&◌, not, Bool, true, false, if◌then◌else◌, nat_le, List, [], Option, Some, None}
use Rattle.std.specs.FinMap as map
use Rattle.std.specs.Option.{option_map_or}
use Rattle.std.specs.Ordering.{nat_cmp}
use Rattle.std.proofs.Common.{refl, sym, ap, subst, ◌∙◌, arith}
use Rattle.std.proofs.lemmas.Bool.Decides.{nat_tests}
use Rattle.std.proofs.lemmas.Option.{none-some}
use Rattle.mw_words.specs.declared.jobs.Entry.{Entry}
use Rattle.mw_words.specs.declared.statuses.Status.{Status}
use Rattle.mw_words.specs.declared.statuses.Status.TheVariants.{Draft, YesDirty}
use Rattle.mw_words.specs.Change.{fits, word_at}
use Rattle.mw_lone.specs.Store.{Store, RequestState, request, entries_of, entries_in_doubt}
use Rattle.mw_law_store.specs.Late.MarkEffects.{CouldBeInterrupted}
use Rattle.mw_look.specs.declared.steps.Call.TheVariants.{Seal as SealCall}
use Rattle.mw_actor.specs.declared.points.Point.{Point}
use Rattle.mw_actor.specs.declared.points.Point.TheVariants.{Prepare, Seal, Settle, Cancel}
use Rattle.mw_actor.specs.declared.points.Slot.{Slot}
use Rattle.mw_actor.specs.declared.points.Task.{Task}
use Rattle.mw_actor.specs.ActorState.{ActorState, own_entries}
use Rattle.mw_world.specs.Files.State.{is_empty, entries_in, entries_at}
use Rattle.mw_world.specs.Files.Calls.{device_calls}
use Rattle.mw_world.specs.declared.config.Config.{Config}
use Rattle.mw_world.specs.declared.events.Interrupted.{Interrupted}
use Rattle.mw_world.specs.Claim.Headline.{RepresentsStore, LeavesStore}
use Rattle.mw_world.specs.Claim.Invariant.{placed}
use Rattle.mw_world.specs.Definition.Calls.{place_for, can_be_made, starts_from, calls_made}
use Rattle.mw_world.specs.Definition.Extent.{has_slot}
use Rattle.mw_world.specs.Definition.Restarts.{stopped_at, may_be_cut, may_interrupt, under_way, doubt_then, interrupted_request}
use Rattle.mw_world.specs.Definition.State.{State, TenantState, TenantStart, tenant_state_at, store_at, world_at, started, tenant_at, tenants_of}
use Rattle.mw_law_runs.specs.Moves.Guards.{IsLive}
use Rattle.mw_law_runs.specs.RunInvariant.{IsSound, IsSoundRequest}
use Rattle.mw_law_runs.proofs.GuardedEvents.{first_holds, second_holds}
use Rattle.mw_law_store.specs.Files.Files.{HasFiles}
use Rattle.mw_law_store.specs.Due.{told}
use Rattle.mw_law_store.specs.WorldFacts.{HasWorldFacts}
use Rattle.mw_law_store.specs.Laws.{DecidedChangesFit}
use Rattle.mw_law_store.specs.Refinement.{told_of, IsOfChange, Refines}

pub started_refines : (config : Config) (tenant_states : ℕ → TenantState) (tenant : ℕ) (store : Store) → (tenant_states tenant).file.contents ≡ store.words → (tenant_states tenant).quota ≡ store.quota → store.used ≡ 0
    → (tenant_states tenant).file.has_failed ≡ store.faulted → (tenant_states tenant).file.doubt ≡ store.in_doubt → (tenant_states tenant).asked ≡ store.next → store.requests ≡ map.empty → Refines (started config tenant_states) tenant store
started_refines config tenant_states tenant store words quota used faulted in_doubt next requests = record {
  holds = record {
    words = words;
    quota = quota;
    used = sym used;
    faulted = faulted;
    in_doubt = in_doubt;
    next = next;
    numbered = λ n r asked. absurd (none-some r (sym (map.get-empty nat_cmp n) ∙ ap (λ m. map.get m n) (sym requests) ∙ asked));
  };
  asks = record {
    changes = record {
      asked = λ slot seq is. absurd (unborn is.0);
      apart = λ slot seq other number is too same. absurd (unborn is.0);
      kept = λ slot seq lives is. absurd (unborn is.0);
    };
    each = λ worker. tt;
    apart = λ worker other differ. tt;
  };
}
  where
    unborn : false ≡ true → ⊥
    unborn e = cc

pub shows_store : (config : Config) (state : State) (tenant : ℕ) (store : Store) → HasFiles config state → tenant < tenants_of config → (state.tenant_states tenant).is_up ≡ true → Refines state tenant store
    → RepresentsStore state tenant (tenant_at config tenant).words store
shows_store config state tenant store files low is_up refines = record {
  values = λ address within. (files.told tenant low).shown is_up address within ∙ ap (λ words. word_at words address) refines.holds.words;
  used = refines.holds.used;
  fault = sym (files.told tenant low).fault ∙ refines.holds.faulted;
}

-- A change is being sealed: it is this tenant's, under this request and with these entries, it was decided to be made, and the file works.
pub record IsBeingSealed (state : State) (tenant number : ℕ) (entries : List Entry) : Type 0 where
  pub target : Slot
  pub live : IsLive state target
  pub is_claimed : state.history.is_claimed target.slot target.seq ≡ true
  pub same_tenant : state.history.tenant target.slot target.seq ≡ tenant
  pub fate : state.history.fate target.slot target.seq ≡ YesDirty
  pub request : state.history.request target.slot target.seq ≡ number
  pub change : entries ≡ state.history.change target.slot target.seq
  pub works : (state.tenant_states tenant).file.has_failed ≡ false

-- What was interrupted: nothing by which more is in doubt than before, or the seal of a change.
pub data Cut (state : State) (tenant : ℕ) (interrupted : Option ℕ) (doubt : List Entry) : Type 0 where
  AsBefore : interrupted ≡ None → doubt ≡ (state.tenant_states tenant).file.doubt → Cut state tenant interrupted doubt
  ASeal : (number : ℕ) → interrupted ≡ Some number → IsBeingSealed state tenant number doubt → Cut state tenant interrupted doubt

-- a seal starts from one status
seal_from : (status : Status) → starts_from SealCall status ≡ true → status ≡ YesDirty
seal_from YesDirty is = refl
seal_from status is = absurd (not_so is)
  where
    not_so : false ≡ true → ⊥
    not_so e = cc

-- if one of so many device calls was made, there are some
some_made : (test : Bool) (made calls : ℕ) → nat_le made (if test then calls else 0) ≡ true → (made == 0) ≡ false → 1 ≤ calls
some_made true made calls low is = grind (arith, nat_tests, low, is)
some_made false made calls low is = absurd (grind (arith, nat_tests, low, is))

some_called : (starts failed : Bool) (calls : ℕ) → 1 ≤ (if starts && not failed then calls else 0) → (starts ≡ true) × (failed ≡ false)
some_called true false calls some = (refl, refl)
some_called true true calls some = absurd (omega (arith, some))
some_called false failed calls some = absurd (omega (arith, some))

-- a first device call was made, or none was
by_made : (state : State) (tenant number : ℕ) (none : Bool) (entries : List Entry) → (none ≡ false → IsBeingSealed state tenant number entries)
    → Cut state tenant (if none then None else Some number) (if none then (state.tenant_states tenant).file.doubt else entries)
by_made state tenant number true entries sealing = AsBefore refl refl
by_made state tenant number false entries sealing = ASeal number refl (sealing refl)

module _ (config : Config) (state : State) (tenant : ℕ) (sound : IsSound config state) (files : HasFiles config state) where
  -- a change that is decided to be made is in its place
  in_place : (target : Slot) → IsLive state target → state.history.tenant target.slot target.seq ≡ tenant → state.history.fate target.slot target.seq ≡ YesDirty
      → entries_at (state.tenant_states tenant).file ((state.tenant_states tenant).file.place_of target.slot) ≡ state.history.change target.slot target.seq
  in_place target live same_tenant fate =
      let file = (state.tenant_states tenant).file in
      let seq = (state.cells.gates target.slot).seq in
      let decided : state.history.fate target.slot seq ≡ YesDirty = ap (state.history.fate target.slot) live.seq ∙ fate in
      let there : placed (state.history.fate target.slot seq) (state.history.change target.slot seq) ≡ placed YesDirty (state.history.change target.slot seq) =
      ap (λ (status : Status). placed status (state.history.change target.slot seq)) decided in
      ap entries_in (files.places.there tenant target.slot (record {
        taken = live.taken;
        same_tenant = ap (state.history.tenant target.slot) live.seq ∙ same_tenant;
        in_file = ap is_empty there;
      }) ∙ there) ∙ ap (state.history.change target.slot) live.seq

  being_sealed : (actor : ActorState) (task : Task) (made : ℕ) → let me = record actor { point = Seal task } in IsSoundRequest state me → actor.tenant ≡ tenant
      → (made == 0) ≡ false
      → let file = (state.tenant_states actor.tenant).file in let places = (state.tenant_states actor.tenant).quota in let place = place_for SealCall file places task.target.slot in
      nat_le made (if has_slot config task.target.slot && can_be_made SealCall file places place (own_entries me) then calls_made SealCall (state.cells.statuses task.target.slot) file place else 0) ≡ true
      → IsBeingSealed state tenant (state.history.request task.target.slot task.target.seq) (entries_at file place)
  being_sealed actor task made request of_it some low =
      let me = record actor { point = Seal task } in
      let target = task.target in
      let file = (state.tenant_states actor.tenant).file in
      let places = (state.tenant_states actor.tenant).quota in
      let place = place_for SealCall file places target.slot in
      let live = request.stands.live.1 in
      let known = request.stands.knows.0.at_work.target in
      let calls = some_made (has_slot config target.slot && can_be_made SealCall file places place (own_entries me)) made (calls_made SealCall (state.cells.statuses target.slot) file place) low some in
      let both = some_called (starts_from SealCall (state.cells.statuses target.slot)) file.has_failed (device_calls SealCall (entries_at file place)) calls in
      let not_draft : state.history.fate target.slot (state.cells.gates target.slot).seq ≢ Draft = λ is. known.ready (ap (state.history.fate target.slot) (sym live.seq) ∙ is) in
      let stands = sound.memory.slots.status target.slot live.taken not_draft in
      let fate : state.history.fate target.slot target.seq ≡ YesDirty =
      ap (state.history.fate target.slot) (sym live.seq) ∙ sym stands ∙ seal_from (state.cells.statuses target.slot) both.0 in
      let same : state.history.tenant target.slot target.seq ≡ tenant = known.same_tenant ∙ of_it in
      record {
        target = target;
        live = live;
        is_claimed = known.is_claimed;
        same_tenant = same;
        fate = fate;
        request = refl;
        change = ap (λ (t : ℕ). entries_at (state.tenant_states t).file ((state.tenant_states t).file.place_of target.slot)) of_it ∙ in_place target live same fate;
        works = ap (λ (t : ℕ). (state.tenant_states t).file.has_failed) (sym of_it) ∙ both.1;
      }

  -- what a request at a point leaves if it is interrupted
  cut_at : (actor : ActorState) (made : ℕ) (point : Point) → let me = record actor { point = point } in IsSoundRequest state me → may_be_cut tenant (stopped_at config state made (Some me)) ≡ true
      → Cut state tenant (interrupted_request (stopped_at config state made (Some me))) (doubt_then (state.tenant_states tenant).file (stopped_at config state made (Some me)))
  cut_at actor made (Prepare own) request cut = AsBefore refl refl
  cut_at actor made (Seal task) request cut =
      let file = (state.tenant_states actor.tenant).file in
      let place = file.place_of task.target.slot in
      let me = record actor { point = Seal task } in
      let calls = if has_slot config task.target.slot && can_be_made SealCall file (state.tenant_states actor.tenant).quota place (own_entries me) then calls_made SealCall (state.cells.statuses task.target.slot) file place else 0 in
      let tests : (actor.tenant == tenant) && nat_le made calls ≡ true = cut in
      let of_it : actor.tenant ≡ tenant = same_number actor.tenant tenant (first_holds (actor.tenant == tenant) (nat_le made calls) tests) in
      by_made state tenant (state.history.request task.target.slot task.target.seq) (made == 0) (entries_at file place)
      (λ some. being_sealed actor task made request of_it some (second_holds (actor.tenant == tenant) (nat_le made calls) tests))
    where
      same_number : (one other : ℕ) → (one == other) ≡ true → one ≡ other
      same_number one other is = grind (arith, nat_tests, is)
  cut_at actor made (Settle task) request cut = AsBefore refl refl
  cut_at actor made (Cancel task) request cut = AsBefore refl refl
  cut_at actor made point request cut = absurd (false_true cut)
    where
      false_true : false ≡ true → ⊥
      false_true e = cc

  by_worker_state : (worker made : ℕ) (seated : Option ActorState) → (state.worker_states worker).actor ≡ seated → may_be_cut tenant (stopped_at config state made seated) ≡ true
      → Cut state tenant (interrupted_request (stopped_at config state made seated)) (doubt_then (state.tenant_states tenant).file (stopped_at config state made seated))
  by_worker_state worker made None sits cut = absurd (false_true cut)
    where
      false_true : false ≡ true → ⊥
      false_true e = cc
  by_worker_state worker made (Some actor) sits cut = cut_at actor made actor.point (sound.requests worker actor sits) cut

  pub what_was_cut : (interrupted : Option Interrupted) → may_interrupt config state tenant interrupted ≡ true
      → Cut state tenant (interrupted_request (under_way config state interrupted)) (doubt_then (state.tenant_states tenant).file (under_way config state interrupted))
  what_was_cut None cut = AsBefore refl refl
  what_was_cut (Some interrupted) cut = by_worker_state interrupted.worker interrupted.made (state.worker_states interrupted.worker).actor refl cut

-- a change that is being sealed is that of a request of the store, which has no reply if FAULT is not decided for the change
sealed_request : (state : State) (tenant number : ℕ) (entries : List Entry) (store : Store) → Refines state tenant store → (sealing : IsBeingSealed state tenant number entries)
    → IsOfChange (request store) number entries (told_of state.history sealing.target.slot sealing.target.seq)
sealed_request state tenant number entries store refines sealing =
    let of_change = refines.asks.changes.asked sealing.target.slot sealing.target.seq (sealing.is_claimed, sealing.same_tenant) in
    record {
      found = of_change.found;
      is_asked = ap (request store) (sym sealing.request) ∙ of_change.is_asked;
      has_slot = of_change.has_slot;
      its_entries = of_change.its_entries ∙ sym sealing.change;
      is_placed = of_change.is_placed;
    }

doubt_stands : (state : State) (tenant : ℕ) (store : Store) (interrupted : Option ℕ) (doubt : List Entry) → Refines state tenant store → Cut state tenant interrupted doubt → doubt ≡ entries_in_doubt store interrupted
doubt_stands state tenant store interrupted doubt refines (AsBefore is same) = same ∙ refines.holds.in_doubt ∙ ap (entries_in_doubt store) (sym is)
doubt_stands state tenant store interrupted doubt refines (ASeal number is sealing) =
    let of_change = sealed_request state tenant number doubt store refines sealing in
    sym (ap (entries_in_doubt store) is ∙ ap (λ (r : Option RequestState). option_map_or (λ found. entries_of found.job) r []) of_change.is_asked ∙ of_change.its_entries)

pub leaves_in_doubt : (config : Config) (state : State) (tenant : ℕ) (store : Store) → IsSound config state → HasFiles config state → Refines state tenant store → LeavesStore config state tenant store
leaves_in_doubt config state tenant store sound files refines = record {
  words = refines.holds.words;
  in_doubt = λ interrupted cut. doubt_stands state tenant store (interrupted_request (under_way config state interrupted)) (doubt_then (state.tenant_states tenant).file (under_way config state interrupted)) refines
      (what_was_cut config state tenant sound files interrupted cut);
}

-- a change that is decided to be made, and for which FAULT is not decided, has no reply
tells_none : (fault_decided : Bool) (status : Status) (change : List Entry) → status ≡ YesDirty → fault_decided ≡ false → told fault_decided status change ≡ None
tells_none fault_decided status change decided not = ap (λ (s : Bool). told s status change) not ∙ ap (λ (s : Status). told false s change) decided

cut_fits : (config : Config) (state : State) (tenant : ℕ) (store : Store) (interrupted : Option ℕ) (doubt : List Entry) → DecidedChangesFit → IsSound config state → HasFiles config state → HasWorldFacts state
    → Refines state tenant store → Cut state tenant interrupted doubt → CouldBeInterrupted store interrupted
cut_fits config state tenant store interrupted doubt decided sound files world_facts refines (AsBefore is same) = subst (CouldBeInterrupted store) (sym is) tt
cut_fits config state tenant store interrupted doubt decided sound files world_facts refines (ASeal number is sealing) = subst (CouldBeInterrupted store) (sym is) (
  of_change.found,
  record {
    is_asked = of_change.is_asked;
    has_slot = of_change.has_slot;
    has_no_reply = of_change.is_placed ∙ tells_none (state.history.is_fault_decided slot seq) (state.history.fate slot seq) (state.history.change slot seq) sealing.fate fault_undecided;
    file_works = sym refines.holds.faulted ∙ sealing.works;
    as_expected = ap (λ (words : List ℕ). fits words (entries_of of_change.found.job)) (sym refines.holds.words)
        ∙ ap (fits (state.tenant_states tenant).file.contents) (of_change.its_entries ∙ sealing.change)
        ∙ ap (λ (t : ℕ). fits (state.tenant_states t).file.contents (state.history.change slot seq)) (sym sealing.same_tenant)
        ∙ decided config state sealing.target sound files world_facts sealing.live sealing.is_claimed sealing.fate;
  },
)
  where
    slot : ℕ
    slot = sealing.target.slot

    seq : ℕ
    seq = sealing.target.seq

    of_change : IsOfChange (request store) number doubt (told_of state.history sealing.target.slot sealing.target.seq)
    of_change = sealed_request state tenant number doubt store refines sealing

    -- if FAULT is decided for a change, its tenant's file has failed
    fault_undecided : state.history.is_fault_decided sealing.target.slot sealing.target.seq ≡ false
    fault_undecided = by_test (state.history.is_fault_decided sealing.target.slot sealing.target.seq) refl
      where
        by_test : (fault_decided : Bool) → state.history.is_fault_decided sealing.target.slot sealing.target.seq ≡ fault_decided → state.history.is_fault_decided sealing.target.slot sealing.target.seq ≡ false
        by_test false so = so
        by_test true so = absurd (true_false (sym (world_facts.fault_decided sealing.target.slot sealing.target.seq so)
            ∙ ap (λ (t : ℕ). (state.tenant_states t).file.has_failed) sealing.same_tenant ∙ sealing.works))
          where
            true_false : true ≡ false → ⊥
            true_false e = cc

-- If a change that is decided to be made fits its file's words, one that is interrupted while it is sealed could be written.
pub could_be_cut : (config : Config) (state : State) (tenant : ℕ) (store : Store) (interrupted : Option Interrupted) → DecidedChangesFit → IsSound config state → HasFiles config state → HasWorldFacts state
    → Refines state tenant store → may_interrupt config state tenant interrupted ≡ true → CouldBeInterrupted store (interrupted_request (under_way config state interrupted))
could_be_cut config state tenant store interrupted decided sound files world_facts refines cut =
    cut_fits config state tenant store (interrupted_request (under_way config state interrupted)) (doubt_then (state.tenant_states tenant).file (under_way config state interrupted)) decided sound files world_facts refines
    (what_was_cut config state tenant sound files interrupted cut)

-- the first start of a run
pub first_refines : (config : Config) (openings : ℕ → TenantStart) (tenant : ℕ) → Refines (world_at config openings) tenant (store_at (openings tenant))
first_refines config openings tenant = started_refines config (λ other. tenant_state_at (openings other)) tenant (store_at (openings tenant)) refl refl refl refl refl refl refl
