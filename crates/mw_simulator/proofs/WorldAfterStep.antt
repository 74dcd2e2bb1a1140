-- If each part of a simulated world changes as the definition changes it, the new simulated world represents the world after
-- the step.
-- Used by: World::begin, enter, give, request_for, reserve, turn.
use Rattle.std.specs.Prelude.{ℕ, zero, suc, ◌+◌, ◌≡◌, ◌≢◌, ◌<◌, ◌≤◌, List, [], ◌∷◌, length, slice_get, slice_set, slice_index_or, Option, Some, None, Result, Ok, Err, OnOk}
use Rattle.std.proofs.Common.{refl, sym, ap, subst, ◌∙◌, inl, inr, arith}
use Rattle.std.proofs.lemmas.Bool.{cases_eq}
use Rattle.std.proofs.lemmas.Bool.Decides.{nat_tests}
use Rattle.std.specs.declared.alloc.AllocError.{AllocError}
use Rattle.mw_words.specs.declared.jobs.Job.{Job}
use Rattle.mw_lone.specs.declared.marks.Mark.{Mark}
use Rattle.mw_lone.specs.declared.marks.Mark.TheVariants.{Ask, Reply as HandOut}
use Rattle.mw_actor.specs.ActorState.{ActorState, first}
use Rattle.mw_world.specs.Maps.{upd}
use Rattle.mw_world.specs.declared.config.Config.{Config}
use Rattle.mw_world.specs.declared.config.Tenant.{Tenant}
use Rattle.mw_world.specs.declared.step_labels.StepLabel.{StepLabel}
use Rattle.mw_world.specs.declared.step_labels.StepLabel.TheVariants.{Reserved, Freed}
use Rattle.mw_world.specs.Definition.Cells.{Cells, AllFit}
use Rattle.mw_world.specs.Definition.History.{History}
use Rattle.mw_world.specs.Definition.State.{State, WorkerState, TenantState, no_tenant, tenant_at, tenants_of}
use Rattle.mw_world.specs.Definition.LabelEffects.{more, with_label, marked, with_labels, with_intent}
use Rattle.mw_world.specs.Definition.Requests.{came, gave}
use Rattle.mw_world.specs.Definition.Turns.{goes_on}
use Rattle.mw_world.specs.Definition.World.{asked, begun}
use Rattle.mw_world_memory.specs.declared.tenants.TenantState.{TenantState as TenantStateInMemory}
use Rattle.mw_world_memory.specs.declared.claims.ClaimLog.{ClaimLog}
use Rattle.mw_world_memory.specs.declared.lines.Lines.{Lines}
use Rattle.mw_world_memory.specs.declared.workers.WorkerState.{WorkerState as WorkerStateInMemory}
use Rattle.mw_simulator.specs.declared.world.World.{World}
use Rattle.mw_world_memory.specs.Claims.{HasRoomForLabel, Recalls}
use Rattle.mw_world_memory.specs.Lines.{HasRoomForLine, SameLines}
use Rattle.mw_world_memory.specs.Workers.{worker_state_of}
use Rattle.mw_simulator.specs.Representation.{Represents, RepresentsTenant}
use Rattle.mw_simulator.specs.StepParts.{HasRoom, entered}
use Rattle.mw_world_memory.specs.BitsMatch.{BitsMatch}
use Rattle.mw_simulator.proofs.Frames.{set_here, set_else}

-- how the parts of a world in memory represent those of a world
abbrev pub RepresentsWorkers : List WorkerStateInMemory → (ℕ → WorkerState) → Type 0
RepresentsWorkers kept worker_states = (worker : ℕ) (worker_state : WorkerStateInMemory) → slice_get kept worker ≡ Some worker_state → worker_state_of worker_state ≡ worker_states worker

abbrev pub IsHome : Config → WorkerState → Type 0
IsHome config worker_state = (actor : ActorState) → worker_state.actor ≡ Some actor → actor.tenant < tenants_of config

abbrev pub ShowsOne : Config → ℕ → TenantStateInMemory → TenantState → Type 0
ShowsOne config tenant shown tenant_state = RepresentsTenant (tenant_at config tenant).words shown tenant_state

abbrev pub ShowsTenantStates : Config → List TenantStateInMemory → (ℕ → TenantState) → Type 0
ShowsTenantStates config kept tenant_states = (tenant : ℕ) (shown : TenantStateInMemory) → slice_get kept tenant ≡ Some shown → ShowsOne config tenant shown (tenant_states tenant)

-- an element that was read of a list
pub element : {A : Type 0} (xs : List A) (i : ℕ) (x : A) → i < length xs → x ≡ slice_index_or xs i x → slice_get xs i ≡ Some x
element [] i x lt is = absurd (omega (arith, lt))
element (y ∷ ys) zero x lt is = ap Some (sym is)
element (y ∷ ys) (suc i) x lt is = element ys i x (omega (arith, lt)) is

same_some : {A : Type 0} (x a : A) → Some x ≡ Some a → x ≡ a
same_some x a e = cc

pub upd_here : {A : Type 0} (f : ℕ → A) (i k : ℕ) (x : A) → k ≡ i → upd f i x k ≡ x
upd_here f i k x e = grind (arith, nat_tests, e)

pub upd_else : {A : Type 0} (f : ℕ → A) (i k : ℕ) (x : A) → k ≢ i → upd f i x k ≡ f k
upd_else f i k x apart = grind (arith, nat_tests, apart)

-- an element that was set represents what the map gives, and the others do as before
pub set_stands_at : {A B : Type 0} (P : ℕ → A → B → Type 0) (xs : List A) (f : ℕ → B) (i : ℕ) (x : A) (y : B) → i < length xs → P i x y
    → ((k : ℕ) (a : A) → slice_get xs k ≡ Some a → P k a (f k)) → (k : ℕ) (a : A) → slice_get (slice_set xs i x) k ≡ Some a → P k a (upd f i y k)
set_stands_at P xs f i x y there here stand k a is = elim (cases_eq k i) [
  | inl e ↦
      let same : x ≡ a = same_some x a (sym (set_here xs i x there) ∙ subst (λ j. slice_get (slice_set xs i x) j ≡ Some a) e is) in
      subst (λ b. P k a b) (sym (upd_here f i k y e)) (subst (λ j. P j a y) (sym e) (subst (λ b. P i b y) same here))
  | inr apart ↦ subst (λ b. P k a b) (sym (upd_else f i k y apart)) (stand k a (sym (set_else xs i k x apart) ∙ is))
]

-- the same if the map is unchanged
pub set_keeps_at : {A B : Type 0} (P : ℕ → A → B → Type 0) (xs : List A) (f : ℕ → B) (i : ℕ) (x : A) → i < length xs → P i x (f i)
    → ((k : ℕ) (a : A) → slice_get xs k ≡ Some a → P k a (f k)) → (k : ℕ) (a : A) → slice_get (slice_set xs i x) k ≡ Some a → P k a (f k)
set_keeps_at P xs f i x there here stand k a is = elim (cases_eq k i) [
  | inl e ↦
      let same : x ≡ a = same_some x a (sym (set_here xs i x there) ∙ subst (λ j. slice_get (slice_set xs i x) j ≡ Some a) e is) in
      subst (λ j. P j a (f j)) (sym e) (subst (λ b. P i b (f i)) same here)
  | inr apart ↦ stand k a (sym (set_else xs i k x apart) ∙ is)
]

-- a worker got the state that it represents
pub worker_states_set : (kept : List WorkerStateInMemory) (worker_states : ℕ → WorkerState) (worker : ℕ) (worker_state : WorkerStateInMemory) (next : WorkerState) → worker < length kept → worker_state_of worker_state ≡ next
    → RepresentsWorkers kept worker_states → RepresentsWorkers (slice_set kept worker worker_state) (upd worker_states worker next)
worker_states_set kept worker_states worker worker_state next there is shows = set_stands_at (λ k one other. worker_state_of one ≡ other) kept worker_states worker worker_state next there is shows

-- workers that don't exist have no request
pub idle_set : (config : Config) (worker_states : ℕ → WorkerState) (worker : ℕ) (next : WorkerState) → worker < config.workers
    → ((k : ℕ) → config.workers ≤ k → (worker_states k).actor ≡ None) → (k : ℕ) → config.workers ≤ k → (upd worker_states worker next k).actor ≡ None
idle_set config worker_states worker next there idle k past =
    let apart : k ≢ worker = omega (arith, there, past) in
    ap (λ worker_state. worker_state.actor) (upd_else worker_states worker k next apart) ∙ idle k past

-- each request's tenant exists
pub homes_set : (config : Config) (worker_states : ℕ → WorkerState) (worker : ℕ) (next : WorkerState) → IsHome config next
    → ((k : ℕ) → IsHome config (worker_states k)) → (k : ℕ) → IsHome config (upd worker_states worker next k)
homes_set config worker_states worker next here homes k = elim (cases_eq k worker) [
  | inl e ↦ subst (λ worker_state. IsHome config worker_state) (sym (upd_here worker_states worker k next e)) here
  | inr apart ↦ subst (λ worker_state. IsHome config worker_state) (sym (upd_else worker_states worker k next apart)) (homes k)
]

pub tenant_states_set : (config : Config) (kept : List TenantStateInMemory) (tenant_states : ℕ → TenantState) (tenant : ℕ) (shown : TenantStateInMemory) (tenant_state : TenantState)
    → tenant < length kept → ShowsOne config tenant shown tenant_state
    → ShowsTenantStates config kept tenant_states → ShowsTenantStates config (slice_set kept tenant shown) (upd tenant_states tenant tenant_state)
tenant_states_set config kept tenant_states tenant shown tenant_state there is shows = set_stands_at (ShowsOne config) kept tenant_states tenant shown tenant_state there is shows

-- a tenant's marks were changed in memory
pub lines_moved : (config : Config) (kept : List TenantStateInMemory) (tenant_states : ℕ → TenantState) (tenant : ℕ) (was : TenantStateInMemory) (lines : Lines)
    → tenant < length kept → was ≡ slice_index_or kept tenant was → SameLines was.lines lines
    → ShowsTenantStates config kept tenant_states → ShowsTenantStates config (slice_set kept tenant (record was { lines = lines })) tenant_states
lines_moved config kept tenant_states tenant was lines there is same shows =
    let one = shows tenant was (element kept tenant was there is) in
    set_keeps_at (ShowsOne config) kept tenant_states tenant (record was { lines = lines }) there
    (record { book = one.book; quota = one.quota; places = one.places; file_places = one.file_places; words_are = one.words_are; asked = one.asked; closed = ap (λ marks. marks.items) same.closed ∙ one.closed; lines = same.lines ∙ one.lines })
    shows

-- after that there is room for one more
pub room_at : (kept : List TenantStateInMemory) (tenant : ℕ) (shown : TenantStateInMemory) → tenant < length kept → HasRoomForLine shown.lines
    → (tenant_state : TenantStateInMemory) → slice_get (slice_set kept tenant shown) tenant ≡ Some tenant_state → HasRoomForLine tenant_state.lines
room_at kept tenant shown there room tenant_state is =
    subst (λ one. HasRoomForLine one.lines) (same_some shown tenant_state (sym (set_here kept tenant shown there) ∙ is)) room

pub room_made : (result : Result (Unit {0}) AllocError) (claims : ClaimLog) (kept : List TenantStateInMemory) (place tenant : ℕ) (shown : TenantStateInMemory) → place ≡ tenant
    → place < length kept → HasRoomForLine shown.lines → OnOk result (HasRoomForLabel claims) → OnOk result (HasRoom claims (slice_set kept place shown) tenant)
room_made (Ok x) claims kept place tenant shown same there line label =
    subst (λ i. HasRoom claims (slice_set kept place shown) i) same (record { label = label; line = room_at kept place shown there line })
room_made (Err e) claims kept place tenant shown same there line label = tt

-- a tenant of a configuration that was looked up
pub tenant_is : (config : Config) (items : List Tenant) (place tenant : ℕ) (one : Tenant) → items ≡ config.tenants.items → place ≡ tenant → tenant < tenants_of config
    → one ≡ slice_index_or items place one → one ≡ tenant_at config tenant
tenant_is config items place tenant one same at there is =
    is ∙ ap (λ xs. slice_index_or xs place one) same ∙ ap (λ i. slice_index_or config.tenants.items i one) at ∙ either config.tenants.items tenant one no_tenant there
  where
    either : (xs : List Tenant) (i : ℕ) (x d : Tenant) → i < length xs → slice_index_or xs i x ≡ slice_index_or xs i d
    either [] i x d lt = absurd (omega (arith, lt))
    either (y ∷ ys) zero x d lt = refl
    either (y ∷ ys) (suc i) x d lt = either ys i x d (omega (arith, lt))

-- The world after a worker, a tenant and the history were changed; the shared words stay.
pub stepped : (old new : World) (state : State) (worker tenant : ℕ) (worker_state : WorkerStateInMemory) (shown : TenantStateInMemory) (next : WorkerState) (tenant_state : TenantState) (past : History)
    → Represents old state → new.config ≡ old.config → new.cells ≡ old.cells → new.worker_states.items ≡ slice_set old.worker_states.items worker worker_state → new.tenant_states.items ≡ slice_set old.tenant_states.items tenant shown
    → worker < length old.worker_states.items → tenant < length old.tenant_states.items
    → worker_state_of worker_state ≡ next → IsHome old.config next → ShowsOne old.config tenant shown tenant_state → Recalls new.claims past
    → Represents new (record state { worker_states = upd state.worker_states worker next; tenant_states = upd state.tenant_states tenant tenant_state; history = past })
stepped old new state worker tenant worker_state shown next tenant_state past shows config cells worker_states tenant_states has_worker has_tenant is_worker_state home is_tenant_state recalls = record {
  tied = subst (λ bits. BitsMatch bits state.cells) (sym cells) shows.tied;
  fit = shows.fit;
  worker_states = subst (λ kept. RepresentsWorkers kept (upd state.worker_states worker next)) (sym worker_states) (worker_states_set old.worker_states.items state.worker_states worker worker_state next has_worker is_worker_state shows.worker_states);
  idle = subst (λ c. (k : ℕ) → c.workers ≤ k → (upd state.worker_states worker next k).actor ≡ None) (sym config)
      (idle_set old.config state.worker_states worker next (subst (λ n. worker < n) old.workers has_worker) shows.idle);
  homes = subst (λ (c : Config). (k : ℕ) → IsHome c (upd state.worker_states worker next k)) (sym config) (homes_set old.config state.worker_states worker next home shows.homes);
  claims = recalls;
  tenant_states = subst (λ (c : Config). ShowsTenantStates c new.tenant_states.items (upd state.tenant_states tenant tenant_state)) (sym config)
      (subst (λ kept. ShowsTenantStates old.config kept (upd state.tenant_states tenant tenant_state)) (sym tenant_states)
      (tenant_states_set old.config old.tenant_states.items state.tenant_states tenant shown tenant_state has_tenant is_tenant_state shows.tenant_states));
}

-- the world after room was made for a tenant's marks, and maybe for a label
pub reserved : (old new : World) (state : State) (tenant : ℕ) (was : TenantStateInMemory) (lines : Lines)
    → Represents old state → new.config ≡ old.config → new.cells ≡ old.cells → new.worker_states ≡ old.worker_states → new.tenant_states.items ≡ slice_set old.tenant_states.items tenant (record was { lines = lines })
    → tenant < length old.tenant_states.items → was ≡ slice_index_or old.tenant_states.items tenant was → SameLines was.lines lines
    → ((past : History) → Recalls old.claims past → Recalls new.claims past)
    → Represents new state
reserved old new state tenant was lines shows config cells worker_states tenant_states there is same keeps = record {
  tied = subst (λ bits. BitsMatch bits state.cells) (sym cells) shows.tied;
  fit = shows.fit;
  worker_states = subst (λ kept. RepresentsWorkers kept.items state.worker_states) (sym worker_states) shows.worker_states;
  idle = subst (λ c. (k : ℕ) → c.workers ≤ k → (state.worker_states k).actor ≡ None) (sym config) shows.idle;
  homes = subst (λ (c : Config). (k : ℕ) → IsHome c (state.worker_states k)) (sym config) shows.homes;
  claims = keeps state.history shows.claims;
  tenant_states = subst (λ (c : Config). ShowsTenantStates c new.tenant_states.items state.tenant_states) (sym config)
      (subst (λ kept. ShowsTenantStates old.config kept state.tenant_states) (sym tenant_states)
      (lines_moved old.config old.tenant_states.items state.tenant_states tenant was lines there is same shows.tenant_states));
}

-- The label of a step doesn't change the number of the worker's request.
seated_request : (label : StepLabel) (past : History) (lines : List (Option Mark)) (worker_state : WorkerState) → (with_labels label past lines worker_state).request ≡ worker_state.request
seated_request Reserved past lines worker_state = refl
seated_request (Freed slot) past lines worker_state = refl
seated_request label past lines worker_state = refl

-- a tenant whose marks grew in memory as in the world
lines_grew : (config : Config) (tenant : ℕ) (was : TenantStateInMemory) (tenant_state : TenantState) (lines : Lines) (new : List (Option Mark)) → ShowsOne config tenant was tenant_state
    → lines.closed ≡ was.lines.closed → lines.lines.items ≡ new → ShowsOne config tenant (record was { lines = lines }) (record tenant_state { lines = new })
lines_grew config tenant was tenant_state lines new one closed is =
    record { book = one.book; quota = one.quota; places = one.places; file_places = one.file_places; words_are = one.words_are; asked = one.asked; closed = ap (λ marks. marks.items) closed ∙ one.closed; lines = is }

is_home : (world : World) (next : ActorState) (worker_state : WorkerState) → worker_state.actor ≡ Some next → next.tenant < length world.tenant_states.items → IsHome world.config worker_state
is_home world next worker_state has there actor is =
    let same : next ≡ actor = same_some next actor (sym has ∙ is) in
    subst (λ a. a.tenant < tenants_of world.config) same (subst (λ n. next.tenant < n) world.tenants there)

-- the world after a step of a worker's request was taken in
pub enters : (old new : World) (state : State) (worker place home attempt kept : ℕ) (actor next : ActorState) (label : StepLabel) (was after : WorkerStateInMemory) (shown : TenantStateInMemory) (lines : Lines)
    → Represents old state → place ≡ worker → home ≡ next.tenant → new.config ≡ old.config → new.cells ≡ old.cells
    → new.worker_states.items ≡ slice_set old.worker_states.items place (record after { actor = Some next; attempt = attempt })
    → new.tenant_states.items ≡ slice_set old.tenant_states.items home (record shown { lines = lines })
    → worker < length old.worker_states.items → next.tenant < length old.tenant_states.items
    → was ≡ slice_index_or old.worker_states.items place was → shown ≡ slice_index_or old.tenant_states.items home shown
    → lines.closed ≡ shown.lines.closed → ((past : History) → Recalls old.claims past → lines.lines.items ≡ marked label (worker_state_of was) past shown.lines.lines.items)
    → kept ≡ length shown.lines.lines.items → ((past : History) (marks : List (Option Mark)) → Recalls old.claims past → length marks ≡ kept → worker_state_of after ≡ with_labels label past marks (worker_state_of was))
    → ((worker : ℕ) (actor : ActorState) (past : History) → Recalls old.claims past → Recalls new.claims (with_label label worker actor after.request past))
    → Represents new (entered state worker actor next label attempt)
enters old new state worker place home attempt kept actor next label was after shown lines shows at_worker at_home config cells worker_states tenant_states has_worker has_tenant is_was is_shown closed marks count worker_states_so recalls =
    let past : History = state.history in
    let tenant : ℕ = next.tenant in
    let worker_state : WorkerState = state.worker_states worker in
    let tenant_state : TenantState = state.tenant_states tenant in
    let here = shows.worker_states worker was (element old.worker_states.items worker was has_worker (subst (λ i. was ≡ slice_index_or old.worker_states.items i was) at_worker is_was)) in
    let one = shows.tenant_states tenant shown (element old.tenant_states.items tenant shown has_tenant (subst (λ i. shown ≡ slice_index_or old.tenant_states.items i shown) at_home is_shown)) in
    let same : worker_state_of after ≡ with_labels label past tenant_state.lines worker_state =
    worker_states_so past tenant_state.lines shows.claims (ap (λ (l : List (Option Mark)). length l) (sym one.lines) ∙ sym count) ∙ ap (λ s. with_labels label past tenant_state.lines s) here in
    let request : after.request ≡ worker_state.request = ap (λ s. s.request) same ∙ seated_request label past tenant_state.lines worker_state in
    let line : lines.lines.items ≡ marked label worker_state past tenant_state.lines =
    marks past shows.claims ∙ ap (λ s. marked label s past shown.lines.lines.items) here ∙ ap (λ (l : List (Option Mark)). marked label worker_state past l) one.lines in
    let known : Recalls new.claims (with_label label worker actor worker_state.request past) = subst (λ r. Recalls new.claims (with_label label worker actor r past)) request (recalls worker actor past shows.claims) in
    let last : WorkerState = goes_on (with_labels label past tenant_state.lines worker_state) next attempt in
    stepped old new state worker tenant (record after { actor = Some next; attempt = attempt }) (record shown { lines = lines }) last
    (record tenant_state { lines = marked label worker_state past tenant_state.lines }) (with_intent (with_label label worker actor worker_state.request past) worker next)
    shows config cells (worker_states ∙ ap (λ i. slice_set old.worker_states.items i (record after { actor = Some next; attempt = attempt })) at_worker)
    (tenant_states ∙ ap (λ i. slice_set old.tenant_states.items i (record shown { lines = lines })) at_home) has_worker has_tenant
    (ap (λ s. goes_on s next attempt) same) (is_home old next last refl has_tenant)
    (lines_grew old.config tenant shown tenant_state lines (marked label worker_state past tenant_state.lines) one closed line)
    (record { requests = known.requests; fault_decided = known.fault_decided })

-- the world after the reply to a worker's request was handed out
pub gives : (old new : World) (state : State) (worker tenant place home : ℕ) (was : WorkerStateInMemory) (shown : TenantStateInMemory) (lines : Lines)
    → Represents old state → place ≡ worker → home ≡ tenant → new.config ≡ old.config → new.cells ≡ old.cells → new.claims ≡ old.claims
    → new.worker_states.items ≡ slice_set old.worker_states.items place (record was { actor = None })
    → new.tenant_states.items ≡ slice_set old.tenant_states.items home (record shown { lines = lines })
    → worker < length old.worker_states.items → tenant < length old.tenant_states.items
    → was ≡ slice_index_or old.worker_states.items place was → shown ≡ slice_index_or old.tenant_states.items home shown
    → lines.closed ≡ shown.lines.closed → lines.lines.items ≡ more shown.lines.lines.items (Some (HandOut was.request))
    → Represents new (gave state worker tenant)
gives old new state worker tenant place home was shown lines shows at_worker at_home config cells claims worker_states tenant_states has_worker has_tenant is_was is_shown closed marks =
    let worker_state : WorkerState = state.worker_states worker in
    let tenant_state : TenantState = state.tenant_states tenant in
    let here = shows.worker_states worker was (element old.worker_states.items worker was has_worker (subst (λ i. was ≡ slice_index_or old.worker_states.items i was) at_worker is_was)) in
    let one = shows.tenant_states tenant shown (element old.tenant_states.items tenant shown has_tenant (subst (λ i. shown ≡ slice_index_or old.tenant_states.items i shown) at_home is_shown)) in
    let line : lines.lines.items ≡ more tenant_state.lines (Some (HandOut worker_state.request)) =
    marks ∙ ap (λ s. more shown.lines.lines.items (Some (HandOut s.request))) here ∙ ap (λ (l : List (Option Mark)). more l (Some (HandOut worker_state.request))) one.lines in
    stepped old new state worker tenant (record was { actor = None }) (record shown { lines = lines }) (record worker_state { actor = None })
    (record tenant_state { lines = more tenant_state.lines (Some (HandOut worker_state.request)) }) state.history
    shows config cells (worker_states ∙ ap (λ i. slice_set old.worker_states.items i (record was { actor = None })) at_worker)
    (tenant_states ∙ ap (λ i. slice_set old.tenant_states.items i (record shown { lines = lines })) at_home) has_worker has_tenant
    (ap (λ (s : WorkerState). record s { actor = None }) here) (λ actor is. none_has actor is)
    (lines_grew old.config tenant shown tenant_state lines (more tenant_state.lines (Some (HandOut worker_state.request))) one closed line)
    (subst (λ known. Recalls known state.history) (sym claims) shows.claims)
  where
    none_has : (actor : ActorState) → None ≡ Some actor → actor.tenant < tenants_of old.config
    none_has actor is = absurd (cc)

-- the world after a worker began on a request
pub begins : (old new : World) (state : State) (worker tenant place home request : ℕ) (job : Job) (actor : ActorState) (was : WorkerStateInMemory) (shown : TenantStateInMemory) (lines : Lines)
    → Represents old state → place ≡ worker → home ≡ tenant → new.config ≡ old.config → new.cells ≡ old.cells → new.claims ≡ old.claims
    → actor ≡ first worker tenant (state.tenant_states tenant).quota old.config.pool job → request ≡ (state.tenant_states tenant).asked
    → new.worker_states.items ≡ slice_set old.worker_states.items place (record was { actor = Some actor; request = request; retiring = request })
    → new.tenant_states.items ≡ slice_set old.tenant_states.items home (record shown { lines = lines; asked = request + 1 })
    → worker < length old.worker_states.items → tenant < length old.tenant_states.items
    → was ≡ slice_index_or old.worker_states.items place was → shown ≡ slice_index_or old.tenant_states.items home shown
    → lines.closed ≡ shown.lines.closed → lines.lines.items ≡ more shown.lines.lines.items (Some (Ask request job))
    → Represents new (came old.config state worker tenant job)
begins old new state worker tenant place home request job actor was shown lines shows at_worker at_home config cells claims is_actor is_request worker_states tenant_states has_worker has_tenant is_was is_shown closed marks =
    let worker_state : WorkerState = state.worker_states worker in
    let tenant_state : TenantState = state.tenant_states tenant in
    let one_actor : ActorState = first worker tenant (state.tenant_states tenant).quota old.config.pool job in
    let here = shows.worker_states worker was (element old.worker_states.items worker was has_worker (subst (λ i. was ≡ slice_index_or old.worker_states.items i was) at_worker is_was)) in
    let one = shows.tenant_states tenant shown (element old.tenant_states.items tenant shown has_tenant (subst (λ i. shown ≡ slice_index_or old.tenant_states.items i shown) at_home is_shown)) in
    let line : lines.lines.items ≡ more tenant_state.lines (Some (Ask tenant_state.asked job)) =
    marks ∙ ap (λ r. more shown.lines.lines.items (Some (Ask r job))) is_request ∙ ap (λ (l : List (Option Mark)). more l (Some (Ask tenant_state.asked job))) one.lines in
    let last : WorkerState = begun worker_state one_actor tenant_state.asked in
    stepped old new state worker tenant (record was { actor = Some actor; request = request; retiring = request }) (record shown { lines = lines; asked = request + 1 }) last
    (asked tenant_state job) state.history
    shows config cells (worker_states ∙ ap (λ i. slice_set old.worker_states.items i (record was { actor = Some actor; request = request; retiring = request })) at_worker)
    (tenant_states ∙ ap (λ i. slice_set old.tenant_states.items i (record shown { lines = lines; asked = request + 1 })) at_home) has_worker has_tenant
    (ap (λ s. begun s actor request) here ∙ ap (λ a. begun worker_state a request) is_actor ∙ ap (λ r. begun worker_state one_actor r) is_request)
    (is_home old one_actor last refl has_tenant)
    (record { book = one.book; quota = one.quota; places = one.places; file_places = one.file_places; words_are = one.words_are; asked = ap (λ r. r + 1) is_request; closed = ap (λ ms. ms.items) closed ∙ one.closed; lines = line })
    (subst (λ known. Recalls known state.history) (sym claims) shows.claims)

-- the world with other shared words
pub recelled : (old new : World) (state : State) (stand : Cells)
    → Represents old state → new.config ≡ old.config → new.worker_states ≡ old.worker_states → new.tenant_states ≡ old.tenant_states → new.claims ≡ old.claims → BitsMatch new.cells stand → AllFit stand
    → Represents new (record state { cells = stand })
recelled old new state stand shows config worker_states tenant_states claims tied fit = record {
  tied = tied;
  fit = fit;
  worker_states = subst (λ kept. RepresentsWorkers kept.items state.worker_states) (sym worker_states) shows.worker_states;
  idle = subst (λ c. (k : ℕ) → c.workers ≤ k → (state.worker_states k).actor ≡ None) (sym config) shows.idle;
  homes = subst (λ (c : Config). (k : ℕ) → IsHome c (state.worker_states k)) (sym config) shows.homes;
  claims = subst (λ known. Recalls known state.history) (sym claims) shows.claims;
  tenant_states = subst (λ (c : Config). ShowsTenantStates c new.tenant_states.items state.tenant_states) (sym config)
      (subst (λ kept. ShowsTenantStates old.config kept.items state.tenant_states) (sym tenant_states) shows.tenant_states);
}
