-- Defines the world's invariant: what holds of the shared words, the requests and the tenants' files at every moment of a
-- run, and why no step of a stale helper does harm. A slot and its sequence number name a change. Its status is the one in
-- the history, which keeps it when the slot is used again.
-- Used by: src/laws.rt, mw_law_runs, mw_law_store, mw_rule, mw_law_threads.
use Rattle.std.specs.Prelude.{ℕ, ◌≡◌, ◌≢◌, ◌<◌, ◌≤◌, ◌⊎◌, ◌+◌, ◌==◌, ◌&&◌, true, false, if◌then◌else◌, List, [], length, Some, None}
use Rattle.mw_words.specs.declared.gates.Gate.{Gate}
use Rattle.mw_words.specs.declared.jobs.Entry.{Entry}
use Rattle.mw_words.specs.declared.rows.Row.{Row}
use Rattle.mw_words.specs.declared.statuses.Status.{Status}
use Rattle.mw_words.specs.declared.statuses.Status.TheVariants.{Draft, Open, YesDirty, Yes, No, DoneYes, DoneNo}
use Rattle.mw_words.specs.declared.words.Word.TheVariants.{Planted, Held, Dirty}
use Rattle.mw_words.specs.Change.{word_at, is_change, is_well_formed}
use Rattle.mw_actor.specs.declared.points.Slot.{Slot}
use Rattle.mw_actor.specs.ActorState.{ActorState, entry_at}
use Rattle.mw_world.specs.Files.State.{File, Place, Empty, Prepared, Sealed, is_empty, is_sealed, entries_at, share_a_word}
use Rattle.mw_world.specs.declared.config.Config.{Config}
use Rattle.mw_world.specs.declared.step_labels.Phase.{Phase}
use Rattle.mw_world.specs.declared.step_labels.Phase.TheVariants.{Fresh, Acquired, Written, Released}
use Rattle.mw_world.specs.Definition.Calls.{Called, called_at}
use Rattle.mw_world.specs.Definition.Cells.{Cells}
use Rattle.mw_world.specs.Definition.Counts.{pins_held, frees_at, waits_for, over_workers, slots_taken_for}
use Rattle.mw_world.specs.Definition.History.{History, NoAttempt, AttemptIn, Idle, Permitted, has, new, standing_at, permission_at}
use Rattle.mw_world.specs.Definition.Logical.{logical}
use Rattle.mw_world.specs.Claim.Obligations.{IsEntryAt, HasReleaser, IsOwner, IsCleaner}
use Rattle.mw_world.specs.Definition.State.{State, TenantState, QuotasFit, places_of, quotas_of, tenant_at, tenants_of}

-- Requests.

-- the slot is taken, and its gate counts a pin
abbrev pub IsPinned : Gate → Type 0
IsPinned gate = (gate.taken ≡ true) × (1 ≤ gate.pins)

-- the same, with this sequence number
abbrev pub IsPinnedAs : ℕ → Gate → Type 0
IsPinnedAs seq gate = IsPinned gate × (gate.seq ≡ seq)

-- This request is the worker's own. The worker exists, the request is one of a tenant that exists, it has the size of
-- the world's pool, and its job is well formed for the tenant.
pub record IsOfWorker (config : Config) (worker : ℕ) (actor : ActorState) : Type 0 where
  pub there : worker < config.workers
  pub same_worker : actor.worker ≡ worker
  pub tenant : actor.tenant < tenants_of config
  pub pool : actor.pool ≡ config.pool
  pub job : is_well_formed (tenant_at config actor.tenant).words actor.job ≡ true

-- The change of a call on a file is one of this tenant. Its slot is taken for it and pinned.
pub record IsOfCaller (state : State) (tenant : ℕ) (change : Slot) : Type 0 where
  pub pinned : IsPinnedAs change.seq (state.cells.gates change.slot)
  pub same_tenant : state.history.tenant change.slot change.seq ≡ tenant

-- Each request is its worker's, with its tenant's quota. The history has each worker's attempt and permission as its
-- request's point tells them; an idle worker has neither. If a request has come to a call on its file, the call's
-- change is one of the request's tenant. The slot of that change is taken with its number and pinned.
pub record RequestsAreTheirWorkers (config : Config) (state : State) : Type 0 where
  pub worker_states : (worker : ℕ) (actor : ActorState) → (state.worker_states worker).actor ≡ Some actor → IsOfWorker config worker actor
  pub quotas : (worker : ℕ) (actor : ActorState) → (state.worker_states worker).actor ≡ Some actor → actor.quota ≡ (state.tenant_states actor.tenant).quota
  pub calls : (worker : ℕ) (actor : ActorState) (called : Called) → (state.worker_states worker).actor ≡ Some actor → called_at actor.point ≡ Some called → IsOfCaller state actor.tenant called.change
  pub standing : (worker : ℕ) (actor : ActorState) → (state.worker_states worker).actor ≡ Some actor → state.history.standing worker ≡ standing_at actor actor.point
  pub permission : (worker : ℕ) (actor : ActorState) → (state.worker_states worker).actor ≡ Some actor → state.history.permission worker ≡ permission_at actor actor.point
  pub idle : (worker : ℕ) → (state.worker_states worker).actor ≡ None → (state.history.standing worker ≡ NoAttempt) × (state.history.permission worker ≡ Idle)

-- Changes and their slots.

-- A taken slot was claimed with its present number. The slot's earlier changes have lower numbers. Each claimed
-- change is well formed, and of a tenant that exists. A change that was never claimed is a draft. Each slot that is
-- taken, was claimed, or is named by a row is one of the pool.
pub record ChangesClaimTheirSlots (config : Config) (state : State) : Type 0 where
  pub there : (slot : ℕ) → (state.cells.gates slot).taken ≡ true → slot < config.pool
  pub claimed : (slot : ℕ) → (state.cells.gates slot).taken ≡ true → state.history.is_claimed slot (state.cells.gates slot).seq ≡ true
  pub latest : (slot seq : ℕ) → state.history.is_claimed slot seq ≡ true
      → (seq < (state.cells.gates slot).seq) ⊎ ((seq ≡ (state.cells.gates slot).seq) × ((state.cells.gates slot).taken ≡ true))
  pub formed : (slot seq : ℕ) → state.history.is_claimed slot seq ≡ true
      → (state.history.tenant slot seq < tenants_of config) × (is_change (tenant_at config (state.history.tenant slot seq)).words (state.history.change slot seq) ≡ true)
  pub unclaimed : (slot seq : ℕ) → state.history.is_claimed slot seq ≡ false → state.history.fate slot seq ≡ Draft
  pub of_pool : (slot seq : ℕ) → state.history.is_claimed slot seq ≡ true → slot < config.pool
  pub rows : (worker : ℕ) → (state.cells.rows worker).slot < config.pool

-- The shared words of a slot's entry have this entry.
pub record IsEntryOf (cells : Cells) (slot index : ℕ) (entry : Entry) : Type 0 where
  pub addr : cells.addrs slot index ≡ entry.addr
  pub expected : cells.expecteds slot index ≡ entry.expected
  pub new : cells.new_values slot index ≡ entry.new

-- If a slot is taken and its change is no draft, the slot's shared words have the change's status and entries.
pub record SlotsTellTheirChanges (state : State) : Type 0 where
  pub status : (slot : ℕ) → (state.cells.gates slot).taken ≡ true → state.history.fate slot (state.cells.gates slot).seq ≢ Draft
      → state.cells.statuses slot ≡ state.history.fate slot (state.cells.gates slot).seq
  pub count : (slot : ℕ) → (state.cells.gates slot).taken ≡ true → state.history.fate slot (state.cells.gates slot).seq ≢ Draft
      → state.cells.counts slot ≡ length (state.history.change slot (state.cells.gates slot).seq)
  pub entries : (slot index : ℕ) → (state.cells.gates slot).taken ≡ true → state.history.fate slot (state.cells.gates slot).seq ≢ Draft
      → index < length (state.history.change slot (state.cells.gates slot).seq)
      → IsEntryOf state.cells slot index (entry_at (state.history.change slot (state.cells.gates slot).seq) index)

-- References.

-- A change of this tenant that is no draft has an entry of this word.
pub record HasWord (past : History) (tenant address slot seq : ℕ) : Type 0 where
  pub ready : past.fate slot seq ≢ Draft
  pub same_tenant : past.tenant slot seq ≡ tenant
  pub entry : has past slot seq address ≡ true

-- A word is held for a change: the change's slot is pinned, it has an entry of the word, and its status isn't DoneYes.
pub record IsHeldFor (state : State) (tenant address slot seq : ℕ) : Type 0 where
  pub pinned : IsPinnedAs seq (state.cells.gates slot)
  pub change : HasWord state.history tenant address slot seq
  pub acquired : state.history.phase slot seq address ≡ Acquired
  pub not_done : state.history.fate slot seq ≢ DoneYes

-- A word has the new value of a change that is made. The word names only the slot; the number is the present one of
-- the slot's gate.
pub record IsWrittenBy (state : State) (tenant address value slot seq : ℕ) : Type 0 where
  pub pinned : IsPinnedAs seq (state.cells.gates slot)
  pub change : HasWord state.history tenant address slot seq
  pub was_written : state.history.phase slot seq address ≡ Written
  pub made : (state.history.fate slot seq ≡ Yes) ⊎ (state.history.fate slot seq ≡ DoneYes)
  pub new_value : new state.history slot seq address ≡ value

-- A word has an attempt of a worker. The worker's row names the attempt's entry, whose slot is pinned.
pub record IsPlantedBy (state : State) (tenant address worker attempt : ℕ) (row : Row) : Type 0 where
  pub pinned : IsPinnedAs row.seq (state.cells.gates row.slot)
  pub change : HasWord state.history tenant address row.slot row.seq
  pub entry : IsEntryAt (state.history.change row.slot row.seq) row.entry address
  pub stands : state.history.standing worker ≡ AttemptIn tenant address attempt
  pub number : attempt < (state.worker_states worker).attempt

-- Each word that is held, dirty or planted refers to a change whose slot is taken and pinned. A held word names the
-- slot and its number, a dirty word the slot. A planted word names a worker, whose row names the slot and number. The
-- change has an entry of the word, and the word is as the change has left it.
pub record ReferencesArePinned (state : State) : Type 0 where
  pub held : (tenant address slot seq : ℕ) → state.cells.words tenant address ≡ Held slot seq → IsHeldFor state tenant address slot seq
  pub dirty : (tenant address slot value : ℕ) → state.cells.words tenant address ≡ Dirty slot value
      → IsWrittenBy state tenant address value slot (state.cells.gates slot).seq
  pub planted : (tenant address worker attempt : ℕ) → state.cells.words tenant address ≡ Planted worker attempt
      → IsPlantedBy state tenant address worker attempt (state.cells.rows worker)

-- Attempts.

-- No attempt is in two words.
abbrev pub AttemptsStandOnce : State → Type 0
AttemptsStandOnce state = (tenant address other there worker attempt : ℕ)
    → state.cells.words tenant address ≡ Planted worker attempt → state.cells.words other there ≡ Planted worker attempt → (tenant ≡ other) × (address ≡ there)

-- No attempt is in two words. A worker's own attempt has a lower number than the worker's next one, and is for a
-- change that is no draft.
pub record AttemptsAreTheirWorkers (state : State) : Type 0 where
  pub once : AttemptsStandOnce state
  pub numbers : (worker tenant address number : ℕ) → state.history.standing worker ≡ AttemptIn tenant address number → number < (state.worker_states worker).attempt
  pub ready : (worker tenant address number : ℕ) → state.history.standing worker ≡ AttemptIn tenant address number
      → state.history.fate (state.cells.rows worker).slot (state.cells.rows worker).seq ≢ Draft

-- What becomes of a change's words.

-- The phases that a change's word may have, by the change's status. The word is held until it is decided that the
-- change is made; then it gets its new value, and then it is released. The words of a refused change are released. A
-- stale helper may still hold a word that was never held for the change, and releases it again.
abbrev pub MayBe : Status → Phase → Type 0
MayBe Draft Fresh = Unit {0}
MayBe Open Fresh = Unit {0}
MayBe Open Acquired = Unit {0}
MayBe YesDirty Acquired = Unit {0}
MayBe Yes Acquired = Unit {0}
MayBe Yes Written = Unit {0}
MayBe DoneYes Written = Unit {0}
MayBe DoneYes Released = Unit {0}
MayBe (No entry value) Fresh = Unit {0}
MayBe (No entry value) Acquired = Unit {0}
MayBe (No entry value) Released = Unit {0}
MayBe (DoneNo entry value) Fresh = Unit {0}
MayBe (DoneNo entry value) Acquired = Unit {0}
MayBe (DoneNo entry value) Released = Unit {0}
MayBe status phase = ⊥

-- Each word of a change has a phase that its status allows. No other word is touched for the change. A word that the
-- change holds or has written names it.
pub record WordsFollowTheirChanges (state : State) : Type 0 where
  pub allowed : (slot seq address : ℕ) → has state.history slot seq address ≡ true → MayBe (state.history.fate slot seq) (state.history.phase slot seq address)
  pub others : (slot seq address : ℕ) → has state.history slot seq address ≡ false → state.history.phase slot seq address ≡ Fresh
  pub acquired : (slot seq address : ℕ) → state.history.phase slot seq address ≡ Acquired → state.cells.words (state.history.tenant slot seq) address ≡ Held slot seq
  pub was_written : (slot seq address : ℕ) → state.history.phase slot seq address ≡ Written
      → state.cells.words (state.history.tenant slot seq) address ≡ Dirty slot (new state.history slot seq address)

-- Stale helpers.

-- It was decided that the change is made.
abbrev pub IsMade : Status → Type 0
IsMade status = (status ≡ YesDirty) ⊎ (status ≡ Yes) ⊎ (status ≡ DoneYes)

-- It was decided that the change is not made.
abbrev pub IsRefused : Status → Type 0
IsRefused (No entry value) = Unit {0}
IsRefused (DoneNo entry value) = Unit {0}
IsRefused status = ⊥

-- A worker has a permission that is right: the change has an entry of the word, and the attempt's number was given
-- out.
pub record IsPermitted (state : State) (tenant address worker number slot seq : ℕ) : Type 0 where
  pub change : HasWord state.history tenant address slot seq
  pub was_given : number < (state.worker_states worker).attempt

-- The row of the attempt's worker names this change, and the word was never held for it.
pub record FindsFresh (state : State) (address worker slot seq : ℕ) : Type 0 where
  pub row_slot : (state.cells.rows worker).slot ≡ slot
  pub row_seq : (state.cells.rows worker).seq ≡ seq
  pub fresh : state.history.phase slot seq address ≡ Fresh

-- If a worker has permission to hold a word for a change, and finds there the attempt that its permission names, the
-- word was never held for the change. When a change is decided to be made, each of its words has been held. So a
-- worker with permission for such a change doesn't find its attempt, and its exchange loses.
pub record StaleHelpersLose (state : State) : Type 0 where
  pub permitted : (by tenant address worker number slot seq : ℕ) → state.history.permission by ≡ Permitted tenant address worker number slot seq
      → IsPermitted state tenant address worker number slot seq
  pub finds : (by tenant address worker number slot seq : ℕ) → state.history.permission by ≡ Permitted tenant address worker number slot seq
      → state.cells.words tenant address ≡ Planted worker number → FindsFresh state address worker slot seq
  pub made : (slot seq address : ℕ) → IsMade (state.history.fate slot seq) → has state.history slot seq address ≡ true → state.history.phase slot seq address ≢ Fresh
  pub lose : (by tenant address worker number slot seq : ℕ) → state.history.permission by ≡ Permitted tenant address worker number slot seq
      → IsMade (state.history.fate slot seq) → state.cells.words tenant address ≢ Planted worker number

-- Releasers.

-- The change is not done, and not refused.
abbrev pub IsUndone : Status → Type 0
IsUndone status = (status ≡ Draft) ⊎ (status ≡ Open) ⊎ (status ≡ YesDirty) ⊎ (status ≡ Yes)

-- A word that is held for a refused change has a releaser: a request that works on the change and will release the
-- word. If a change is neither refused nor done, its own worker has a request, or has left its pin. If a word is dirty
-- with a change's value, the change's own worker will clean the word unless it gives up, or it has left its pin.
pub record HeldWordsHaveReleasers (state : State) : Type 0 where
  pub refused : (tenant address slot seq : ℕ) → state.cells.words tenant address ≡ Held slot seq → IsRefused (state.history.fate slot seq)
      → HasReleaser state tenant address slot seq
  pub undone : (slot : ℕ) → (state.cells.gates slot).taken ≡ true → IsUndone (state.history.fate slot (state.cells.gates slot).seq)
      → IsOwner state slot (state.cells.gates slot).seq ⊎ (state.history.stays slot (state.cells.gates slot).seq ≡ true)
  pub dirty : (tenant address slot value : ℕ) → state.cells.words tenant address ≡ Dirty slot value
      → IsCleaner state address slot (state.cells.gates slot).seq ⊎ (state.history.stays slot (state.cells.gates slot).seq ≡ true)

-- Files.

-- No two sealed changes in a file have a word in common.
abbrev pub AreApart : File → Type 0
AreApart file = (place other : ℕ) → place ≢ other → is_sealed (file.places place) ≡ true → is_sealed (file.places other) ≡ true
    → share_a_word (entries_at file place) (entries_at file other) ≡ false

-- The tenant's shared words represent these words.
abbrev pub AreValuesOf : State → ℕ → ℕ → List ℕ → Type 0
AreValuesOf state tenant words contents = (address : ℕ) → address < words → logical state.cells tenant address ≡ word_at contents address

-- A tenant's file has as many words as the tenant. The door has the fault if and only if the file has failed. A file
-- that didn't open at the last start has failed. A file that hasn't failed has no change in doubt. If the file
-- opened, the shared words represent its words, also after it has failed. No two of its sealed changes have a word in
-- common.
pub record FileMatches (state : State) (tenant words : ℕ) (tenant_state : TenantState) : Type 0 where
  pub long : length tenant_state.file.contents ≡ words
  pub fault : tenant_state.file.has_failed ≡ (state.cells.doors tenant).fault
  pub down : tenant_state.is_up ≡ false → tenant_state.file.has_failed ≡ true
  pub certain : tenant_state.file.has_failed ≡ false → tenant_state.file.doubt ≡ []
  pub shown : tenant_state.is_up ≡ true → AreValuesOf state tenant words tenant_state.file.contents
  pub apart : AreApart tenant_state.file

-- Each tenant's file is so.
abbrev pub FilesMatch : Config → State → Type 0
FilesMatch config state = (tenant : ℕ) → tenant < tenants_of config → FileMatches state tenant (tenant_at config tenant).words (state.tenant_states tenant)

-- the file place of a change with this status and these entries: prepared from Open on, sealed once the status is
-- Yes, and empty for a draft and for a change that is done
abbrev pub placed : Status → List Entry → Place
placed Open entries = Prepared entries
placed YesDirty entries = Prepared entries
placed (No entry value) entries = Prepared entries
placed Yes entries = Sealed entries
placed status entries = Empty

-- A slot is taken for a change of this tenant that is in the tenant's file, as its status tells.
pub record IsInFile (state : State) (tenant slot : ℕ) : Type 0 where
  pub taken : (state.cells.gates slot).taken ≡ true
  pub same_tenant : state.history.tenant slot (state.cells.gates slot).seq ≡ tenant
  pub in_file : is_empty (placed (state.history.fate slot (state.cells.gates slot).seq) (state.history.change slot (state.cells.gates slot).seq)) ≡ false

-- This file place has the change of a slot of this tenant.
pub record IsPlaceOf (state : State) (tenant place : ℕ) : Type 0 where
  pub slot : ℕ
  pub in_file : IsInFile state tenant slot
  pub is : (state.tenant_states tenant).file.place_of slot ≡ place

-- Each change in its tenant's file has a place of its own there, below the quota, prepared or sealed as its status
-- tells. No other place is in use.
pub record ChangesHavePlaces (config : Config) (state : State) : Type 0 where
  pub within : (tenant slot : ℕ) → IsInFile state tenant slot → (state.tenant_states tenant).file.place_of slot < (state.tenant_states tenant).quota
  pub there : (tenant slot : ℕ) → IsInFile state tenant slot
      → (state.tenant_states tenant).file.places ((state.tenant_states tenant).file.place_of slot)
      ≡ placed (state.history.fate slot (state.cells.gates slot).seq) (state.history.change slot (state.cells.gates slot).seq)
  pub own : (tenant slot other : ℕ) → IsInFile state tenant slot → IsInFile state tenant other
      → (state.tenant_states tenant).file.place_of slot ≡ (state.tenant_states tenant).file.place_of other → slot ≡ other
  pub in_use : (tenant place : ℕ) → tenant < tenants_of config → is_empty ((state.tenant_states tenant).file.places place) ≡ false → IsPlaceOf state tenant place

-- Counts.

-- A gate counts the pins that requests hold, and the pin that was left, if one was. If a slot is taken and has no pin,
-- exactly one request must free it. A door counts the slots taken for the tenant, the slots that its requests will
-- take, and the slots that they have freed; the sum is at most the quota. The quotas fit.
pub record CountsAreRight (config : Config) (state : State) : Type 0 where
  pub pins : (slot : ℕ) → (state.cells.gates slot).pins
      ≡ over_workers (λ actor. pins_held slot actor.point) state.worker_states config.workers + (if state.history.stays slot (state.cells.gates slot).seq then 1 else 0)
  pub left : (slot seq : ℕ) → state.history.stays slot seq ≡ true → IsPinnedAs seq (state.cells.gates slot)
  pub frees : (slot : ℕ) → over_workers (λ actor. frees_at slot actor.point) state.worker_states config.workers
      ≡ (if (state.cells.gates slot).taken && ((state.cells.gates slot).pins == 0) then 1 else 0)
  pub doors : (tenant : ℕ) → tenant < tenants_of config → (state.cells.doors tenant).used
      ≡ slots_taken_for state tenant config.pool + over_workers (waits_for tenant) state.worker_states config.workers
  pub quotas : (tenant : ℕ) → tenant < tenants_of config → (state.cells.doors tenant).used ≤ (state.tenant_states tenant).quota
  pub limits : QuotasFit config (quotas_of state) (places_of state)

-- The invariant, by subject. A stale helper's step must not harm what is said of references, attempts, stale helpers,
-- releasers and sealed changes. The rest is what these facts depend on.
pub record Invariant (config : Config) (state : State) : Type 0 where
  pub requests : RequestsAreTheirWorkers config state
  pub claims : ChangesClaimTheirSlots config state
  pub slots : SlotsTellTheirChanges state
  pub references : ReferencesArePinned state
  pub attempts : AttemptsAreTheirWorkers state
  pub words : WordsFollowTheirChanges state
  pub late : StaleHelpersLose state
  pub releasers : HeldWordsHaveReleasers state
  pub files : FilesMatch config state
  pub places : ChangesHavePlaces config state
  pub counts : CountsAreRight config state
