-- Defines the rule (invariant) of the table, the array of atomic words that threads share. Between any two steps, some run of
-- the world (the model of a whole server), called the table's run, leads to these words, and what each thread knows is true
-- after it.
-- Used by: src/rule.rt, mw_table, mw_service, mw_law_threads, mw_table_tests. A change here changes the contracts of
-- mw_table.
use Rattle.std.specs.Prelude.{ℕ, ◌+◌, ◌≡◌, ◌≢◌, ◌≤◌, ◌<◌, ◌==◌, ◌&&◌, ◌⊎◌, Bool, true, false, cond, List, [], ◌∷◌, ◌++◌, length, slice_get, slice_index, Option, Some, None}
use mathlib.Core.Option.{some}
use lib.ListN.{get_elem?}
use Rattle.atomic_table.specs.Table.{State as Table}
use Rattle.mw_words.specs.declared.places.At.{At}
use Rattle.mw_words.specs.Change.{fits}
use Rattle.mw_look.specs.Places.{pack}
use Rattle.mw_actor.specs.ActorState.{ActorState}
use Rattle.mw_world.specs.declared.config.Config.{Config}
use Rattle.mw_world.specs.Claim.Headline.{IsExecution}
use Rattle.mw_world.specs.Definition.Calls.{Called as CallOn, starts_from}
use Rattle.mw_world.specs.Definition.Cells.{Cells, read}
use Rattle.mw_world.specs.Definition.Extent.{has_place}
use Rattle.mw_world.specs.Definition.Events.{WorldEvent, Come, Step, File, Hand, Restart}
use Rattle.mw_world.specs.Definition.State.{State, TenantStart, tenants_of, world_at}
use Rattle.mw_world.specs.Definition.World.{replies_to}
use Rattle.mw_rule.specs.FromLaws.{AreNoStarts, IsRightAt, SealedChange, sealed_of, words_after}
use Rattle.mw_rule.specs.Calls.FileTokens.{TellsFile}
use Rattle.mw_rule.specs.Calls.CallStarts.{IsAtCall}
use Rattle.mw_rule.specs.declared.views.WorkerEvent.{WorkerEvent}
use Rattle.mw_rule.specs.declared.views.WorkerEvent.TheVariants.{Came, Stepped, Called, Handed}
use Rattle.mw_rule.specs.declared.views.Finished.{Finished}
use Rattle.mw_rule.specs.declared.views.FoundStatus.{FoundStatus}
use Rattle.mw_rule.specs.declared.views.HeldFile.{HeldFile}
use Rattle.mw_rule.specs.declared.views.WorkerToken.{WorkerToken}
use Rattle.mw_rule.specs.declared.views.View.{View}
use Rattle.mw_rule.specs.KnownRuns.{ExtendsKnownRun, known_run_of}
use Rattle.mw_rule.specs.Evidence.{HasEvidence, HasEvidenceAt}
use Rattle.mw_rule.specs.Layout.{index_of, words_of}
use Rattle.mw_rule.specs.Prefixes.{ArePrefixes, Gave, HasBegunFor, opening_at, seen_at}

-- The table has, at the index of each place of the world, the bits of what the world has at that place.
abbrev pub BitsMatch : Config → Cells → List ℕ → Type 0
BitsMatch config cells words = (at : At) → has_place config at ≡ true → slice_index words (index_of config.pool at) ≡ pack at (read cells at)

-- The property holds of every item of the list.
abbrev pub Each : {A : Type 0} → (A → Type 0) → List A → Type 0
Each P [] = Unit {0}
Each P (x ∷ xs) = P x × Each P xs

-- the list of this one event, if it is the worker's own; else no event
abbrev pub worker_event_if : Bool → WorkerEvent → List WorkerEvent
worker_event_if own worker_event = cond own (worker_event ∷ []) []

-- the event of this worker that an event of the world is, if it is one
abbrev pub worker_event_of : ℕ → WorldEvent → List WorkerEvent
worker_event_of worker (Come one tenant job) = worker_event_if (one == worker) Came
worker_event_of worker (Step one) = worker_event_if (one == worker) Stepped
worker_event_of worker (File one outcome) = worker_event_if (one == worker) Called
worker_event_of worker (Hand one) = worker_event_if (one == worker) Handed
worker_event_of worker (Restart founds) = []

-- what a worker did, in order, in these events
abbrev pub events_of_worker : ℕ → List WorldEvent → List WorkerEvent
events_of_worker worker [] = []
events_of_worker worker (event ∷ events) = worker_event_of worker event ++ events_of_worker worker events

-- 1 if the test holds, else 0
abbrev pub weight : Bool → ℕ
weight own = cond own 1 0

-- how many tokens of a worker are in a list
abbrev pub times : ℕ → List WorkerToken → ℕ
times worker [] = 0
times worker (one ∷ rest) = weight (one.worker == worker) + times worker rest

-- how many tokens of a worker a view has
abbrev pub has : ℕ → View → ℕ
has worker view = times worker view.tokens

-- the sum of a count over all views
abbrev pub total : (View → ℕ) → List View → ℕ
total count [] = 0
total count (view ∷ views) = count view + total count views

-- The table's run: before the table was made, a run with which it may begin; then these events, none of them a start.
pub record Past (config : Config) (begun : (ℕ → TenantStart) → List WorldEvent → Type 0) (state : State) (events : List WorldEvent) : Type 0 where
  pub openings : ℕ → TenantStart
  pub before : List WorldEvent
  pub began : begun openings before
  pub played : IsExecution config openings (before ++ events) state
  pub no_starts : AreNoStarts events

-- If the request came after the table was made, there is evidence for the reply to which it is on its way: what its steps
-- found, or the number of the next attempt.
abbrev pub HasEvidenceFor : WorkerToken → Option ActorState → Type 0
HasEvidenceFor token None = Unit {0}
HasEvidenceFor token (Some actor) = token.is_whole ≡ true → HasEvidenceAt token.found token.attempt actor.tenant actor.quota actor.point

-- What a token says of its worker is true in this world, after these events.
pub record Holds (config : Config) (openings : ℕ → TenantStart) (state : State) (events : List WorldEvent) (token : WorkerToken) : Type 0 where
  pub there : token.worker < config.workers
  pub actor : (state.worker_states token.worker).actor ≡ token.actor
  pub attempt : (state.worker_states token.worker).attempt ≡ token.attempt
  pub request : (state.worker_states token.worker).request ≡ token.request
  pub made : events_of_worker token.worker events ≡ token.made
  pub begun : HasBegunFor openings state token.worker token.begun token.actor
  pub evidence : HasEvidenceFor token token.actor

-- The sealed changes of a tenant are right: each fits the words after those before it, and no request has two.
pub record AreRight (words : List ℕ) (sealed : List SealedChange) : Type 0 where
  pub fit : (place : ℕ) (one : SealedChange) → slice_get sealed place ≡ Some one → fits (words_after words sealed place) one.entries ≡ true
  pub once : (place other : ℕ) (one another : SealedChange) → slice_get sealed place ≡ Some one → slice_get sealed other ≡ Some another → one.request ≡ another.request → place ≡ other

-- The reply has its evidence, if the request came after the table was made.
abbrev pub HasEvidenceIfWhole : ℕ → Finished → Type 0
HasEvidenceIfWhole quota one = one.is_whole ≡ true → HasEvidence one.found one.attempt one.tenant quota one.reply

-- A finished request is right among the tenants' sealed changes: its position is within its tenant's changes, its
-- reply is right there, and the reply has its evidence. The arguments are how many tenants there are, their quotas,
-- their words at the start, and their sealed changes.
pub record IsRightAmong (tenants : ℕ) (quotas : ℕ → ℕ) (words : ℕ → List ℕ) (sealed : ℕ → List SealedChange) (one : Finished) : Type 0 where
  pub there : one.tenant < tenants
  pub within : one.place ≤ length (sealed one.tenant)
  pub right : IsRightAt (words one.tenant) (sealed one.tenant) one.place one.request one.job one.reply
  pub evidence : HasEvidenceIfWhole (quotas one.tenant) one

-- a tenant's words at the latest start, as a thread knows them
abbrev pub words_given : View → ℕ → List ℕ
words_given view tenant = (opening_at view.openings tenant).words

-- a tenant's quota, as a thread knows it
abbrev pub quota_given : View → ℕ → ℕ
quota_given view tenant = (opening_at view.openings tenant).quota

-- A finished request is right among the changes that the thread has seen.
abbrev pub IsFinished : View → Finished → Type 0
IsFinished view one = IsRightAmong (tenants_of view.config) (quota_given view) (words_given view) (seen_at view.seen) one

-- the finished request is the one of this tenant with this number
abbrev pub is_of : ℕ → ℕ → Finished → Bool
is_of tenant request one = (one.tenant == tenant) && (one.request == request)

-- how often that request is in a list of finished ones
abbrev pub times_finished : ℕ → ℕ → List Finished → ℕ
times_finished tenant request [] = 0
times_finished tenant request (one ∷ rest) = weight (is_of tenant request one) + times_finished tenant request rest

-- how often it is among the finished ones of a view
abbrev pub notes_of : ℕ → ℕ → View → ℕ
notes_of tenant request view = times_finished tenant request view.mine

-- The worker of a finished request has a token in this list.
abbrev pub IsOfThese : List WorkerToken → Finished → Type 0
IsOfThese token one = 1 ≤ times one.worker token

-- What a thread knows is right by itself. The changes that it has seen are right, and so is each request that it
-- finished. It has no finished request twice, each is of one of its workers, and it has no worker's token twice.
pub record IsRight (view : View) : Type 0 where
  pub changes : (tenant : ℕ) → tenant < tenants_of view.config → AreRight (words_given view tenant) (seen_at view.seen tenant)
  pub mine : Each (IsFinished view) view.mine
  pub once : (tenant request : ℕ) → notes_of tenant request view ≤ 1
  pub own : Each (IsOfThese view.tokens) view.mine
  pub alone : (worker : ℕ) → has worker view ≤ 1

-- The request is over: its number was given to a request of its tenant, and no worker has that request now.
pub record IsOver (state : State) (one : Finished) : Type 0 where
  pub given : one.request < (state.tenant_states one.tenant).asked
  pub left : (worker : ℕ) (actor : ActorState) → (state.worker_states worker).actor ≡ Some actor → actor.tenant ≡ one.tenant → (state.worker_states worker).request ≢ one.request

-- The status that was found is still the change's: the worker's request, of this tenant, is at a call that starts from it.
pub record Waits (state : State) (tenant : ℕ) (found : FoundStatus) : Type 0 where
  pub actor : ActorState
  pub called : CallOn
  pub at_call : IsAtCall state found.worker actor called
  pub its : actor.tenant ≡ tenant
  pub is : state.cells.statuses called.change.slot ≡ found.status
  pub starts : starts_from called.call found.status ≡ true

-- The same, if a status was found.
abbrev pub WaitsIf : State → ℕ → Option FoundStatus → Type 0
WaitsIf state tenant None = Unit {0}
WaitsIf state tenant (Some found) = Waits state tenant found

-- What the thread knows of a file is true in this world.
pub record HoldsFile (config : Config) (state : State) (held : HeldFile) : Type 0 where
  pub there : held.file.tenant < tenants_of config
  pub tells : TellsFile (state.tenant_states held.file.tenant).quota config.pool held.file (state.tenant_states held.file.tenant).file
  pub waits : WaitsIf state held.file.tenant held.found

-- how many files of a tenant are in a list
abbrev pub times_held : ℕ → List HeldFile → ℕ
times_held tenant [] = 0
times_held tenant (one ∷ rest) = weight (one.file.tenant == tenant) + times_held tenant rest

-- how many files of a tenant a view has
abbrev pub holds_of : ℕ → View → ℕ
holds_of tenant view = times_held tenant view.files

-- What a thread knows is true in this world, after these events since the table was made.
pub record Fits (config : Config) (openings : ℕ → TenantStart) (state : State) (events : List WorldEvent) (view : View) : Type 0 where
  pub same_config : view.config ≡ config
  pub gave : (tenant : ℕ) → tenant < tenants_of config → Gave openings state tenant (opening_at view.openings tenant)
  pub token : Each (Holds config openings state events) view.tokens
  pub seen : ArePrefixes (tenants_of config) view.seen (sealed_of openings state)
  pub told : ArePrefixes (tenants_of config) view.told (sealed_of openings state)
  pub right : IsRight view
  pub over : Each (IsOver state) view.mine
  pub files : Each (HoldsFile config state) view.files

-- These events, from this world on, hand out the reply of this finished request to its tenant, under its number.
abbrev pub IsHandedOut : Config → State → List WorldEvent → Finished → Type 0
IsHandedOut config start events one = (index : ℕ) × (slice_get (replies_to config one.tenant start events) index ≡ Some (one.request, one.reply))

-- This run extends the one that the thread knows, and the one that the thread was told. It hands out the reply of each request
-- that the thread's workers finished.
pub record IsRunOf (config : Config) (openings : ℕ → TenantStart) (before events : List WorldEvent) (view : View) : Type 0 where
  pub known : ExtendsKnownRun view.known_run (Some (known_run_of config openings before events))
  pub told : ExtendsKnownRun view.learned_run (Some (known_run_of config openings before events))
  pub handed : Each (IsHandedOut config (world_at config openings) (before ++ events)) view.mine

-- The view is spent: the thread gave all that it knew to another, and has no token and no finished request.
pub record IsSpent (view : View) : Type 0 where
  pub flag : view.is_spent ≡ true
  pub no_tokens : view.tokens ≡ []
  pub no_mine : view.mine ≡ []

-- The view is live: it is not marked as spent, or it has a token.
abbrev pub IsLive : View → Type 0
IsLive view = (view.is_spent ≡ false) ⊎ ((one : WorkerToken) × (rest : List WorkerToken) × (view.tokens ≡ one ∷ rest))

-- The rule. There is a run of the world, such that
--
-- - the words of the table are those of the world after it (`ties`);
-- - what each thread knows is true after it, unless its view is spent (`fits`);
-- - the run extends what each thread knows of it, and hands out the replies of its finished requests (`known`);
-- - no worker has two tokens, no request is finished twice, and no tenant's file is held twice (`alone`, `once`, `one_hand`).
pub record TableInvariant (config : Config) (begun : (ℕ → TenantStart) → List WorldEvent → Type 0) (s : Table ActorState View) : Type 0 where
  pub state : State
  pub events : List WorldEvent
  pub past : Past config begun state events
  pub long : length s.words ≡ words_of config
  pub ties : BitsMatch config state.cells s.words
  pub fits : (id : ℕ) (view : View) → get_elem? s.views id ≡ some view → IsSpent view ⊎ Fits config past.openings state events view
  pub known : (id : ℕ) (view : View) → get_elem? s.views id ≡ some view → IsRunOf config past.openings past.before events view
  pub alone : (worker : ℕ) → total (has worker) s.views ≤ 1
  pub once : (tenant request : ℕ) → total (notes_of tenant request) s.views ≤ 1
  pub one_hand : (tenant : ℕ) → total (holds_of tenant) s.views ≤ 1

-- The next table is under the rule by the same run with these events added.
pub record Continues (config : Config) (begun : (ℕ → TenantStart) → List WorldEvent → Type 0) (s : Table ActorState View) (tied : TableInvariant config begun s) (more : List WorldEvent) (next : Table ActorState View) : Type 0 where
  pub after : TableInvariant config begun next
  pub same_openings : after.past.openings ≡ tied.past.openings
  pub same_before : after.past.before ≡ tied.past.before
  pub events : after.events ≡ tied.events ++ more

-- The same, and the thread with this view knows the whole new run.
pub record WentOnFor (config : Config) (begun : (ℕ → TenantStart) → List WorldEvent → Type 0) (s : Table ActorState View) (tied : TableInvariant config begun s) (more : List WorldEvent) (next : Table ActorState View) (view : View) : Type 0 where
  pub on : Continues config begun s tied more next
  pub known_run : view.known_run ≡ Some (known_run_of config on.after.past.openings on.after.past.before on.after.events)
