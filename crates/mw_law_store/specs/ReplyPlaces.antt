-- Defines at which place among its tenant's sealed changes a reply is right, counted from the time at which its request came.
-- It holds of every run, also when a number was used up.
-- Used by: src/laws.rt, mw_rule, mw_law_threads.
use Rattle.std.specs.Prelude.{ℕ, ◌≡◌, ◌≢◌, ◌<◌, ◌≤◌, ◌⊎◌, ◌++◌, true, List, [], ◌∷◌, length, slice_get, Some}
use Rattle.std.proofs.Math.ListN.{take}
use Rattle.mw_words.specs.declared.jobs.Entry.{Entry}
use Rattle.mw_words.specs.declared.jobs.Job.{Job}
use Rattle.mw_words.specs.declared.jobs.Job.TheVariants.{Get}
use Rattle.mw_words.specs.declared.replies.Reply.{Reply}
use Rattle.mw_words.specs.declared.replies.Reply.TheVariants.{Val, Yes as SaysYes, No as SaysNo}
use Rattle.mw_words.specs.Change.{fits, word_at}
use Rattle.mw_lone.specs.declared.marks.Mark.TheVariants.{Ask}
use Rattle.mw_lone.specs.Store.{entries_of}
use Rattle.mw_actor.specs.ActorState.{ActorState, first}
use Rattle.mw_actor.specs.Program.{replied}
use Rattle.mw_world.specs.declared.config.Config.{Config}
use Rattle.mw_world.specs.Claim.Headline.{IsExecution}
use Rattle.mw_world.specs.Definition.Events.{Found, WorldEvent, Come, Restart}
use Rattle.mw_world.specs.Definition.State.{State, TenantStart, tenants_of, world_at}
use Rattle.mw_world.specs.Definition.World.{run, step}
use Rattle.mw_law_store.specs.Simulation.{start_of}
use Rattle.mw_law_store.specs.History.{put_sealed, AreNoStarts, IsNoStart}
use Rattle.mw_law_store.specs.AbstractStates.{SealedChange, abstract_state_of, abstract_state_at, IsAskedBefore}

-- a tenant's changes that were sealed since its last start, in order
abbrev pub sealed_of : (ℕ → TenantStart) → State → ℕ → List SealedChange
sealed_of openings state tenant = (abstract_state_of (start_of openings state tenant) (state.tenant_states tenant).lines).sealed

-- a tenant's words at its last start
abbrev pub words_at_start : (ℕ → TenantStart) → State → ℕ → List ℕ
words_at_start openings state tenant = (start_of openings state tenant).words

-- the words after this many of the sealed changes
abbrev pub words_after : List ℕ → List SealedChange → ℕ → List ℕ
words_after words sealed place = put_sealed words (take place sealed)

-- What holds of lists alone.

-- The job is a read, and its word has this value after this many sealed changes.
pub record ReadsAt (words : List ℕ) (sealed : List SealedChange) (place : ℕ) (job : Job) (value : ℕ) : Type 0 where
  pub address : ℕ
  pub reads : job ≡ Get address
  pub says : word_at (words_after words sealed place) address ≡ value

-- After this many sealed changes the word of one of the entries has this value, which is not the one that the entry expects.
pub record RefusesAt (words : List ℕ) (sealed : List SealedChange) (place : ℕ) (entries : List Entry) (address value : ℕ) : Type 0 where
  pub index : ℕ
  pub entry : Entry
  pub is_entry : slice_get entries index ≡ Some entry
  pub same_address : address ≡ entry.addr
  pub says : word_at (words_after words sealed place) address ≡ value
  pub differs : value ≢ entry.expected

-- The reply to a request, by its number and its job, is right after this many sealed changes. For YES the next change, with the
-- place as its index from 0, is the request's own. BUSY, FAULT and WORN are right everywhere, because they rest on no word.
abbrev pub IsRightAt : List ℕ → List SealedChange → ℕ → ℕ → Job → Reply → Type 0
IsRightAt words sealed place n job (Val value) = ReadsAt words sealed place job value
IsRightAt words sealed place n job (SaysNo address value) = RefusesAt words sealed place (entries_of job) address value
IsRightAt words sealed place n job SaysYes = slice_get sealed place ≡ Some (record { request = n; entries = entries_of job })
IsRightAt words sealed place n job reply = Unit {0}

-- The reply is right at a place that is no smaller than this one.
pub record IsRightSince (begun : ℕ) (words : List ℕ) (sealed : List SealedChange) (n : ℕ) (job : Job) (reply : Reply) : Type 0 where
  pub place : ℕ
  pub no_smaller : begun ≤ place
  pub within : place ≤ length sealed
  pub right : IsRightAt words sealed place n job reply

-- A reply stays right at its place when more changes are sealed.
abbrev pub PlacesStayRight : Type 0
PlacesStayRight = (words : List ℕ) (sealed more : List SealedChange) (place n : ℕ) (job : Job) (reply : Reply) → place ≤ length sealed → IsRightAt words sealed place n job reply
    → IsRightAt words (sealed ++ more) place n job reply

-- Each sealed change fits the words after those before it, no request has two, and the words after all of them are these.
pub record AreSealedRight (words : List ℕ) (sealed : List SealedChange) (contents : List ℕ) : Type 0 where
  pub fit : (place : ℕ) (one : SealedChange) → slice_get sealed place ≡ Some one → fits (words_after words sealed place) one.entries ≡ true
  pub once : (place other : ℕ) (one another : SealedChange) → slice_get sealed place ≡ Some one → slice_get sealed other ≡ Some another → one.request ≡ another.request → place ≡ other
  pub all : put_sealed words sealed ≡ contents

-- What holds of runs.

-- When a run begins, no change of a tenant is sealed, and its words are those of the start.
abbrev pub SealsBegin : Type 0
SealsBegin = (config : Config) (openings : ℕ → TenantStart) (tenant : ℕ) → (sealed_of openings (world_at config openings) tenant ≡ []) × (words_at_start openings (world_at config openings) tenant ≡ (openings tenant).words)

-- After a start no change of a tenant is sealed.
abbrev pub StartsSealNothing : Type 0
StartsSealNothing = (config : Config) (openings : ℕ → TenantStart) (state next : State) (founds : List Found) (tenant : ℕ) → step config state (Restart founds) ≡ Some next → sealed_of openings next tenant ≡ []

-- Any other event seals at most one change more, after the others, and leaves the words at the last start.
abbrev pub SealedGoOn : Type 0
SealedGoOn = (config : Config) (openings : ℕ → TenantStart) (events : List WorldEvent) (state next : State) (event : WorldEvent) (tenant : ℕ) → IsExecution config openings events state
    → tenant < tenants_of config → IsNoStart event → step config state event ≡ Some next → (words_at_start openings next tenant ≡ words_at_start openings state tenant)
    × ((sealed_of openings next tenant ≡ sealed_of openings state tenant) ⊎ ((one : SealedChange) × (sealed_of openings next tenant ≡ sealed_of openings state tenant ++ one ∷ [])))

-- After every run the sealed changes of a tenant lead from its words at the last start to its file's.
abbrev pub SealedAreRight : Type 0
SealedAreRight = (config : Config) (openings : ℕ → TenantStart) (events : List WorldEvent) (state : State) (tenant : ℕ) → IsExecution config openings events state → tenant < tenants_of config
    → AreSealedRight (words_at_start openings state tenant) (sealed_of openings state tenant) (state.tenant_states tenant).file.contents

-- A worker has this request, and this many of its tenant's changes were sealed before the line with which it came.
pub record HasBegun (openings : ℕ → TenantStart) (state : State) (worker : ℕ) (actor : ActorState) (begun : ℕ) : Type 0 where
  pub sits : (state.worker_states worker).actor ≡ Some actor
  pub ask : ℕ
  pub came : slice_get (state.tenant_states actor.tenant).lines ask ≡ Some (Some (Ask (state.worker_states worker).request actor.job))
  pub sealed : length (abstract_state_at (start_of openings state actor.tenant) (state.tenant_states actor.tenant).lines ask).sealed ≡ begun

-- A request that comes has begun with as many changes as are sealed then.
abbrev pub RequestsBegin : Type 0
RequestsBegin = (config : Config) (openings : ℕ → TenantStart) (state next : State) (worker tenant : ℕ) (job : Job) → step config state (Come worker tenant job) ≡ Some next
    → HasBegun openings next worker (first worker tenant (state.tenant_states tenant).quota config.pool job) (length (sealed_of openings state tenant))

-- The worker has the same request after an event.
pub record IsSameRequest (state next : State) (worker : ℕ) (actor after : ActorState) : Type 0 where
  pub tenant : after.tenant ≡ actor.tenant
  pub job : after.job ≡ actor.job
  pub number : (next.worker_states worker).request ≡ (state.worker_states worker).request

-- Over an event that is not a start, a worker that still has a request has the same one, which began with as many changes.
abbrev pub RequestsStayBegun : Type 0
RequestsStayBegun = (config : Config) (openings : ℕ → TenantStart) (events : List WorldEvent) (state next : State) (event : WorldEvent) (worker : ℕ) (actor after : ActorState) (begun : ℕ)
    → IsExecution config openings events state → HasBegun openings state worker actor begun → IsNoStart event → step config state event ≡ Some next → (next.worker_states worker).actor ≡ Some after
    → IsSameRequest state next worker actor after × HasBegun openings next worker after begun

-- After every run each worker's request has begun with some number of changes.
abbrev pub RequestsHaveBegun : Type 0
RequestsHaveBegun = (config : Config) (openings : ℕ → TenantStart) (events : List WorldEvent) (state : State) (worker : ℕ) (actor : ActorState) → IsExecution config openings events state
    → (state.worker_states worker).actor ≡ Some actor → (begun : ℕ) × HasBegun openings state worker actor begun

-- A line with which a worker's request came has the job of that request.
abbrev pub AsksTellTheirJobs : Type 0
AsksTellTheirJobs = (config : Config) (openings : ℕ → TenantStart) (events : List WorldEvent) (state : State) (worker place : ℕ) (actor : ActorState) → IsExecution config openings events state
    → (state.worker_states worker).actor ≡ Some actor → (asked : IsAskedBefore (state.tenant_states actor.tenant).lines place (state.worker_states worker).request) → asked.job ≡ actor.job

-- A reply is right at a place that is no smaller than the number of changes sealed when its request came.
abbrev pub RepliesAreLinearized : Type 0
RepliesAreLinearized = (config : Config) (openings : ℕ → TenantStart) (events : List WorldEvent) (state : State) (worker : ℕ) (actor : ActorState) (begun : ℕ) (reply : Reply)
    → IsExecution config openings events state → HasBegun openings state worker actor begun → replied actor ≡ Some reply
    → IsRightSince begun (words_at_start openings state actor.tenant) (sealed_of openings state actor.tenant) (state.worker_states worker).request actor.job reply

-- The same over a whole call. A request comes, events follow that are not starts, and then a worker has a reply to a request of
-- the same tenant and number. The reply is one to the job that came.
abbrev pub CallsKeepTheirPlace : Type 0
CallsKeepTheirPlace = (config : Config) (openings : ℕ → TenantStart) (events later : List WorldEvent) (state between last : State) (worker tenant by : ℕ) (job : Job) (actor : ActorState) (reply : Reply)
    → IsExecution config openings events state → step config state (Come worker tenant job) ≡ Some between → AreNoStarts later → run config between later ≡ Some last
    → (last.worker_states by).actor ≡ Some actor → actor.tenant ≡ tenant → (last.worker_states by).request ≡ (between.worker_states worker).request → replied actor ≡ Some reply
    → IsRightSince (length (sealed_of openings state tenant)) (words_at_start openings state tenant) (sealed_of openings last tenant) (last.worker_states by).request job reply
