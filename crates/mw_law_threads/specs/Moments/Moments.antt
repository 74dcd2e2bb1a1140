-- Defines the moment of a reply, between the arrival of the request and the reply. VAL, NO and YES: the tenant's words were
-- as the reply says, and the request's mark has its place where as many changes are sealed as at this moment. BUSY and FAULT:
-- the tenant's door had the cause.
-- Used by: src/moment_laws.rt.
use Rattle.std.specs.Prelude.{ℕ, ◌≡◌, ◌≢◌, ◌<◌, ◌++◌, true, false, List, [], ◌∷◌, slice_get, Some}
use Rattle.mw_words.specs.declared.jobs.Entry.{Entry}
use Rattle.mw_words.specs.declared.jobs.Job.{Job}
use Rattle.mw_words.specs.declared.jobs.Job.TheVariants.{Get}
use Rattle.mw_words.specs.declared.replies.Reply.{Reply}
use Rattle.mw_words.specs.declared.replies.Reply.TheVariants.{Val, Yes as SaysYes, No as SaysNo, Busy as SaysBusy, Fault as SaysFault}
use Rattle.mw_words.specs.Change.{fits, put, word_at}
use Rattle.mw_lone.specs.declared.marks.Mark.{Mark}
use Rattle.mw_lone.specs.declared.marks.Mark.TheVariants.{Look, Miss, Seal}
use Rattle.mw_lone.specs.Store.{entries_of}
use Rattle.mw_world.specs.declared.config.Config.{Config}
use Rattle.mw_world.specs.Claim.Headline.{IsExecution, IsRun}
use Rattle.mw_world.specs.Definition.Events.{WorldEvent, Come}
use Rattle.mw_world.specs.Definition.Logical.{logical}
use Rattle.mw_world.specs.Definition.State.{State, TenantStart, tenant_at, tenants_of}
use Rattle.mw_world.specs.Definition.World.{outgoing, run, step}
use Rattle.mw_law_store.specs.AbstractStates.{IsAskedBefore, abstract_state_at}
use Rattle.mw_law_store.specs.History.{AreNoStarts}
use Rattle.mw_law_store.specs.ReplyPlaces.{sealed_of}
use Rattle.mw_law_store.specs.Simulation.{start_of}

-- the words of a tenant's file at a moment
abbrev pub words_then : State → ℕ → List ℕ
words_then moment tenant = (moment.tenant_states tenant).file.contents

-- A moment of a call. The request came just before `between`, and then the events `later` followed. The first of these have
-- happened, maybe none, maybe all.
pub record IsDuring (config : Config) (between : State) (later : List WorldEvent) (moment : State) : Type 0 where
  pub first : List WorldEvent
  pub rest : List WorldEvent
  pub parted : later ≡ first ++ rest
  pub reached : run config between first ≡ Some moment

-- At a moment of the call the tenant's door counted as many slots in use as its quota allows, and had no fault.
pub record WasFull (config : Config) (between : State) (later : List WorldEvent) (tenant : ℕ) : Type 0 where
  pub moment : State
  pub during : IsDuring config between later moment
  pub full : (moment.cells.doors tenant).used ≡ (moment.tenant_states tenant).quota
  pub no_fault : (moment.cells.doors tenant).fault ≡ false

-- At a moment of the call the tenant's door had the fault: its file had failed, or had not opened.
pub record HadFault (config : Config) (between : State) (later : List WorldEvent) (tenant : ℕ) : Type 0 where
  pub moment : State
  pub during : IsDuring config between later moment
  pub fault : (moment.cells.doors tenant).fault ≡ true

-- The mark of this request stands for a moment: it is on this line of the tenant's history since the last start, after the line
-- with which the request came. Before it the same changes are sealed as at that moment.
pub record StandsFor (openings : ℕ → TenantStart) (last : State) (tenant n line : ℕ) (mark : Mark) (moment : State) : Type 0 where
  pub is : slice_get (last.tenant_states tenant).lines line ≡ Some (Some mark)
  pub asked : IsAskedBefore (last.tenant_states tenant).lines line n
  pub sealed : (abstract_state_at (start_of openings last tenant) (last.tenant_states tenant).lines line).sealed ≡ sealed_of openings moment tenant

module _ (config : Config) (openings : ℕ → TenantStart) (between : State) (later : List WorldEvent) (last : State) (tenant n : ℕ) (job : Job) where
  -- The request is a read. Its word had this value at a moment of the call, for which its mark stands.
  pub record WasRead (value : ℕ) : Type 0 where
    pub moment : State
    pub during : IsDuring config between later moment
    pub line : ℕ
    pub stands : StandsFor openings last tenant n line (Look n) moment
    pub address : ℕ
    pub reads : job ≡ Get address
    pub says : word_at (words_then moment tenant) address ≡ value

  -- The word of one of the request's entries had this value at a moment of the call, for which its mark stands. The entry
  -- expects another value.
  pub record WasRefused (address value : ℕ) : Type 0 where
    pub moment : State
    pub during : IsDuring config between later moment
    pub line : ℕ
    pub index : ℕ
    pub stands : StandsFor openings last tenant n line (Miss n index) moment
    pub entry : Entry
    pub is_entry : slice_get (entries_of job) index ≡ Some entry
    pub same_address : address ≡ entry.addr
    pub says : word_at (words_then moment tenant) address ≡ value
    pub differs : value ≢ entry.expected

  -- The change was made by one event of the call, which may be another worker's. Before it the words were as the change expects.
  -- It sealed just this change, and put it over the words. The request's mark stands for the moment before it.
  pub record WasChanged : Type 0 where
    pub moment : State
    pub next : State
    pub event : WorldEvent
    pub first : List WorldEvent
    pub rest : List WorldEvent
    pub parted : later ≡ first ++ event ∷ rest
    pub reached : run config between first ≡ Some moment
    pub makes : step config moment event ≡ Some next
    pub line : ℕ
    pub stands : StandsFor openings last tenant n line (Seal n) moment
    pub seals : sealed_of openings next tenant ≡ sealed_of openings moment tenant ++ record { request = n; entries = entries_of job } ∷ []
    pub expected : fits (words_then moment tenant) (entries_of job) ≡ true
    pub made : words_then next tenant ≡ put (words_then moment tenant) (entries_of job)

  -- Each reply but WORN has a moment of the call. Of WORN this says nothing.
  abbrev pub HasMoment : Reply → Type 0
  HasMoment (Val value) = WasRead value
  HasMoment (SaysNo address value) = WasRefused address value
  HasMoment SaysYes = WasChanged
  HasMoment SaysBusy = WasFull config between later tenant
  HasMoment SaysFault = HadFault config between later tenant
  HasMoment reply = Unit {0}

-- A request comes, events follow that are not starts, and then an event hands out the reply to this request, by its tenant and
-- number. If it is not WORN, it has a moment between the two. A start drops all requests, so none lies between.
abbrev pub RepliesHaveMoments : Type 0
RepliesHaveMoments = (config : Config) (openings : ℕ → TenantStart) (events later : List WorldEvent) (event : WorldEvent) (state between last : State) (worker tenant : ℕ) (job : Job) (reply : Reply)
    → IsExecution config openings events state → step config state (Come worker tenant job) ≡ Some between → AreNoStarts later → run config between later ≡ Some last
    → outgoing last tenant event ≡ Some ((between.worker_states worker).request, reply)
    → HasMoment config openings between later last tenant (between.worker_states worker).request job reply

-- While numbers are left, the shared words of a tenant whose file opened at the last start are the words of its file.
abbrev pub SharedWordsAreTheFiles : Type 0
SharedWordsAreTheFiles = (config : Config) (openings : ℕ → TenantStart) (events : List WorldEvent) (moment : State) (tenant address : ℕ) → IsRun config openings events moment
    → tenant < tenants_of config → (moment.tenant_states tenant).is_up ≡ true → address < (tenant_at config tenant).words
    → logical moment.cells tenant address ≡ word_at (words_then moment tenant) address
