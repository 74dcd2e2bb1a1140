-- The changes in a tenant's file, its change in doubt and its sealed changes are just what requests asked for.
-- Used by: changes_are_whole.
use Rattle.std.specs.Prelude.{ℕ, ◌≡◌, ◌≢◌, ◌<◌, ◌⊎◌, true, false, Bool, ◌++◌, List, [], ◌∷◌, length, slice_get, Option, Some, None}
use Rattle.std.proofs.Common.{refl, sym, ap, subst, ◌∙◌, inl, inr}
use Rattle.std.proofs.lemmas.Option.{same_Some, none-some}
use Rattle.mw_words.specs.declared.jobs.Entry.{Entry}
use Rattle.mw_words.specs.declared.jobs.Job.{Job}
use Rattle.mw_words.specs.declared.replies.Reply.TheVariants.{Yes as SaysYes, No as SaysNo, Fault as SaysFault}
use Rattle.mw_actor.specs.ActorState.{entry_at}
use Rattle.mw_words.specs.Change.{fits}
use Rattle.mw_words.specs.declared.statuses.Status.{Status}
use Rattle.mw_words.specs.declared.statuses.Status.TheVariants.{Draft, Open, YesDirty, Yes, No, DoneYes, DoneNo}
use Rattle.mw_lone.specs.declared.marks.Mark.{Mark}
use Rattle.mw_lone.specs.declared.marks.Mark.TheVariants.{Ask}
use Rattle.mw_lone.specs.Store.{RequestState, entries_of, request}
use Rattle.mw_world.specs.Files.State.{Place, Empty, Prepared, Sealed, entries_at, entries_in, is_empty, is_prepared}
use Rattle.mw_world.specs.declared.config.Config.{Config}
use Rattle.mw_world.specs.Claim.Headline.{IsExecution}
use Rattle.mw_world.specs.Claim.Invariant.{IsPlaceOf, placed}
use Rattle.mw_world.specs.Definition.Events.{WorldEvent, Come, Step, File, Hand, Restart}
use Rattle.mw_world.specs.Definition.Restarts.{restarted}
use Rattle.mw_world.specs.Definition.State.{State, TenantStart, TenantState, marks_of, tenants_of, world_at}
use Rattle.mw_world.specs.Definition.World.{asked, step}
use Rattle.mw_law_runs.proofs.Counts.Startable.{may_start}
use Rattle.mw_law_runs.proofs.GuardedEvents.{guarded}
use Rattle.mw_law_runs.proofs.RunsAreSound.{runs_are_sound}
use Rattle.mw_law_runs.proofs.Knowledge.Updates.Preservation.{upd_here}
use Rattle.mw_law_store.proofs.AbstractStateLaws.{got_last}
use Rattle.mw_law_store.proofs.Beginnings.{played_by_events, run_last}
use Rattle.mw_law_store.proofs.DurabilityLaws.{marks_more}
use Rattle.mw_law_store.proofs.Files.RunsKeepFiles.{runs_have_files}
use Rattle.mw_law_store.proofs.Histories as histories
use Rattle.mw_law_store.proofs.MarksOfEvents.{come_comes}
use Rattle.mw_law_store.proofs.RunSimulation.{events_are_simulated, runs_are_simulated}
use Rattle.mw_law_store.proofs.SealedLists.{stands_at}
use Rattle.mw_law_store.specs.AbstractStates.{AbstractState, SealedChange, abstract_state_at, abstract_state_of, after_marks, first_abstract_state}
use Rattle.mw_law_store.specs.History.{IsNoStart, SealsStay}
use Rattle.mw_law_store.specs.ReplyPlaces.{sealed_of}
use Rattle.mw_law_store.specs.Simulation.{IsSimulated, start_of}
use Rattle.mw_law_store.specs.Due.{told}
use Rattle.mw_law_threads.specs.Whole.WholeChanges.{DoubtIsWhole, IsAskedFor, IsOfOwner, IsPending, IsUnsealed, PlacesHoldWholeChanges, RequestsAskForOneChange, RequestsStayAsked, SealedChangesAreWhole}
use Rattle.mw_law_threads.proofs.Whole.StoresInDoubt.{IsOfFault}
use Rattle.mw_law_threads.proofs.Whole.StoresOfRuns.{simulated_so}
use Rattle.mw_law_threads.proofs.Whole.AskedChanges.{IsFirst, Knows, knows_lines}

seals_stay : SealsStay
seals_stay = histories.seals_stay runs_are_simulated events_are_simulated

-- At the latest start of a tenant nothing was asked for, nothing is in doubt, and nothing is sealed.
record IsFresh (start : AbstractState) : Type 0 where
  first : IsFirst start
  sealed : start.sealed ≡ []

fresh_words : (words : List ℕ) → IsFresh (first_abstract_state words)
fresh_words words = record { first = record { entries = λ n. refl; doubt = refl }; sealed = refl }

start_fresh : (config : Config) (openings : ℕ → TenantStart) (events : List WorldEvent) (state : State) (tenant : ℕ) → IsExecution config openings events state → tenant < tenants_of config
    → IsFresh (start_of openings state tenant)
start_fresh config openings events state tenant played low =
    played_by_events config openings (λ before now. IsFresh (start_of openings now tenant)) (fresh_words (openings tenant).words)
    (λ before event now next so_far fresh is. by_event before event now next so_far fresh is) events state played
  where
    stays : (before : List WorldEvent) (event : WorldEvent) (now next : State) → IsExecution config openings before now → IsFresh (start_of openings now tenant) → IsNoStart event → step config now event ≡ Some next
        → IsFresh (start_of openings next tenant)
    stays before event now next so_far fresh no_start is =
        subst (λ marks. IsFresh (after_marks (first_abstract_state (openings tenant).words) marks)) (sym (seals_stay config openings before now next event tenant so_far low no_start is).0) fresh

    started : (now : State) (founds : _) → IsFresh (start_of openings (restarted config now founds) tenant)
    started now founds = subst IsFresh (sym (marks_more (first_abstract_state (openings tenant).words) (marks_of now tenant) _)) (fresh_words _)

    by_event : (before : List WorldEvent) (event : WorldEvent) (now next : State) → IsExecution config openings before now → IsFresh (start_of openings now tenant) → step config now event ≡ Some next
        → IsFresh (start_of openings next tenant)
    by_event before (Come worker other job) now next so_far fresh is = stays before (Come worker other job) now next so_far fresh tt is
    by_event before (Step worker) now next so_far fresh is = stays before (Step worker) now next so_far fresh tt is
    by_event before (File worker outcome) now next so_far fresh is = stays before (File worker outcome) now next so_far fresh tt is
    by_event before (Hand worker) now next so_far fresh is = stays before (Hand worker) now next so_far fresh tt is
    by_event before (Restart founds) now next so_far fresh is =
        guarded (λ (one : State). IsFresh (start_of openings one tenant)) (may_start config now founds) (restarted config now founds) next
        (λ may. started now founds) is

module _ (config : Config) (openings : ℕ → TenantStart) (events : List WorldEvent) (state : State) (tenant : ℕ) (played : IsExecution config openings events state) (low : tenant < tenants_of config) where
  abbrev start : AbstractState
  start = start_of openings state tenant

  abbrev lines : List (Option Mark)
  lines = (state.tenant_states tenant).lines

  simulated : IsSimulated openings state tenant
  simulated = runs_are_simulated config openings events state tenant played low

  knows : Knows lines (abstract_state_of start lines)
  knows = knows_lines start lines (start_fresh config openings events state tenant played low).first simulated.simulated.history_match.since.no_start

  -- the entries of a request of the store
  asked_so : (by : IsSimulated openings state tenant) (n : ℕ) (found : RequestState) (entries : List Entry) → request by.store n ≡ Some found → entries_of found.job ≡ entries → (entries ≡ []) ⊎ IsAskedFor state tenant n entries
  asked_so by n found entries at its =
      let same = by.simulated.history_match.entries n found at ∙ its in
      elim (knows.entries n) [
        | inl none ↦ inl (sym same ∙ none.0)
        | inr asked ↦ inr (subst (IsAskedFor state tenant n) same asked)
      ]

  -- a request that the store doesn't have has no sealed change
  pub not_there : (by : IsSimulated openings state tenant) (n : ℕ) → request by.store n ≡ None → IsUnsealed openings state tenant n
  not_there by n none place one there same =
      let history = by.simulated.history_match in
      let stands = stands_at start lines place one (start_fresh config openings events state tenant played low).sealed history.since.no_start there in
      let its = history.sealed stands.line one.request stands.is in
      none-some its.found (sym none ∙ ap (request by.store) (sym same) ∙ its.is_asked)

  -- a request whose reply isn't YES has no sealed change
  pub not_sealed : (by : IsSimulated openings state tenant) (n : ℕ) (found : RequestState) → request by.store n ≡ Some found → found.placed ≢ Some SaysYes → IsUnsealed openings state tenant n
  not_sealed by n found at no_yes place one there same =
      let history = by.simulated.history_match in
      let stands = stands_at start lines place one (start_fresh config openings events state tenant played low).sealed history.since.no_start there in
      let its = history.sealed stands.line one.request stands.is in
      let is : its.found ≡ found = same_Some its.found found (sym its.is_asked ∙ ap (request by.store) same ∙ at) in
      no_yes (ap (λ (it : RequestState). it.placed) (sym is) ∙ its.has_reply)

  -- the reply that is told for a change in a prepared place is none, NO or FAULT
  not_told : (fault : Bool) (fate : Status) (change : List Entry) → is_prepared (placed fate change) ≡ true → told fault fate change ≢ Some SaysYes
  not_told true fate change prepared says = let e : SaysFault ≡ SaysYes = same_Some SaysFault SaysYes says in absurd (cc)
  not_told false Draft change prepared says = absurd (cc)
  not_told false Open change prepared says = none-some SaysYes says
  not_told false YesDirty change prepared says = none-some SaysYes says
  not_told false Yes change prepared says = absurd (cc)
  not_told false (No entry value) change prepared says = let e : SaysNo (entry_at change entry).addr value ≡ SaysYes = same_Some (SaysNo (entry_at change entry).addr value) SaysYes says in absurd (cc)
  not_told false DoneYes change prepared says = absurd (cc)
  not_told false (DoneNo entry value) change prepared says = absurd (cc)

  in_place : (change : List Entry) (fate : Status) → (entries_in (placed fate change) ≡ []) ⊎ (entries_in (placed fate change) ≡ change)
  in_place change Draft = inl refl
  in_place change Open = inr refl
  in_place change YesDirty = inr refl
  in_place change Yes = inr refl
  in_place change (No entry value) = inr refl
  in_place change DoneYes = inl refl
  in_place change (DoneNo entry value) = inl refl

  of_place : (place : ℕ) → IsPlaceOf state tenant place → (entries_at (state.tenant_states tenant).file place ≡ []) ⊎ IsOfOwner openings state tenant place
  of_place place at =
      let files = runs_have_files config openings events state played in
      let seq = (state.cells.gates at.slot).seq in
      let fate = state.history.fate at.slot seq in
      let change = state.history.change at.slot seq in
      let sound = (runs_are_sound config openings events state played).0 in
      let claimed = sound.memory.claims.claimed at.slot at.in_file.taken in
      let of_change = simulated.simulated.refines.asks.changes.asked at.slot seq (claimed, at.in_file.same_tenant) in
      let there : (state.tenant_states tenant).file.places place ≡ placed fate change = ap (state.tenant_states tenant).file.places (sym at.is) ∙ files.places.there tenant at.slot at.in_file in
      elim (in_place change fate) [
        | inl none ↦ inl (ap entries_in there ∙ none)
        | inr all ↦ elim (asked_so simulated (state.history.request at.slot seq) of_change.found (entries_at (state.tenant_states tenant).file place) of_change.is_asked (of_change.its_entries ∙ sym (ap entries_in there ∙ all))) [
          | inl none ↦ inl none
          | inr asked ↦ inr (record {
            slot = at.slot;
            in_file = at.in_file;
            is_place = at.is;
            asked = asked;
            unsealed = λ prepared. not_sealed simulated (state.history.request at.slot seq) of_change.found of_change.is_asked
                (λ yes_said. not_told (state.history.is_fault_decided at.slot seq) fate change (ap is_prepared (sym there) ∙ prepared) (sym of_change.is_placed ∙ yes_said));
          })
        ]
      ]

  by_place : (place : ℕ) (there : Place) → (state.tenant_states tenant).file.places place ≡ there → (entries_at (state.tenant_states tenant).file place ≡ []) ⊎ IsOfOwner openings state tenant place
  by_place place Empty is = inl (ap entries_in is)
  by_place place (Prepared entries) is = of_place place ((runs_have_files config openings events state played).places.in_use tenant place low (ap is_empty is))
  by_place place (Sealed entries) is = of_place place ((runs_have_files config openings events state played).places.in_use tenant place low (ap is_empty is))

  sealed_whole : (place : ℕ) (one : SealedChange) → slice_get (sealed_of openings state tenant) place ≡ Some one → IsAskedFor state tenant one.request one.entries
  sealed_whole place one at =
      let history = simulated.simulated.history_match in
      let there = stands_at start lines place one (start_fresh config openings events state tenant played low).sealed history.since.no_start at in
      let its = history.sealed there.line one.request there.is in
      let stands = history.places one.request its.found _ its.is_asked its.has_reply in
      let entries = ap (λ (line : ℕ). (abstract_state_at start lines line).entries one.request) (stands.once there.line there.is) in
      let same : (abstract_state_of start lines).entries one.request ≡ one.entries =
      history.entries one.request its.found its.is_asked ∙ sym stands.its_entries ∙ sym entries ∙ there.entries in
      elim (knows.entries one.request) [
        | inl none ↦ absurd (none.1 stands.asked.ask stands.asked.job stands.asked.is_asked)
        | inr asked ↦ subst (IsAskedFor state tenant one.request) same asked
      ]

  ask_alike : (request : ℕ) (entries others : List Entry) → IsAskedFor state tenant request entries → IsAskedFor state tenant request others → entries ≡ others
  ask_alike request entries others one other =
      let same = simulated.simulated.history_match.since.ask_once one.line other.line request one.job other.job one.came other.came in
      one.its ∙ ap entries_of (same_job request one.job other.job (sym one.came ∙ ap (slice_get lines) same ∙ other.came)) ∙ sym other.its
    where
      same_job : (n : ℕ) (job another : Job) → Some (Some (Ask n job)) ≡ Some (Some (Ask n another)) → job ≡ another
      same_job n job another is = let e : Ask n job ≡ Ask n another = same_Some (Ask n job) (Ask n another) (same_Some (Some (Ask n job)) (Some (Ask n another)) is) in cc

pub places_hold_whole_changes : PlacesHoldWholeChanges
places_hold_whole_changes config openings events state tenant place played low = by_place config openings events state tenant played low place ((state.tenant_states tenant).file.places place) refl

pub sealed_changes_are_whole : SealedChangesAreWhole
sealed_changes_are_whole config openings events state tenant played low place one at = sealed_whole config openings events state tenant played low place one at

pub requests_ask_for_one_change : RequestsAskForOneChange
requests_ask_for_one_change config openings events state tenant request entries others played low one other = ask_alike config openings events state tenant played low request entries others one other

-- a request that comes is on the last line
came_last : (config : Config) (state next : State) (worker tenant : ℕ) (job : Job) → step config state (Come worker tenant job) ≡ Some next
    → slice_get (next.tenant_states tenant).lines (length (state.tenant_states tenant).lines) ≡ Some (Some (Ask (state.tenant_states tenant).asked job))
came_last config state next worker tenant job is =
    come_comes (λ (one : State). slice_get (one.tenant_states tenant).lines (length (state.tenant_states tenant).lines) ≡ Some (Some (Ask (state.tenant_states tenant).asked job))) config state next worker tenant job
    (λ may. ap (λ (one : TenantState). slice_get one.lines (length (state.tenant_states tenant).lines)) (upd_here state.tenant_states tenant (asked (state.tenant_states tenant) job))
    ∙ got_last (state.tenant_states tenant).lines (Some (Ask (state.tenant_states tenant).asked job))) is

pub requests_stay_asked : RequestsStayAsked
requests_stay_asked config openings events later state between last worker tenant job played low comes none goes =
    let after : IsExecution config openings (events ++ Come worker tenant job ∷ []) between =
    record { made = played.made; starts = played.starts; runs = run_last config (world_at config openings) state between events (Come worker tenant job) played.runs comes } in
    let on = histories.seals_stay_long runs_are_simulated events_are_simulated config openings (events ++ Come worker tenant job ∷ []) later between last tenant after low none goes in
    record {
      line = length (state.tenant_states tenant).lines;
      job = job;
      came = on.1.marks (length (state.tenant_states tenant).lines) (Ask (state.tenant_states tenant).asked job) (came_last config state between worker tenant job comes);
      its = refl;
    }

no_entries_fit : (words : List ℕ) (entries : List Entry) → entries ≡ [] → fits words entries ≡ true
no_entries_fit words entries none = ap (fits words) none

-- the change in doubt is its owner's, of which no change is sealed
pub in_doubt_so : (config : Config) (openings : ℕ → TenantStart) (events : List WorldEvent) (state : State) (tenant : ℕ) (played : IsExecution config openings events state) → tenant < tenants_of config
    → (by : IsSimulated openings state tenant) (is : IsOfFault by.store)
    → ((state.tenant_states tenant).file.doubt ≡ []) ⊎ IsPending openings state tenant is.owner (state.tenant_states tenant).file.doubt
in_doubt_so config openings events state tenant played low by is =
    elim (asked_so config openings events state tenant played low by is.owner is.found (state.tenant_states tenant).file.doubt is.is_asked (is.its ∙ sym by.simulated.refines.holds.in_doubt)) [
      | inl none ↦ inl none
      | inr asked ↦ inr (record {
        asked = asked;
        unsealed = not_sealed config openings events state tenant played low by is.owner is.found is.is_asked
            (λ said. let e : SaysFault ≡ SaysYes = same_Some SaysFault SaysYes (sym is.says ∙ said) in absurd (cc));
      })
    ]

pub doubt_is_whole : DoubtIsWhole
doubt_is_whole config openings events state tenant played low =
    let by = simulated_so config openings tenant low events state played in
    let in_doubt : (state.tenant_states tenant).file.doubt ≡ by.store.in_doubt = by.simulated.refines.holds.in_doubt in
    let words : (state.tenant_states tenant).file.contents ≡ by.store.words = by.simulated.refines.holds.words in
    elim by.fault [
      | inl none ↦ (inl (in_doubt ∙ none), no_entries_fit (state.tenant_states tenant).file.contents (state.tenant_states tenant).file.doubt (in_doubt ∙ none))
      | inr is ↦ (
        elim (in_doubt_so config openings events state tenant played low (record { store = by.store; simulated = by.simulated }) is) [
          | inl none ↦ inl none
          | inr pending ↦ inr (is.owner, pending)
        ],
        (λ i. fits (words i) (in_doubt i)) ∙ is.fit,
      )
    ]
