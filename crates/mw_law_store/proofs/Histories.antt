-- After every run, each reply has its place among its tenant's marks and sealed changes, taken from the store alone that
-- simulates the tenant.
-- Used by: replies_have_places, mw_rule, mw_law_threads.
use Rattle.std.specs.Prelude.{ℕ, ◌≡◌, ◌<◌, List, [], ◌∷◌, ◌++◌, Option, Some, None}
use Rattle.std.proofs.Common.{refl, sym, ap, subst, ◌∙◌, append_assoc, append-nil, ◌⊎◌, inl, inr, arith}
use Rattle.std.proofs.lemmas.List.{length-set}
use Rattle.std.proofs.lemmas.Option.{option_and_then_some}
use Rattle.mw_words.specs.declared.jobs.Job.{Job}
use Rattle.mw_words.specs.declared.replies.Reply.{Reply}
use Rattle.mw_words.specs.declared.replies.Reply.TheVariants.{Val, Yes as SaysYes, No as SaysNo, Busy as SaysBusy, Fault as SaysFault, Worn as SaysWorn}
use Rattle.mw_lone.specs.declared.marks.Mark.{Mark}
use Rattle.mw_lone.specs.declared.marks.Mark.TheVariants.{Ask, Admit, Busy, Look, Miss, Seal, SealFail, FileFail, GiveUp, Retire, Reply as HandOut, Restart}
use Rattle.mw_lone.specs.Store.{Store, request}
use Rattle.mw_law_store.specs.Late.LateMarks.{more}
use Rattle.mw_world.specs.declared.config.Config.{Config}
use Rattle.mw_world.specs.Claim.Headline.{IsExecution}
use Rattle.mw_world.specs.Definition.Events.{WorldEvent}
use Rattle.mw_world.specs.Definition.State.{State, TenantStart, tenants_of, world_at}
use Rattle.mw_world.specs.Definition.World.{run, step}
use Rattle.mw_law_runs.specs.Obligations.{own_of}
use Rattle.mw_law_runs.proofs.Obligations.Pins.{some_same}
use Rattle.mw_law_runs.proofs.RunsAreSound.{runs_are_sound}
use Rattle.mw_law_store.proofs.Beginnings.{run_last}
use Rattle.mw_law_store.specs.Due.{due, due_reply, lowers}
use Rattle.mw_law_store.specs.Simulation.{IsSimulatedBy, SimulatesStep, start_of}
use Rattle.mw_law_store.specs.RelaxedSteps.{StoreLabel, NoLabel, Says, ReservesPlace, MarksLate, lines_after, RelaxedLabelStep}
use Rattle.mw_law_store.specs.History.{RepliesHavePlaces, SealsFit, AsksStandOnce, SealsGoOn, SealsStay, SealsHaveGoneOn, SealsStayLong, AreNoStarts}
use Rattle.mw_law_store.specs.Laws.{RunsAreSimulated, EventsAreSimulated}
use Rattle.mw_law_store.specs.AbstractStates.{AbstractState, SealedChange, first_abstract_state, after_mark, after_marks, after_line, abstract_state_of, HasPlace}
use Rattle.mw_law_store.specs.HistoryMatches.{HistoryMatch, AreSinceStart, MayBeLabeled}
use Rattle.mw_law_store.specs.Refinement.{WorkerRefines, HasReply, IsDue, is_live, changes_of_tenant, told_of}
use Rattle.mw_law_store.proofs.Arrivals.{replied_due}
use Rattle.mw_law_store.proofs.Marks.{row_of}
use Rattle.mw_law_store.proofs.AbstractStateLaws.{abstract_state_more, abstract_state_before, abstract_state_late, late_all, got_before, got_late}
use Rattle.mw_law_store.proofs.PlacesAfterLine.{coming_is_mild}
use Rattle.mw_law_store.proofs.LastLines.{length_more}

-- A reply that is due has its place.
due_place : (start : AbstractState) (lines : List (Option Mark)) (store : Store) (n : ℕ) (job : Job) (reply : Reply) → HistoryMatch start lines store → IsDue (request store) n job (due_reply reply) → HasPlace start lines n job reply
due_place start lines store n job reply history_match = by_reply reply where
  its_place : (reply : Reply) → HasReply (request store) n job reply → HasPlace start lines n job reply
  its_place reply has = subst (λ j. HasPlace start lines n j reply) has.its_job (history_match.places n has.found reply has.is_asked has.has_reply)

  by_reply : (reply : Reply) → IsDue (request store) n job (due_reply reply) → HasPlace start lines n job reply
  by_reply (Val value) is = its_place (Val value) is
  by_reply SaysYes is = its_place SaysYes is
  by_reply (SaysNo address value) is = its_place (SaysNo address value) is
  by_reply SaysBusy is = tt
  by_reply SaysFault is = tt
  by_reply SaysWorn is = tt

-- What one label does to the sealed changes.

seals_at_end : (start : AbstractState) (lines : List (Option Mark)) (line : Option Mark)
    → (((after_line (abstract_state_of start lines) line).sealed ≡ (abstract_state_of start lines).sealed) ⊎ ((one : SealedChange) × ((after_line (abstract_state_of start lines) line).sealed ≡ (abstract_state_of start lines).sealed ++ one ∷ [])))
    → SealsGoOn start lines (more lines line)
seals_at_end start lines line at_most_one =
    let longer = length_more lines line in
    let last = ap (λ (now : AbstractState). now.sealed) (abstract_state_more start lines line) in
    record {
      no_fewer = omega (arith, longer);
      marks = λ place mark at. got_before lines line (Some mark) place at;
      before = λ place within. ap (λ (now : AbstractState). now.sealed) (abstract_state_before start lines line place within);
      one_more = elim at_most_one [
        | inl none ↦ inl (last ∙ none)
        | inr one ↦ inr (one.0, last ∙ one.1)
      ];
    }

seals_by_mark : (now : AbstractState) (mark : Mark) (start : AbstractState) (lines : List (Option Mark)) (store : Store) → MayBeLabeled start lines (Says mark) store
    → ((after_mark now mark).sealed ≡ now.sealed) ⊎ ((one : SealedChange) × ((after_mark now mark).sealed ≡ now.sealed ++ one ∷ []))
seals_by_mark now (Ask k job) start lines store may = inl refl
seals_by_mark now (Admit k) start lines store may = inl refl
seals_by_mark now (Busy k) start lines store may = inl refl
seals_by_mark now (Look k) start lines store may = inl refl
seals_by_mark now (Miss k index) start lines store may = inl refl
seals_by_mark now (Seal k) start lines store may = inr (record { request = k; entries = now.entries k }, refl)
seals_by_mark now (SealFail k) start lines store may = inl refl
seals_by_mark now FileFail start lines store may = inl refl
seals_by_mark now (GiveUp k) start lines store may = inl refl
seals_by_mark now (Retire k) start lines store may = inl refl
seals_by_mark now (HandOut k) start lines store may = inl refl
seals_by_mark now (Restart interrupted found opened quota) start lines store may = absurd may

said_seals : (start : AbstractState) (lines : List (Option Mark)) (says : StoreLabel) (store after : Store) → MayBeLabeled start lines says store → RelaxedLabelStep says store after → SealsGoOn start lines (lines_after says lines)
said_seals start lines NoLabel store after may goes = record { no_fewer = omega arith; marks = λ place mark at. at; before = λ place within. refl; one_more = inl refl }
said_seals start lines (Says mark) store after may goes = seals_at_end start lines (Some mark) (seals_by_mark (abstract_state_of start lines) mark start lines store may)
said_seals start lines ReservesPlace store after may goes = seals_at_end start lines None (inl refl)
said_seals start lines (MarksLate place mark n reply) store after may goes =
    let mild = coming_is_mild start lines place mark n goes.found.job reply (may.1 goes.found goes.is_open.is_asked) in
    let as_long = length-set lines place (Some mark) in
    record {
      no_fewer = omega (arith, as_long);
      marks = λ other there at. got_late lines place mark there other may.0 at;
      before = λ other within. ap (λ (now : AbstractState). now.sealed) (abstract_state_late start lines place mark other mild may.0);
      one_more = inl (ap (λ (now : AbstractState). now.sealed) (late_all start lines place mark mild may.0));
    }

-- Over one more event.
goes_further : (start : AbstractState) (old between new : List (Option Mark)) → SealsGoOn start old between → SealsHaveGoneOn start between new → SealsHaveGoneOn start old new
goes_further start old between new one rest = record {
  no_fewer = let first = one.no_fewer in let then = rest.no_fewer in omega (arith, first, then);
  marks = λ place mark at. rest.marks place mark (one.marks place mark at);
  before = λ place within. let first = one.no_fewer in rest.before place (omega (arith, first, within)) ∙ one.before place within;
  begins = elim one.one_more [
    | inl none ↦ record { rest = rest.begins.rest; parted = rest.begins.parted ∙ ap (λ (ones : List SealedChange). ones ++ rest.begins.rest) none }
    | inr more_one ↦ record {
      rest = more_one.0 ∷ rest.begins.rest;
      parted = rest.begins.parted ∙ ap (λ (ones : List SealedChange). ones ++ rest.begins.rest) more_one.1 ∙ append_assoc (abstract_state_of start old).sealed (more_one.0 ∷ []) rest.begins.rest;
    }
  ];
}

none_further : (start : AbstractState) (lines : List (Option Mark)) → SealsHaveGoneOn start lines lines
none_further start lines = record { no_fewer = omega arith; marks = λ place mark at. at; before = λ place within. refl; begins = record { rest = []; parted = sym (append-nil (abstract_state_of start lines).sealed) } }

goes_seals : (openings : ℕ → TenantStart) (state next : State) (event : WorldEvent) (tenant : ℕ) (store : Store) → SimulatesStep openings state next event tenant store
    → SealsGoOn (start_of openings state tenant) (state.tenant_states tenant).lines (next.tenant_states tenant).lines
goes_seals openings state next event tenant store on =
    subst (SealsGoOn (start_of openings state tenant) (state.tenant_states tenant).lines) (sym on.lines)
    (said_seals (start_of openings state tenant) (state.tenant_states tenant).lines on.says store on.after on.may on.goes)

module _ (runs_are_simulated : RunsAreSimulated) where
  pub replies_have_places : RepliesHavePlaces
  replies_have_places config openings events state worker actor reply played sits stands =
      let sound = (runs_are_sound config openings events state played).0 in
      let by = runs_are_simulated config openings events state actor.tenant played (sound.counts.worker_states worker actor sits).tenant in
      let row : WorkerRefines (is_live state.cells) (changes_of_tenant state.history actor.tenant) (request by.store) (state.worker_states worker).request (state.worker_states worker).retiring actor.job (due actor.point) (lowers actor.point) (own_of actor.point) =
      row_of (is_live state.cells) (changes_of_tenant state.history actor.tenant) (told_of state.history) state.worker_states actor.tenant (request by.store) by.simulated.refines.asks worker actor sits refl in
      due_place (start_of openings state actor.tenant) (state.tenant_states actor.tenant).lines by.store (state.worker_states worker).request actor.job reply by.simulated.history_match
      (subst (IsDue (request by.store) (state.worker_states worker).request actor.job) (replied_due actor.point reply stands) row.is_due)

  pub seals_fit : SealsFit
  seals_fit config openings events state tenant played low =
      let by = runs_are_simulated config openings events state tenant played low in
      (by.simulated.history_match.fit, by.simulated.history_match.words ∙ sym by.simulated.refines.holds.words)

  pub asks_stand_once : AsksStandOnce
  asks_stand_once config openings events state tenant played low =
      let by = runs_are_simulated config openings events state tenant played low in
      subst (AreSinceStart (state.tenant_states tenant).lines) (sym by.simulated.refines.holds.next) by.simulated.history_match.since

  module _ (events_are_simulated : EventsAreSimulated) where
    pub seals_stay : SealsStay
    seals_stay config openings events state next event tenant played low no_start is =
        let by = runs_are_simulated config openings events state tenant played low in
        let on = events_are_simulated config openings events state next event tenant by.store played low by.simulated no_start is in
        (on.closed, goes_seals openings state next event tenant by.store on)

    go_on : (config : Config) (openings : ℕ → TenantStart) (before later : List WorldEvent) (state last : State) (tenant : ℕ) (store : Store) → IsExecution config openings before state → tenant < tenants_of config
        → IsSimulatedBy openings state tenant store → AreNoStarts later → run config state later ≡ Some last
        → ((last.tenant_states tenant).closed ≡ (state.tenant_states tenant).closed) × SealsHaveGoneOn (start_of openings state tenant) (state.tenant_states tenant).lines (last.tenant_states tenant).lines
    go_on config openings before [] state last tenant store played low simulated none is =
        subst (λ (end : State). ((end.tenant_states tenant).closed ≡ (state.tenant_states tenant).closed) × SealsHaveGoneOn (start_of openings state tenant) (state.tenant_states tenant).lines (end.tenant_states tenant).lines)
        (some_same state last is) (refl, none_further (start_of openings state tenant) (state.tenant_states tenant).lines)
    go_on config openings before (event ∷ later) state last tenant store played low simulated none is =
        option_and_then_some (λ next. run config next later) (step config state event) last is (λ next stepped came.
        let on = events_are_simulated config openings before state next event tenant store played low simulated none.0 stepped in
        let on_played : IsExecution config openings (before ++ event ∷ []) next =
        record { made = played.made; starts = played.starts; runs = run_last config (world_at config openings) state next before event played.runs stepped } in
        let rest = go_on config openings (before ++ event ∷ []) later next last tenant on.after on_played low on.simulated none.1 came in
        let same_start : start_of openings next tenant ≡ start_of openings state tenant = ap (λ (marks : List Mark). after_marks (first_abstract_state (openings tenant).words) marks) on.closed in (
          rest.0 ∙ on.closed,
          goes_further (start_of openings state tenant) (state.tenant_states tenant).lines (next.tenant_states tenant).lines (last.tenant_states tenant).lines (goes_seals openings state next event tenant store on)
              (subst (λ (start : AbstractState). SealsHaveGoneOn start (next.tenant_states tenant).lines (last.tenant_states tenant).lines) same_start rest.1),
        ))

    pub seals_stay_long : SealsStayLong
    seals_stay_long config openings events later state last tenant played low none is =
        let by = runs_are_simulated config openings events state tenant played low in
        go_on config openings events later state last tenant by.store played low by.simulated none is
