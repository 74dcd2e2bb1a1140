-- Each reply was true at a moment of its call: when as many changes are sealed as before the request's mark. Of BUSY and
-- FAULT see CauseMoments.
-- Used by: replies_have_moments.
use Rattle.std.specs.Prelude.{ℕ, zero, suc, ◌≡◌, ◌<◌, ◌≤◌, ◌⊎◌, ◌+◌, ◌==◌, ◌++◌, if◌then◌else◌, Bool, true, false, List, [], ◌∷◌, length, slice_get, Option, Some, None}
use Rattle.std.proofs.Common.{refl, sym, ap, subst, ◌∙◌, inl, inr, arith, append_assoc, append-nil, length-append}
use Rattle.std.proofs.Math.ListN.{take}
use Rattle.std.proofs.lemmas.Bool.{cases_order}
use Rattle.std.proofs.lemmas.Bool.Decides.{nat_tests}
use Rattle.std.proofs.lemmas.List.{append_cancel_left, take-append-le, take_all}
use Rattle.std.specs.Option.{option_and_then, option_map}
use Rattle.std.proofs.lemmas.Option.{same_Some, none-some, option_and_then_some}
use Rattle.mw_words.specs.declared.jobs.Entry.{Entry}
use Rattle.mw_words.specs.declared.jobs.Job.{Job}
use Rattle.mw_words.specs.declared.replies.Reply.{Reply}
use Rattle.mw_words.specs.declared.replies.Reply.TheVariants.{Val, Yes as SaysYes, No as SaysNo, Busy as SaysBusy, Fault as SaysFault, Worn as SaysWorn}
use Rattle.mw_words.specs.Change.{fits, put, word_at}
use Rattle.mw_lone.specs.declared.marks.Mark.{Mark}
use Rattle.mw_lone.specs.declared.marks.Mark.TheVariants.{Ask}
use Rattle.mw_lone.specs.Store.{entries_of}
use Rattle.mw_actor.specs.ActorState.{ActorState, first}
use Rattle.mw_actor.specs.Program.{replied}
use Rattle.mw_world.specs.declared.config.Config.{Config}
use Rattle.mw_world.specs.Claim.Headline.{IsExecution}
use Rattle.mw_world.specs.Definition.Events.{WorldEvent, Come, Step, File, Hand, Restart}
use Rattle.mw_world.specs.Definition.LabelEffects.{more}
use Rattle.mw_world.specs.Definition.Requests.{came}
use Rattle.mw_world.specs.Definition.State.{State, TenantState, TenantStart, tenants_of, world_at}
use Rattle.mw_world.specs.Definition.World.{asked, outgoing, reply_for, run, step}
use Rattle.mw_law_runs.proofs.Knowledge.Updates.Preservation.{upd_here}
use Rattle.mw_law_runs.proofs.RunsAreSound.{runs_are_sound}
use Rattle.mw_law_store.proofs.Beginnings.{run_last}
use Rattle.mw_law_store.proofs.AbstractStateLaws.{abstract_state_more, got_within}
use Rattle.mw_law_store.proofs.Histories as histories
use Rattle.mw_law_store.proofs.MarksOfEvents.{come_comes}
use Rattle.mw_law_store.proofs.ReplyPlaceLaws.{asks_tell_their_jobs, requests_begin, sealed_go_on}
use Rattle.mw_law_store.proofs.RunSimulation.{events_are_simulated, every_run_is_durably_linearizable, runs_are_simulated}
use Rattle.mw_law_store.proofs.Sealed.{sealed_come_in_order, words_are_of_sealed}
use Rattle.mw_law_store.proofs.SealedLists.{fewer_before}
use Rattle.mw_law_store.specs.AbstractStates.{AbstractState, SealedChange, HasPlace, IsAskedBefore, SealsAt, after_marks, abstract_state_at, abstract_state_of, first_abstract_state}
use Rattle.mw_law_store.specs.History.{AreNoStarts, AsksStandOnce, HasNoStart, IsBeginning, RepliesHavePlaces, SealsFit, SealsHaveGoneOn, SealsStayLong, put_sealed}
use Rattle.mw_law_store.specs.ReplyPlaces.{HasBegun, sealed_of}
use Rattle.mw_law_store.specs.Simulation.{start_of}
use Rattle.mw_law_threads.proofs.Moments.CauseMoments.{HasCause, has_cause}
use Rattle.mw_law_threads.specs.Moments.Moments.{HasMoment, IsDuring, RepliesHaveMoments, SharedWordsAreTheFiles, words_then}

-- Runs.

run_first : (config : Config) (state next last : State) (event : WorldEvent) (events : List WorldEvent) → step config state event ≡ Some next → run config next events ≡ Some last
    → run config state (event ∷ events) ≡ Some last
run_first config state next last event events is runs = ap (option_and_then (λ one. run config one events)) is ∙ runs

run_on : (config : Config) (state middle last : State) (events later : List WorldEvent) → run config state events ≡ Some middle → run config middle later ≡ Some last → run config state (events ++ later) ≡ Some last
run_on config state middle last [] later runs goes = ap (λ (one : State). run config one later) (same_Some state middle runs) ∙ goes
run_on config state middle last (event ∷ events) later runs goes =
    option_and_then_some (λ one. run config one events) (step config state event) middle runs (λ next at on.
    run_first config state next last event (events ++ later) at (run_on config next middle last events later on goes))

plays_on : (config : Config) (openings : ℕ → TenantStart) (events later : List WorldEvent) (state last : State) → IsExecution config openings events state → run config state later ≡ Some last
    → IsExecution config openings (events ++ later) last
plays_on config openings events later state last played goes =
    record { made = played.made; starts = played.starts; runs = run_on config (world_at config openings) state last events later played.runs goes }

none_after : (first rest : List WorldEvent) → AreNoStarts (first ++ rest) → AreNoStarts rest
none_after [] rest none = none
none_after (event ∷ first) rest none = none_after first rest none.1

-- Sealed changes.

put_sealed_more : (words : List ℕ) (first rest : List SealedChange) → put_sealed words (first ++ rest) ≡ put_sealed (put_sealed words first) rest
put_sealed_more words [] rest = refl
put_sealed_more words (one ∷ first) rest = put_sealed_more (put words one.entries) first rest

taken_first : {A : Type 0} (first rest : List A) → take (length first) (first ++ rest) ≡ first
taken_first first rest = take-append-le (length first) first rest (omega arith) ∙ take_all (length first) first (omega arith)

-- two prefixes of one list that are as long are the same
same_beginning : (one other all : List SealedChange) → IsBeginning one all → IsBeginning other all → length one ≡ length other → one ≡ other
same_beginning one other all begins its long =
    sym (ap (take (length one)) begins.parted ∙ taken_first one begins.rest) ∙ ap (λ (many : ℕ). take many all) long ∙ ap (take (length other)) its.parted ∙ taken_first other its.rest

got_taken : {A : Type 0} (xs : List A) (many place : ℕ) (one : A) → slice_get (take many xs) place ≡ Some one → slice_get xs place ≡ Some one
got_taken [] zero place one is = is
got_taken [] (suc many) place one is = is
got_taken (x ∷ xs) zero place one is = absurd (none-some one is)
got_taken (x ∷ xs) (suc many) zero one is = is
got_taken (x ∷ xs) (suc many) (suc place) one is = got_taken xs many place one is

no_start_taken : (lines : List (Option Mark)) (many : ℕ) → HasNoStart lines → HasNoStart (take many lines)
no_start_taken lines many none place interrupted found opened quota at = none place interrupted found opened quota (got_taken lines many place _ at)

-- of two histories since one start, if one seals what the other does and more, its words are the other's with the rest put over them
words_grow : (start : AbstractState) (lines others : List (Option Mark)) (more : List SealedChange) → HasNoStart lines → HasNoStart others
    → (abstract_state_of start others).sealed ≡ (abstract_state_of start lines).sealed ++ more → (abstract_state_of start others).words ≡ put_sealed (abstract_state_of start lines).words more
words_grow start lines others more none without grown =
    let one = words_are_of_sealed start lines none in
    let other = words_are_of_sealed start others without in
    let since : other.0 ≡ one.0 ++ more =
    append_cancel_left start.sealed other.0 (one.0 ++ more) (sym other.1 ∙ grown ∙ ap (λ (ones : List SealedChange). ones ++ more) one.1 ∙ append_assoc start.sealed one.0 more) in
    other.2 ∙ ap (put_sealed start.words) since ∙ put_sealed_more start.words one.0 more ∙ ap (λ (words : List ℕ). put_sealed words more) (sym one.2)

-- The laws of each history that are used, without their premises.

asks_stand_once : AsksStandOnce
asks_stand_once = histories.asks_stand_once runs_are_simulated

seals_fit : SealsFit
seals_fit = histories.seals_fit runs_are_simulated

replies_have_places : RepliesHavePlaces
replies_have_places = histories.replies_have_places runs_are_simulated

seals_stay_long : SealsStayLong
seals_stay_long = histories.seals_stay_long runs_are_simulated events_are_simulated

-- a request that comes seals nothing
come_seals_nothing : (config : Config) (openings : ℕ → TenantStart) (state next : State) (worker tenant : ℕ) (job : Job) → step config state (Come worker tenant job) ≡ Some next
    → length (sealed_of openings next tenant) ≡ length (sealed_of openings state tenant)
come_seals_nothing config openings state next worker tenant job is =
    come_comes (λ (one : State). length (sealed_of openings one tenant) ≡ length (sealed_of openings state tenant)) config state next worker tenant job (λ may. here) is
  where
    now : State
    now = came config state worker tenant job

    lines : (now.tenant_states tenant).lines ≡ more (state.tenant_states tenant).lines (Some (Ask (state.tenant_states tenant).asked job))
    lines = ap (λ (one : TenantState). one.lines) (upd_here state.tenant_states tenant (asked (state.tenant_states tenant) job))

    closed : (now.tenant_states tenant).closed ≡ (state.tenant_states tenant).closed
    closed = ap (λ (one : TenantState). one.closed) (upd_here state.tenant_states tenant (asked (state.tenant_states tenant) job))

    here : length (sealed_of openings now tenant) ≡ length (sealed_of openings state tenant)
    here =
        ap (λ (marks : List Mark). length (abstract_state_of (after_marks (first_abstract_state (openings tenant).words) marks) (now.tenant_states tenant).lines).sealed) closed
        ∙ ap (λ (all : List (Option Mark)). length (abstract_state_of (start_of openings state tenant) all).sealed) lines
        ∙ ap (λ (at : AbstractState). length at.sealed) (abstract_state_more (start_of openings state tenant) (state.tenant_states tenant).lines (Some (Ask (state.tenant_states tenant).asked job)))

-- The number of sealed changes grows one by one.

module _ (config : Config) (openings : ℕ → TenantStart) (tenant : ℕ) (low : tenant < tenants_of config) where
  abbrev count : State → ℕ
  count state = length (sealed_of openings state tenant)

  -- the event of a run that seals the change with this index
  record Crosses (between last : State) (later : List WorldEvent) (index : ℕ) : Type 0 where
    moment : State
    next : State
    event : WorldEvent
    first : List WorldEvent
    rest : List WorldEvent
    parted : later ≡ first ++ event ∷ rest
    reached : run config between first ≡ Some moment
    makes : step config moment event ≡ Some next
    goes : run config next rest ≡ Some last
    before : count moment ≡ index
    after : count next ≡ index + 1

  cross_later : (between next last : State) (event : WorldEvent) (later : List WorldEvent) (index : ℕ) → step config between event ≡ Some next → Crosses next last later index → Crosses between last (event ∷ later) index
  cross_later between next last event later index is there = record {
    moment = there.moment;
    next = there.next;
    event = there.event;
    first = event ∷ there.first;
    rest = there.rest;
    parted = ap (λ (events : List WorldEvent). event ∷ events) there.parted;
    reached = run_first config between next there.moment event there.first is there.reached;
    makes = there.makes;
    goes = there.goes;
    before = there.before;
    after = there.after;
  }

  -- the first event of a run seals nothing or one change; if not the one with this index, it comes later
  cross_first : (between next last : State) (event : WorldEvent) (later : List WorldEvent) (index : ℕ) → step config between event ≡ Some next → run config next later ≡ Some last → count between ≤ index
      → (count next ≤ index → Crosses next last later index)
      → (sealed_of openings next tenant ≡ sealed_of openings between tenant) ⊎ ((one : SealedChange) × (sealed_of openings next tenant ≡ sealed_of openings between tenant ++ one ∷ []))
      → Crosses between last (event ∷ later) index
  cross_first between next last event later index is on few rest (inl same) =
      let as_many : count next ≡ count between = ap length same in cross_later between next last event later index is (rest (omega (arith, as_many, few)))
  cross_first between next last event later index is on few rest (inr more) =
      let longer : count next ≡ count between + 1 = ap length more.1 ∙ length-append (sealed_of openings between tenant) (more.0 ∷ []) in
      elim (cases_order (count between) index) [
        | inl here ↦ record {
          moment = between;
          next = next;
          event = event;
          first = [];
          rest = later;
          parted = refl;
          reached = refl;
          makes = is;
          goes = on;
          before = here;
          after = (omega (arith, longer, here));
        }
        | inr other ↦ elim other [
          | inl less ↦ cross_later between next last event later index is (rest (omega (arith, longer, less)))
          | inr more_than ↦ absurd (omega (arith, more_than, few))
        ]
      ]

  crosses : (events later : List WorldEvent) (between last : State) (index : ℕ) → IsExecution config openings events between → AreNoStarts later → run config between later ≡ Some last
      → count between ≤ index → index < count last → Crosses between last later index
  crosses events [] between last index played none goes few many =
      let same : count between ≡ count last = ap count (same_Some between last goes) in absurd (omega (arith, same, few, many))
  crosses events (event ∷ later) between last index played none goes few many =
      option_and_then_some (λ one. run config one later) (step config between event) last goes (λ next is on.
      cross_first between next last event later index is on few
      (λ few_still. crosses (events ++ event ∷ []) later next last index
      (record { made = played.made; starts = played.starts; runs = run_last config (world_at config openings) between next events event played.runs is }) none.1 on few_still many)
      (sealed_go_on config openings events between next event tenant played low none.0 is).1)

  -- a moment of a run at which so many are sealed
  record Reaches (between last : State) (later : List WorldEvent) (index : ℕ) : Type 0 where
    moment : State
    first : List WorldEvent
    rest : List WorldEvent
    parted : later ≡ first ++ rest
    reached : run config between first ≡ Some moment
    goes : run config moment rest ≡ Some last
    so : count moment ≡ index

  reaches : (events later : List WorldEvent) (between last : State) (index : ℕ) → IsExecution config openings events between → AreNoStarts later → run config between later ≡ Some last
      → count between ≤ index → index ≤ count last → Reaches between last later index
  reaches events later between last index played none goes few many = elim (cases_order index (count last)) [
    | inl here ↦ record { moment = last; first = later; rest = []; parted = sym (append-nil later); reached = goes; goes = refl; so = sym here }
    | inr other ↦ elim other [
      | inl less ↦ of_crossing (crosses events later between last index played none goes few less)
      | inr more_than ↦ absurd (omega (arith, more_than, many))
    ]
  ]
    where
      of_crossing : Crosses between last later index → Reaches between last later index
      of_crossing at = record {
        moment = at.moment;
        first = at.first;
        rest = at.event ∷ at.rest;
        parted = at.parted;
        reached = at.reached;
        goes = run_first config at.moment at.next last at.event at.rest at.makes at.goes;
        so = at.before;
      }

  -- From a moment on, to the end of the run: the start stays, and what was sealed then is a prefix of what is sealed at the end.
  record Goes (moment last : State) : Type 0 where
    start : start_of openings moment tenant ≡ start_of openings last tenant
    begins : IsBeginning (sealed_of openings moment tenant) (sealed_of openings last tenant)
    none : HasNoStart (moment.tenant_states tenant).lines
    words : (abstract_state_of (start_of openings last tenant) (moment.tenant_states tenant).lines).words ≡ words_then moment tenant
    sealed : (abstract_state_of (start_of openings last tenant) (moment.tenant_states tenant).lines).sealed ≡ sealed_of openings moment tenant

  goes_on : (events rest : List WorldEvent) (moment last : State) → IsExecution config openings events moment → AreNoStarts rest → run config moment rest ≡ Some last → Goes moment last
  goes_on events rest moment last played none goes =
      let on = seals_stay_long config openings events rest moment last tenant played low none goes in
      let same : start_of openings last tenant ≡ start_of openings moment tenant = ap (after_marks (first_abstract_state (openings tenant).words)) on.0 in
      record {
        start = sym same;
        begins = record { rest = on.1.begins.rest; parted = ap (λ (at : AbstractState). (abstract_state_of at (last.tenant_states tenant).lines).sealed) same ∙ on.1.begins.parted };
        none = (asks_stand_once config openings events moment tenant played low).no_start;
        words = ap (λ (at : AbstractState). (abstract_state_of at (moment.tenant_states tenant).lines).words) same ∙ (seals_fit config openings events moment tenant played low).1;
        sealed = ap (λ (at : AbstractState). (abstract_state_of at (moment.tenant_states tenant).lines).sealed) same;
      }

  -- A call: a request comes, and events follow that are no starts.
  module _ (events later : List WorldEvent) (between last : State) (played : IsExecution config openings events between) (none : AreNoStarts later) (goes : run config between later ≡ Some last) where
    abbrev start : AbstractState
    start = start_of openings last tenant

    abbrev lines : List (Option Mark)
    lines = (last.tenant_states tenant).lines

    played_last : IsExecution config openings (events ++ later) last
    played_last = plays_on config openings events later between last played goes

    none_among : HasNoStart lines
    none_among = (asks_stand_once config openings (events ++ later) last tenant played_last low).no_start

    begins_at : (line : ℕ) → IsBeginning (abstract_state_at start lines line).sealed (sealed_of openings last tenant)
    begins_at line = (sealed_come_in_order start lines none_among).0 line

    no_more : (line : ℕ) → length (abstract_state_at start lines line).sealed ≤ count last
    no_more line = let begins = begins_at line in let long = ap length begins.parted ∙ length-append (abstract_state_at start lines line).sealed begins.rest in omega (arith, long)

    goes_from : (moment : State) (first rest : List WorldEvent) → later ≡ first ++ rest → run config between first ≡ Some moment → run config moment rest ≡ Some last → Goes moment last
    goes_from moment first rest parted reached on =
        goes_on (events ++ first) rest moment last (plays_on config openings events first between moment played reached) (none_after first rest (subst AreNoStarts parted none)) on

    -- A moment of the call at which the same changes are sealed as before a line. The words are the same too.
    record Matches (line : ℕ) : Type 0 where
      moment : State
      during : IsDuring config between later moment
      sealed : (abstract_state_at start lines line).sealed ≡ sealed_of openings moment tenant
      words : words_then moment tenant ≡ (abstract_state_at start lines line).words

    same_words : (line : ℕ) (moment : State) → Goes moment last → (abstract_state_at start lines line).sealed ≡ sealed_of openings moment tenant → words_then moment tenant ≡ (abstract_state_at start lines line).words
    same_words line moment on same =
        sym on.words ∙ words_grow start (take line lines) (moment.tenant_states tenant).lines [] (no_start_taken lines line none_among) on.none
        (on.sealed ∙ sym same ∙ sym (append-nil (abstract_state_at start lines line).sealed))

    matches : (line : ℕ) → count between ≤ length (abstract_state_at start lines line).sealed → Matches line
    matches line few =
        let at = reaches events later between last (length (abstract_state_at start lines line).sealed) played none goes few (no_more line) in
        let on = goes_from at.moment at.first at.rest at.parted at.reached at.goes in
        let same = same_beginning (abstract_state_at start lines line).sealed (sealed_of openings at.moment tenant) (sealed_of openings last tenant) (begins_at line) on.begins (sym at.so) in
        record {
          moment = at.moment;
          during = record { first = at.first; rest = at.rest; parted = at.parted; reached = at.reached };
          sealed = same;
          words = same_words line at.moment on same;
        }

    -- The request, whose line is before that of its mark.
    module _ (n : ℕ) (job : Job) (ask : ℕ) (came : slice_get lines ask ≡ Some (Some (Ask n job))) (few : count between ≤ length (abstract_state_at start lines ask).sealed) where
      abbrev At : Reply → Type 0
      At reply = HasMoment config openings between later last tenant n job reply

      since : (line : ℕ) → IsAskedBefore lines line n → count between ≤ length (abstract_state_at start lines line).sealed
      since line asked_before =
          let same = (asks_stand_once config openings (events ++ later) last tenant played_last low).ask_once asked_before.ask ask n asked_before.job job asked_before.is_asked came in
          let before = asked_before.before in
          let grown = fewer_before start lines none_among ask line (omega (arith, same, before)) in
          omega (arith, few, grown)

      -- the event by which the change was made
      changed : SealsAt start lines n (entries_of job) → At SaysYes
      changed seal =
          let before = (abstract_state_at start lines seal.place).sealed in
          let one : SealedChange = record { request = n; entries = (abstract_state_at start lines seal.place).entries n } in
          let with_it = (sealed_come_in_order start lines none_among).1 seal.place n seal.is in
          let long = length-append before (one ∷ []) in
          let no_fewer = ap length with_it.parted ∙ length-append (before ++ one ∷ []) with_it.rest in
          let at = crosses events later between last (length before) played none goes (since seal.place seal.asked) (omega (arith, long, no_fewer)) in
          let on = goes_from at.moment at.first (at.event ∷ at.rest) at.parted at.reached (run_first config at.moment at.next last at.event at.rest at.makes at.goes) in
          let then_on = goes_from at.next (at.first ++ at.event ∷ []) at.rest (at.parted ∙ sym (append_assoc at.first (at.event ∷ []) at.rest))
          (run_on config between at.moment at.next at.first (at.event ∷ []) at.reached (run_first config at.moment at.next at.next at.event [] at.makes refl)) at.goes in
          let same = same_beginning before (sealed_of openings at.moment tenant) (sealed_of openings last tenant) (begins_at seal.place) on.begins (sym at.before) in
          let and_it = same_beginning (sealed_of openings at.next tenant) (before ++ one ∷ []) (sealed_of openings last tenant) then_on.begins with_it (at.after ∙ sym long) in
          let were = same_words seal.place at.moment on same in
          record {
            moment = at.moment;
            next = at.next;
            event = at.event;
            first = at.first;
            rest = at.rest;
            parted = at.parted;
            reached = at.reached;
            makes = at.makes;
            line = seal.place;
            stands = record { is = seal.is; asked = seal.asked; sealed = same };
            seals = and_it ∙ ap (λ (ones : List SealedChange). ones ++ one ∷ []) same
                ∙ ap (λ (entries : List Entry). sealed_of openings at.moment tenant ++ record { request = n; entries = entries } ∷ []) seal.its_entries;
            expected = ap (λ (words : List ℕ). fits words (entries_of job)) were ∙ ap (fits (abstract_state_at start lines seal.place).words) (sym seal.its_entries)
                ∙ (seals_fit config openings (events ++ later) last tenant played_last low).0 seal.place n seal.is;
            made = sym then_on.words ∙ words_grow start (take seal.place lines) (at.next.tenant_states tenant).lines (one ∷ []) (no_start_taken lines seal.place none_among) then_on.none (then_on.sealed ∙ and_it)
                ∙ ap (λ (words : List ℕ). put words one.entries) (sym were) ∙ ap (put (words_then at.moment tenant)) seal.its_entries;
          }

      has_moment : (reply : Reply) → HasPlace start lines n job reply → HasCause config between later tenant reply → At reply
      has_moment (Val value) look caused =
          let then_so = matches look.place (since look.place look.could.asked) in
          record {
            moment = then_so.moment;
            during = then_so.during;
            line = look.place;
            stands = record { is = look.is; asked = look.could.asked; sealed = then_so.sealed };
            address = look.could.address;
            reads = look.could.reads;
            says = ap (λ (words : List ℕ). word_at words look.could.address) then_so.words ∙ look.could.says;
          }
      has_moment (SaysNo address value) miss caused =
          let then_so = matches miss.place (since miss.place miss.could.asked) in
          record {
            moment = then_so.moment;
            during = then_so.during;
            line = miss.place;
            index = miss.index;
            stands = record { is = miss.is; asked = miss.could.asked; sealed = then_so.sealed };
            entry = miss.could.entry;
            is_entry = miss.could.is_entry;
            same_address = miss.could.same_address;
            says = ap (λ (words : List ℕ). word_at words address) then_so.words ∙ miss.could.says;
            differs = miss.could.differs;
          }
      has_moment SaysYes seal caused = changed seal
      has_moment SaysBusy at caused = caused
      has_moment SaysFault at caused = caused
      has_moment SaysWorn at caused = tt

-- The same by the worker that has the reply.
of_worker : (config : Config) (openings : ℕ → TenantStart) (events later : List WorldEvent) (state between last : State) (worker tenant by : ℕ) (job : Job) (actor : ActorState) (reply : Reply)
    → IsExecution config openings events state → step config state (Come worker tenant job) ≡ Some between → AreNoStarts later → run config between later ≡ Some last
    → (last.worker_states by).actor ≡ Some actor → actor.tenant ≡ tenant → (last.worker_states by).request ≡ (between.worker_states worker).request → replied actor ≡ Some reply
    → HasMoment config openings between later last tenant (last.worker_states by).request job reply
of_worker config openings events later state between last worker tenant by job actor reply played comes none goes sits of_it same_number stands =
    has_moment config openings tenant low call later between last played_between none goes number job new.ask at (omega (arith, as_many)) reply place
    (has_cause config openings events later state between last worker tenant by job actor reply played comes none goes sits of_it same_number stands)
  where
    call : List WorldEvent
    call = events ++ Come worker tenant job ∷ []

    number : ℕ
    number = (last.worker_states by).request

    played_between : IsExecution config openings call between
    played_between = record { made = played.made; starts = played.starts; runs = run_last config (world_at config openings) state between events (Come worker tenant job) played.runs comes }

    played_end : IsExecution config openings (call ++ later) last
    played_end = plays_on config openings call later between last played_between goes

    low : tenant < tenants_of config
    low = subst (λ (n : ℕ). n < tenants_of config) of_it ((runs_are_sound config openings (call ++ later) last played_end).0.counts.worker_states by actor sits).tenant

    new : HasBegun openings between worker (first worker tenant (state.tenant_states tenant).quota config.pool job) (length (sealed_of openings state tenant))
    new = requests_begin config openings state between worker tenant job comes

    on : ((last.tenant_states tenant).closed ≡ (between.tenant_states tenant).closed) × SealsHaveGoneOn (start_of openings between tenant) (between.tenant_states tenant).lines (last.tenant_states tenant).lines
    on = seals_stay_long config openings call later between last tenant played_between low none goes

    at : slice_get (last.tenant_states tenant).lines new.ask ≡ Some (Some (Ask number job))
    at = on.1.marks new.ask _ new.came ∙ ap (λ (n : ℕ). Some (Some (Ask n job))) (sym same_number)

    within : new.ask ≤ length (between.tenant_states tenant).lines
    within = let lower = got_within (between.tenant_states tenant).lines (Some (Ask (between.worker_states worker).request job)) new.ask new.came in omega (arith, lower)

    as_many : length (sealed_of openings between tenant) ≡ length (abstract_state_at (start_of openings last tenant) (last.tenant_states tenant).lines new.ask).sealed
    as_many = come_seals_nothing config openings state between worker tenant job comes ∙ sym new.sealed ∙ sym (ap length (on.1.before new.ask within))
        ∙ ap (λ (start : AbstractState). length (abstract_state_at start (last.tenant_states tenant).lines new.ask).sealed) (sym (ap (after_marks (first_abstract_state (openings tenant).words)) on.0))

    its_job : job ≡ actor.job
    its_job = asks_tell_their_jobs config openings (call ++ later) last by (new.ask + 1) actor played_end sits
        (record { ask = new.ask; job = job; is_asked = ap (λ (n : ℕ). slice_get (last.tenant_states n).lines new.ask) of_it ∙ at; before = omega arith })

    place : HasPlace (start_of openings last tenant) (last.tenant_states tenant).lines number job reply
    place = subst (λ (one : Job). HasPlace (start_of openings last tenant) (last.tenant_states tenant).lines number one reply) (sym its_job)
        (subst (λ (n : ℕ). HasPlace (start_of openings last n) (last.tenant_states n).lines number actor.job reply) of_it
        (replies_have_places config openings (call ++ later) last by actor reply played_end sits stands))

-- An event that hands out a reply is of a worker that has it.
record HandsOut (last : State) (tenant : ℕ) (said : ℕ × Reply) : Type 0 where
  by : ℕ
  actor : ActorState
  sits : (last.worker_states by).actor ≡ Some actor
  of_it : actor.tenant ≡ tenant
  number : (last.worker_states by).request ≡ said.0
  stands : replied actor ≡ Some said.1

abbrev Numbered : Type 0
Numbered = ℕ × Reply

same_pair : (one other : Numbered) → Some one ≡ Some other → (one.0 ≡ other.0) × (one.1 ≡ other.1)
same_pair one other e = let same = same_Some one other e in (ap (λ (pair : Numbered). pair.0) same, ap (λ (pair : Numbered). pair.1) same)

-- the request's number with the reply
abbrev numbered : State → ℕ → Reply → Numbered
numbered last by reply = ((last.worker_states by).request, reply)

module _ (last : State) (tenant : ℕ) (said : Numbered) (by : ℕ) where
  by_reply : (actor : ActorState) → (last.worker_states by).actor ≡ Some actor → actor.tenant ≡ tenant → (found : Option Reply) → replied actor ≡ found
      → option_map (numbered last by) found ≡ Some said → HandsOut last tenant said
  by_reply actor sits of_it None is e = absurd (none-some said e)
  by_reply actor sits of_it (Some one) is e =
      let same = same_pair (numbered last by one) said e in
      record { by = by; actor = actor; sits = sits; of_it = of_it; number = same.0; stands = is ∙ ap Some same.1 }

  by_tenant : (actor : ActorState) → (last.worker_states by).actor ≡ Some actor → (own : Bool) → (actor.tenant == tenant) ≡ own
      → (if own then option_map (numbered last by) (replied actor) else None) ≡ Some said → HandsOut last tenant said
  by_tenant actor sits true own e = by_reply actor sits (grind (arith, nat_tests, own)) (replied actor) refl e
  by_tenant actor sits false own e = absurd (none-some said e)

  by_actor : (found : Option ActorState) → (last.worker_states by).actor ≡ found → reply_for last tenant by found ≡ Some said → HandsOut last tenant said
  by_actor None is e = absurd (none-some said e)
  by_actor (Some actor) is e = by_tenant actor is (actor.tenant == tenant) refl e

hands_out : (last : State) (tenant : ℕ) (said : Numbered) (event : WorldEvent) → outgoing last tenant event ≡ Some said → HandsOut last tenant said
hands_out last tenant said (Come worker other job) e = absurd (none-some said e)
hands_out last tenant said (Step worker) e = absurd (none-some said e)
hands_out last tenant said (File worker outcome) e = absurd (none-some said e)
hands_out last tenant said (Hand worker) e = by_actor last tenant said worker (last.worker_states worker).actor refl e
hands_out last tenant said (Restart founds) e = absurd (none-some said e)

pub replies_have_moments : RepliesHaveMoments
replies_have_moments config openings events later event state between last worker tenant job reply played comes none goes said =
    let hands = hands_out last tenant ((between.worker_states worker).request, reply) event said in
    subst (λ (n : ℕ). HasMoment config openings between later last tenant n job reply) hands.number
    (of_worker config openings events later state between last worker tenant hands.by job hands.actor reply played comes none goes hands.sits hands.of_it hands.number hands.stands)

pub shared_words_are_the_files : SharedWordsAreTheFiles
shared_words_are_the_files config openings events moment tenant address is_run low up within =
    let served = every_run_is_durably_linearizable config openings events moment tenant is_run low in
    (served.shown up).values address within ∙ ap (λ (words : List ℕ). word_at words address) (sym served.left.words)
