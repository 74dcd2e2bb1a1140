-- What a thread knows stays true over any list of events of another worker that has no start in it.
-- Used by: mw_table, mw_service, mw_law_threads.
use Rattle.std.specs.Prelude.{ℕ, ◌≡◌, ◌≢◌, ◌≤◌, ◌<◌, List, [], ◌∷◌, ◌++◌, length, Option, Some, None}
use Rattle.std.specs.Option.{option_and_then}
use Rattle.std.proofs.Common.{refl, sym, ap, subst, ◌∙◌, append_assoc, append-nil, ◌⊎◌, inl, inr, arith}
use Rattle.std.proofs.lemmas.Option.{same_Some, option_and_then_some}
use Rattle.mw_lone.specs.declared.marks.Mark.{Mark}
use Rattle.mw_lone.specs.declared.marks.Mark.TheVariants.{Ask}
use Rattle.mw_actor.specs.ActorState.{ActorState}
use Rattle.mw_world.specs.Maps.{upd}
use Rattle.mw_world.specs.declared.config.Config.{Config}
use Rattle.mw_world.specs.Claim.Headline.{IsExecution}
use Rattle.mw_world.specs.Definition.Events.{WorldEvent}
use Rattle.mw_world.specs.Definition.State.{State, TenantState, TenantStart, WorkerState, tenants_of, world_at}
use Rattle.mw_world.specs.Definition.World.{step, run}
use Rattle.mw_rule.proofs.FromLaws.{events_are_simulated, got_within, runs_are_simulated, runs_are_sound, same_or_other, seals_stay_long, upd_else, upd_here}
use Rattle.mw_rule.specs.FromLaws.{AreNoStarts, HasBegun, IsBeginning, AbstractState, SealedChange, SealsHaveGoneOn, after_marks, first_abstract_state, abstract_state_at, abstract_state_of, sealed_of, start_of}
use Rattle.mw_rule.specs.declared.views.Finished.{Finished}
use Rattle.mw_rule.specs.declared.views.WorkerToken.{WorkerToken}
use Rattle.mw_rule.specs.declared.views.View.{View}
use Rattle.mw_rule.specs.Rule.{Each, Fits, Holds, HoldsFile, IsOver, Past, worker_event_of, events_of_worker, times}
use Rattle.mw_rule.specs.Prefixes.{ArePrefixes, Gave, HasBegunFor, opening_at, seen_at}
use Rattle.mw_rule.proofs.Totals.{each_apart, each_on}

-- what a start gave a tenant stays, and numbers that were given to requests stay given
pub record KeepsGift (old new : TenantState) : Type 0 where
  pub quota : new.quota ≡ old.quota
  pub places : new.places ≡ old.places
  pub is_up : new.is_up ≡ old.is_up
  pub asked : old.asked ≤ new.asked

pub no_fewer : (n m : ℕ) → n ≡ m → n ≤ m
no_fewer n m same = omega (arith, same)

pub same_gift : (tenant_state : TenantState) → KeepsGift tenant_state tenant_state
same_gift tenant_state = record { quota = refl; places = refl; is_up = refl; asked = omega arith }

-- The worker's request was there before with this number, or its number is a new one.
abbrev pub WasOrIsNew : State → ℕ → ActorState → ℕ → Type 0
WasOrIsNew old worker after number =
    ((before : ActorState) × ((old.worker_states worker).actor ≡ Some before) × (before.tenant ≡ after.tenant) × ((old.worker_states worker).request ≡ number)) ⊎ ((old.tenant_states after.tenant).asked ≤ number)

-- The world after some events of one worker, none of which is a start.
pub record Leads (config : Config) (old : State) (worker : ℕ) (new : State) (more : List WorldEvent) : Type 0 where
  pub runs : run config old more ≡ Some new
  pub others : (other : ℕ) → other ≢ worker → new.worker_states other ≡ old.worker_states other
  pub quiet : (other : ℕ) → other ≢ worker → events_of_worker other more ≡ []
  pub no_starts : AreNoStarts more
  pub gifts : (tenant : ℕ) → KeepsGift (old.tenant_states tenant) (new.tenant_states tenant)
  pub own : (after : ActorState) → (new.worker_states worker).actor ≡ Some after → WasOrIsNew old worker after (new.worker_states worker).request

pub run_on : (config : Config) (old between new : State) (events more : List WorldEvent) → run config old events ≡ Some between → run config between more ≡ Some new
    → run config old (events ++ more) ≡ Some new
run_on config old between new [] more first rest = subst (λ state. run config state more ≡ Some new) (sym (same_Some old between first)) rest
run_on config old between new (event ∷ events) more first rest =
    option_and_then_some (λ one. run config one events) (step config old event) between first (λ next at on.
    ap (option_and_then (λ one. run config one (events ++ more))) at ∙ run_on config next between new events more on rest)

pub made_on : (worker : ℕ) (events more : List WorldEvent) → events_of_worker worker (events ++ more) ≡ events_of_worker worker events ++ events_of_worker worker more
made_on worker [] more = refl
made_on worker (event ∷ events) more =
    ap (λ rest. worker_event_of worker event ++ rest) (made_on worker events more) ∙ sym (append_assoc (worker_event_of worker event) (events_of_worker worker events) (events_of_worker worker more))

pub no_starts_on : (events more : List WorldEvent) → AreNoStarts events → AreNoStarts more → AreNoStarts (events ++ more)
no_starts_on [] more first rest = rest
no_starts_on (event ∷ events) more first rest = (first.0, no_starts_on events more first.1 rest)

pub stays_there : (config : Config) (state : State) (worker : ℕ) → Leads config state worker state []
stays_there config state worker = record { runs = refl; others = λ other apart. refl; quiet = λ other apart. refl; no_starts = tt; gifts = λ tenant. same_gift (state.tenant_states tenant); own = λ after sits. inl (after, sits, refl, refl) }

was_or_new : (old : State) (worker : ℕ) (before after : ActorState) (number now : ℕ) → before.tenant ≡ after.tenant → number ≡ now → WasOrIsNew old worker before number → WasOrIsNew old worker after now
was_or_new old worker before after number now its same (inl was) = inl (was.0, was.1, was.2 ∙ its, was.3 ∙ same)
was_or_new old worker before after number now its same (inr fresh) = inr (subst (λ n. (old.tenant_states after.tenant).asked ≤ n) same (subst (λ t. (old.tenant_states t).asked ≤ number) its fresh))

pub leads_on : (config : Config) (old between new : State) (worker : ℕ) (first more : List WorldEvent) → Leads config old worker between first → Leads config between worker new more
    → Leads config old worker new (first ++ more)
leads_on config old between new worker first more one two = record {
  runs = run_on config old between new first more one.runs two.runs;
  others = λ other apart. two.others other apart ∙ one.others other apart;
  quiet = λ other apart. made_on other first more ∙ ap (λ made. made ++ events_of_worker other more) (one.quiet other apart) ∙ two.quiet other apart;
  no_starts = no_starts_on first more one.no_starts two.no_starts;
  gifts = λ tenant. record { quota = (two.gifts tenant).quota ∙ (one.gifts tenant).quota; places = (two.gifts tenant).places ∙ (one.gifts tenant).places; is_up = (two.gifts tenant).is_up ∙ (one.gifts tenant).is_up; asked = (let more = (two.gifts tenant).asked in let some = (one.gifts tenant).asked in omega (arith, some, more)) };
  own = λ after sits. elim (two.own after sits) [
    | inl was ↦ was_or_new old worker was.0 after (between.worker_states worker).request (new.worker_states worker).request was.2 was.3 (one.own was.0 was.1)
    | inr fresh ↦ let some = (one.gifts after.tenant).asked in inr (omega (arith, some, fresh))
  ];
}

-- one tenant's state changes, and what the start gave it stays
pub one_gift : (tenant_states : ℕ → TenantState) (tenant : ℕ) (now : TenantState) → KeepsGift (tenant_states tenant) now → (other : ℕ) → KeepsGift (tenant_states other) (upd tenant_states tenant now other)
one_gift tenant_states tenant now keeps other = elim (same_or_other other tenant) [
  | inl same ↦ subst (λ k. KeepsGift (tenant_states k) (upd tenant_states tenant now k)) (sym same) (subst (KeepsGift (tenant_states tenant)) (sym (upd_here tenant_states tenant now)) keeps)
  | inr apart ↦ subst (KeepsGift (tenant_states other)) (sym (upd_else tenant_states tenant other now apart)) (same_gift (tenant_states other))
]

pub begins_on : (first between all : List SealedChange) → IsBeginning first between → IsBeginning between all → IsBeginning first all
begins_on first between all one two = record {
  rest = one.rest ++ two.rest;
  parted = two.parted ∙ ap (λ changes. changes ++ two.rest) one.parted ∙ append_assoc first one.rest two.rest;
}

pub begins_itself : (all : List SealedChange) → IsBeginning all all
begins_itself all = record { rest = []; parted = sym (append-nil all) }

-- A request that is over stays over.
pub over_on : (config : Config) (old new : State) (worker : ℕ) (more : List WorldEvent) → Leads config old worker new more → (one : Finished) → IsOver old one → IsOver new one
over_on config old new worker more leads one over = record {
  given = let some = (leads.gifts one.tenant).asked in let given = over.given in omega (arith, some, given);
  left = λ by actor sits its same. elim (same_or_other by worker) [
    | inl own ↦ by_own actor (sym (ap (λ (n : ℕ). (new.worker_states n).actor) own) ∙ sits) its (sym (ap (λ (n : ℕ). (new.worker_states n).request) own) ∙ same)
    | inr apart ↦
        let worker_state = leads.others by apart in
        over.left by actor (sym (ap (λ (s : WorkerState). s.actor) worker_state) ∙ sits) its (sym (ap (λ (s : WorkerState). s.request) worker_state) ∙ same)
  ];
}
  where
    by_own : (actor : ActorState) → (new.worker_states worker).actor ≡ Some actor → actor.tenant ≡ one.tenant → (new.worker_states worker).request ≡ one.request → ⊥
    by_own actor sits its same = elim (leads.own actor sits) [
      | inl was ↦ over.left worker was.0 was.1 (was.2 ∙ its) (was.3 ∙ same)
      | inr fresh ↦ let given = over.given in let here = ap (λ (t : ℕ). (old.tenant_states t).asked) its in absurd (omega (arith, fresh, given, here, same))
    ]

-- the tenant of a request is there
pub tenant_there : (config : Config) (openings : ℕ → TenantStart) (events : List WorldEvent) (state : State) → IsExecution config openings events state → (worker : ℕ) (actor : ActorState)
    → (state.worker_states worker).actor ≡ Some actor → actor.tenant < tenants_of config
tenant_there config openings events state played worker actor sits = ((runs_are_sound config openings events state played).0.counts.worker_states worker actor sits).tenant

-- What the further events of a run leave.
module _ (config : Config) (openings : ℕ → TenantStart) (before : List WorldEvent) (old : State) (played : IsExecution config openings before old)
    (worker : ℕ) (new : State) (more : List WorldEvent) (leads : Leads config old worker new more) where
  pub played_on : IsExecution config openings (before ++ more) new
  played_on = record { made = played.made; starts = played.starts; runs = run_on config (world_at config openings) old new before more played.runs leads.runs }

  module _ (tenant : ℕ) (low : tenant < tenants_of config) where
    gone : ((new.tenant_states tenant).closed ≡ (old.tenant_states tenant).closed) × SealsHaveGoneOn (start_of openings old tenant) (old.tenant_states tenant).lines (new.tenant_states tenant).lines
    gone = seals_stay_long runs_are_simulated events_are_simulated config openings before more old new tenant played low leads.no_starts leads.runs

    pub same_start : start_of openings new tenant ≡ start_of openings old tenant
    same_start = ap (λ (marks : List Mark). after_marks (first_abstract_state (openings tenant).words) marks) gone.0

    pub sealed_on : IsBeginning (sealed_of openings old tenant) (sealed_of openings new tenant)
    sealed_on = subst (λ (start : AbstractState). IsBeginning (sealed_of openings old tenant) (abstract_state_of start (new.tenant_states tenant).lines).sealed) (sym same_start) gone.1.begins

    pub gave_on : (opening : TenantStart) → Gave openings old tenant opening → Gave openings new tenant opening
    gave_on opening gave = record {
      quota = (leads.gifts tenant).quota ∙ gave.quota;
      places = (leads.gifts tenant).places ∙ gave.places;
      words = ap (λ (start : AbstractState). start.words) same_start ∙ gave.words;
      is_up = (leads.gifts tenant).is_up ∙ gave.is_up;
    }

  pub seen_on : (seen : List (List SealedChange)) → ArePrefixes (tenants_of config) seen (sealed_of openings old) → ArePrefixes (tenants_of config) seen (sealed_of openings new)
  seen_on seen first tenant low = begins_on (seen_at seen tenant) (sealed_of openings old tenant) (sealed_of openings new tenant) (first tenant low) (sealed_on tenant low)

  -- a request that its worker still has came when it came
  begun_on : (one : ℕ) (actor : ActorState) (begun : ℕ) → new.worker_states one ≡ old.worker_states one → HasBegun openings old one actor begun → HasBegun openings new one actor begun
  begun_on one actor begun same has =
      let low = tenant_there config openings before old played one actor has.sits in
      let on = (gone actor.tenant low).1 in
      let ask = Ask (old.worker_states one).request actor.job in
      let within = got_within (old.tenant_states actor.tenant).lines (Some ask) has.ask has.came in
      record {
        sits = ap (λ (worker_state : WorkerState). worker_state.actor) same ∙ has.sits;
        ask = has.ask;
        came = on.marks has.ask ask has.came ∙ ap (λ (worker_state : WorkerState). Some (Some (Ask worker_state.request actor.job))) (sym same);
        sealed = ap (λ (start : AbstractState). length (abstract_state_at start (new.tenant_states actor.tenant).lines has.ask).sealed) (same_start actor.tenant low)
            ∙ ap (λ (changes : List SealedChange). length changes) (on.before has.ask (omega (arith, within))) ∙ has.sealed;
      }

  begun_for_on : (one begun : ℕ) (actor : Option ActorState) → new.worker_states one ≡ old.worker_states one → HasBegunFor openings old one begun actor → HasBegunFor openings new one begun actor
  begun_for_on one begun None same has = tt
  begun_for_on one begun (Some actor) same has = record { sealed = has.sealed; no_fewer = has.no_fewer; came = begun_on one actor has.sealed same has.came }

  module _ (events : List WorldEvent) where
    others_hold : (token : WorkerToken) → token.worker ≢ worker → Holds config openings old events token → Holds config openings new (events ++ more) token
    others_hold token apart holds =
        let same = leads.others token.worker apart in
        record {
          there = holds.there;
          actor = ap (λ worker_state. worker_state.actor) same ∙ holds.actor;
          attempt = ap (λ worker_state. worker_state.attempt) same ∙ holds.attempt;
          request = ap (λ worker_state. worker_state.request) same ∙ holds.request;
          made = made_on token.worker events more ∙ ap (λ made. events_of_worker token.worker events ++ made) (leads.quiet token.worker apart) ∙ append-nil (events_of_worker token.worker events) ∙ holds.made;
          begun = begun_for_on token.worker token.begun token.actor same holds.begun;
          evidence = holds.evidence;
        }

    -- what a thread knows that has no token of the worker, and whose files were not called
    pub others_fit : (view : View) → times worker view.tokens ≡ 0 → Each (HoldsFile config new) view.files → Fits config openings old events view → Fits config openings new (events ++ more) view
    others_fit view none files fits = record {
      same_config = fits.same_config;
      gave = λ tenant low. gave_on tenant low (opening_at view.openings tenant) (fits.gave tenant low);
      token = each_apart (Holds config openings old events) (Holds config openings new (events ++ more)) worker view.tokens none others_hold fits.token;
      seen = seen_on view.seen fits.seen;
      told = seen_on view.told fits.told;
      right = fits.right;
      over = each_on (IsOver old) (IsOver new) (over_on config old new worker more leads) view.mine fits.over;
      files = files;
    }

abbrev pub past_on : (config : Config) (begun : (ℕ → TenantStart) → List WorldEvent → Type 0) (old new : State) (events more : List WorldEvent) (worker : ℕ) → Past config begun old events → Leads config old worker new more
    → Past config begun new (events ++ more)
past_on config begun old new events more worker past leads = record {
  openings = past.openings;
  before = past.before;
  began = past.began;
  played = subst (λ all. IsExecution config past.openings all new) (append_assoc past.before events more) (played_on config past.openings (past.before ++ events) old past.played worker new more leads);
  no_starts = no_starts_on events more past.no_starts leads.no_starts;
}
