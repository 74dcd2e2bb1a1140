-- Two runs that a thread knows as one hand out the same replies, whatever a start gave to tenants that are not there, and
-- whichever device call failed in a call on a file. Used by: AnswersInOneRunLaws.
use Rattle.std.specs.Prelude.{ℕ, zero, suc, ◌≡◌, ◌<◌, ◌≤◌, ◌==◌, ◌&&◌, ◌⊎◌, ◌++◌, if◌then◌else◌, cond, not, nat_lt, is_some, Bool, true, false, List, [], ◌∷◌, length, map, slice_get, slice_index_or, Option, Some, None}
use Rattle.std.specs.Option.{option_to_list}
use Rattle.std.proofs.Common.{refl, sym, ap, subst, ◌∙◌, inl, inr, arith, length-append}
use Rattle.std.proofs.lemmas.Bool.{cases_lt}
use Rattle.std.proofs.lemmas.Bool.Decides.{nat_tests}
use Rattle.std.proofs.lemmas.Option.{none-some, option_and_then_some, same_Some}
use Rattle.mw_words.specs.declared.jobs.Job.{Job}
use Rattle.mw_words.specs.declared.places.At.{At}
use Rattle.mw_words.specs.declared.places.At.TheVariants.{Door as AtDoor, Gate as AtGate, Row as AtRow, Data, Status as AtStatus, Count, Addr, Expected, New}
use Rattle.mw_words.specs.declared.replies.Reply.{Reply}
use Rattle.mw_words.specs.Change.{word_at}
use Rattle.mw_words.specs.declared.statuses.Status.{Status}
use Rattle.mw_words.specs.declared.words.Word.TheVariants.{Plain}
use Rattle.mw_lone.specs.declared.marks.Mark.TheVariants.{Reply as HandOut}
use Rattle.mw_look.specs.declared.observations.Observation.{Observation}
use Rattle.mw_look.specs.declared.observations.Observation.TheVariants.{Won, Lost}
use Rattle.mw_look.specs.declared.steps.Call.{Call}
use Rattle.mw_look.specs.declared.steps.Kind.{Kind}
use Rattle.mw_look.specs.declared.steps.Kind.TheVariants.{Fault as FaultKind}
use Rattle.mw_look.specs.declared.steps.Shape.{Shape}
use Rattle.mw_look.specs.declared.steps.Shape.TheVariants.{Exchange, Store, Fetch}
use Rattle.mw_look.specs.Observations.{seen}
use Rattle.mw_look.specs.Places.{Val, pack}
use Rattle.mw_look.specs.Shapes.{shape_of}
use Rattle.mw_look.specs.Steps.{Step as Asked, Load, Change, File as FileStep}
use Rattle.mw_actor.specs.ActorState.{ActorState, first as first_of, own_entries}
use Rattle.mw_actor.specs.Asks.{asks}
use Rattle.mw_actor.specs.Program.{replied, tells}
use Rattle.mw_world.specs.declared.outcomes.Outcome.{Outcome}
use Rattle.mw_world.specs.declared.outcomes.Outcome.TheVariants.{Good, Fail}
use Rattle.mw_world.specs.Files.State.{File}
use Rattle.mw_world.specs.Maps.{upd, upd_two}
use Rattle.mw_world.specs.declared.config.Config.{Config}
use Rattle.mw_world.specs.declared.config.Tenant.{Tenant}
use Rattle.mw_world.specs.Claim.Headline.{IsExecution}
use Rattle.mw_world.specs.Definition.Calls.{Called, breaks, call, call_if, called_at, calling, calls_made, can_be_made, ends, fails_on, is_made, moved_if, place_for, starts_from}
use Rattle.mw_world.specs.Definition.Cells.{Cells, read, write}
use Rattle.mw_world.specs.Definition.Changes.{changed, done, fetched}
use Rattle.mw_world.specs.Definition.Events.{WorldEvent, Come, Step, File as FileEvent, Hand, Restart}
use Rattle.mw_world.specs.Definition.Extent.{has_place, has_slot}
use Rattle.mw_world.specs.Definition.LabelEffects.{marked, more, with_intent, with_label, with_labels}
use Rattle.mw_world.specs.Definition.Requests.{came, gave}
use Rattle.mw_world.specs.Definition.State.{State, TenantStart, TenantState, no_tenant, tenant_at, tenant_state_at, tenants_of, world_at}
use Rattle.mw_world.specs.Definition.StepLabels.{label_of}
use Rattle.mw_world.specs.Definition.Turns.{Made, goes_on, made_of, may_make, moved, next_attempt, turn, turned}
use Rattle.mw_world.specs.Definition.World.{asked, begun, hand, handed, outgoing, replies_to, run, step}
use Rattle.mw_law_store.specs.History.{IsNoStart}
use Rattle.mw_law_store.proofs.Beginnings.{run_last}
use Rattle.mw_rule.specs.FromLaws.{AreNoStarts}
use Rattle.mw_rule.specs.KnownRuns.{given_to, plain}
use Rattle.mw_rule.proofs.Calls.EventsOfWorkers.{come_leads}
use Rattle.mw_rule.proofs.FromLaws.{runs_are_sound}
use Rattle.mw_law_threads.proofs.History.AnswerMomentLaws.{begins_it}
use Rattle.mw_law_threads.proofs.History.HandOuts.{replies_first}

-- Shared words that are the same for so many tenants.
pub record SameCells (many : ℕ) (one other : Cells) : Type 0 where
  pub doors : (t : ℕ) → t < many → one.doors t ≡ other.doors t
  pub words : (t : ℕ) → t < many → one.words t ≡ other.words t
  pub rest : other ≡ record one { doors = other.doors; words = other.words }

-- Worlds that are the same for so many tenants.
pub record SameWorlds (many : ℕ) (one other : State) : Type 0 where
  pub cells : SameCells many one.cells other.cells
  pub tenants : (t : ℕ) → t < many → one.tenant_states t ≡ other.tenant_states t
  pub workers : one.worker_states ≡ other.worker_states
  pub history : one.history ≡ other.history

-- only tenants that are there have words
no_words : (items : List Tenant) (k : ℕ) → length items ≤ k → slice_index_or items k no_tenant ≡ no_tenant
no_words [] k past = refl
no_words (one ∷ items) zero past = absurd (omega (arith, past))
no_words (one ∷ items) (suc k) past = no_words items k (omega (arith, past))

has_words : (config : Config) (tenant address : ℕ) → nat_lt address (tenant_at config tenant).words ≡ true → tenant < tenants_of config
has_words config tenant address there = elim (cases_lt tenant (tenants_of config)) [
  | inl low ↦ low
  | inr past ↦ absurd (let none = ap (λ (one : Tenant). nat_lt address one.words) (no_words config.tenants.items tenant past) in not_below address (sym none ∙ there))
]
  where
    not_below : (n : ℕ) → nat_lt n 0 ≡ true → ⊥
    not_below n is = grind (arith, nat_tests, is)

module _ (config : Config) (one other : Cells) (same : SameCells (tenants_of config) one other) where
  read_same : (at : At) → has_place config at ≡ true → read one at ≡ read other at
  read_same (AtDoor tenant) there = same.doors tenant (grind (arith, nat_tests, there))
  read_same (AtGate slot) there = ap (λ (cells : Cells). cells.gates slot) (sym same.rest)
  read_same (AtRow worker) there = ap (λ (cells : Cells). cells.rows worker) (sym same.rest)
  read_same (Data tenant address) there = ap (λ words. words address) (same.words tenant (has_words config tenant address there))
  read_same (AtStatus slot) there = ap (λ (cells : Cells). cells.statuses slot) (sym same.rest)
  read_same (Count slot) there = ap (λ (cells : Cells). cells.counts slot) (sym same.rest)
  read_same (Addr slot entry) there = ap (λ (cells : Cells). cells.addrs slot entry) (sym same.rest)
  read_same (Expected slot entry) there = ap (λ (cells : Cells). cells.expecteds slot entry) (sym same.rest)
  read_same (New slot entry) there = ap (λ (cells : Cells). cells.new_values slot entry) (sym same.rest)

  -- beside doors and words
  beside : (at : At) (x : Val at) → (write one at x).doors ≡ one.doors → (write one at x).words ≡ one.words → (write other at x).doors ≡ other.doors → (write other at x).words ≡ other.words
      → write other at x ≡ record (write one at x) { doors = (write other at x).doors; words = (write other at x).words } → SameCells (tenants_of config) (write one at x) (write other at x)
  beside at x doors words its_doors its_words rest = record {
    doors = λ t low. ap (λ f. f t) doors ∙ (same.doors t low ∙ sym (ap (λ f. f t) its_doors));
    words = λ t low. ap (λ f. f t) words ∙ (same.words t low ∙ sym (ap (λ f. f t) its_words));
    rest = rest;
  }

  write_same : (at : At) (x : Val at) → SameCells (tenants_of config) (write one at x) (write other at x)
  write_same (AtDoor tenant) x = record {
    doors = λ t low. λ i. if t == tenant then x else same.doors t low i;
    words = same.words;
    rest = ap (λ (cells : Cells). record cells { doors = upd other.doors tenant x }) same.rest;
  }
  write_same (Data tenant address) x = record {
    doors = same.doors;
    words = λ t low. λ i. λ k. if t == tenant then (if k == address then x else same.words t low i k) else same.words t low i k;
    rest = ap (λ (cells : Cells). record cells { words = upd_two other.words tenant address x }) same.rest;
  }
  write_same (AtGate slot) x = beside (AtGate slot) x refl refl refl refl (ap (λ (cells : Cells). write cells (AtGate slot) x) same.rest)
  write_same (AtRow worker) x = beside (AtRow worker) x refl refl refl refl (ap (λ (cells : Cells). write cells (AtRow worker) x) same.rest)
  write_same (AtStatus slot) x = beside (AtStatus slot) x refl refl refl refl (ap (λ (cells : Cells). write cells (AtStatus slot) x) same.rest)
  write_same (Count slot) x = beside (Count slot) x refl refl refl refl (ap (λ (cells : Cells). write cells (Count slot) x) same.rest)
  write_same (Addr slot entry) x = beside (Addr slot entry) x refl refl refl refl (ap (λ (cells : Cells). write cells (Addr slot entry) x) same.rest)
  write_same (Expected slot entry) x = beside (Expected slot entry) x refl refl refl refl (ap (λ (cells : Cells). write cells (Expected slot entry) x) same.rest)
  write_same (New slot entry) x = beside (New slot entry) x refl refl refl refl (ap (λ (cells : Cells). write cells (New slot entry) x) same.rest)

-- What two calls made is the same.
record SameMade (many : ℕ) (one also : Made) : Type 0 where
  cells : SameCells many one.cells also.cells
  file : one.file ≡ also.file
  observation : one.observation ≡ also.observation
  label : one.label ≡ also.label

-- if both were made
abbrev BothMade : ℕ → Option Made → Option Made → Type 0
BothMade many None also = Unit {0}
BothMade many (Some one) None = Unit {0}
BothMade many (Some one) (Some also) = SameMade many one also

if_both : (many : ℕ) (test also : Bool) (one other : Made) → SameMade many one other → BothMade many (if test then Some one else None) (if also then Some other else None)
if_both many true true one other same = same
if_both many true false one other same = tt
if_both many false also one other same = tt

-- both outcomes are good, or a device call fails in both
abbrev AreLike : Outcome → Outcome → Type 0
AreLike Good Good = Unit {0}
AreLike (Fail number) (Fail another) = Unit {0}
AreLike one other = ⊥

-- an event is as a thread knows it, or it is a call in which a device call failed
as_known : (event : WorldEvent) → (plain event ≡ event) ⊎ ((worker : ℕ) × (number : ℕ) × (event ≡ FileEvent worker (Fail number)))
as_known (Come worker tenant job) = inl refl
as_known (Step worker) = inl refl
as_known (FileEvent worker Good) = inl refl
as_known (FileEvent worker (Fail number)) = inr (worker, number, refl)
as_known (Hand worker) = inl refl
as_known (Restart founds) = inl refl

-- two events that are known as one are one, or both are such calls
pair : (event also : WorldEvent) → plain event ≡ plain also
    → (event ≡ also) ⊎ ((worker : ℕ) × (number : ℕ) × (another : ℕ) × (event ≡ FileEvent worker (Fail number)) × (also ≡ FileEvent worker (Fail another)))
pair event also is = by (as_known event) (as_known also)
  where
    by : (plain event ≡ event) ⊎ ((worker : ℕ) × (number : ℕ) × (event ≡ FileEvent worker (Fail number))) → (plain also ≡ also) ⊎ ((worker : ℕ) × (number : ℕ) × (also ≡ FileEvent worker (Fail number)))
        → (event ≡ also) ⊎ ((worker : ℕ) × (number : ℕ) × (another : ℕ) × (event ≡ FileEvent worker (Fail number)) × (also ≡ FileEvent worker (Fail another)))
    by (inl one) (inl other) = inl (sym one ∙ (is ∙ other))
    by (inl one) (inr (worker, number, other)) = inr (worker, 0, number, sym one ∙ (is ∙ ap plain other), other)
    by (inr (worker, number, one)) (inl other) = inr (worker, number, 0, one, sym other ∙ (sym is ∙ ap plain one))
    by (inr (worker, number, one)) (inr (who, another, other)) =
        let both : FileEvent worker (Fail 0) ≡ FileEvent who (Fail 0) = sym (ap plain one) ∙ (is ∙ ap plain other) in
        let same : worker ≡ who = cc in
        inr (worker, number, another, one, other ∙ ap (λ (n : ℕ). FileEvent n (Fail another)) (sym same))

-- A world, and another that is the same for the tenants that are there.
module _ (config : Config) (state : State) (cells : Cells) (tenants : ℕ → TenantState) (same_cells : SameCells (tenants_of config) state.cells cells)
    (same_tenants : (t : ℕ) → t < tenants_of config → state.tenant_states t ≡ tenants t) where
  abbrev twin : State
  twin = record state { cells = cells; tenant_states = tenants }

  abbrev many : ℕ
  many = tenants_of config

  abbrev Same : State → State → Type 0
  Same one other = SameWorlds (tenants_of config) one other

  -- ends of steps that are known
  same_ends : (one other next end : State) → Some one ≡ Some next → Some other ≡ Some end → Same one other → Same next end
  same_ends one other next end is its same = subst (λ (last : State). Same last end) (same_Some one next is) (subst (Same one) (same_Some other end its) same)

  came_same : (worker tenant : ℕ) (job : Job) → tenant < tenants_of config → Same (came config state worker tenant job) (came config twin worker tenant job)
  came_same worker tenant job low =
      let its : state.tenant_states tenant ≡ tenants tenant = same_tenants tenant low in
      record {
        cells = same_cells;
        tenants = λ t there. λ i. if t == tenant then asked (its i) job else same_tenants t there i;
        workers = λ i. upd state.worker_states worker (begun (state.worker_states worker) (first_of worker tenant (its i).quota config.pool job) (its i).asked);
        history = refl;
      }

  gave_same : (worker tenant : ℕ) → tenant < tenants_of config → Same (gave state worker tenant) (gave twin worker tenant)
  gave_same worker tenant low =
      let its : state.tenant_states tenant ≡ tenants tenant = same_tenants tenant low in
      record {
        cells = same_cells;
        tenants = λ t there. λ i. if t == tenant then record (its i) { lines = more (its i).lines (Some (HandOut (state.worker_states worker).request)) } else same_tenants t there i;
        workers = refl;
        history = refl;
      }

  module _ (worker : ℕ) (actor : ActorState) (low : actor.tenant < tenants_of config) where
    its : state.tenant_states actor.tenant ≡ tenants actor.tenant
    its = same_tenants actor.tenant low

    moved_same : (made also : Made) → SameMade (tenants_of config) made also → Same (moved state worker actor made) (moved twin worker actor also)
    moved_same made also same = record {
      cells = same.cells;
      tenants = λ t there. λ i. if t == actor.tenant
          then record (its i) { file = same.file i; lines = marked (same.label i) (state.worker_states worker) state.history (its i).lines }
          else same_tenants t there i;
      workers = λ i. upd state.worker_states worker (goes_on (with_labels (same.label i) state.history (its i).lines (state.worker_states worker))
          (tells actor (same.observation i) (next_attempt actor.point (state.worker_states worker).attempt)) (next_attempt actor.point (state.worker_states worker).attempt));
      history = λ i. with_intent (with_label (same.label i) worker actor (state.worker_states worker).request state.history) worker
          (tells actor (same.observation i) (next_attempt actor.point (state.worker_states worker).attempt));
    }

    made_same : (one another : Cells) (found also : Observation) → SameCells (tenants_of config) one another → found ≡ also
        → Same (moved state worker actor (made_of state worker actor one found)) (moved twin worker actor (made_of twin worker actor another also))
    made_same one another found also on_cells is = moved_same (made_of state worker actor one found) (made_of twin worker actor another also) (record {
      cells = on_cells;
      file = ap (λ (one : TenantState). one.file) its;
      observation = is;
      label = ap (λ (o : Observation). label_of actor actor.point o (tells actor o (next_attempt actor.point (state.worker_states worker).attempt)).point) is;
    })

    abbrev on : Cells → Observation → State
    on after observation = moved state worker actor (made_of state worker actor after observation)

    abbrev also_on : Cells → Observation → State
    also_on after observation = moved twin worker actor (made_of twin worker actor after observation)

    chosen : (test also : Bool) (one other its_one its_other : State) → test ≡ also → Same one its_one → Same other its_other → Same (cond test one other) (cond also its_one its_other)
    chosen true true one other its_one its_other is first rest = first
    chosen false false one other its_one its_other is first rest = rest
    chosen true false one other its_one its_other is first rest = absurd (cc)
    chosen false true one other its_one its_other is first rest = absurd (cc)

    changed_same : (shape : Shape) (kind : Kind) (at : At) (from to : Val at) → read state.cells at ≡ read cells at → Same (changed shape kind at from to state.cells on) (changed shape kind at from to cells also_on)
    changed_same Exchange kind at from to is =
        chosen (pack at (read state.cells at) == pack at from) (pack at (read cells at) == pack at from) (on (write state.cells at to) Won) (on state.cells Lost) (also_on (write cells at to) Won) (also_on cells Lost)
        (ap (λ (x : Val at). pack at x == pack at from) is)
        (made_same (write state.cells at to) (write cells at to) Won Won (write_same config state.cells cells same_cells at to) refl) (made_same state.cells cells Lost Lost same_cells refl)
    changed_same Store kind at from to is = made_same (write state.cells at to) (write cells at to) Won Won (write_same config state.cells cells same_cells at to) refl
    changed_same Fetch kind at from to is =
        made_same (write state.cells at (fetched kind at (read state.cells at))) (write cells at (fetched kind at (read cells at))) (seen at (read state.cells at)) (seen at (read cells at))
        (subst (λ (x : Val at). SameCells (tenants_of config) (write state.cells at (fetched kind at (read state.cells at))) (write cells at (fetched kind at x))) is
        (write_same config state.cells cells same_cells at (fetched kind at (read state.cells at)))) (ap (seen at) is)

    done_same : (step_asked : Asked) → may_make config step_asked ≡ true → Same (done step_asked state.cells on) (done step_asked cells also_on)
    done_same (Load at) there = made_same state.cells cells (seen at (read state.cells at)) (seen at (read cells at)) same_cells (ap (seen at) (read_same config state.cells cells same_cells at there))
    done_same (Change kind at from to) there = changed_same (shape_of kind) kind at from to (read_same config state.cells cells same_cells at there)
    done_same (FileStep called slot) there = absurd (cc)

    turn_same : (next end : State) → turn config state worker (Some actor) ≡ Some next → turn config twin worker (Some actor) ≡ Some end → Same next end
    turn_same next end is also = by (not (is_some (replied actor))) (may_make config (asks actor)) refl is also
      where
        by : (idle there : Bool) → may_make config (asks actor) ≡ there → (if idle && there then Some (turned state worker actor) else None) ≡ Some next
            → (if idle && there then Some (turned twin worker actor) else None) ≡ Some end → Same next end
        by true true made is also = same_ends (turned state worker actor) (turned twin worker actor) next end is also (done_same (asks actor) made)
        by true false made is also = absurd (none-some next is)
        by false there made is also = absurd (none-some next is)

    -- a call on the tenant's file, by the file and the status
    module _ (called : Called) where
      abbrev calling_at : State → TenantState → Status → Outcome → Option Made
      calling_at one tenant status outcome =
          ends one actor called.change tenant.file (starts_from called.call status) (fails_on called.call tenant.file)
          (can_be_made called.call tenant.file tenant.quota (place_for called.call tenant.file tenant.quota called.change.slot) (own_entries actor)) called.call status
          (place_for called.call tenant.file tenant.quota called.change.slot) (calls_made called.call status tenant.file (place_for called.call tenant.file tenant.quota called.change.slot)) outcome

      faulted : SameCells (tenants_of config) (write state.cells (AtDoor actor.tenant) (fetched FaultKind (AtDoor actor.tenant) (state.cells.doors actor.tenant)))
          (write cells (AtDoor actor.tenant) (fetched FaultKind (AtDoor actor.tenant) (cells.doors actor.tenant)))
      faulted = subst (λ door. SameCells (tenants_of config) (write state.cells (AtDoor actor.tenant) (fetched FaultKind (AtDoor actor.tenant) (state.cells.doors actor.tenant)))
          (write cells (AtDoor actor.tenant) (fetched FaultKind (AtDoor actor.tenant) door))) (same_cells.doors actor.tenant low)
          (write_same config state.cells cells same_cells (AtDoor actor.tenant) (fetched FaultKind (AtDoor actor.tenant) (state.cells.doors actor.tenant)))

      ends_same : (file : File) (starts had can : Bool) (a_call : Call) (status : Status) (place calls : ℕ) (outcome also : Outcome) → AreLike outcome also
          → BothMade (tenants_of config) (ends state actor called.change file starts had can a_call status place calls outcome) (ends twin actor called.change file starts had can a_call status place calls also)
      ends_same file false had can a_call status place calls Good Good like = record { cells = same_cells; file = refl; observation = refl; label = refl }
      ends_same file false had can a_call status place calls (Fail number) (Fail another) like = tt
      ends_same file true true can a_call status place calls Good Good like = record { cells = faulted; file = refl; observation = refl; label = refl }
      ends_same file true true can a_call status place calls (Fail number) (Fail another) like = tt
      ends_same file true false true a_call status place calls Good Good like =
          record { cells = write_same config state.cells cells same_cells (AtStatus called.change.slot) _; file = refl; observation = refl; label = refl }
      ends_same file true false true a_call status place calls (Fail number) (Fail another) like =
          if_both (tenants_of config) (is_made calls number) (is_made calls another) (breaks state actor called.change file a_call place) (breaks twin actor called.change file a_call place)
          (record { cells = faulted; file = refl; observation = refl; label = refl })
      ends_same file true false false a_call status place calls outcome also like = tt
      ends_same file starts had can a_call status place calls Good (Fail another) like = absurd like
      ends_same file starts had can a_call status place calls (Fail number) Good like = absurd like

      calling_same : (outcome also : Outcome) → AreLike outcome also → BothMade (tenants_of config) (calling config state actor called outcome) (calling config twin actor called also)
      calling_same outcome also like =
          subst (λ (status : Status). BothMade (tenants_of config) (calling config state actor called outcome) (calling_at twin (tenants actor.tenant) status also))
          (ap (λ (one : Cells). one.statuses called.change.slot) (sym same_cells.rest))
          (subst (λ (tenant : TenantState). BothMade (tenants_of config) (calling config state actor called outcome) (calling_at twin tenant (state.cells.statuses called.change.slot) also)) its
          (ends_same _ _ _ _ called.call (state.cells.statuses called.change.slot) _ _ outcome also like))

    by_made : (next end : State) (one also : Option Made) → BothMade (tenants_of config) one also → moved_if state worker actor one ≡ Some next → moved_if twin worker actor also ≡ Some end → Same next end
    by_made next end None also both is its_is = absurd (none-some next is)
    by_made next end (Some one) None both is its_is = absurd (none-some end its_is)
    by_made next end (Some one) (Some also) both is its_is = same_ends (moved state worker actor one) (moved twin worker actor also) next end is its_is (moved_same one also both)

    in_slot : (test : Bool) (one : Option State) (next : State) → (if test then one else None) ≡ Some next → one ≡ Some next
    in_slot true one next is = is
    in_slot false one next is = absurd (none-some next is)

    call_same : (next end : State) (outcome also : Outcome) → AreLike outcome also → (found : Option Called) → call_if config state worker actor found outcome ≡ Some next → call_if config twin worker actor found also ≡ Some end
        → Same next end
    call_same next end outcome also like None is its_is = absurd (none-some next is)
    call_same next end outcome also like (Some called) is its_is =
        by_made next end (calling config state actor called outcome) (calling config twin actor called also) (calling_same called outcome also like)
        (in_slot (has_slot config called.change.slot) (moved_if state worker actor (calling config state actor called outcome)) next is)
        (in_slot (has_slot config called.change.slot) (moved_if twin worker actor (calling config twin actor called also)) end its_is)

  module _ (openings : ℕ → TenantStart) (past : List WorldEvent) (played : IsExecution config openings past state) (next end : State) where
    low_of : (worker : ℕ) (actor : ActorState) → (state.worker_states worker).actor ≡ Some actor → actor.tenant < tenants_of config
    low_of worker actor sits = ((runs_are_sound config openings past state played).0.counts.worker_states worker actor sits).tenant

    by_turn : (worker : ℕ) (found : Option ActorState) → (state.worker_states worker).actor ≡ found → turn config state worker found ≡ Some next → turn config twin worker found ≡ Some end → Same next end
    by_turn worker None sits is also = absurd (none-some next is)
    by_turn worker (Some actor) sits is also = turn_same worker actor (low_of worker actor sits) next end is also

    by_call : (worker : ℕ) (outcome other : Outcome) → AreLike outcome other → (found : Option ActorState) → (state.worker_states worker).actor ≡ found → call config state worker found outcome ≡ Some next
        → call config twin worker found other ≡ Some end → Same next end
    by_call worker outcome other like None sits is also = absurd (none-some next is)
    by_call worker outcome other like (Some actor) sits is also = call_same worker actor (low_of worker actor sits) next end outcome other like (called_at actor.point) is also

    by_hand : (worker : ℕ) (found : Option ActorState) → (state.worker_states worker).actor ≡ found → hand state worker found ≡ Some next → hand twin worker found ≡ Some end → Same next end
    by_hand worker None sits is also = absurd (none-some next is)
    by_hand worker (Some actor) sits is also = by_reply (replied actor) is also
      where
        by_reply : (reply : Option Reply) → handed state worker actor.tenant reply ≡ Some next → handed twin worker actor.tenant reply ≡ Some end → Same next end
        by_reply None is also = absurd (none-some next is)
        by_reply (Some reply) is also = same_ends (gave state worker actor.tenant) (gave twin worker actor.tenant) next end is also (gave_same worker actor.tenant (low_of worker actor sits))

    by_come : (worker tenant : ℕ) (job : Job) → step config state (Come worker tenant job) ≡ Some next → step config twin (Come worker tenant job) ≡ Some end → Same next end
    by_come worker tenant job is also =
        let then_played : IsExecution config openings (past ++ Come worker tenant job ∷ []) next =
        record { made = played.made; starts = played.starts; runs = run_last config (world_at config openings) state next past (Come worker tenant job) played.runs is } in
        let begins = begins_it config state next worker tenant job is in
        let low = subst (λ (t : ℕ). t < tenants_of config) begins.its ((runs_are_sound config openings (past ++ Come worker tenant job ∷ []) next then_played).0.counts.worker_states worker begins.actor begins.sits).tenant in
        subst (λ (last : State). Same last end) (come_leads config state next worker tenant job is)
        (subst (Same (came config state worker tenant job)) (come_leads config twin end worker tenant job also) (came_same worker tenant job low))

    -- the same event
    by_event : (event : WorldEvent) → IsNoStart event → step config state event ≡ Some next → step config twin event ≡ Some end → Same next end
    by_event (Come worker tenant job) none is also = by_come worker tenant job is also
    by_event (Step worker) none is also = by_turn worker (state.worker_states worker).actor refl is also
    by_event (FileEvent worker Good) none is also = by_call worker Good Good tt (state.worker_states worker).actor refl is also
    by_event (FileEvent worker (Fail number)) none is also = by_call worker (Fail number) (Fail number) tt (state.worker_states worker).actor refl is also
    by_event (Hand worker) none is also = by_hand worker (state.worker_states worker).actor refl is also
    by_event (Restart founds) none is also = absurd none

    -- two events that are known as one
    by_pair : (event also : WorldEvent) → IsNoStart event → plain event ≡ plain also → step config state event ≡ Some next → step config twin also ≡ Some end → Same next end
    by_pair event also none same is its_is = elim (pair event also same) [
      | inl one ↦ by_event event none is (subst (λ (e : WorldEvent). step config twin e ≡ Some end) (sym one) its_is)
      | inr two ↦ by_call two.0 (Fail two.1) (Fail two.2) tt (state.worker_states two.0).actor refl (subst (λ (e : WorldEvent). step config state e ≡ Some next) two.3 is)
          (subst (λ (e : WorldEvent). step config twin e ≡ Some end) two.4 its_is)
    ]

  same_outgoing : (tenant : ℕ) (event : WorldEvent) → outgoing state tenant event ≡ outgoing twin tenant event
  same_outgoing tenant (Come worker other job) = refl
  same_outgoing tenant (Step worker) = refl
  same_outgoing tenant (FileEvent worker outcome) = refl
  same_outgoing tenant (Hand worker) = refl
  same_outgoing tenant (Restart founds) = refl

  outgoing_pair : (tenant : ℕ) (event also : WorldEvent) → plain event ≡ plain also → outgoing state tenant event ≡ outgoing twin tenant also
  outgoing_pair tenant event also same = elim (pair event also same) [
    | inl one ↦ ap (outgoing state tenant) one ∙ same_outgoing tenant also
    | inr two ↦ ap (outgoing state tenant) two.3 ∙ sym (ap (outgoing twin tenant) two.4)
  ]

module _ (config : Config) (openings : ℕ → TenantStart) where
  twin_of : (state other : State) → SameWorlds (tenants_of config) state other → other ≡ record state { cells = other.cells; tenant_states = other.tenant_states }
  twin_of state other same = λ i. record { cells = other.cells; worker_states = sym same.workers i; tenant_states = other.tenant_states; history = sym same.history i }

  -- from two such worlds on, events that are known as the same hand out the same replies
  replies_on : (tenant : ℕ) (events others past : List WorldEvent) (state other last end : State) → map plain events ≡ map plain others → AreNoStarts events → IsExecution config openings past state
      → SameWorlds (tenants_of config) state other → run config state events ≡ Some last → run config other others ≡ Some end → replies_to config tenant state events ≡ replies_to config tenant other others
  replies_on tenant [] [] past state other last end is none played same goes its_goes = refl
  replies_on tenant [] (also ∷ others) past state other last end is none played same goes its_goes = absurd (cc)
  replies_on tenant (event ∷ events) [] past state other last end is none played same goes its_goes = absurd (cc)
  replies_on tenant (event ∷ events) (also ∷ others) past state other last end is none played same goes its_goes =
      option_and_then_some (λ one. run config one events) (step config state event) last goes (λ next at on.
      option_and_then_some (λ one. run config one others) (step config other also) end its_goes (λ there its_at its_on.
      let here : plain event ≡ plain also = cc in
      let rest : map plain events ≡ map plain others = cc in
      let twin_is = twin_of state other same in
      let its_step = subst (λ (one : State). step config one also ≡ Some there) twin_is its_at in
      let then_same = by_pair config state other.cells other.tenant_states same.cells same.tenants openings past played next there event also none.0 here at its_step in
      let out = outgoing_pair config state other.cells other.tenant_states same.cells same.tenants tenant event also here ∙ ap (λ (one : State). outgoing one tenant also) (sym twin_is) in
      let then_played : IsExecution config openings (past ++ event ∷ []) next = record { made = played.made; starts = played.starts; runs = run_last config (world_at config openings) state next past event played.runs at } in
      let more_same = replies_on tenant events others (past ++ event ∷ []) next there last end rest none.1 then_played then_same on its_on in
      replies_first config tenant state next event events at
      ∙ ((λ i. option_to_list (out i) ++ more_same i)
      ∙ sym (replies_first config tenant other there also others its_at))))

-- what a start gave each tenant that is there
given_there : (openings : ℕ → TenantStart) (many t : ℕ) → t < many → slice_get (given_to openings many) t ≡ Some (openings t)
given_there openings zero t low = absurd (omega (arith, low))
given_there openings (suc many) t low = elim (cases_lt t many) [
  | inl earlier ↦ got_more (given_to openings many) (openings many ∷ []) t (openings t) (given_there openings many t earlier)
  | inr past ↦ let last : t ≡ many = omega (arith, low, past) in subst (λ (n : ℕ). slice_get (given_to openings (suc many)) n ≡ Some (openings n)) (sym last) (got_last (given_to openings many) (openings many) many (long openings many))
]
  where
    got_more : (all rest : List TenantStart) (k : ℕ) (one : TenantStart) → slice_get all k ≡ Some one → slice_get (all ++ rest) k ≡ Some one
    got_more [] rest k one is = absurd (none-some one is)
    got_more (first ∷ all) rest zero one is = is
    got_more (first ∷ all) rest (suc k) one is = got_more all rest k one is

    got_last : (all : List TenantStart) (one : TenantStart) (k : ℕ) → length all ≡ k → slice_get (all ++ one ∷ []) k ≡ Some one
    got_last [] one zero is = refl
    got_last [] one (suc k) is = absurd (omega (arith, is))
    got_last (first ∷ all) one zero is = absurd (omega (arith, is))
    got_last (first ∷ all) one (suc k) is = got_last all one k (omega (arith, is))

    long : (one : ℕ → TenantStart) (n : ℕ) → length (given_to one n) ≡ n
    long one zero = refl
    long one (suc n) = let rest = long one n in let sum = length-append (given_to one n) (one n ∷ []) in omega (arith, rest, sum)

-- Two starts gave each tenant that is there the same. Then events that are known as the same hand out the same replies to all tenants.
pub same_replies : (config : Config) (openings starts : ℕ → TenantStart) (tenant : ℕ) (events others : List WorldEvent) (state there : State) → given_to starts (tenants_of config) ≡ given_to openings (tenants_of config)
    → map plain events ≡ map plain others → AreNoStarts events → IsExecution config openings events state → IsExecution config starts others there
    → replies_to config tenant (world_at config openings) events ≡ replies_to config tenant (world_at config starts) others
same_replies config openings starts tenant events others state there given is none played also =
    replies_on config openings tenant events others [] (world_at config openings) (world_at config starts) state there is none (record { made = played.made; starts = played.starts; runs = refl }) (record {
      cells = record {
        doors = λ t low. λ i. record { fault = not (gave_same_to t low i).is_up; used = 0 };
        words = λ t low. λ i. λ address. Plain (if (gave_same_to t low i).is_up then word_at (gave_same_to t low i).words address else 0);
        rest = refl;
      };
      tenants = λ t low. ap tenant_state_at (gave_same_to t low);
      workers = refl;
      history = refl;
    }) played.runs also.runs
  where
    gave_same_to : (t : ℕ) → t < tenants_of config → openings t ≡ starts t
    gave_same_to t low =
        same_Some (openings t) (starts t) (sym (given_there openings (tenants_of config) t low)
        ∙ (ap (λ (all : List TenantStart). slice_get all t) (sym given) ∙ given_there starts (tenants_of config) t low))
