-- Each call that makes a pass's step meets what the table requires of a step.
-- Used by: Shared::begin, exchange, figure, load, store, subtract.
use Rattle.std.proofs.Common.{ℕ, ◌≡◌, ◌<◌, ◌==◌, inr, true, List, [], ◌∷◌, map, nat_lt, ap, sym, ◌∙◌, refl, subst, arith}
use Rattle.std.proofs.lemmas.Bool.Decides.{nat_tests}
use prog.Atomic.{either}
use Rattle.atomic_table.specs.Table.{State as Table, Allows, Me}
use Rattle.mw_words.specs.declared.places.At.{At}
use Rattle.mw_words.specs.declared.places.At.TheVariants.{Door as AtDoor}
use Rattle.mw_look.specs.declared.steps.Op.{Op}
use Rattle.mw_look.specs.declared.observations.Got.{Got}
use Rattle.mw_look.specs.declared.observations.Got.TheVariants.{Word as Found}
use Rattle.mw_look.specs.Steps.{place_of}
use Rattle.mw_actor.specs.ActorState.{ActorState}
use Rattle.mw_world.specs.declared.config.Config.{Config}
use Rattle.mw_world.specs.Definition.Extent.{has_place}
use Rattle.mw_world.specs.Definition.State.{tenants_of}
use Rattle.mw_rule.specs.declared.views.WorkerToken.{WorkerToken}
use Rattle.mw_rule.specs.declared.views.View.{View}
use Rattle.mw_rule.specs.Steps.{LearnsFirstStep, IsNextStep, LearnsPlainLoad, MayCome, LearnsStep}
use Rattle.mw_rule.specs.Layout.{index_of}
use Rattle.mw_rule.specs.WordActions.{AddsFirstStepEvents, AddsNoEvent, AddsStepEvent}
use Rattle.mw_rule.specs.Rule.{IsLive, TableInvariant}
use Rattle.mw_rule.specs.Ways.{finds, made_of_bits}
use Rattle.mw_table.specs.declared.shared.Pass.{Pass}
use Rattle.mw_table.specs.declared.shared.Shared.{Shared}
use Rattle.mw_table.specs.Numbers.{number_of}
use Rattle.mw_table.specs.Origins.{begun_of, config_of}
use Rattle.mw_table.specs.Passes.{IsOf}
use Rattle.mw_rule.proofs.Events.{first_steps_are_events, looks_are_no_events, steps_are_events}
use Rattle.mw_rule.proofs.Layouts.{places_in_table}

-- the rule of a table
abbrev pub rule_of : Shared → Table ActorState View → Type 0
rule_of shared = TableInvariant (config_of shared.table.shared.key) (begun_of shared.table.shared.key)

-- what the table requires of a step
abbrev pub Asks : Shared → Pass → ℕ → (ℕ → ℕ) → (ℕ → Me ActorState View → Type 0) → Type 0
Asks shared pass index make tells =
    (pass.seat.table_id ≡ shared.table.shared.table_id) × (index < shared.table.shared.table_id.words)
    × Allows (rule_of shared) shared.table.shared.table_id.slots pass.seat.id pass.seat.me index make tells

-- a step may give the same in other words
pub allows_so : (holds : Table ActorState View → Type 0) (slots id : ℕ) (me : Me ActorState View) (index : ℕ) (make : ℕ → ℕ) (one other : ℕ → Me ActorState View → Type 0)
    → ((bits : ℕ) (next : Me ActorState View) → one bits next → other bits next) → Allows holds slots id me index make one → Allows holds slots id me index make other
allows_so holds slots id me index make one other says allows s so long at low = let r = allows s so long at low in (r.0, r.1, r.2, r.3, says _ _ r.4)

-- a word of the world is in the table
pub in_table : (shared : Shared) (pass : Pass) (at : At) (index : ℕ) → IsOf shared pass → has_place pass.seat.me.0.config at ≡ true → index ≡ index_of shared.pool at
    → (index < shared.table.shared.table_id.words) × (index_of (config_of shared.table.shared.key).pool at ≡ index)
in_table shared pass at index own there is =
    let config = config_of shared.table.shared.key in
    let here : index ≡ index_of config.pool at = is ∙ ap (λ (k : ℕ). index_of k at) shared.pool_is in
    let within = places_in_table config at shared.made (ap (λ (c : Config). has_place c at) (sym own.config) ∙ there) in
    let long = shared.long in (omega (arith, here, within, long), sym here)

-- a step of the request that the pass carries
pub step_asks : (shared : Shared) (pass : Pass) (op : Op) (index : ℕ) (make : ℕ → ℕ) (got : ℕ → Got) → IsOf shared pass → IsNextStep pass.seat.me.0 pass.worker op
    → index ≡ index_of shared.pool (place_of op) → ((bits : ℕ) → make bits ≡ made_of_bits op bits) → ((bits : ℕ) → got bits ≡ finds op bits)
    → Asks shared pass index make (λ bits next. LearnsStep (got bits) pass.seat.me.0 next.0 × AddsStepEvent (got bits) pass.seat.me.0 next.0)
step_asks shared pass op index make got own drives is does tells =
    let origin = shared.table.shared.key in
    let slots = shared.table.shared.table_id.slots in
    let me = pass.seat.me in
    let at = in_table shared pass (place_of op) index own drives.there is in
    let events = steps_are_events (config_of origin) (begun_of origin) slots pass.seat.id pass.worker me op make got drives does tells in (
      own.table,
      at.0,
      subst (λ (k : ℕ). Allows (rule_of shared) slots pass.seat.id me k make (λ bits next. LearnsStep (got bits) me.0 next.0 × AddsStepEvent (got bits) me.0 next.0)) at.1 events,
    )

lower : (n m : ℕ) → n < m → nat_lt n m ≡ true
lower n m is = grind (arith, nat_tests, is)

-- the first step of a request
pub first_asks : (shared : Shared) (pass : Pass) (actor : ActorState) (index : ℕ) (make : ℕ → ℕ) → IsOf shared pass → MayCome pass.seat.me.0 pass.worker actor
    → index ≡ index_of shared.pool (AtDoor actor.tenant) → ((bits : ℕ) → make bits ≡ bits)
    → Asks shared pass index make (λ bits next. LearnsFirstStep actor (Found bits) pass.seat.me.0 next.0 × AddsFirstStepEvents actor (Found bits) pass.seat.me.0 next.0)
first_asks shared pass actor index make own may is same =
    let origin = shared.table.shared.key in
    let slots = shared.table.shared.table_id.slots in
    let me = pass.seat.me in
    let at = in_table shared pass (AtDoor actor.tenant) index own (lower actor.tenant (tenants_of me.0.config) may.tenant) is in
    let events = first_steps_are_events (config_of origin) (begun_of origin) slots pass.seat.id pass.worker me actor make may same in (
      own.table,
      at.0,
      subst (λ (k : ℕ). Allows (rule_of shared) slots pass.seat.id me k make (λ bits next. LearnsFirstStep actor (Found bits) me.0 next.0 × AddsFirstStepEvents actor (Found bits) me.0 next.0)) at.1 events,
    )

-- a pass has a token
pub live : (view : View) (token : List WorkerToken) (worker attempt : ℕ) → view.tokens ≡ token → map number_of token ≡ (worker, attempt) ∷ [] → IsLive view
live view [] worker attempt are is = absurd (cc)
live view (one ∷ rest) worker attempt are is = inr (one, rest, are)

-- a load that is no event
pub look_asks : (shared : Shared) (pass : Pass) (at : At) (index : ℕ) → IsOf shared pass → has_place pass.seat.me.0.config at ≡ true → index ≡ index_of shared.pool at
    → Asks shared pass index (λ bits. bits) (λ bits next. LearnsPlainLoad index bits pass.seat.me.0 next.0 × AddsNoEvent index bits pass.seat.me.0 next.0)
look_asks shared pass at index own there is =
    let origin = shared.table.shared.key in (
      own.table,
      (in_table shared pass at index own there is).0,
      looks_are_no_events (config_of origin) (begun_of origin) shared.table.shared.table_id.slots pass.seat.id index pass.seat.me (λ bits. bits)
          (live pass.seat.me.0 pass.seat.me.0.tokens pass.worker pass.attempt refl pass.numbered) (λ bits. refl),
    )

-- an exchange of 0 for 0 changes nothing
pub zero_for_zero : (n : ℕ) → either (n == 0) 0 n ≡ n
zero_for_zero n = grind (arith, nat_tests)
