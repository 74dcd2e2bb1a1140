-- An attempt to hold a word takes the worker's next attempt number, and the pass then has the one after it.
-- Used by: Shared::attempt.
use Rattle.std.specs.Prelude.{ℕ, ◌≡◌, ◌+◌, ◌<◌, true, false, List, [], ◌∷◌, ◌++◌, map, Option, Some, None}
use Rattle.std.proofs.Common.{refl, sym, ap, subst, ◌∙◌}
use mathlib.Core.Option.{some}
use lib.ListN.{get_elem?}
use Rattle.atomic_table.specs.Table.{State as Table, Allows, Me}
use Rattle.mw_words.specs.declared.limits.TheConstants.{WORN_NUMBER}
use Rattle.mw_look.specs.declared.observations.Got.{Got}
use Rattle.mw_look.specs.declared.points.Point.{Point as ReadPoint}
use Rattle.mw_look.specs.declared.points.Point.TheVariants.{Pin as PinOfRead}
use Rattle.mw_look.specs.declared.steps.Op.{Op}
use Rattle.mw_look.specs.Program.{asks_at as read_asks_at}
use Rattle.mw_look.specs.Steps.{op_of, place_of}
use Rattle.mw_actor.specs.declared.points.Point.{Point}
use Rattle.mw_actor.specs.declared.points.Point.TheVariants.{Plant, Read}
use Rattle.mw_actor.specs.ActorState.{ActorState}
use Rattle.mw_actor.specs.Asks.{asks_at}
use Rattle.mw_world.specs.declared.config.Config.{Config}
use Rattle.mw_world.specs.Definition.State.{State, TenantStart}
use Rattle.mw_world.specs.Definition.Events.{WorldEvent}
use Rattle.mw_world.specs.Definition.Turns.{next_attempt}
use Rattle.mw_rule.specs.FromLaws.{IsSound}
use Rattle.mw_rule.proofs.FromLaws.{runs_are_sound}
use Rattle.mw_rule.specs.declared.views.WorkerToken.{WorkerToken}
use Rattle.mw_rule.specs.declared.views.View.{View}
use Rattle.mw_rule.specs.Steps.{IsNextStep, LearnsStep, told}
use Rattle.mw_rule.specs.Layout.{index_of}
use Rattle.mw_rule.specs.WordActions.{AddsStepEvent}
use Rattle.mw_rule.specs.Rule.{Each, Holds, IsLive, TableInvariant}
use Rattle.mw_rule.specs.Ways.{finds, made_of_bits}
use Rattle.mw_rule.proofs.ViewAfterStep.{live_fits}
use Rattle.mw_table.specs.declared.shared.Pass.{Pass}
use Rattle.mw_table.specs.declared.shared.Shared.{Shared}
use Rattle.mw_table.specs.Numbers.{AreNumbered, TakesNumber, TakesNumberFor, number_of, numbers}
use Rattle.mw_table.specs.Passes.{IsOf, is_plant}
use Rattle.mw_table.proofs.StepRequirements.{Asks, live, rule_of, step_asks}
use Rattle.mw_table.proofs.StepsKeepNumbers.{told_number}

-- The attempt of each request of a world takes its worker's next number.
module _ (config : Config) (state : State) (sound : IsSound config state) (worker : ℕ) where
  takes_at : (actor : ActorState) (point : Point) → (state.worker_states worker).actor ≡ Some (record actor { point = point }) → TakesNumber (state.worker_states worker).attempt point
  takes_at actor (Plant task entry number) sits =
      let me : ActorState = record actor { point = Plant task entry number } in
      let seat = sound.counts.worker_states worker me sits in
      let request = sound.requests worker me sits in
      let next : number ≡ (state.worker_states worker).attempt = sym request.stands.knows.1 ∙ ap (λ (n : ℕ). (state.worker_states n).attempt) seat.same_worker in
      (next, subst (λ (n : ℕ). n < WORN_NUMBER) next request.in_range.point.1)
  takes_at actor point sits = tt

  takes_for : (found : Option ActorState) → (state.worker_states worker).actor ≡ found → TakesNumberFor (state.worker_states worker).attempt found
  takes_for None sits = tt
  takes_for (Some actor) sits = takes_at actor actor.point sits

each_numbered : (config : Config) (openings : ℕ → TenantStart) (state : State) (events : List WorldEvent) → IsSound config state → (all : List WorkerToken)
    → Each (Holds config openings state events) all → Each (λ (token : WorkerToken). TakesNumberFor token.attempt token.actor) all
each_numbered config openings state events sound [] hold = tt
each_numbered config openings state events sound (one ∷ rest) hold = (
  subst (λ (n : ℕ). TakesNumberFor n one.actor) hold.0.attempt (takes_for config state sound one.worker one.actor hold.0.actor),
  each_numbered config openings state events sound rest hold.1,
)

-- and of each request that a thread carries
numbered_so : (config : Config) (begun : (ℕ → TenantStart) → List WorldEvent → Type 0) (s : Table ActorState View) (id : ℕ) (view : View) → IsLive view → TableInvariant config begun s
    → get_elem? s.views id ≡ some view → AreNumbered view
numbered_so config begun s id view lives tied at =
    let openings = tied.past.openings in
    let fits = live_fits config openings tied.state tied.events view lives (tied.fits id view at) in
    let sound = (runs_are_sound config openings (tied.past.before ++ tied.events) tied.state tied.past.played).0 in
    each_numbered config openings tied.state tied.events sound view.tokens fits.token

-- a step may also give what the thread knows already
allows_more : (holds : Table ActorState View → Type 0) (slots id : ℕ) (me : Me ActorState View) (index : ℕ) (make : ℕ → ℕ) (tells : ℕ → Me ActorState View → Type 0) (more : Type 0)
    → ((s : Table ActorState View) → holds s → get_elem? s.views id ≡ some me.0 → more) → Allows holds slots id me index make tells
    → Allows holds slots id me index make (λ bits next. tells bits next × more)
allows_more holds slots id me index make tells more so allows s is long at low = let r = allows s is long at low in (r.0, r.1, r.2, r.3, (r.4, so s is at))

-- an attempt of the request that the pass carries
pub attempt_asks : (shared : Shared) (pass : Pass) (op : Op) (index : ℕ) (make : ℕ → ℕ) (got : ℕ → Got) → IsOf shared pass → IsNextStep pass.seat.me.0 pass.worker op
    → index ≡ index_of shared.pool (place_of op) → ((bits : ℕ) → make bits ≡ made_of_bits op bits) → ((bits : ℕ) → got bits ≡ finds op bits)
    → Asks shared pass index make (λ bits next. (LearnsStep (got bits) pass.seat.me.0 next.0 × AddsStepEvent (got bits) pass.seat.me.0 next.0) × AreNumbered pass.seat.me.0)
attempt_asks shared pass op index make got own drives is does tells =
    let asked = step_asks shared pass op index make got own drives is does tells in
    let lives = live pass.seat.me.0 pass.seat.me.0.tokens pass.worker pass.attempt refl pass.numbered in (
      asked.0,
      asked.1,
      allows_more (rule_of shared) shared.table.shared.table_id.slots pass.seat.id pass.seat.me index make
          (λ bits next. LearnsStep (got bits) pass.seat.me.0 next.0 × AddsStepEvent (got bits) pass.seat.me.0 next.0) (AreNumbered pass.seat.me.0)
          (λ s tied at. numbered_so _ _ s pass.seat.id pass.seat.me.0 lives tied at) asked.2,
    )

-- a read makes no attempt
read_plants_none : (tenant address : ℕ) (point : ReadPoint) → is_plant (op_of (read_asks_at tenant address point)) ≡ false
read_plants_none tenant address (PinOfRead trail from to) = refl
read_plants_none tenant address point = refl

next_at : (actor : ActorState) (point : Point) (attempt : ℕ) → is_plant (op_of (asks_at actor point)) ≡ true → TakesNumber attempt point
    → (next_attempt point attempt ≡ attempt + 1) × (attempt < WORN_NUMBER)
next_at actor (Plant task entry number) attempt is takes = (ap (λ (n : ℕ). n + 1) takes.0, takes.1)
next_at actor (Read look) attempt is takes = let none = read_plants_none look.tenant look.address look.point in absurd (cc)
next_at actor point attempt is takes = absurd (cc)

second_of : (one other : ℕ × ℕ) → one ∷ [] ≡ other ∷ [] → one.1 ≡ other.1
second_of one other is = ap (λ (all : List (ℕ × ℕ)). last_of all) is
  where
    last_of : List (ℕ × ℕ) → ℕ
    last_of [] = 0
    last_of (first ∷ rest) = first.1

-- the numbers after an attempt
pub numbers_rise : (op : Op) (got : Got) (worker attempt : ℕ) (v w : View) → is_plant op ≡ true → IsNextStep v worker op → numbers v ≡ (worker, attempt) ∷ [] → AreNumbered v → LearnsStep got v w
    → (numbers w ≡ (worker, attempt + 1) ∷ []) × (attempt < WORN_NUMBER)
numbers_rise op got worker attempt v w plants drives had numbered took =
    let token = drives.token in
    let actor = drives.actor in
    let same : token.attempt ≡ attempt = second_of (number_of token) (worker, attempt) (sym (ap (map number_of) drives.has.only) ∙ had) in
    let all = subst (λ (some : List WorkerToken). Each (λ (one : WorkerToken). TakesNumberFor one.attempt one.actor) some) drives.has.only numbered in
    let takes : TakesNumber token.attempt actor.point = subst (λ (one : Option ActorState). TakesNumberFor token.attempt one) drives.carries all.0 in
    let next = next_at actor actor.point token.attempt (ap is_plant drives.is ∙ plants) takes in (
      ap (map number_of) (took.token ∙ ap (map (told got)) drives.has.only)
          ∙ ap (λ (n : ℕ × ℕ). n ∷ []) (told_number got token actor token.actor drives.carries ∙ (λ i. (drives.has.own i, (next.0 ∙ ap (λ (n : ℕ). n + 1) same) i))),
      subst (λ (n : ℕ). n < WORN_NUMBER) same next.1,
    )
