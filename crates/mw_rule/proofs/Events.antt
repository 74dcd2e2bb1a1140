-- Which events a thread adds to the table's run: a step its own, a first step also the arrival before it, a plain load none.
-- Used by: moves_are_of_the_run, mw_table.
use Rattle.std.specs.Prelude.{ℕ, ◌≡◌, ◌<◌, true, List, [], ◌∷◌, slice_index}
use Rattle.std.proofs.Common.{refl, sym, ap, subst, ◌∙◌, inr, arith}
use Rattle.std.proofs.lemmas.Bool.Decides.{nat_tests}
use Rattle.std.proofs.lemmas.Option.{same_Some}
use mathlib.Core.Option.{some}
use lib.ListN.{get_elem?}
use Rattle.atomic_table.specs.Table.{State as Table}
use Rattle.mw_words.specs.declared.places.At.{At}
use Rattle.mw_words.specs.declared.places.At.TheVariants.{Door as AtDoor}
use Rattle.mw_look.specs.declared.observations.Got.{Got}
use Rattle.mw_look.specs.declared.observations.Got.TheVariants.{Word as Bits}
use Rattle.mw_look.specs.declared.steps.Op.{Op}
use Rattle.mw_look.specs.Steps.{op_of, place_of}
use Rattle.mw_actor.specs.ActorState.{ActorState}
use Rattle.mw_actor.specs.Asks.{asks}
use Rattle.mw_world.specs.declared.config.Config.{Config}
use Rattle.mw_world.specs.Definition.Extent.{has_place}
use Rattle.mw_world.specs.Definition.Events.{WorldEvent}
use Rattle.mw_world.specs.Definition.State.{TenantStart, tenants_of}
use Rattle.mw_rule.specs.declared.views.WorkerToken.{WorkerToken}
use Rattle.mw_rule.specs.declared.views.View.{View}
use Rattle.mw_rule.specs.Steps.{IsNextStep, MayCome, LearnsStep}
use Rattle.mw_rule.specs.Layout.{index_of}
use Rattle.mw_rule.specs.WordActions.{Comes, FirstStepsAreEvents, IsFirstStep, IsOneStep, Looks, PlainLoadsAreNoEvents, Steps, StepsAreEvents}
use Rattle.mw_rule.specs.Rule.{TableInvariant}
use Rattle.mw_rule.specs.Ways.{finds}
use Rattle.mw_rule.proofs.WordActionLaws.{moves_change_words}
use Rattle.mw_rule.proofs.StepRule.{same_one}
use Rattle.mw_rule.proofs.ViewAfterStep.{live_fits}

-- A thread may make only one next step.
module _ (view : View) (first_worker : ℕ) (first : Op) (of : IsNextStep view first_worker first) (worker : ℕ) (op : Op) (by : IsNextStep view worker op) where
  same_token : of.token ≡ by.token
  same_token = same_one of.token by.token (sym of.has.only ∙ by.has.only)

  same_worker : first_worker ≡ worker
  same_worker = sym of.has.own ∙ (ap (λ (token : WorkerToken). token.worker) same_token ∙ by.has.own)

  same_actor : of.actor ≡ by.actor
  same_actor = same_Some of.actor by.actor (sym of.carries ∙ (ap (λ (token : WorkerToken). token.actor) same_token ∙ by.carries))

  same_op : first ≡ op
  same_op = sym of.is ∙ (ap (λ (one : ActorState). op_of (asks one)) same_actor ∙ by.is)

  one_step : (P : ℕ → Op → ℕ → ActorState → Type 0) → P first_worker first of.token.attempt of.actor → P worker op by.token.attempt by.actor
  one_step P so =
      subst (λ (one : ℕ). P one op by.token.attempt by.actor) same_worker
      (subst (λ (one : Op). P first_worker one by.token.attempt by.actor) same_op
      (subst (λ (one : WorkerToken). P first_worker first one.attempt by.actor) same_token
      (subst (λ (one : ActorState). P first_worker first of.token.attempt one) same_actor so)))

-- A request may come to only one worker of a thread.
module _ (view : View) (actor : ActorState) (first_worker : ℕ) (of : MayCome view first_worker actor) (worker : ℕ) (by : MayCome view worker actor) where
  its_token : of.token ≡ by.token
  its_token = same_one of.token by.token (sym of.has.only ∙ by.has.only)

  its_worker : first_worker ≡ worker
  its_worker = sym of.has.own ∙ (ap (λ (token : WorkerToken). token.worker) its_token ∙ by.has.own)

  one_coming : (P : ℕ → ℕ → Type 0) → P first_worker of.token.attempt → P worker by.token.attempt
  one_coming P so = subst (λ (one : ℕ). P one by.token.attempt) its_worker (subst (λ (one : WorkerToken). P first_worker one.attempt) its_token so)

door_there : (config : Config) (tenant : ℕ) → tenant < tenants_of config → has_place config (AtDoor tenant) ≡ true
door_there config tenant low = grind (arith, nat_tests, low)

module _ (config : Config) (begun : (ℕ → TenantStart) → List WorldEvent → Type 0) where
  -- the thread knows what the world is made of
  known : (s : Table ActorState View) (tied : TableInvariant config begun s) (id : ℕ) (view : View) (one : WorkerToken) → view.tokens ≡ one ∷ [] → get_elem? s.views id ≡ some view → view.config ≡ config
  known s tied id view one only at =
      (live_fits config tied.past.openings tied.state tied.events view (inr (one, [], only)) (tied.fits id view at)).same_config

  same_index : (view : View) (at : At) → view.config ≡ config → index_of view.config.pool at ≡ index_of config.pool at
  same_index view at same = ap (λ (c : Config). index_of c.pool at) same

  pub steps_are_events : StepsAreEvents config begun
  steps_are_events slots id worker me op make got drives makes tells s tied homes at low =
      let allowed = moves_change_words config begun slots id me (Steps worker op drives) make makes s tied homes at low in
      let here = same_index me.0 (place_of op) (known s tied id me.0 drives.token drives.has.only at) in
      let bits = slice_index s.words (index_of config.pool (place_of op)) in
      let one : IsOneStep worker op (finds op bits) drives.token.attempt drives.actor me.0 allowed.0 =
      record {
        bits = bits;
        found = refl;
        run = allowed.4.1.run;
        stood = allowed.4.1.stood (place_of op) drives.there here;
        stands = allowed.4.1.stands (place_of op) drives.there here;
      } in
      let told : IsOneStep worker op (got bits) drives.token.attempt drives.actor me.0 allowed.0 =
      subst (λ (g : Got). IsOneStep worker op g drives.token.attempt drives.actor me.0 allowed.0) (sym (tells bits)) one in (
        allowed.0,
        allowed.1,
        allowed.2,
        allowed.3,
        (
          subst (λ (g : Got). LearnsStep g me.0 allowed.0) (sym (tells bits)) allowed.4.0,
          λ other its by. one_step me.0 worker op drives other its by (λ w o a c. IsOneStep w o (got bits) a c me.0 allowed.0) told,
        ),
      )

  pub first_steps_are_events : FirstStepsAreEvents config begun
  first_steps_are_events slots id worker me actor make may makes s tied homes at low =
      let allowed = moves_change_words config begun slots id me (Comes worker actor may) make makes s tied homes at low in
      let here = same_index me.0 (AtDoor actor.tenant) (known s tied id me.0 may.token may.has.only at) in
      let there = door_there me.0.config actor.tenant may.tenant in
      let bits = slice_index s.words (index_of config.pool (AtDoor actor.tenant)) in
      let first : IsFirstStep worker (Bits bits) may.token.attempt actor me.0 allowed.0 =
      record {
        bits = bits;
        found = refl;
        run = allowed.4.1.run;
        stood = allowed.4.1.stood (AtDoor actor.tenant) there here;
        stands = allowed.4.1.stands (AtDoor actor.tenant) there here;
      } in (
        allowed.0,
        allowed.1,
        allowed.2,
        allowed.3,
        (allowed.4.0, λ other by. one_coming me.0 actor worker may other by (λ w a. IsFirstStep w (Bits bits) a actor me.0 allowed.0) first),
      )

  pub looks_are_no_events : PlainLoadsAreNoEvents config begun
  looks_are_no_events slots id index me make live makes = moves_change_words config begun slots id me (Looks index live) make makes
