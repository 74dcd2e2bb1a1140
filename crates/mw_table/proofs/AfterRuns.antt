-- A table (array of shared atomic words) that is made after a run of the world begins under the table's rule (mw_rule
-- `specs/Rule`).
-- Used by: Shared::of_run.
use Rattle.std.specs.Prelude.{ℕ, zero, suc, ◌≡◌, ◌+◌, ◌<◌, ◌≤◌, ◌⊎◌, List, [], ◌∷◌, length, map, slice_get, slice_index_or, Option, Some, None}
use Rattle.std.proofs.Common.{refl, sym, ap, subst, ◌∙◌, inl, inr, arith}
use Rattle.std.proofs.lemmas.List.{length-map}
use Rattle.std.proofs.lemmas.Option.{slice_get_cases}
use Rattle.atomic_table.specs.Table.{opening}
use Rattle.mw_lone.specs.declared.marks.Mark.{Mark}
use Rattle.mw_actor.specs.ActorState.{ActorState}
use Rattle.mw_actor.specs.Program.{replied}
use Rattle.mw_world.specs.declared.config.Config.{Config}
use Rattle.mw_world.specs.Claim.Headline.{IsExecution}
use Rattle.mw_world.specs.Definition.Calls.{Called, called_at}
use Rattle.mw_world.specs.Definition.Events.{WorldEvent}
use Rattle.mw_world.specs.Definition.State.{IsConfig, TenantStart, WorkerState, first_openings, new_world, tenants_of}
use Rattle.mw_world.proofs.FirstInvariant.{new_worlds_start}
use Rattle.mw_rule.proofs.Calls.CallStartLaws.{calls_have_words}
use Rattle.mw_rule.proofs.FromLaws.{runs_are_bit_exact}
use Rattle.mw_rule.specs.FromLaws.{after_marks, first_abstract_state}
use Rattle.mw_rule.specs.Steps.{IsReadyAt, IsReadyFor}
use Rattle.mw_rule.specs.Splits.{maker}
use Rattle.mw_rule.specs.Layout.{words_of}
use Rattle.mw_rule.specs.Rule.{TableInvariant}
use Rattle.mw_rule.specs.Prefixes.{Gave, opening_at}
use Rattle.mw_rule.proofs.KnownRunLaws.{stays}
use Rattle.mw_rule.proofs.SplitLaws.{starts}
use Rattle.mw_table.specs.declared.new_table.PassState.{PassState}
use Rattle.mw_table.specs.declared.origin.WorkerSoFar.{WorkerSoFar}
use Rattle.mw_table.specs.NewPasses.{ArePassStates, IsPassState, pass_state_of}
use Rattle.mw_table.specs.Runs.{AreAfterRun, IsToldOf, LastStart, LedTo, basis_of_run, opening_after, openings_from, worker_state_at, worker_state_so_far, up_after}
use Rattle.mw_table.proofs.OpenedFiles.{run_told}

-- A run from a new world of this configuration, and what its first start gave.
module _ (config : Config) (made : IsConfig config) (lasts : List LastStart) (worker_states : List WorkerState) (before : List WorldEvent) (led : LedTo config lasts worker_states before (first_openings config) before) where
  -- it is an execution of a server
  played : IsExecution config (first_openings config) before led.state
  played = record { made = made; starts = new_worlds_start config made; runs = led.runs }

  -- the words of the next step, or of the call, of a worker's request are there
  pub ready : (worker : ℕ) → worker < config.workers → IsReadyFor config (worker_state_at worker_states worker).actor
  ready worker low = subst (λ (seat : WorkerState). IsReadyFor config seat.actor) (sym (led.workers worker low)) (by_actor (led.state.worker_states worker).actor refl)
    where
      by_actor : (found : Option ActorState) → (led.state.worker_states worker).actor ≡ found → IsReadyFor config found
      by_actor None is = tt
      by_actor (Some actor) is = λ running. at_point running (called_at actor.point) refl
        where
          at_point : replied actor ≡ None → (called : Option Called) → called_at actor.point ≡ called → IsReadyAt config actor called
          at_point running None no_call = ((runs_are_bit_exact config (first_openings config) before led.state played).steps worker actor is running no_call).there
          at_point running (Some called) comes_to =
              calls_have_words config (first_openings config) before led.state worker actor called played (record { sits = is; comes_to = comes_to })

-- what the last start gave one tenant, among what it gave all
openings_at : (config : Config) (first : ℕ) (lasts : List LastStart) (tenant : ℕ) (last : LastStart) → slice_get lasts tenant ≡ Some last
    → opening_at (openings_from config first lasts) tenant ≡ opening_after (first_openings config (first + tenant)) last
openings_at config first [] tenant last is = absurd (cc)
openings_at config first (one ∷ lasts) zero last is =
    let same : one ≡ last = cc in
    let here : first ≡ first + 0 = omega arith in
    ap (λ (n : ℕ). opening_after (first_openings config n) one) here ∙ ap (opening_after (first_openings config (first + 0))) same
openings_at config first (one ∷ lasts) (suc tenant) last is =
    let here : (first + 1) + tenant ≡ first + suc tenant = omega arith in
    openings_at config (first + 1) lasts tenant last is ∙ ap (λ (n : ℕ). opening_after (first_openings config n) last) here

-- the tenant's state agrees with what the last start gave
gave_so : (config : Config) (lasts : List LastStart) (worker_states : List WorkerState) (before : List WorldEvent) (led : LedTo config lasts worker_states before (first_openings config) before) → length lasts ≡ tenants_of config
    → (tenant : ℕ) → tenant < tenants_of config → Gave (first_openings config) led.state tenant (opening_at (openings_from config 0 lasts) tenant)
gave_so config lasts worker_states before led one_each tenant low = by_last (slice_get_cases lasts tenant).1
  where
    told_so : (last : LastStart) → IsToldOf (led.state.tenant_states tenant) last → Gave (first_openings config) led.state tenant (opening_after (first_openings config tenant) last)
    told_so last told = record {
      quota = told.quota;
      places = told.places;
      words = ap (λ (marks : List Mark). (after_marks (first_abstract_state (first_openings config tenant).words) marks).words) told.closed;
      is_up =
          run_told (λ one. (first_openings config one).is_up) config before (new_world config) led.state (λ one. refl) led.runs tenant
          ∙ ap (up_after (first_openings config tenant).is_up) told.closed;
    }

    by_last : ((last : LastStart) × (tenant < length lasts) × (slice_get lasts tenant ≡ Some last) × (slice_index_or lasts tenant last ≡ last))
        ⊎ ((length lasts ≤ tenant) × (slice_get lasts tenant ≡ None))
        → Gave (first_openings config) led.state tenant (opening_at (openings_from config 0 lasts) tenant)
    by_last (inl there) =
        let given : opening_at (openings_from config 0 lasts) tenant ≡ opening_after (first_openings config tenant) there.0 =
        openings_at config 0 lasts tenant there.0 there.2 ∙ ap (λ (n : ℕ). opening_after (first_openings config n) there.0) (let from_first : 0 + tenant ≡ tenant = omega arith in from_first) in
        subst (λ (one : TenantStart). Gave (first_openings config) led.state tenant one) (sym given) (told_so there.0 (led.tenants tenant there.0 there.2))
    by_last (inr past) = absurd (omega (arith, past.0, low, one_each))

-- the rule holds of the new table
pub first_table : (config : Config) (lasts : List LastStart) (worker_states : List WorkerState) (before : List WorldEvent) (words : List ℕ) → IsConfig config → length lasts ≡ tenants_of config → length words ≡ words_of config
    → AreAfterRun config lasts worker_states before words
    → TableInvariant config (LedTo config lasts worker_states before) (opening {S = ActorState} words [] (maker config (openings_from config 0 lasts) (Some (basis_of_run config lasts worker_states before).known_run) (worker_state_at worker_states) []))
first_table config lasts worker_states before words made one_each long run =
    let led = run.led in
    let known = Some (basis_of_run config lasts worker_states before).known_run in
    starts config (LedTo config lasts worker_states before) (first_openings config) before led.state (openings_from config 0 lasts) known (worker_state_at worker_states) [] words led (stays known)
    (played config made lasts worker_states before led) (gave_so config lasts worker_states before led one_each) led.workers tt (λ tenant. omega arith) long run.ties

-- what the passes say of their workers is true
pass_state_tells : (workers : List WorkerSoFar) (index : ℕ) (other : PassState) → index < length workers
    → IsPassState (worker_state_at (map worker_state_so_far workers) index) (slice_index_or (map (λ worker. pass_state_of (worker_state_so_far worker)) workers) index other)
pass_state_tells [] index other low = absurd (omega (arith, low))
pass_state_tells (worker ∷ workers) zero other low = record { attempt = refl; idle = refl }
pass_state_tells (worker ∷ workers) (suc index) other low = pass_state_tells workers index other (omega (arith, low))

pub pass_states_tell : (workers : List WorkerSoFar) (pass_states : List PassState) → pass_states ≡ map (λ worker. pass_state_of (worker_state_so_far worker)) workers
    → ArePassStates (worker_state_at (map worker_state_so_far workers)) (length workers) pass_states
pass_states_tell workers pass_states is =
    subst (λ (some : List PassState). ArePassStates (worker_state_at (map worker_state_so_far workers)) (length workers) some) (sym is)
    (record { count = length-map workers (λ worker. pass_state_of (worker_state_so_far worker)); each = pass_state_tells workers })
