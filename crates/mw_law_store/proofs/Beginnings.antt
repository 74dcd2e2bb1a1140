-- Induction over the events of a run, from its last one: what holds at first and is kept by each event holds after the run.
-- Used by: mw_law_threads.
use Rattle.std.specs.Prelude.{ℕ, ◌≡◌, ◌++◌, List, [], ◌∷◌, Option, Some, None}
use Rattle.std.specs.Option.{option_and_then, option_map, option_to_list, unwrap_or}
use Rattle.std.proofs.Common.{refl, sym, ap, subst, ◌∙◌, append_assoc, append-nil}
use Rattle.std.proofs.lemmas.Option.{same_Some, option_and_then_some}
use Rattle.mw_world.specs.declared.config.Config.{Config}
use Rattle.mw_world.specs.Claim.Headline.{IsExecution, IsRun}
use Rattle.mw_world.specs.Definition.Events.{WorldEvent}
use Rattle.mw_world.specs.Definition.State.{State, TenantStart, world_at}
use Rattle.mw_world.proofs.RunsExtend.{run-extends}
use Rattle.mw_world.specs.Definition.World.{step, run, outgoing, replies_to}

pub run_last : (config : Config) (state middle last : State) (events : List WorldEvent) (event : WorldEvent) → run config state events ≡ Some middle → step config middle event ≡ Some last
    → run config state (events ++ event ∷ []) ≡ Some last
run_last config state middle last events event runs is = run-extends config state events event ∙ ap (option_and_then (λ one. step config one event)) runs ∙ is

-- the replies of a run are those of its first event and those of the rest
replies_first : (config : Config) (tenant : ℕ) (state next : State) (event : WorldEvent) (events : List WorldEvent) → step config state event ≡ Some next
    → replies_to config tenant state (event ∷ events) ≡ option_to_list (outgoing state tenant event) ++ replies_to config tenant next events
replies_first config tenant state next event events is = ap (λ o. option_to_list (outgoing state tenant event) ++ unwrap_or (option_map (λ one. replies_to config tenant one events) o) []) is

-- after the last event no reply is handed out
nothing_more : (config : Config) (tenant : ℕ) (found : Option State) → unwrap_or (option_map (λ one. replies_to config tenant one []) found) [] ≡ []
nothing_more config tenant None = refl
nothing_more config tenant (Some next) = refl

pub replies_last : (config : Config) (tenant : ℕ) (state middle : State) (events : List WorldEvent) (event : WorldEvent) → run config state events ≡ Some middle
    → replies_to config tenant state (events ++ event ∷ []) ≡ replies_to config tenant state events ++ option_to_list (outgoing middle tenant event)
replies_last config tenant state middle [] event runs =
    ap (λ said. option_to_list (outgoing state tenant event) ++ said) (nothing_more config tenant (step config state event)) ∙ append-nil (option_to_list (outgoing state tenant event))
    ∙ ap (λ one. option_to_list (outgoing one tenant event)) (same_Some state middle runs)
replies_last config tenant state middle (first ∷ events) event runs =
    option_and_then_some (λ one. run config one events) (step config state first) middle runs (λ next at on.
    let said = option_to_list (outgoing state tenant first) in
    let last = option_to_list (outgoing middle tenant event) in
    replies_first config tenant state next first (events ++ event ∷ []) at
    ∙ ap (λ more. said ++ more) (replies_last config tenant next middle events event on)
    ∙ sym (append_assoc said (replies_to config tenant next events) last)
    ∙ ap (λ all. all ++ last) (sym (replies_first config tenant state next first events at)))

-- What holds at the beginning, and is kept by each event of a run, holds after every run.
module _ (config : Config) (openings : ℕ → TenantStart) (P : List WorldEvent → State → Type 0) (begins : P [] (world_at config openings)) where
  module _ (goes_on : (events : List WorldEvent) (event : WorldEvent) (state next : State) → IsExecution config openings events state → P events state → step config state event ≡ Some next → P (events ++ event ∷ []) next) where
    from_there : (before after : List WorldEvent) (now last : State) → IsExecution config openings before now → run config now after ≡ Some last → P before now → P (before ++ after) last
    from_there before [] now last played on holds = subst (λ events. P events last) (sym (append-nil before)) (subst (P before) (same_Some now last on) holds)
    from_there before (event ∷ after) now last played on holds =
        option_and_then_some (λ one. run config one after) (step config now event) last on (λ next at rest.
        let later : IsExecution config openings (before ++ event ∷ []) next =
        record { made = played.made; starts = played.starts; runs = run_last config (world_at config openings) now next before event played.runs at } in
        subst (λ events. P events last) (append_assoc before (event ∷ []) after) (from_there (before ++ event ∷ []) after next last later rest (goes_on before event now next played holds at)))

    pub played_by_events : (events : List WorldEvent) (state : State) → IsExecution config openings events state → P events state
    played_by_events events state played =
        from_there [] events (world_at config openings) state (record { made = played.made; starts = played.starts; runs = refl }) played.runs begins

-- The same for runs with numbers left.
module _ (config : Config) (openings : ℕ → TenantStart) (P : List WorldEvent → State → Type 0) (begins : P [] (world_at config openings))
    (goes_on : (events : List WorldEvent) (event : WorldEvent) (state next : State) → IsRun config openings events state → P events state → step config state event ≡ Some next → P (events ++ event ∷ []) next) where
  pub run_by_events : (events : List WorldEvent) (state : State) → IsRun config openings events state → P events state
  run_by_events events state whole =
      played_by_events config openings (λ first between. (rest : List WorldEvent) → events ≡ first ++ rest → P first between) (λ rest parts. begins)
      (λ first event between next played holds is rest parts.
      let later = parts ∙ append_assoc first (event ∷ []) rest in
      goes_on first event between next (run_of first (event ∷ rest) between played later) (holds (event ∷ rest) later) is)
      events state whole.played [] (sym (append-nil events))
    where
      run_of : (first rest : List WorldEvent) (between : State) → IsExecution config openings first between → events ≡ first ++ rest → IsRun config openings first between
      run_of first rest between played parts = record {
        played = played;
        numbers = λ front back one splits reaches. whole.numbers front (back ++ rest) one (parts ∙ ap (λ all. all ++ rest) splits ∙ append_assoc front back rest) reaches;
      }
