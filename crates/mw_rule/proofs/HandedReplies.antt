-- Which replies a run hands out: when more happens they stay, and a call on a file hands out none. Used by: mw_law_threads.
use Rattle.std.specs.Prelude.{ℕ, zero, suc, ◌==◌, ◌≡◌, Bool, true, if◌then◌else◌, List, [], ◌∷◌, ◌++◌, slice_get, Option, Some, None}
use Rattle.std.specs.Option.{option_map, option_to_list, unwrap_or}
use Rattle.std.proofs.Common.{refl, sym, ap, ◌∙◌, append_assoc, append-nil, arith}
use Rattle.std.proofs.lemmas.Bool.Decides.{nat_tests}
use Rattle.std.proofs.lemmas.Option.{none-some, option_and_then_some, same_Some}
use Rattle.mw_words.specs.declared.replies.Reply.{Reply}
use Rattle.mw_actor.specs.ActorState.{ActorState}
use Rattle.mw_actor.specs.Program.{replied}
use Rattle.mw_world.specs.declared.outcomes.Outcome.{Outcome}
use Rattle.mw_world.specs.declared.config.Config.{Config}
use Rattle.mw_world.specs.Definition.Events.{WorldEvent, File as FileEvent, Hand}
use Rattle.mw_world.specs.Definition.State.{State}
use Rattle.mw_world.specs.Definition.World.{outgoing, replies_to, reply_for, run, step}
use Rattle.mw_rule.specs.declared.views.Finished.{Finished}
use Rattle.mw_rule.specs.Rule.{IsHandedOut}

-- what a list has, it has when it goes on, and when it begins with others
kept_in : {A : Type 0} (all more : List A) (index : ℕ) (one : A) → slice_get all index ≡ Some one → slice_get (all ++ more) index ≡ Some one
kept_in [] more index one at = absurd (none-some one at)
kept_in (first ∷ all) more zero one at = at
kept_in (first ∷ all) more (suc index) one at = kept_in all more index one at

later_in : {A : Type 0} (first all : List A) (index : ℕ) (one : A) → slice_get all index ≡ Some one → (place : ℕ) × (slice_get (first ++ all) place ≡ Some one)
later_in [] all index one at = (index, at)
later_in (other ∷ first) all index one at = let rest = later_in first all index one at in (suc rest.0, rest.1)

-- what an event that happens hands out, then what those after it do
replies_step : (config : Config) (tenant : ℕ) (state next : State) (event : WorldEvent) (events : List WorldEvent) → step config state event ≡ Some next
    → replies_to config tenant state (event ∷ events) ≡ option_to_list (outgoing state tenant event) ++ replies_to config tenant next events
replies_step config tenant state next event events at = ap (λ o. option_to_list (outgoing state tenant event) ++ unwrap_or (option_map (λ one. replies_to config tenant one events) o) []) at

-- the replies of more events come after those of the first
replies_more : (config : Config) (tenant : ℕ) (state : State) (first rest : List WorldEvent) → (more : List (ℕ × Reply)) × (replies_to config tenant state (first ++ rest) ≡ replies_to config tenant state first ++ more)
replies_more config tenant state [] rest = (replies_to config tenant state rest, refl)
replies_more config tenant state (event ∷ first) rest = by (λ next. replies_more config tenant next first rest) (step config state event)
  where
    by : ((next : State) → (more : List (ℕ × Reply)) × (replies_to config tenant next (first ++ rest) ≡ replies_to config tenant next first ++ more)) → (next : Option State) → (more : List (ℕ × Reply))
        × (option_to_list (outgoing state tenant event) ++ unwrap_or (option_map (λ one. replies_to config tenant one (first ++ rest)) next) []
        ≡ (option_to_list (outgoing state tenant event) ++ unwrap_or (option_map (λ one. replies_to config tenant one first) next) []) ++ more)
    by on None = ([], sym (append-nil (option_to_list (outgoing state tenant event) ++ [])))
    by on (Some next) = (
      (on next).0,
      ap (λ (all : List (ℕ × Reply)). option_to_list (outgoing state tenant event) ++ all) (on next).1
          ∙ sym (append_assoc (option_to_list (outgoing state tenant event)) (replies_to config tenant next first) (on next).0),
    )

-- after a run, they are those of the world that it leads to
replies_after : (config : Config) (tenant : ℕ) (state between : State) (first rest : List WorldEvent) → run config state first ≡ Some between
    → replies_to config tenant state (first ++ rest) ≡ replies_to config tenant state first ++ replies_to config tenant between rest
replies_after config tenant state between [] rest runs = ap (λ one. replies_to config tenant one rest) (same_Some state between runs)
replies_after config tenant state between (event ∷ first) rest runs =
    option_and_then_some (λ next. run config next first) (step config state event) between runs (λ next at on.
    replies_step config tenant state next event (first ++ rest) at
    ∙ ap (λ (all : List (ℕ × Reply)). option_to_list (outgoing state tenant event) ++ all) (replies_after config tenant next between first rest on)
    ∙ sym (append_assoc (option_to_list (outgoing state tenant event)) (replies_to config tenant next first) (replies_to config tenant between rest))
    ∙ ap (λ (all : List (ℕ × Reply)). all ++ replies_to config tenant between rest) (sym (replies_step config tenant state next event first at)))

-- a reply that was handed out stays handed out
pub handed_more : (config : Config) (start : State) (first rest : List WorldEvent) (one : Finished) → IsHandedOut config start first one → IsHandedOut config start (first ++ rest) one
handed_more config start first rest one handed =
    let more = replies_more config one.tenant start first rest in (
      handed.0,
      ap (λ (all : List (ℕ × Reply)). slice_get all handed.0) more.1 ∙ kept_in (replies_to config one.tenant start first) more.0 handed.0 (one.request, one.reply) handed.1,
    )

-- what is handed out from a world on is handed out by a run through that world
pub handed_after : (config : Config) (start between : State) (first rest : List WorldEvent) (one : Finished) → run config start first ≡ Some between → IsHandedOut config between rest one
    → IsHandedOut config start (first ++ rest) one
handed_after config start between first rest one runs handed =
    let there = later_in (replies_to config one.tenant start first) (replies_to config one.tenant between rest) handed.0 (one.request, one.reply) handed.1 in
    (there.0, ap (λ (all : List (ℕ × Reply)). slice_get all there.0) (replies_after config one.tenant start between first rest runs) ∙ there.1)

pub itself : (n : ℕ) → (n == n) ≡ true
itself n = grind (arith, nat_tests)

-- a worker hands out the reply to its request, under the request's number
pub hands_out : (config : Config) (state : State) (worker request : ℕ) (actor : ActorState) (reply : Reply) → (state.worker_states worker).actor ≡ Some actor → replied actor ≡ Some reply
    → (state.worker_states worker).request ≡ request → slice_get (replies_to config actor.tenant state (Hand worker ∷ [])) 0 ≡ Some (request, reply)
hands_out config state worker request actor reply sits stands its =
    let rest : List (ℕ × Reply) = unwrap_or (option_map (λ next. replies_to config actor.tenant next []) (step config state (Hand worker))) [] in
    ap (λ (one : Option ActorState). slice_get (option_to_list (reply_for state actor.tenant worker one) ++ rest) 0) sits
    ∙ ap (λ (test : Bool). slice_get (option_to_list (if test then option_map (λ one. ((state.worker_states worker).request, one)) (replied actor) else None) ++ rest) 0) (itself actor.tenant)
    ∙ ap (λ (one : Option Reply). slice_get (option_to_list (option_map (λ said. ((state.worker_states worker).request, said)) one) ++ rest) 0) stands
    ∙ ap (λ (n : ℕ). Some (n, reply)) its

-- a call on a file hands out none, however it ends
no_replies : (config : Config) (tenant : ℕ) (next : Option State) → unwrap_or (option_map (λ one. replies_to config tenant one []) next) [] ≡ []
no_replies config tenant None = refl
no_replies config tenant (Some next) = refl

pub handed_however : (config : Config) (start between : State) (first : List WorldEvent) (worker : ℕ) (outcome other : Outcome) (one : Finished) → run config start first ≡ Some between
    → IsHandedOut config start (first ++ FileEvent worker outcome ∷ []) one → IsHandedOut config start (first ++ FileEvent worker other ∷ []) one
handed_however config start between first worker outcome other one runs handed =
    let so : (its : Outcome) → replies_to config one.tenant start (first ++ FileEvent worker its ∷ []) ≡ replies_to config one.tenant start first ++ [] =
    λ its.
    replies_after config one.tenant start between first (FileEvent worker its ∷ []) runs
    ∙ ap (λ (all : List (ℕ × Reply)). replies_to config one.tenant start first ++ all) (no_replies config one.tenant (step config between (FileEvent worker its))) in
    (handed.0, ap (λ (all : List (ℕ × Reply)). slice_get all handed.0) (so other ∙ sym (so outcome)) ∙ handed.1)
