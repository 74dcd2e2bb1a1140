-- The event of a run that hands out a reply. No reply is handed out before its request comes.
-- Used by: AnswerMomentLaws, SameReplies.
use Rattle.std.specs.Prelude.{ℕ, zero, suc, ◌≡◌, ◌⊎◌, ◌++◌, List, [], ◌∷◌, slice_get, Option, Some, None}
use Rattle.std.specs.Option.{option_and_then, option_map, option_to_list, unwrap_or}
use Rattle.std.proofs.Common.{refl, sym, ap, ◌∙◌, inl, inr, arith}
use Rattle.std.proofs.lemmas.Option.{none-some, option_and_then_some, same_Some}
use Rattle.mw_words.specs.declared.replies.Reply.{Reply}
use Rattle.mw_world.specs.declared.config.Config.{Config}
use Rattle.mw_world.specs.Claim.Headline.{IsExecution}
use Rattle.mw_world.specs.Definition.Events.{WorldEvent}
use Rattle.mw_world.specs.Definition.State.{State, TenantStart, world_at}
use Rattle.mw_world.specs.Definition.World.{outgoing, replies_to, run, step}
use Rattle.mw_rule.specs.RunBehind.{arrivals}
use Rattle.mw_rule.proofs.ArrivalNumbers.{arrivals_more, asked_in_run}
use Rattle.mw_law_threads.proofs.History.OwnHandOuts.{hand_of, has_request, number_is_given}

-- One of these events hands out this reply, under this number.
pub record HandsOutIn (config : Config) (tenant : ℕ) (start : State) (events : List WorldEvent) (said : ℕ × Reply) : Type 0 where
  pub first : List WorldEvent
  pub event : WorldEvent
  pub rest : List WorldEvent
  pub moment : State
  pub parted : events ≡ first ++ event ∷ rest
  pub reached : run config start first ≡ Some moment
  pub hands : outgoing moment tenant event ≡ Some said

run_first : (config : Config) (state next last : State) (event : WorldEvent) (events : List WorldEvent) → step config state event ≡ Some next → run config next events ≡ Some last
    → run config state (event ∷ events) ≡ Some last
run_first config state next last event events is runs = ap (option_and_then (λ one. run config one events)) is ∙ runs

-- the replies of a run are those of its first event and those of the rest
pub replies_first : (config : Config) (tenant : ℕ) (state next : State) (event : WorldEvent) (events : List WorldEvent) → step config state event ≡ Some next
    → replies_to config tenant state (event ∷ events) ≡ option_to_list (outgoing state tenant event) ++ replies_to config tenant next events
replies_first config tenant state next event events is = ap (λ o. option_to_list (outgoing state tenant event) ++ unwrap_or (option_map (λ one. replies_to config tenant one events) o) []) is

-- what is in a list after at most one other is that one, or in the list
at_first : {A : Type 0} (one : Option A) (all : List A) (index : ℕ) (it : A) → slice_get (option_to_list one ++ all) index ≡ Some it → (one ≡ Some it) ⊎ ((place : ℕ) × (slice_get all place ≡ Some it))
at_first None all index it at = inr (index, at)
at_first (Some one) all zero it at = inl at
at_first (Some one) all (suc index) it at = inr (index, at)

module _ (config : Config) (tenant : ℕ) (said : ℕ × Reply) where
  abbrev In : State → List WorldEvent → Type 0
  In start events = HandsOutIn config tenant start events said

  here : (start : State) (event : WorldEvent) (events : List WorldEvent) → outgoing start tenant event ≡ Some said → In start (event ∷ events)
  here start event events hands = record { first = []; event = event; rest = events; moment = start; parted = refl; reached = refl; hands = hands }

  there : (start next : State) (event : WorldEvent) (events : List WorldEvent) → step config start event ≡ Some next → In next events → In start (event ∷ events)
  there start next event events at in_rest = record {
    first = event ∷ in_rest.first;
    event = in_rest.event;
    rest = in_rest.rest;
    moment = in_rest.moment;
    parted = ap (λ (more : List WorldEvent). event ∷ more) in_rest.parted;
    reached = run_first config start next in_rest.moment event in_rest.first at in_rest.reached;
    hands = in_rest.hands;
  }

  -- each reply of a run is handed out by one of its events
  pub in_run : (events : List WorldEvent) (start last : State) (index : ℕ) → run config start events ≡ Some last → slice_get (replies_to config tenant start events) index ≡ Some said → In start events
  in_run [] start last index runs at = absurd (none-some said at)
  in_run (event ∷ events) start last index runs at =
      option_and_then_some (λ one. run config one events) (step config start event) last runs (λ next makes on.
      elim (at_first (outgoing start tenant event) (replies_to config tenant next events) index said
      (ap (λ (all : List (ℕ × Reply)). slice_get all index) (sym (replies_first config tenant start next event events makes)) ∙ at)) [
        | inl hands ↦ here start event events hands
        | inr later ↦ there start next event events makes (in_run events next last later.0 on later.1)
      ])

  -- each reply of a run in two parts is one of the first part or one of the second
  pub in_parts : (first rest : List WorldEvent) (start between : State) (index : ℕ) → run config start first ≡ Some between → slice_get (replies_to config tenant start (first ++ rest)) index ≡ Some said
      → In start first ⊎ ((place : ℕ) × (slice_get (replies_to config tenant between rest) place ≡ Some said))
  in_parts [] rest start between index runs at = inr (index, ap (λ (one : State). slice_get (replies_to config tenant one rest) index) (sym (same_Some start between runs)) ∙ at)
  in_parts (event ∷ first) rest start between index runs at =
      option_and_then_some (λ one. run config one first) (step config start event) between runs (λ next makes on.
      elim (at_first (outgoing start tenant event) (replies_to config tenant next (first ++ rest)) index said
      (ap (λ (all : List (ℕ × Reply)). slice_get all index) (sym (replies_first config tenant start next event (first ++ rest) makes)) ∙ at)) [
        | inl hands ↦ inl (here start event first hands)
        | inr later ↦ elim (in_parts first rest next between later.0 on later.1) [
          | inl earlier ↦ inl (there start next event first makes earlier)
          | inr second ↦ inr second
        ]
      ])

-- No reply is handed out under a number that the tenant's requests have not reached.
pub none_before : (config : Config) (openings : ℕ → TenantStart) (events : List WorldEvent) (state : State) (tenant : ℕ) (reply : Reply) → IsExecution config openings events state
    → HandsOutIn config tenant (world_at config openings) events ((state.tenant_states tenant).asked, reply) → ⊥
none_before config openings events state tenant reply played hands =
    let then_played : IsExecution config openings hands.first hands.moment = record { made = played.made; starts = played.starts; runs = hands.reached } in
    let by = hand_of hands.moment tenant hands.event ((state.tenant_states tenant).asked, reply) hands.hands in
    let has = has_request hands.moment tenant (state.tenant_states tenant).asked by.0 reply (ap (outgoing hands.moment tenant) (sym by.1) ∙ hands.hands) in
    let given = number_is_given config openings hands.first hands.moment by.0 has.actor then_played has.sits in
    let number = has.number in
    let asked = ap (λ (t : ℕ). (hands.moment.tenant_states t).asked) has.its in
    let now = asked_in_run config openings events state tenant played in
    let then_asked = asked_in_run config openings hands.first hands.moment tenant then_played in
    let split = arrivals_more tenant hands.first (hands.event ∷ hands.rest) in
    let same = ap (arrivals tenant) hands.parted in
    absurd (omega (arith, given, number, asked, now, then_asked, split, same))
