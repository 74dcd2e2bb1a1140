-- The replies that a played run prints are those that the run hands out. Used by: PlayerStepLaws, Served.
use Rattle.std.specs.Prelude.{ℕ, ◌≡◌, ◌==◌, ◌&&◌, ◌++◌, Bool, true, false, if◌then◌else◌, List, [], ◌∷◌, Option, Some, None}
use Rattle.std.specs.Option.{option_map, option_to_list, unwrap_or}
use Rattle.std.proofs.Common.{refl, sym, ap, ◌∙◌, append_assoc, append-nil}
use Rattle.std.proofs.lemmas.Option.{same_Some, option_and_then_some}
use Rattle.mw_words.specs.declared.replies.Reply.{Reply}
use Rattle.mw_words.specs.Patterns.{packed_gate}
use Rattle.mw_look.specs.Steps.{op_of}
use Rattle.mw_actor.specs.ActorState.{ActorState}
use Rattle.mw_actor.specs.Asks.{asks}
use Rattle.mw_actor.specs.Program.{replied}
use Rattle.mw_world.specs.declared.config.Config.{Config}
use Rattle.mw_world.specs.Definition.Cells.{Cells}
use Rattle.mw_world.specs.Definition.Extent.{has_slot}
use Rattle.mw_world.specs.Definition.Events.{WorldEvent, Come, Step, File, Hand, Restart}
use Rattle.mw_world.specs.Definition.State.{State}
use Rattle.mw_world.specs.Definition.World.{step, run, outgoing, reply_for, replies_to}
use Rattle.mwreplay.specs.Printed.{PrintedLine, Claimed, Replied, claimed_by, claims_of, replies_among, replies_of, told_from, told_of, won_by}

-- the text of an event that happens, and then of the run after it
told_first : (claims : Bool) (config : Config) (state next : State) (event : WorldEvent) (events : List WorldEvent) → step config state event ≡ Some next
    → told_from claims config state (event ∷ events) ≡ told_of claims config state event ++ told_from claims config next events
told_first claims config state next event events is = ap (λ o. told_of claims config state event ++ unwrap_or (option_map (λ one. told_from claims config one events) o) []) is

-- after the last event nothing is printed
nothing_more : (claims : Bool) (config : Config) (found : Option State) → unwrap_or (option_map (λ one. told_from claims config one []) found) [] ≡ []
nothing_more claims config None = refl
nothing_more claims config (Some next) = refl

pub told_last : (claims : Bool) (config : Config) (state middle : State) (events : List WorldEvent) (event : WorldEvent) → run config state events ≡ Some middle
    → told_from claims config state (events ++ event ∷ []) ≡ told_from claims config state events ++ told_of claims config middle event
told_last claims config state middle [] event runs =
    ap (λ told. told_of claims config state event ++ told) (nothing_more claims config (step config state event)) ∙ append-nil (told_of claims config state event)
    ∙ ap (λ one. told_of claims config one event) (same_Some state middle runs)
told_last claims config state middle (first ∷ events) event runs =
    option_and_then_some (λ one. run config one events) (step config state first) middle runs (λ next at on.
    let told = told_of claims config state first in
    let last = told_of claims config middle event in
    told_first claims config state next first (events ++ event ∷ []) at
    ∙ ap (λ more. told ++ more) (told_last claims config next middle events event on)
    ∙ sym (append_assoc told (told_from claims config next events) last)
    ∙ ap (λ all. all ++ last) (sym (told_first claims config state next first events at)))

replies_among-append : (tenant : ℕ) (xs ys : List PrintedLine) → replies_among tenant (xs ++ ys) ≡ replies_among tenant xs ++ replies_among tenant ys
replies_among-append tenant [] ys = refl
replies_among-append tenant (Claimed slot seq other ∷ xs) ys = replies_among-append tenant xs ys
replies_among-append tenant (Replied worker other number reply ∷ xs) ys =
    let one : ℕ × Reply = (number, reply) in
    elim (other == tenant) as (λ b. (if b then one ∷ replies_among tenant (xs ++ ys) else replies_among tenant (xs ++ ys))
    ≡ (if b then one ∷ replies_among tenant xs else replies_among tenant xs) ++ replies_among tenant ys) [
      | true ↦ ap (λ more. one ∷ more) (replies_among-append tenant xs ys)
      | false ↦ replies_among-append tenant xs ys
    ]

-- a claim is no reply
claimed_if : (tenant slot seq other : ℕ) (b : Bool) → replies_among tenant (if b then Claimed slot seq other ∷ [] else []) ≡ []
claimed_if tenant slot seq other true = refl
claimed_if tenant slot seq other false = refl

no_reply_by : (config : Config) (cells : Cells) (tenant other : ℕ) (gate : Option (ℕ × ℕ)) → replies_among tenant (won_by config cells other gate) ≡ []
no_reply_by config cells tenant other None = refl
no_reply_by config cells tenant other (Some gate) =
    claimed_if tenant gate.0 (cells.gates gate.0).seq other (has_slot config gate.0 && (packed_gate (cells.gates gate.0) == gate.1))

if_either : (tenant : ℕ) (b : Bool) (told : List PrintedLine) → replies_among tenant told ≡ [] → replies_among tenant (if b then told else []) ≡ []
if_either tenant true told none = none
if_either tenant false told none = refl

no_reply_of : (config : Config) (state : State) (tenant : ℕ) (actor : Option ActorState) → replies_among tenant (claims_of config state actor) ≡ []
no_reply_of config state tenant None = refl
no_reply_of config state tenant (Some actor) = no_reply_by config state.cells tenant actor.tenant (claimed_by (op_of (asks actor)))

one_reply : (tenant worker other number : ℕ) (reply : Option Reply) → replies_among tenant (option_to_list (option_map (Replied worker other number) reply))
    ≡ option_to_list (if other == tenant then option_map (λ reply. (number, reply)) reply else None)
one_reply tenant worker other number None =
    elim (other == tenant) as (λ b. let none : Option (ℕ × Reply) = None in [] ≡ option_to_list (if b then none else none)) [ true ↦ refl | false ↦ refl ]
one_reply tenant worker other number (Some reply) =
    let one : ℕ × Reply = (number, reply) in
    elim (other == tenant) as (λ b. let none : Option (ℕ × Reply) = None in (if b then one ∷ [] else []) ≡ option_to_list (if b then Some one else none)) [ true ↦ refl | false ↦ refl ]

handed_out : (state : State) (tenant worker : ℕ) (actor : Option ActorState) → replies_among tenant (replies_of worker (state.worker_states worker).request actor)
    ≡ option_to_list (reply_for state tenant worker actor)
handed_out state tenant worker None = refl
handed_out state tenant worker (Some actor) = one_reply tenant worker actor.tenant (state.worker_states worker).request (replied actor)

-- the printed reply of an event is the one that it hands out
reply_told : (claims : Bool) (config : Config) (tenant : ℕ) (state : State) (event : WorldEvent) → replies_among tenant (told_of claims config state event)
    ≡ option_to_list (outgoing state tenant event)
reply_told claims config tenant state (Come worker other job) = refl
reply_told claims config tenant state (Step worker) =
    if_either tenant claims (claims_of config state (state.worker_states worker).actor) (no_reply_of config state tenant (state.worker_states worker).actor)
reply_told claims config tenant state (File worker outcome) = refl
reply_told claims config tenant state (Hand worker) = handed_out state tenant worker (state.worker_states worker).actor
reply_told claims config tenant state (Restart founds) = refl

-- The printed replies of a run are those that it hands out.
pub replies_told : (claims : Bool) (config : Config) (tenant : ℕ) (state : State) (events : List WorldEvent) → replies_among tenant (told_from claims config state events)
    ≡ replies_to config tenant state events
replies_told claims config tenant state [] = refl
replies_told claims config tenant state (event ∷ events) =
    replies_among-append tenant (told_of claims config state event) (unwrap_or (option_map (λ next. told_from claims config next events) (step config state event)) [])
    ∙ ap (λ said. said ++ replies_among tenant (unwrap_or (option_map (λ next. told_from claims config next events) (step config state event)) [])) (reply_told claims config tenant state event)
    ∙ ap (λ more. option_to_list (outgoing state tenant event) ++ more) (after (step config state event) (λ next. replies_told claims config tenant next events))
  where
    after : (found : Option State) → ((next : State) → replies_among tenant (told_from claims config next events) ≡ replies_to config tenant next events)
        → replies_among tenant (unwrap_or (option_map (λ next. told_from claims config next events) found) []) ≡ unwrap_or (option_map (λ next. replies_to config tenant next events) found) []
    after None are = refl
    after (Some next) are = are next
