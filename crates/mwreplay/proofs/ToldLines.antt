-- The line that the code makes for a reply or a claim is the one that `specs/Printed` says.
-- Used by: Player::line_of_reply, Player::line_of_gate.
use Rattle.std.specs.Prelude.{ℕ, ◌≡◌, ◌<◌, ◌==◌, ◌&&◌, Bool, true, if◌then◌else◌, nat_lt, List, [], ◌∷◌, Option, Some, None, Result, Ok, Err, IfOk}
use Rattle.std.specs.Option.{option_map, option_to_list}
use Rattle.std.proofs.Common.{sym, ap, ◌∙◌, append-nil, arith}
use Rattle.std.proofs.lemmas.Bool.Decides.{nat_tests}
use Rattle.std.proofs.lemmas.Option.{same_Some}
use Rattle.mw_words.specs.declared.gates.Gate.{Gate}
use Rattle.mw_words.specs.declared.places.At.TheVariants.{Gate as AtGate}
use Rattle.mw_words.specs.declared.replies.Reply.{Reply}
use Rattle.mw_words.specs.Patterns.{packed_gate, unpacked_gate}
use Rattle.mw_words.proofs.PatternLaws.{gate_round}
use Rattle.mw_actor.specs.ActorState.{ActorState}
use Rattle.mw_actor.specs.Program.{replied}
use Rattle.mw_world.specs.declared.config.Config.{Config}
use Rattle.mw_world.specs.Definition.Events.{WorldEvent, Hand}
use Rattle.mw_world.specs.Definition.State.{State}
use Rattle.mw_simulator.specs.declared.world.World.{World}
use Rattle.mw_simulator.specs.Representation.{Represents}
use Rattle.mwreplay.specs.Printed.{Claimed, Replied, line_of, replies_of, text_of, told_of, won_by}

-- the line of a reply
pub reply_told : (claims : Bool) (config shown : Config) (state : State) (world_event : WorldEvent) (worker tenant : ℕ) (actor : ActorState) (reply : Reply) (line : List ℕ)
    → world_event ≡ Hand worker → (state.worker_states worker).actor ≡ Some actor → Some reply ≡ replied actor → tenant ≡ actor.tenant → shown ≡ config
    → ((number : ℕ) → line ≡ line_of shown (Replied worker tenant number reply)) → line ≡ text_of config (told_of claims config state world_event)
reply_told claims config shown state world_event worker tenant actor reply line hands has stands tenant_is same is =
    let number = (state.worker_states worker).request in
    is number ∙ ap (λ (one : Config). line_of one (Replied worker tenant number reply)) same
    ∙ ap (λ (one : ℕ). line_of config (Replied worker one number reply)) tenant_is
    ∙ sym (append-nil (line_of config (Replied worker actor.tenant number reply)))
    ∙ ap (λ (one : Option Reply). text_of config (option_to_list (option_map (Replied worker actor.tenant number) one))) stands
    ∙ ap (λ (one : Option ActorState). text_of config (replies_of worker number one)) (sym has)
    ∙ ap (λ (one : WorldEvent). text_of config (told_of claims config state one)) (sym hands)

-- the gate has the expected bits, and its sequence number is that of these bits
same_gate : (world : World) (state : State) (slot expected : ℕ) (gate : Gate) → Represents world state → packed_gate (state.cells.gates slot) ≡ expected
    → Some gate ≡ unpacked_gate expected → gate ≡ state.cells.gates slot
same_gate world state slot expected gate shows there is =
    same_Some gate (state.cells.gates slot) (is ∙ ap unpacked_gate (sym there) ∙ gate_round (state.cells.gates slot) (shows.fit (AtGate slot)))

is_won : (pool slot bits expected : ℕ) → slot < pool → bits ≡ expected → (nat_lt slot pool && (bits == expected)) ≡ true
is_won pool slot bits expected low is = grind (arith, nat_tests)

-- the line of a claim that is won
pub claim_told : {A E : Type 0} (items : A → List ℕ) (world : World) (shown : Config) (tenant slot expected : ℕ) (gate : Gate) (result : Result A E)
    → slot < world.config.pool → ((state : State) → Represents world state → packed_gate (state.cells.gates slot) ≡ expected)
    → Some gate ≡ unpacked_gate expected → shown ≡ world.config
    → IfOk result (λ line. items line ≡ line_of shown (Claimed slot gate.seq tenant))
    → IfOk result (λ line. (state : State) → Represents world state → items line ≡ text_of world.config (won_by world.config state.cells tenant (Some (slot, expected))))
claim_told items world shown tenant slot expected gate (Ok line) low there is same told = λ state shows.
    told ∙ ap (λ (one : Config). line_of one (Claimed slot gate.seq tenant)) same
    ∙ ap (λ (one : Gate). line_of world.config (Claimed slot one.seq tenant)) (same_gate world state slot expected gate shows (there state shows) is)
    ∙ sym (append-nil (line_of world.config (Claimed slot (state.cells.gates slot).seq tenant)))
    ∙ ap (λ (b : Bool). text_of world.config (if b then Claimed slot (state.cells.gates slot).seq tenant ∷ [] else []))
    (sym (is_won world.config.pool slot (packed_gate (state.cells.gates slot)) expected low (there state shows)))
claim_told items world shown tenant slot expected gate (Err fault) low there is same told = tt

-- the bits of an existing gate can be read
pub no_gate : (world : World) (state : State) (slot expected : ℕ) → Represents world state → packed_gate (state.cells.gates slot) ≡ expected → None ≡ unpacked_gate expected → ⊥
no_gate world state slot expected shows there none =
    let both : None ≡ Some (state.cells.gates slot) = none ∙ ap unpacked_gate (sym there) ∙ gate_round (state.cells.gates slot) (shows.fit (AtGate slot)) in
    cc
