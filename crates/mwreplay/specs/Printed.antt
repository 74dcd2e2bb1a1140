-- Defines what a run of a simulated world prints, in the order of its events: a line for each reply that is handed out. If
-- claims are printed, there is one for each claim (allocation of a slot) that is won.
-- Used by: src/lines.rt, src/player.rt.
use Rattle.std.specs.Prelude.{ℕ, ◌==◌, ◌&&◌, ◌++◌, Bool, true, false, if◌then◌else◌, List, [], ◌∷◌, codes, decimal, Option, Some, None}
use Rattle.std.specs.List.{flat_map}
use Rattle.std.specs.Option.{option_map, option_to_list, unwrap_or}
use Rattle.mw_words.specs.declared.places.At.{At}
use Rattle.mw_words.specs.declared.places.At.TheVariants.{Door as AtDoor, Gate as AtGate, Row as AtRow, Data, Status as AtStatus, Count, Addr, Expected, New}
use Rattle.mw_words.specs.declared.replies.Reply.{Reply}
use Rattle.mw_words.specs.Patterns.{packed_gate}
use Rattle.mw_line.specs.declared.replies.Say.TheVariants.{Store}
use Rattle.mw_line.specs.Replies.{text_of as text_said}
use Rattle.mw_look.specs.declared.steps.Kind.{Kind}
use Rattle.mw_look.specs.declared.steps.Kind.TheVariants as kind
use Rattle.mw_look.specs.declared.steps.Op.{Op}
use Rattle.mw_look.specs.declared.steps.Op.TheVariants.{Load, Change, File as FileCall}
use Rattle.mw_look.specs.Steps.{op_of}
use Rattle.mw_actor.specs.ActorState.{ActorState}
use Rattle.mw_actor.specs.Asks.{asks}
use Rattle.mw_actor.specs.Program.{replied}
use Rattle.mw_world.specs.declared.config.Config.{Config}
use Rattle.mw_world.specs.Definition.Cells.{Cells}
use Rattle.mw_world.specs.Definition.Extent.{has_slot}
use Rattle.mw_world.specs.Definition.Events.{WorldEvent, Come, Step, File, Hand, Restart}
use Rattle.mw_world.specs.Definition.State.{State, new_world, tenant_at}
use Rattle.mw_world.specs.Definition.World.{step}

-- What a line says: a change of this tenant claimed a slot under this sequence number; or a worker handed out this
-- reply to the tenant's request with this number.
pub data PrintedLine : Type 0 where
  Claimed : (slot seq tenant : ℕ) → PrintedLine
  Replied : (worker tenant number : ℕ) (reply : Reply) → PrintedLine

-- a tenant's name
abbrev pub name_of : Config → ℕ → List ℕ
name_of config tenant = (tenant_at config tenant).name.items

-- A line is `claim SLOT SEQ NAME`, or `W NAME REPLY` with the reply as a client gets it. The request's number isn't
-- printed.
abbrev pub line_of : Config → PrintedLine → List ℕ
line_of config (Claimed slot seq tenant) = codes "claim " ++ decimal slot ++ codes " " ++ decimal seq ++ codes " " ++ name_of config tenant ++ codes "\n"
line_of config (Replied worker tenant number reply) = decimal worker ++ codes " " ++ name_of config tenant ++ codes " " ++ text_said (Store reply)

-- the lines, one after the other
abbrev pub text_of : Config → List PrintedLine → List ℕ
text_of config told = flat_map (line_of config) told

-- the reply that a worker's request hands out, with the request's number
abbrev pub replies_of : ℕ → ℕ → Option ActorState → List PrintedLine
replies_of worker number None = []
replies_of worker number (Some actor) = option_to_list (option_map (Replied worker actor.tenant number) (replied actor))

-- the step is an exchange that claims a slot
abbrev pub claims_slot : Kind → Bool
claims_slot kind.Claim = true
claims_slot kind.Admit = false
claims_slot kind.Fill = false
claims_slot kind.Pin = false
claims_slot kind.Unpin = false
claims_slot kind.Free = false
claims_slot kind.Drop = false
claims_slot kind.Row = false
claims_slot kind.Plant = false
claims_slot kind.Resolve = false
claims_slot kind.DecideYes = false
claims_slot kind.DecideNo = false
claims_slot kind.Release = false
claims_slot kind.Ready = false
claims_slot kind.Seal = false
claims_slot kind.Settle = false
claims_slot kind.Cancel = false
claims_slot kind.Clean = false
claims_slot kind.Fault = false

-- the gate at a place, with the bits that an exchange expects there
abbrev pub gate_at : At → ℕ → Option (ℕ × ℕ)
gate_at (AtGate slot) expected = Some (slot, expected)
gate_at (AtDoor tenant) expected = None
gate_at (AtRow worker) expected = None
gate_at (Data tenant address) expected = None
gate_at (AtStatus slot) expected = None
gate_at (Count slot) expected = None
gate_at (Addr slot entry) expected = None
gate_at (Expected slot entry) expected = None
gate_at (New slot entry) expected = None

-- the slot that a step claims, with the bits that it expects in the gate
abbrev pub claimed_by : Op → Option (ℕ × ℕ)
claimed_by (Change kind at expected left) = if claims_slot kind then gate_at at expected else None
claimed_by (Load at) = None
claimed_by (FileCall call slot) = None

-- The claim is won for a tenant if the slot exists and its gate has the expected bits. Its sequence number is the
-- gate's.
abbrev pub won_by : Config → Cells → ℕ → Option (ℕ × ℕ) → List PrintedLine
won_by config cells tenant None = []
won_by config cells tenant (Some gate) =
    if has_slot config gate.0 && (packed_gate (cells.gates gate.0) == gate.1) then Claimed gate.0 (cells.gates gate.0).seq tenant ∷ [] else []

-- the claim that the next step of a worker's request wins, if any
abbrev pub claims_of : Config → State → Option ActorState → List PrintedLine
claims_of config state None = []
claims_of config state (Some actor) = won_by config state.cells actor.tenant (claimed_by (op_of (asks actor)))

-- what an event prints, with the claims or without
abbrev pub told_of : Bool → Config → State → WorldEvent → List PrintedLine
told_of claims config state (Come worker tenant job) = []
told_of claims config state (Step worker) = if claims then claims_of config state (state.worker_states worker).actor else []
told_of claims config state (File worker outcome) = []
told_of claims config state (Hand worker) = replies_of worker (state.worker_states worker).request (state.worker_states worker).actor
told_of claims config state (Restart founds) = []

-- what a list of events prints, in order
abbrev pub told_from : Bool → Config → State → List WorldEvent → List PrintedLine
told_from claims config state [] = []
told_from claims config state (event ∷ events) =
    told_of claims config state event ++ unwrap_or (option_map (λ next. told_from claims config next events) (step config state event)) []

-- what a run of a new world prints
abbrev pub told_in : Bool → Config → List WorldEvent → List PrintedLine
told_in claims config happened = told_from claims config (new_world config) happened

-- the printed replies to this tenant, each with its request's number
abbrev pub replies_among : ℕ → List PrintedLine → List (ℕ × Reply)
replies_among tenant [] = []
replies_among tenant (Claimed slot seq other ∷ told) = replies_among tenant told
replies_among tenant (Replied worker other number reply ∷ told) = if other == tenant then (number, reply) ∷ replies_among tenant told else replies_among tenant told
