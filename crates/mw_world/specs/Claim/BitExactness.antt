-- Claims that a world's steps are bit-exact: made on words of 64 bits, they do what the definition says, in every run, also
-- when numbers are used up.
-- Used by: mw_law_runs, mw_rule.
use Rattle.std.specs.Prelude.{ℕ, ◌≡◌, ◌≢◌, ◌⊎◌, ◌+◌, ◌-◌, ◌%◌, ◌^◌, true, List, Some, None}
use Rattle.std.specs.Int.Bits.{bit_or}
use Rattle.mw_words.specs.declared.places.At.{At}
use Rattle.mw_look.specs.declared.steps.Kind.{Kind}
use Rattle.mw_look.specs.declared.steps.Kind.TheVariants.{Unpin as UnpinKind, Drop as DropKind, Fault as FaultKind}
use Rattle.mw_look.specs.Places.{Val, pack}
use Rattle.mw_look.specs.Steps.{Step, Load, Change, File as FileStep, StepFits}
use Rattle.mw_actor.specs.ActorState.{ActorState}
use Rattle.mw_actor.specs.Asks.{asks}
use Rattle.mw_actor.specs.Program.{replied}
use Rattle.mw_world.specs.declared.outcomes.Outcome.{Outcome}
use Rattle.mw_world.specs.declared.config.Config.{Config}
use Rattle.mw_world.specs.Definition.Calls.{Called, called_at, starts_from}
use Rattle.mw_world.specs.Definition.Cells.{Cells, read, AllFit}
use Rattle.mw_look.specs.declared.steps.Shape.{Shape}
use Rattle.mw_look.specs.declared.steps.Shape.TheVariants.{Fetch}
use Rattle.mw_look.specs.Shapes.{shape_of}
use Rattle.mw_world.specs.Definition.Changes.{fetched}
use Rattle.mw_world.specs.Definition.Events.{WorldEvent, Step as StepEvent, File as FileEvent}
use Rattle.mw_world.specs.Definition.State.{State, TenantStart}
use Rattle.mw_world.specs.Definition.Turns.{may_make}
use Rattle.mw_world.specs.Definition.World.{step}
use Rattle.mw_world.specs.Claim.Headline.{IsExecution}

-- What a fetch does to 64 bits: one pin less is subtracted at bit 48, one slot less at bit 0, and the fault is bit
-- 63.
abbrev pub bits_fetched : Kind → ℕ → ℕ
bits_fetched UnpinKind bits = (bits + (2 ^ 64 - 2 ^ 48)) % 2 ^ 64
bits_fetched DropKind bits = (bits + (2 ^ 64 - 1)) % 2 ^ 64
bits_fetched FaultKind bits = bit_or bits (2 ^ 63)
bits_fetched kind bits = bits

-- A fetch of the bits leaves the bits of the fetched value. An exchange and a store write the bits that they have, so
-- nothing is required of them.
abbrev pub IsRightAs : Shape → Kind → (at : At) → Val at → Type 0
IsRightAs Fetch kind at x = pack at (fetched kind at x) ≡ bits_fetched kind (pack at x)
IsRightAs shape kind at x = Unit {0}

-- the same of a request's next step; nothing is required of a load or of a call on a file
abbrev pub IsRightInBits : Step → Cells → Type 0
IsRightInBits (Load at) cells = Unit {0}
IsRightInBits (Change kind at from to) cells = IsRightAs (shape_of kind) kind at (read cells at)
IsRightInBits (FileStep call slot) cells = Unit {0}

-- A request's next step is bit-exact: its place exists, what it expects and writes there is in range, and its bits
-- are right.
pub record StepIsBitExact (config : Config) (state : State) (actor : ActorState) : Type 0 where
  pub there : may_make config (asks actor) ≡ true
  pub fits : StepFits (asks actor)
  pub right : IsRightInBits (asks actor) state.cells

-- A world is bit-exact: the value at each place is in range, and the next step of each request is bit-exact. Requests
-- that have their reply, or have come to a call on their file, are left out.
pub record IsBitExact (config : Config) (state : State) : Type 0 where
  pub fit : AllFit state.cells
  pub steps : (worker : ℕ) (actor : ActorState) → (state.worker_states worker).actor ≡ Some actor → replied actor ≡ None → called_at actor.point ≡ None → StepIsBitExact config state actor

-- The world after every run is bit-exact.
abbrev pub EveryRunIsBitExact : Type 0
EveryRunIsBitExact = (config : Config) (openings : ℕ → TenantStart) (events : List WorldEvent) (state : State) → IsExecution config openings events state → IsBitExact config state

-- A worker makes a step of its request, or a call on the file of its tenant, which isn't this tenant.
abbrev pub IsBeside : ℕ → ℕ → ActorState → WorldEvent → Type 0
IsBeside tenant worker actor event = (event ≡ StepEvent worker) ⊎ ((outcome : Outcome) × (event ≡ FileEvent worker outcome) × (actor.tenant ≢ tenant))

-- A request has come to a call on its file, and its change has the status from which the call starts. A step of
-- another worker doesn't change that status. A call of another worker on another tenant's file doesn't change it
-- either.
abbrev pub CallersStatusStays : Type 0
CallersStatusStays = (config : Config) (openings : ℕ → TenantStart) (events : List WorldEvent) (state next : State) (worker other : ℕ) (actor another : ActorState) (called : Called) (event : WorldEvent)
    → IsExecution config openings events state → (state.worker_states worker).actor ≡ Some actor → called_at actor.point ≡ Some called
    → starts_from called.call (state.cells.statuses called.change.slot) ≡ true → other ≢ worker → (state.worker_states other).actor ≡ Some another
    → IsBeside actor.tenant other another event → step config state event ≡ Some next
    → next.cells.statuses called.change.slot ≡ state.cells.statuses called.change.slot
