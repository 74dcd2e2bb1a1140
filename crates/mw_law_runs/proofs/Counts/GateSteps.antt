-- The steps that change a gate or a door, and the one that leaves a pin behind, keep the invariant of counts (`CountsStand`).
-- Used by: BitExactness, Callers, ReadSteps, among others.
use Rattle.std.specs.Prelude.{ℕ, ◌≡◌, ◌<◌, ◌≤◌, ◌+◌, ◌-◌, ◌==◌, ◌&&◌, Bool, true, false, cond, if◌then◌else◌, nat_lt, Some}
use Rattle.std.proofs.Common.{refl, ap, subst, arith}
use Rattle.std.proofs.lemmas.Bool.Decides.{nat_tests}
use Rattle.mw_words.specs.declared.doors.Door.{Door}
use Rattle.mw_words.specs.declared.gates.Gate.{Gate}
use Rattle.mw_words.specs.declared.places.At.TheVariants.{Door as AtDoor, Gate as AtGate}
use Rattle.mw_words.specs.declared.replies.Reply.{Reply}
use Rattle.mw_words.specs.declared.replies.Reply.TheVariants.{Fault as SaysFault}
use Rattle.mw_words.specs.Patterns.{packed_door, packed_gate}
use Rattle.mw_pool.specs.Moves.{Admits, after_unpin}
use Rattle.mw_look.specs.declared.observations.Observation.{Observation}
use Rattle.mw_look.specs.declared.observations.Observation.TheVariants.{SawDoor, SawGate, SawStatus, Won, Lost}
use Rattle.mw_look.specs.Program.{freed as freed_gate}
use Rattle.mw_look.proofs.RangeLaws.{either_way}
use Rattle.mw_look.specs.Runs.{if_same}
use Rattle.mw_actor.specs.declared.points.After.{After}
use Rattle.mw_actor.specs.declared.points.Slot.{Slot}
use Rattle.mw_actor.specs.declared.points.Task.{Task}
use Rattle.mw_actor.specs.declared.points.Point.{Point}
use Rattle.mw_actor.specs.declared.points.Point.TheVariants.{Admit, Claim, PinOther, Unpin, FreeSlot, LowerDoor, GiveUp, Replied}
use Rattle.mw_actor.specs.ActorState.{ActorState}
use Rattle.mw_actor.specs.Balance.{pins_after, task_pins}
use Rattle.mw_actor.specs.Program.{goes}
use Rattle.mw_world.specs.declared.config.Config.{Config}
use Rattle.mw_world.specs.Definition.Cells.{Cells, write}
use Rattle.mw_world.specs.Definition.Counts.{pins_held, frees_at, waits_at, waits_for}
use Rattle.mw_world.specs.Definition.History.{History}
use Rattle.mw_world.specs.Maps.{upd_two}
use Rattle.mw_world.specs.Definition.StepLabels.{give_up_label}
use Rattle.mw_world.specs.Definition.LabelEffects.{with_label}
use Rattle.mw_world.specs.Definition.State.{State, tenant_at}
use Rattle.mw_world.specs.Definition.Turns.{made_of, turned, next_attempt}
use Rattle.mw_law_runs.specs.Counts.CountInvariant.{CountsStand, CountsRestOn}
use Rattle.mw_law_runs.proofs.Counts.Effects.{admits, lowers, claims, pins, unpins, frees, leaves, quiet, upd_here, upd_else}
use Rattle.mw_law_runs.proofs.Counts.Points.{change_goes}
use Rattle.mw_law_runs.proofs.Counts.QuietSteps.{goes_on, after_step}
use Rattle.mw_law_runs.specs.Counts.Sides.{left_pin, idle}
use Rattle.mw_law_runs.proofs.Counts.Sums.{over_at, of_actor}

at_most_one : (b : Bool) → (if b then 1 else 0) ≤ 1
at_most_one true = omega arith
at_most_one false = omega arith

of_same : (tenant waits : ℕ) → (if tenant == tenant then waits else 0) ≡ waits
of_same tenant waits = grind (arith, nat_tests)

pub below : (n limit : ℕ) → nat_lt n limit ≡ true → n < limit
below n limit is = grind (arith, nat_tests, is)

pub same_numbers : (n m : ℕ) → (n == m) ≡ true → n ≡ m
same_numbers n m is = grind (arith, nat_tests, is)

pub same_once : (slot : ℕ) → if_same slot slot ≡ 1
same_once slot = grind (arith, nat_tests)

-- what is known of pins that were left behind, after a request gave up
gave : (own : Slot) (after : Point) (worker : ℕ) (by : ActorState) (request : ℕ) (past : History)
    → ((with_label (give_up_label own after) worker by request past).stays ≡ upd_two past.stays own.slot own.seq true) × ((with_label (give_up_label own after) worker by request past).tenant ≡ past.tenant)
gave own (Replied SaysFault) worker by request past = (refl, refl)
gave own after worker by request past = (refl, refl)

module _ (config : Config) (state : State) (worker : ℕ) (stand : CountsStand config state) (rest : CountsRestOn state) where
  -- a worker's pin of a slot is one of the gate's, and another one than the pin that was left behind
  pub has_pin : (actor : ActorState) (slot : ℕ) → (state.worker_states worker).actor ≡ Some actor → 1 ≤ pins_held slot actor.point → left_pin state slot + 1 ≤ (state.cells.gates slot).pins
  has_pin actor slot is some =
      omega (arith, some, stand.counts.pins slot, over_at (λ a. pins_held slot a.point) state.worker_states worker config.workers (stand.worker_states worker actor is).there, of_actor (λ a. pins_held slot a.point) (state.worker_states worker) actor is)

  -- a slot that will be freed is taken and has no pin
  pub is_idle : (actor : ActorState) (slot : ℕ) → (state.worker_states worker).actor ≡ Some actor → 1 ≤ frees_at slot actor.point → idle state slot ≡ 1
  is_idle actor slot is some =
      omega (
        arith,
        some,
        stand.counts.frees slot,
        at_most_one ((state.cells.gates slot).taken && ((state.cells.gates slot).pins == 0)),
        over_at (λ a. frees_at slot a.point) state.worker_states worker config.workers (stand.worker_states worker actor is).there,
        of_actor (λ a. frees_at slot a.point) (state.worker_states worker) actor is,
      )

  -- the door counts a request that waits
  pub has_waited : (actor : ActorState) → (state.worker_states worker).actor ≡ Some actor → 1 ≤ waits_at actor.point → 1 ≤ (state.cells.doors actor.tenant).used
  has_waited actor is some =
      omega (
        arith,
        some,
        stand.counts.doors actor.tenant (stand.worker_states worker actor is).tenant,
        of_same actor.tenant (waits_at actor.point),
        over_at (waits_for actor.tenant) state.worker_states worker config.workers (stand.worker_states worker actor is).there,
        of_actor (waits_for actor.tenant) (state.worker_states worker) actor is,
      )

  -- the number of the next attempt, after this step
  abbrev number : Point → ℕ
  number point = next_attempt point (state.worker_states worker).attempt

  pub admit : (actor : ActorState) (from to : Door) → let a = record actor { point = Admit from to } in
      (state.worker_states worker).actor ≡ Some a → CountsStand config (turned state worker a)
  admit actor from to is =
      let a : ActorState = record actor { point = Admit from to } in
      let won : State = after_step state worker a (write state.cells (AtDoor actor.tenant) to) Won in
      let lost : State = after_step state worker a state.cells Lost in
      either_way (CountsStand config) (packed_door (state.cells.doors actor.tenant) == packed_door from) won lost
      (λ same.
      let found : state.cells.doors actor.tenant ≡ from = rest.exact worker a is (same_numbers (packed_door (state.cells.doors actor.tenant)) (packed_door from) same) in
      let allowed : Admits (state.tenant_states actor.tenant).quota from to = subst (λ q. Admits q from to) (stand.quotas worker a is) (stand.ready worker a is) in
      goes_on config state worker a (made_of state worker a (write state.cells (AtDoor actor.tenant) to) Won) (λ slot. 0) (λ slot. 0) 1 stand (stand.worker_states worker a is).there is
      (change_goes a (number (Admit from to)) (Admit from to) Won (stand.ready worker a is))
      (admits config state won stand actor.tenant from to found allowed (λ slot. refl) (upd_here state.cells.doors actor.tenant to)
      (λ tenant apart. upd_else state.cells.doors actor.tenant tenant to apart) (λ slot seq. refl) (λ slot seq. refl)))
      (λ other.
      goes_on config state worker a (made_of state worker a state.cells Lost) (λ slot. 0) (λ slot. 0) 0 stand (stand.worker_states worker a is).there is
      (change_goes a (number (Admit from to)) (Admit from to) Lost (stand.ready worker a is))
      (quiet config state lost stand actor.tenant (λ slot. 0) (λ slot. 0) 0 (λ slot. refl) (λ tenant. refl) (λ slot seq. refl) (λ slot seq. refl)))

  pub claim : (actor : ActorState) (slot : ℕ) (saw_worn : Bool) (from to : Gate) → let a = record actor { point = Claim slot saw_worn from to } in
      (state.worker_states worker).actor ≡ Some a → slot < config.pool → CountsStand config (turned state worker a)
  claim actor slot saw_worn from to is there =
      let a : ActorState = record actor { point = Claim slot saw_worn from to } in
      let won : State = after_step state worker a (write state.cells (AtGate slot) to) Won in
      let lost : State = after_step state worker a state.cells Lost in
      either_way (CountsStand config) (packed_gate (state.cells.gates slot) == packed_gate from) won lost
      (λ same.
      let found : state.cells.gates slot ≡ from = rest.exact worker a is (same_numbers (packed_gate (state.cells.gates slot)) (packed_gate from) same) in
      goes_on config state worker a (made_of state worker a (write state.cells (AtGate slot) to) Won) (λ k. if_same slot k) (λ k. 0) 0 stand (stand.worker_states worker a is).there is
      (change_goes a (number (Claim slot saw_worn from to)) (Claim slot saw_worn from to) Won (stand.ready worker a is))
      (claims config state won stand actor.tenant slot there (λ tenant. refl) (λ k apart. upd_else state.cells.gates slot k to apart)
      from to (stand.worker_states worker a is).tenant found (stand.ready worker a is) (upd_here state.cells.gates slot to) (λ k seq. refl) refl))
      (λ other.
      goes_on config state worker a (made_of state worker a state.cells Lost) (λ k. 0) (λ k. 0) 1 stand (stand.worker_states worker a is).there is
      (change_goes a (number (Claim slot saw_worn from to)) (Claim slot saw_worn from to) Lost (stand.ready worker a is))
      (quiet config state lost stand actor.tenant (λ k. 0) (λ k. 0) 1 (λ k. refl) (λ tenant. refl) (λ k seq. refl) (λ k seq. refl)))

  pub pin : (actor : ActorState) (task : Task) (other : Slot) (from to : Gate) → let a = record actor { point = PinOther task other from to } in
      (state.worker_states worker).actor ≡ Some a → other.slot < config.pool → CountsStand config (turned state worker a)
  pin actor task other from to is there =
      let a : ActorState = record actor { point = PinOther task other from to } in
      let won : State = after_step state worker a (write state.cells (AtGate other.slot) to) Won in
      let lost : State = after_step state worker a state.cells Lost in
      either_way (CountsStand config) (packed_gate (state.cells.gates other.slot) == packed_gate from) won lost
      (λ same.
      let found : state.cells.gates other.slot ≡ from = rest.exact worker a is (same_numbers (packed_gate (state.cells.gates other.slot)) (packed_gate from) same) in
      goes_on config state worker a (made_of state worker a (write state.cells (AtGate other.slot) to) Won) (λ k. if_same other.slot k + task_pins k task) (λ k. 0) 0 stand (stand.worker_states worker a is).there is
      (change_goes a (number (PinOther task other from to)) (PinOther task other from to) Won (stand.ready worker a is))
      (pins config state won stand actor.tenant other.slot there (λ tenant. refl) (λ k apart. upd_else state.cells.gates other.slot k to apart)
      other.seq from to (λ k. task_pins k task) (λ k. if_same other.slot k + task_pins k task) (λ k. 0) 0
      found (stand.ready worker a is).1 (upd_here state.cells.gates other.slot to) (λ k. refl) (λ k seq. refl) (λ k seq. refl)))
      (λ apart.
      goes_on config state worker a (made_of state worker a state.cells Lost) (λ k. task_pins k task) (λ k. 0) 0 stand (stand.worker_states worker a is).there is
      (change_goes a (number (PinOther task other from to)) (PinOther task other from to) Lost (stand.ready worker a is))
      (quiet config state lost stand actor.tenant (λ k. task_pins k task) (λ k. 0) 0 (λ k. refl) (λ tenant. refl) (λ k seq. refl) (λ k seq. refl)))

  pub unpin : (actor : ActorState) (given : Slot) (onward : After) → let a = record actor { point = Unpin given onward } in
      (state.worker_states worker).actor ≡ Some a → given.slot < config.pool → CountsStand config (turned state worker a)
  unpin actor given onward is there =
      let a : ActorState = record actor { point = Unpin given onward } in
      let gate : Gate = state.cells.gates given.slot in
      let cells : Cells = write state.cells (AtGate given.slot) (after_unpin gate) in
      goes_on config state worker a (made_of state worker a cells (SawGate gate)) (λ k. pins_after k onward) (λ k. cond (gate.pins == 1) (if_same given.slot k) 0) 0 stand (stand.worker_states worker a is).there is
      (change_goes a (number (Unpin given onward)) (Unpin given onward) (SawGate gate) tt)
      (unpins config state (after_step state worker a cells (SawGate gate)) stand actor.tenant given.slot there (λ tenant. refl) (λ k apart. upd_else state.cells.gates given.slot k (after_unpin gate) apart)
      (λ k. if_same given.slot k + pins_after k onward) (λ k. pins_after k onward)
      (has_pin a given.slot is (omega (arith, same_once given.slot))) (upd_here state.cells.gates given.slot (after_unpin gate)) (λ k. refl) (λ k seq. refl) (λ k seq. refl))

  pub free : (actor : ActorState) (given : Slot) (onward : After) → let a = record actor { point = FreeSlot given onward } in
      (state.worker_states worker).actor ≡ Some a → given.slot < config.pool → CountsStand config (turned state worker a)
  free actor given onward is there =
      let a : ActorState = record actor { point = FreeSlot given onward } in
      let cells : Cells = write state.cells (AtGate given.slot) (freed_gate given.seq) in
      goes_on config state worker a (made_of state worker a cells Won) (λ k. pins_after k onward) (λ k. 0) 1 stand (stand.worker_states worker a is).there is
      (change_goes a (number (FreeSlot given onward)) (FreeSlot given onward) Won tt)
      (frees config state (after_step state worker a cells Won) stand actor.tenant given.slot there (λ tenant. refl) (λ k apart. upd_else state.cells.gates given.slot k (freed_gate given.seq) apart)
      given.seq (λ k. pins_after k onward) (λ k. if_same given.slot k)
      (is_idle a given.slot is (omega (arith, same_once given.slot))) (rest.freed worker given.slot a is (same_once given.slot)) (upd_here state.cells.gates given.slot (freed_gate given.seq))
      (λ k. refl) (λ k seq. refl) (λ k seq. refl))

  pub lower : (actor : ActorState) (onward : After) → let a = record actor { point = LowerDoor onward } in
      (state.worker_states worker).actor ≡ Some a → CountsStand config (turned state worker a)
  lower actor onward is =
      let a : ActorState = record actor { point = LowerDoor onward } in
      let door : Door = state.cells.doors actor.tenant in
      let to : Door = record door { used = door.used - 1 } in
      let cells : Cells = write state.cells (AtDoor actor.tenant) to in
      goes_on config state worker a (made_of state worker a cells (SawDoor door)) (λ k. pins_after k onward) (λ k. 0) 0 stand (stand.worker_states worker a is).there is
      (change_goes a (number (LowerDoor onward)) (LowerDoor onward) (SawDoor door) tt)
      (lowers config state (after_step state worker a cells (SawDoor door)) stand actor.tenant (λ k. pins_after k onward)
      (has_waited a is (omega arith)) (λ k. refl) (ap (λ d. d.used) (upd_here state.cells.doors actor.tenant to)) (λ tenant apart. upd_else state.cells.doors actor.tenant tenant to apart) (λ k seq. refl) (λ k seq. refl))

  pub leave : (actor : ActorState) (own : Slot) (undecided : Reply) → let a = record actor { point = GiveUp own undecided } in
      (state.worker_states worker).actor ≡ Some a → own.slot < config.pool → CountsStand config (turned state worker a)
  leave actor own undecided is there =
      let a : ActorState = record actor { point = GiveUp own undecided } in
      let observation : Observation = SawStatus (state.cells.statuses own.slot) in
      let labeled_so = gave own (goes a (number (GiveUp own undecided)) (GiveUp own undecided) observation) worker a (state.worker_states worker).request state.history in
      goes_on config state worker a (made_of state worker a state.cells observation) (λ k. 0) (λ k. 0) 0 stand (stand.worker_states worker a is).there is
      (change_goes a (number (GiveUp own undecided)) (GiveUp own undecided) observation tt)
      (leaves config state (after_step state worker a state.cells observation) stand actor.tenant own.slot there (λ tenant. refl) (λ k apart. refl)
      own.seq refl (omega (arith, has_pin a own.slot is (omega (arith, same_once own.slot)))) (rest.gives_up worker a own undecided is refl).number (rest.gives_up worker a own undecided is refl).stays_not
      labeled_so.0 (λ k seq. ap (λ f. f k seq) labeled_so.1))
