-- The steps of a read that change a gate or a door keep the invariant of counts (`CountsStand`). Used by: StepsKeepCounts.
use Rattle.std.specs.Prelude.{ℕ, ◌≡◌, ◌<◌, ◌-◌, ◌==◌, cond, Some}
use Rattle.std.proofs.Common.{refl, ap, subst, ◌∙◌, arith}
use Rattle.mw_words.specs.declared.doors.Door.{Door}
use Rattle.mw_words.specs.declared.gates.Gate.{Gate}
use Rattle.mw_words.specs.declared.places.At.TheVariants.{Door as AtDoor, Gate as AtGate}
use Rattle.mw_words.specs.Patterns.{packed_gate}
use Rattle.mw_pool.specs.Moves.{after_unpin}
use Rattle.mw_look.specs.declared.observations.Observation.TheVariants.{SawDoor, SawGate, Won, Lost}
use Rattle.mw_look.specs.declared.points.After.{After}
use Rattle.mw_look.specs.declared.points.Trail.{Trail}
use Rattle.mw_look.specs.declared.points.Point.{Point as ReadPoint}
use Rattle.mw_look.specs.declared.points.Point.TheVariants.{Pin, Unpin, FreeSlot, LowerDoor}
use Rattle.mw_look.specs.Program.{Reading, freed as freed_gate, slot_of, seq_of}
use Rattle.mw_look.proofs.RangeLaws.{either_way}
use Rattle.mw_look.specs.Runs.{if_same}
use Rattle.mw_actor.specs.declared.points.Point.TheVariants.{Read}
use Rattle.mw_actor.specs.ActorState.{ActorState}
use Rattle.mw_world.specs.declared.config.Config.{Config}
use Rattle.mw_world.specs.Definition.Cells.{Cells, write}
use Rattle.mw_world.specs.Maps.{upd}
use Rattle.mw_world.specs.Definition.State.{State}
use Rattle.mw_world.specs.Definition.Turns.{made_of, turned}
use Rattle.mw_law_runs.specs.Counts.CountInvariant.{CountsStand, CountsRestOn}
use Rattle.mw_law_runs.proofs.Counts.Effects.{lowers, pins, unpins, frees, quiet, upd_here, upd_else}
use Rattle.mw_law_runs.proofs.Counts.Points.{read_goes}
use Rattle.mw_law_runs.proofs.Counts.GateSteps.{same_numbers, same_once, has_pin, is_idle, has_waited}
use Rattle.mw_law_runs.proofs.Counts.QuietSteps.{goes_on, after_step}

module _ (config : Config) (state : State) (worker : ℕ) (stand : CountsStand config state) (rest : CountsRestOn state) where
  -- a read at a point
  abbrev pub at_point : ActorState → Reading → ReadPoint → ActorState
  at_point actor look point = record actor { point = Read (record look { point = point }) }

  -- the number of the next attempt, which a read doesn't change
  abbrev number : ℕ
  number = (state.worker_states worker).attempt

  pub pin : (actor : ActorState) (look : Reading) (trail : Trail) (from to : Gate) → let a = at_point actor look (Pin trail from to) in
      (state.worker_states worker).actor ≡ Some a → slot_of trail < config.pool → CountsStand config (turned state worker a)
  pin actor look trail from to is there =
      let a : ActorState = at_point actor look (Pin trail from to) in
      let slot : ℕ = slot_of trail in
      let won : State = after_step state worker a (write state.cells (AtGate (slot_of trail)) to) Won in
      let lost : State = after_step state worker a state.cells Lost in
      either_way (CountsStand config) (packed_gate (state.cells.gates (slot_of trail)) == packed_gate from) won lost
      (λ same.
      let found : state.cells.gates (slot_of trail) ≡ from = rest.exact worker a is (same_numbers (packed_gate (state.cells.gates (slot_of trail))) (packed_gate from) same) in
      goes_on config state worker a (made_of state worker a (write state.cells (AtGate (slot_of trail)) to) Won) (λ k. if_same (slot_of trail) k) (λ k. 0) 0 stand (stand.worker_states worker a is).there is
      (read_goes a number (record look { point = Pin trail from to }) Won (stand.ready worker a is))
      (pins config state won stand actor.tenant (slot_of trail) there (λ tenant. refl) (λ k apart. upd_else state.cells.gates (slot_of trail) k to apart)
      (seq_of trail) from to (λ k. 0) (λ k. if_same (slot_of trail) k) (λ k. 0) 0
      found (stand.ready worker a is).1 (upd_here state.cells.gates (slot_of trail) to) (λ k. omega arith) (λ k seq. refl) (λ k seq. refl)))
      (λ apart.
      goes_on config state worker a (made_of state worker a state.cells Lost) (λ k. 0) (λ k. 0) 0 stand (stand.worker_states worker a is).there is
      (read_goes a number (record look { point = Pin trail from to }) Lost (stand.ready worker a is))
      (quiet config state lost stand actor.tenant (λ k. 0) (λ k. 0) 0 (λ k. refl) (λ tenant. refl) (λ k seq. refl) (λ k seq. refl)))

  pub unpin : (actor : ActorState) (look : Reading) (slot seq : ℕ) (onward : After) → let a = at_point actor look (Unpin slot seq onward) in
      (state.worker_states worker).actor ≡ Some a → slot < config.pool → CountsStand config (turned state worker a)
  unpin actor look slot seq onward is there =
      let a : ActorState = at_point actor look (Unpin slot seq onward) in
      let gate : Gate = state.cells.gates slot in
      let cells : Cells = write state.cells (AtGate slot) (after_unpin gate) in
      goes_on config state worker a (made_of state worker a cells (SawGate gate)) (λ k. 0) (λ k. cond (gate.pins == 1) (if_same slot k) 0) 0 stand (stand.worker_states worker a is).there is
      (read_goes a number (record look { point = Unpin slot seq onward }) (SawGate gate) (stand.ready worker a is))
      (unpins config state (after_step state worker a cells (SawGate gate)) stand actor.tenant slot there (λ tenant. refl) (λ k apart. upd_else state.cells.gates slot k (after_unpin gate) apart)
      (λ k. if_same slot k) (λ k. 0)
      (has_pin config state worker stand rest a slot is (omega (arith, same_once slot))) (upd_here state.cells.gates slot (after_unpin gate)) (λ k. omega arith) (λ k s. refl) (λ k s. refl))

  pub free : (actor : ActorState) (look : Reading) (slot seq : ℕ) (onward : After) → let a = at_point actor look (FreeSlot slot seq onward) in
      (state.worker_states worker).actor ≡ Some a → slot < config.pool → CountsStand config (turned state worker a)
  free actor look slot seq onward is there =
      let a : ActorState = at_point actor look (FreeSlot slot seq onward) in
      let cells : Cells = write state.cells (AtGate slot) (freed_gate seq) in
      goes_on config state worker a (made_of state worker a cells Won) (λ k. 0) (λ k. 0) 1 stand (stand.worker_states worker a is).there is
      (read_goes a number (record look { point = FreeSlot slot seq onward }) Won (stand.ready worker a is))
      (frees config state (after_step state worker a cells Won) stand actor.tenant slot there (λ tenant. refl) (λ k apart. upd_else state.cells.gates slot k (freed_gate seq) apart)
      seq (λ k. 0) (λ k. if_same slot k)
      (is_idle config state worker stand rest a slot is (omega (arith, same_once slot))) (rest.freed worker slot a is (same_once slot)) (upd_here state.cells.gates slot (freed_gate seq))
      (λ k. refl) (λ k s. refl) (λ k s. refl))

  pub lower : (actor : ActorState) (look : Reading) (onward : After) → let a = at_point actor look (LowerDoor onward) in
      (state.worker_states worker).actor ≡ Some a → CountsStand config (turned state worker a)
  lower actor look onward is =
      let a : ActorState = at_point actor look (LowerDoor onward) in
      let its : look.tenant ≡ actor.tenant = (stand.ready worker a is).0 in
      let door : Door = state.cells.doors look.tenant in
      let to : Door = record door { used = door.used - 1 } in
      let cells : Cells = write state.cells (AtDoor look.tenant) to in
      let here : (upd state.cells.doors look.tenant to look.tenant).used ≡ (state.cells.doors look.tenant).used - 1 = ap (λ d. d.used) (upd_here state.cells.doors look.tenant to) in
      goes_on config state worker a (made_of state worker a cells (SawDoor door)) (λ k. 0) (λ k. 0) 0 stand (stand.worker_states worker a is).there is
      (read_goes a number (record look { point = LowerDoor onward }) (SawDoor door) (stand.ready worker a is))
      (lowers config state (after_step state worker a cells (SawDoor door)) stand actor.tenant (λ k. 0)
      (has_waited config state worker stand rest a is (omega arith)) (λ k. refl)
      (subst (λ t. (upd state.cells.doors look.tenant to t).used ≡ (state.cells.doors t).used - 1) its here)
      (λ tenant apart. upd_else state.cells.doors look.tenant tenant to (λ e. apart (e ∙ its))) (λ k seq. refl) (λ k seq. refl))
