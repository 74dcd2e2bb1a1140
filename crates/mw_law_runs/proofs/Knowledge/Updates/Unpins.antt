-- What a request knows after it has taken a pin back, freed a slot, or counted the slot off its tenant's door. Used by: ByPoint.
use Rattle.std.specs.Prelude.{ℕ, ◌≡◌, ◌≢◌, ◌≤◌, ◌+◌, ◌==◌, Some}
use Rattle.std.proofs.Common.{refl, ap, subst, ◌∙◌, arith}
use Rattle.std.proofs.lemmas.Bool.Decides.{nat_tests}
use Rattle.mw_words.specs.declared.gates.Gate.{Gate}
use Rattle.mw_pool.specs.Moves.{after_unpin}
use Rattle.mw_look.specs.declared.observations.Observation.{Observation}
use Rattle.mw_look.specs.declared.observations.Observation.TheVariants.{SawDoor, SawGate, Won}
use Rattle.mw_look.specs.declared.points.After.{After as ReadAfter}
use Rattle.mw_look.specs.declared.points.After.TheVariants.{Again, Answer}
use Rattle.mw_look.specs.declared.points.Point.TheVariants.{Pin as PinOfRead, Unpin as UnpinOfRead, FreeSlot as FreeOfRead, LowerDoor as LowerOfRead}
use Rattle.mw_look.specs.declared.points.Trail.{Trail}
use Rattle.mw_look.specs.Program.{Reading, resumed as read_resumed, freed, slot_of}
use Rattle.mw_look.proofs.RangeLaws.{either_way}
use Rattle.mw_look.specs.Runs.{if_same}
use Rattle.mw_actor.specs.declared.points.After.{After}
use Rattle.mw_actor.specs.declared.points.Point.TheVariants.{Read, Unpin, FreeSlot, LowerDoor}
use Rattle.mw_actor.specs.declared.points.Slot.{Slot}
use Rattle.mw_actor.specs.ActorState.{ActorState}
use Rattle.mw_actor.specs.RequestEnds.{resumed}
use Rattle.mw_actor.specs.Balance.{pins_after}
use Rattle.mw_world.specs.declared.config.Config.{Config}
use Rattle.mw_world.specs.Definition.Counts.{pins_held, frees_at}
use Rattle.mw_world.specs.Definition.State.{State}
use Rattle.mw_law_runs.specs.Moves.Guards.{Guards}
use Rattle.mw_law_runs.specs.Moves.Rely.{Rely}
use Rattle.mw_law_runs.specs.Moves.StepMoves.{moves_told}
use Rattle.mw_law_runs.specs.Counts.CountInvariant.{CountsStand}
use Rattle.mw_law_runs.specs.Counts.Alone.{IsAloneWith}
use Rattle.mw_law_runs.proofs.Counts.Room.{who-frees-is-alone}
use Rattle.mw_law_runs.specs.Knowledge.Facts.{Follows}
use Rattle.mw_law_runs.specs.Knowledge.Informed.{IsInformed}
use Rattle.mw_law_runs.specs.Knowledge.Live.{AreLive}
use Rattle.mw_law_runs.specs.Knowledge.Points.{Knows, ReadKnows, without_point}
use Rattle.mw_law_runs.specs.Knowledge.NextState.{KnowsItsPoint, told, world_told}
use Rattle.mw_law_runs.proofs.Knowledge.LiveSlotsOverSteps.{live_slots_go_on}
use Rattle.mw_law_runs.proofs.Knowledge.LiveSlots.{live_slots_stay}
use Rattle.mw_law_runs.proofs.Knowledge.StayingFacts.{known_stays, came_stays, follows_stays}
use Rattle.mw_law_runs.proofs.Knowledge.Reads.TaskChanges.{resumed_knows}
use Rattle.mw_law_runs.proofs.Knowledge.Updates.Preservation.{upd_here, later_then, gates_same, gate_set, gate_set_else}

same_once : (slot : ℕ) → if_same slot slot ≡ 1
same_once slot = grind (arith, nat_tests)

module _ (config : Config) (state : State) (actor : ActorState) where
  pub unpin_fetched : (slot : Slot) (onward : After) → let me = record actor { point = Unpin slot onward } in let observation = SawGate (state.cells.gates slot.slot) in IsInformed config state me
      → Guards config state actor.worker (moves_told state actor.worker me observation) → KnowsItsPoint (world_told state me observation) (told state me observation)
  unpin_fetched slot onward informed guards = record {
    live = live_slots_go_on after me (state.worker_states actor.worker).attempt (Unpin slot onward) observation tt live_still;
    knows = either_way (Knows after me) ((state.cells.gates slot.slot).pins == 1) (FreeSlot slot onward) (resumed onward)
        (λ last. (known_stays actor.worker state after later actor.tenant slot informed.knows.0, follows)) (λ more. resumed_knows after me onward follows);
  }
    where
      me : ActorState
      me = record actor { point = Unpin slot onward }

      observation : Observation
      observation = SawGate (state.cells.gates slot.slot)

      after : State
      after = world_told state me observation

      later : Rely actor.worker state after
      later = later_then config state me observation informed.memory guards

      follows : Follows after (without_point actor) onward
      follows = follows_stays actor.worker state after later (without_point actor) (λ own is. refl) onward informed.knows.1

      live_still : AreLive after (Unpin slot onward)
      live_still = live_slots_stay state after (Unpin slot onward)
          (λ other some. gate_set state after slot.slot (after_unpin (state.cells.gates slot.slot)) refl refl (λ is. is) other) informed.live

  pub slot_freed : (slot : Slot) (onward : After) → let me = record actor { point = FreeSlot slot onward } in CountsStand config state → (state.worker_states actor.worker).actor ≡ Some me
      → IsInformed config state me → Guards config state actor.worker (moves_told state actor.worker me Won) → KnowsItsPoint (world_told state me Won) (told state me Won)
  slot_freed slot onward stand sits informed guards = record {
    live = live_slots_stay state after (LowerDoor onward) (λ other some. gate_set_else state after slot.slot (freed slot.seq) refl other (apart other some)) informed.live.1;
    knows = follows_stays actor.worker state after (later_then config state me Won informed.memory guards) (without_point actor) (λ own is. refl) onward informed.knows.1;
  }
    where
      me : ActorState
      me = record actor { point = FreeSlot slot onward }

      after : State
      after = world_told state me Won

      alone : IsAloneWith state actor.worker slot.slot
      alone = who-frees-is-alone config state actor.worker slot.slot me stand sits (omega (arith, same_once slot.slot))

      -- the request holds no pin of the slot that it frees
      apart : (other : ℕ) → 1 ≤ pins_held other (LowerDoor onward) + frees_at other (LowerDoor onward) → other ≢ slot.slot
      apart other some is = none (alone.none_held actor.worker me sits) (subst (λ (one : ℕ). 1 ≤ pins_after one onward + 0) is some)
        where
          none : pins_after slot.slot onward ≡ 0 → 1 ≤ pins_after slot.slot onward + 0 → ⊥
          none zero_of some_of = omega (arith, zero_of, some_of)

  pub door_lowered : (onward : After) → let me = record actor { point = LowerDoor onward } in let observation = SawDoor (state.cells.doors actor.tenant) in IsInformed config state me
      → Guards config state actor.worker (moves_told state actor.worker me observation) → KnowsItsPoint (world_told state me observation) (told state me observation)
  door_lowered onward informed guards = record {
    live = live_slots_go_on after me (state.worker_states actor.worker).attempt (LowerDoor onward) observation tt
        (live_slots_stay state after (LowerDoor onward) (λ other some. gates_same state after refl other) informed.live);
    knows = resumed_knows after me onward (follows_stays actor.worker state after (later_then config state me observation informed.memory guards) (without_point actor) (λ own is. refl) onward informed.knows);
  }
    where
      me : ActorState
      me = record actor { point = LowerDoor onward }

      observation : Observation
      observation = SawDoor (state.cells.doors actor.tenant)

      after : State
      after = world_told state me observation

  -- reads
  at_end : (after : State) (tenant address : ℕ) (onward : ReadAfter) → ReadKnows after tenant address (read_resumed onward)
  at_end after tenant address Again = tt
  at_end after tenant address (Answer value) = tt

  pub read_pinned : (look : Reading) (trail : Trail) (from to : Gate) → let me = record actor { point = Read (record look { point = PinOfRead trail from to }) } in IsInformed config state me
      → state.cells.gates (slot_of trail) ≡ from → Guards config state actor.worker (moves_told state actor.worker me Won) → KnowsItsPoint (world_told state me Won) (told state me Won)
  read_pinned look trail from to informed is guards = record {
    live = record {
      taken = ap (λ (gate : Gate). gate.taken) (upd_here state.cells.gates (slot_of trail) to) ∙ informed.ready.1.is_taken;
      seq = ap (λ (gate : Gate). gate.seq) (upd_here state.cells.gates (slot_of trail) to) ∙ informed.ready.1.same_number ∙ informed.ready.1.had_that_number;
    };
    knows = came_stays actor.worker state after (later_then config state me Won informed.memory guards) look.tenant look.address trail informed.knows;
  }
    where
      me : ActorState
      me = record actor { point = Read (record look { point = PinOfRead trail from to }) }

      after : State
      after = world_told state me Won

  pub read_unpinned : (look : Reading) (slot seq : ℕ) (onward : ReadAfter) → let me = record actor { point = Read (record look { point = UnpinOfRead slot seq onward }) } in
      let observation = SawGate (state.cells.gates slot) in IsInformed config state me
      → Guards config state actor.worker (moves_told state actor.worker me observation) → KnowsItsPoint (world_told state me observation) (told state me observation)
  read_unpinned look slot seq onward informed guards = record {
    live = live_slots_go_on after me (state.worker_states actor.worker).attempt me.point observation tt live_still;
    knows = either_way (ReadKnows after look.tenant look.address) ((state.cells.gates slot).pins == 1) (FreeOfRead slot seq onward) (read_resumed onward)
        (λ last. known_stays actor.worker state after later look.tenant (record { slot = slot; seq = seq }) informed.knows) (λ more. at_end after look.tenant look.address onward);
  }
    where
      me : ActorState
      me = record actor { point = Read (record look { point = UnpinOfRead slot seq onward }) }

      observation : Observation
      observation = SawGate (state.cells.gates slot)

      after : State
      after = world_told state me observation

      later : Rely actor.worker state after
      later = later_then config state me observation informed.memory guards

      live_still : AreLive after me.point
      live_still = live_slots_stay state after me.point (λ other some. gate_set state after slot (after_unpin (state.cells.gates slot)) refl refl (λ is. is) other) informed.live

  pub read_freed : (look : Reading) (slot seq : ℕ) (onward : ReadAfter) → let me = record actor { point = Read (record look { point = FreeOfRead slot seq onward }) } in
      KnowsItsPoint (world_told state me Won) (told state me Won)
  read_freed look slot seq onward = record { live = tt; knows = tt }

  pub read_lowered : (look : Reading) (onward : ReadAfter) → let me = record actor { point = Read (record look { point = LowerOfRead onward }) } in
      let observation = SawDoor (state.cells.doors look.tenant) in KnowsItsPoint (world_told state me observation) (told state me observation)
  read_lowered look onward = record { live = live_at_end _ onward; knows = at_end _ look.tenant look.address onward }
    where
      live_at_end : (after : State) (onward : ReadAfter) → AreLive after (Read (record look { point = read_resumed onward }))
      live_at_end after Again = tt
      live_at_end after (Answer value) = tt
