-- Each step of a worker's request keeps the invariant of counts (`CountsStand`): one case for each point of the program.
-- Used by: RunsKeepCounts.
use Rattle.std.specs.Prelude.{ℕ, ◌≡◌, ◌&&◌, Bool, true, false, not, Option, Some, None, is_some, if◌then◌else◌}
use Rattle.std.proofs.Common.{refl, subst, arith}
use Rattle.mw_look.specs.declared.points.Point.{Point as ReadPoint}
use Rattle.mw_look.specs.declared.points.Point.TheVariants.{Pin as PinOfRead, Unpin as UnpinOfRead, FreeSlot as FreeOfRead, LowerDoor as LowerOfRead}
use Rattle.mw_look.specs.Program.{Reading, slot_of}
use Rattle.mw_actor.specs.declared.points.Point.{Point}
use Rattle.mw_actor.specs.declared.points.Point.TheVariants.{Read, Admit, Claim, PinOther, Unpin, FreeSlot, LowerDoor, GiveUp}
use Rattle.mw_actor.specs.ActorState.{ActorState}
use Rattle.mw_actor.specs.Asks.{asks}
use Rattle.mw_actor.specs.Program.{replied}
use Rattle.mw_world.specs.declared.config.Config.{Config}
use Rattle.mw_world.specs.Definition.State.{State}
use Rattle.mw_world.specs.Definition.Turns.{turned, turn, may_make}
use Rattle.mw_law_runs.specs.Counts.CountInvariant.{CountsStand, CountsRestOn}
use Rattle.mw_law_runs.proofs.Counts.GateSteps.{below, admit, claim, pin, unpin, free, lower, leave}
use Rattle.mw_law_runs.proofs.Counts.ReadSteps.{pin as pin_of_read, unpin as unpin_of_read, free as free_of_read, lower as lower_of_read}
use Rattle.mw_law_runs.proofs.Counts.QuietSteps.{quiet_turn}

module _ (config : Config) (state : State) (worker : ℕ) (stand : CountsStand config state) (rest : CountsRestOn state) where
  of_read : (actor : ActorState) (look : Reading) (point : ReadPoint) → let a = record actor { point = Read (record look { point = point }) } in
      (state.worker_states worker).actor ≡ Some a → may_make config (asks a) ≡ true → CountsStand config (turned state worker a)
  of_read actor look (PinOfRead trail from to) is place = pin_of_read config state worker stand rest actor look trail from to is (below (slot_of trail) config.pool place)
  of_read actor look (UnpinOfRead slot seq onward) is place = unpin_of_read config state worker stand rest actor look slot seq onward is (below slot config.pool place)
  of_read actor look (FreeOfRead slot seq onward) is place = free_of_read config state worker stand rest actor look slot seq onward is (below slot config.pool place)
  of_read actor look (LowerOfRead onward) is place = lower_of_read config state worker stand rest actor look onward is
  of_read actor look point is place =
      quiet_turn config state worker (record actor { point = Read (record look { point = point }) }) stand (stand.worker_states worker (record actor { point = Read (record look { point = point }) }) is).there is tt

  at_each : (actor : ActorState) (point : Point) → let a = record actor { point = point } in
      (state.worker_states worker).actor ≡ Some a → may_make config (asks a) ≡ true → CountsStand config (turned state worker a)
  at_each actor (Read look) is place = of_read actor look look.point is place
  at_each actor (Admit from to) is place = admit config state worker stand rest actor from to is
  at_each actor (Claim slot saw_worn from to) is place = claim config state worker stand rest actor slot saw_worn from to is (below slot config.pool place)
  at_each actor (PinOther task other from to) is place = pin config state worker stand rest actor task other from to is (below other.slot config.pool place)
  at_each actor (Unpin given onward) is place = unpin config state worker stand rest actor given onward is (below given.slot config.pool place)
  at_each actor (FreeSlot given onward) is place = free config state worker stand rest actor given onward is (below given.slot config.pool place)
  at_each actor (LowerDoor onward) is place = lower config state worker stand rest actor onward is
  at_each actor (GiveUp own undecided) is place = leave config state worker stand rest actor own undecided is (below own.slot config.pool place)
  at_each actor point is place = quiet_turn config state worker (record actor { point = point }) stand (stand.worker_states worker (record actor { point = point }) is).there is tt

  -- an event that is guarded by a test
  guarded : (P : State → Type 0) (test : Bool) (there next : State) → (test ≡ true → P there) → (if test then Some there else None) ≡ Some next → P next
  guarded P true there next keeps is = subst P (same_some there next is) (keeps refl)
    where
      same_some : (one other : State) → Some one ≡ Some other → one ≡ other
      same_some one other e = cc
  guarded P false there next keeps is = absurd (none_some next is)
    where
      none_some : (other : State) → None ≡ Some other → ⊥
      none_some other e = cc

  both : (one other : Bool) → (one && other) ≡ true → other ≡ true
  both true other is = is
  both false other is = absurd (grind (arith, is))

  -- A step of a worker's request keeps the counts.
  pub turn_keeps : (request : Option ActorState) (next : State) → (state.worker_states worker).actor ≡ request → turn config state worker request ≡ Some next → CountsStand config next
  turn_keeps None next is e = absurd (none_some next e)
    where
      none_some : (other : State) → None ≡ Some other → ⊥
      none_some other e = cc
  turn_keeps (Some actor) next is e =
      guarded (CountsStand config) (not (is_some (replied actor)) && may_make config (asks actor)) (turned state worker actor) next
      (λ may. at_each actor actor.point is (both (not (is_some (replied actor))) (may_make config (asks actor)) may)) e
