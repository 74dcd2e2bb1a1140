-- A request's slots stay live (taken under the number by which it knows them) if each stays taken that it has pinned or will
-- free.
-- Used by: live_slots_stay.
use Rattle.std.specs.Prelude.{ℕ, ◌≡◌, ◌≤◌, ◌+◌, Bool, true, false, cond, Option, Some, None}
use Rattle.std.proofs.Common.{refl, ◌∙◌, subst, sym, arith}
use Rattle.std.proofs.lemmas.Bool.Decides.{nat_tests}
use Rattle.mw_look.specs.Runs.{Hold, holds_at, if_same}
use Rattle.mw_look.specs.declared.points.Point.{Point as ReadPoint}
use Rattle.mw_look.specs.declared.points.Point.TheVariants.{FreeSlot as FreeOfRead}
use Rattle.mw_actor.specs.declared.points.After.{After}
use Rattle.mw_actor.specs.declared.points.After.TheVariants.{Work, GiveUp as ThenGiveUp, Reply as ThenReply}
use Rattle.mw_actor.specs.declared.points.Point.TheVariants.{Read}
use Rattle.mw_actor.specs.declared.points.Slot.{Slot}
use Rattle.mw_actor.specs.declared.points.Task.{Task}
use Rattle.mw_actor.specs.ActorState.{is_alone}
use Rattle.mw_actor.specs.Balance.{task_pins, pins_after, pins_at, to_free}
use Rattle.mw_actor.specs.Stages.{Stage, Reading, WritingStatus, WritingCount, WritingAddr, WritingExpected, WritingNew, Preparing, Checking, Inspecting, Holding, Deciding, Working, Nearing, Pinning, Fetching, Leaving, Freeing, Lowering, GivingUp, stage}
use Rattle.mw_world.specs.Definition.Counts.{pin_of, frees_by_read}
use Rattle.mw_world.specs.Definition.State.{State}
use Rattle.mw_law_runs.specs.Moves.Guards.{IsLive}
use Rattle.mw_law_runs.specs.Knowledge.Laws.{StaysTaken, LiveSlotsStay}
use Rattle.mw_law_runs.specs.Knowledge.Live.{IsLiveTask, AreLiveAfter, AreLiveAt, IsLiveHold, AreLiveInRead}

same_once : (slot : ℕ) → if_same slot slot ≡ 1
same_once slot = grind (arith, nat_tests)

module _ (old new : State) where
  -- a slot that stays taken stays live
  stays_live : (slot : Slot) → StaysTaken old new slot.slot → IsLive old slot → IsLive new slot
  stays_live slot stays live = record { taken = stays.taken live.taken; seq = stays.number ∙ live.seq }

  -- The slots that are counted stay taken.
  abbrev Stay : (ℕ → ℕ) → Type 0
  Stay counts = (slot : ℕ) → 1 ≤ counts slot → StaysTaken old new slot

  one_stays : (slot : Slot) → Stay (λ k. if_same slot.slot k) → IsLive old slot → IsLive new slot
  one_stays slot stay live = stays_live slot (stay slot.slot (omega (arith, same_once slot.slot))) live

  target_stays : (task : Task) (is : Bool) → is_alone task ≡ is → Stay (λ k. task_pins k task) → IsLiveTask old task → IsLive new task.target
  target_stays task true is stay live = alone_stays task is (one_stays task.own (λ k some. stay k (grind (arith, some))) live.0) live.1
    where
      -- the request's own
      alone_stays : (task : Task) → is_alone task ≡ true → IsLive new task.own → IsLive old task.target → IsLive new task.target
      alone_stays task is own was = record { taken = grind (arith, nat_tests, is, own.taken); seq = grind (arith, nat_tests, is, own.seq) }
  target_stays task false is stay live =
      stays_live task.target (stay task.target.slot (counted task is)) live.1
    where
      counted : (task : Task) → is_alone task ≡ false → 1 ≤ task_pins task.target.slot task
      counted task is = subst (λ (b : Bool). 1 ≤ if_same task.own.slot task.target.slot + cond b 0 (if_same task.target.slot task.target.slot)) (sym is) (omega (arith, same_once task.target.slot))

  task_stays : (task : Task) → Stay (λ k. task_pins k task) → IsLiveTask old task → IsLiveTask new task
  task_stays task stay live = (one_stays task.own (λ k some. stay k (omega (arith, some))) live.0, target_stays task (is_alone task) refl stay live)

  after_stays : (onward : After) → Stay (λ k. pins_after k onward) → AreLiveAfter old onward → AreLiveAfter new onward
  after_stays (Work task) stay live = task_stays task stay live
  after_stays (ThenGiveUp own undecided) stay live = one_stays own stay live
  after_stays (ThenReply reply) stay live = tt

  at_stage : (now : Stage) → Stay (λ k. pins_at k now + to_free k now) → AreLiveAt old now → AreLiveAt new now
  at_stage (WritingStatus own) stay live = one_stays own (λ k some. stay k (omega (arith, some))) live
  at_stage (WritingCount own) stay live = one_stays own (λ k some. stay k (omega (arith, some))) live
  at_stage (WritingAddr own entry) stay live = one_stays own (λ k some. stay k (omega (arith, some))) live
  at_stage (WritingExpected own entry) stay live = one_stays own (λ k some. stay k (omega (arith, some))) live
  at_stage (WritingNew own entry) stay live = one_stays own (λ k some. stay k (omega (arith, some))) live
  at_stage (Preparing own) stay live = one_stays own (λ k some. stay k (omega (arith, some))) live
  at_stage (GivingUp own) stay live = one_stays own (λ k some. stay k (omega (arith, some))) live
  at_stage (Checking task) stay live = task_stays task (λ k some. stay k (omega (arith, some))) live
  at_stage (Inspecting task entry) stay live = task_stays task (λ k some. stay k (omega (arith, some))) live
  at_stage (Holding task entry) stay live = task_stays task (λ k some. stay k (omega (arith, some))) live
  at_stage (Deciding task) stay live = task_stays task (λ k some. stay k (omega (arith, some))) live
  at_stage (Working task) stay live = task_stays task (λ k some. stay k (omega (arith, some))) live
  at_stage (Nearing task other) stay live = task_stays task (λ k some. stay k (omega (arith, some))) live
  at_stage (Pinning task other from to) stay live = task_stays task (λ k some. stay k (omega (arith, some))) live
  at_stage (Fetching task) stay live = task_stays task (λ k some. stay k (omega (arith, some))) live
  at_stage (Leaving slot onward) stay live = (one_stays slot (λ k some. stay k (omega (arith, some))) live.0, after_stays onward (λ k some. stay k (omega (arith, some))) live.1)
  at_stage (Freeing slot onward) stay live = (one_stays slot (λ k some. stay k (omega (arith, some))) live.0, after_stays onward (λ k some. stay k (omega (arith, some))) live.1)
  at_stage (Lowering onward) stay live = after_stays onward (λ k some. stay k (omega (arith, some))) live
  at_stage (Reading tenant) stay live = absurd live
  at_stage now stay live = tt

  hold_stays : (held : Option Hold) → Stay (λ k. pin_of k held) → IsLiveHold old held → IsLiveHold new held
  hold_stays None stay live = tt
  hold_stays (Some hold) stay live = one_stays (record { slot = hold.slot; seq = hold.seq }) stay live

  in_read : (point : ReadPoint) → Stay (λ k. pin_of k (holds_at point) + frees_by_read k point) → AreLiveInRead old point → AreLiveInRead new point
  in_read (FreeOfRead slot seq onward) stay live = one_stays (record { slot = slot; seq = seq }) (λ k some. stay k (omega (arith, some))) live
  in_read point stay live = hold_stays (holds_at point) (λ k some. stay k (omega (arith, some))) live

pub live_slots_stay : LiveSlotsStay
live_slots_stay old new (Read look) stay live = in_read old new look.point stay live
live_slots_stay old new point stay live = at_stage old new (stage point) stay live
