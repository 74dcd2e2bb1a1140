-- A request holds a pin of its own change's slot, and of the slot of its target (the change that it works on).
-- Used by: mw_law_store.
use Rattle.std.specs.Prelude.{ℕ, ◌≡◌, ◌≤◌, ◌+◌, Bool, true, false, cond, Some, None}
use Rattle.std.proofs.Common.{refl, sym, ap, subst, ◌∙◌, arith}
use Rattle.std.proofs.lemmas.Bool.Decides.{nat_tests}
use Rattle.mw_look.specs.Runs.{if_same}
use Rattle.mw_actor.specs.declared.points.After.TheVariants.{Work, GiveUp as ThenGiveUp, Reply as ThenReply}
use Rattle.mw_actor.specs.declared.points.Point.{Point}
use Rattle.mw_actor.specs.declared.points.Point.TheVariants.{Read}
use Rattle.mw_actor.specs.declared.points.Slot.{Slot}
use Rattle.mw_actor.specs.declared.points.Task.{Task}
use Rattle.mw_actor.specs.ActorState.{is_alone}
use Rattle.mw_actor.specs.Balance.{task_pins, pins_at}
use Rattle.mw_law_runs.proofs.Requests.StageLaws.{both_same}
use Rattle.mw_actor.specs.Stages.{Stage, WritingStatus, WritingCount, WritingAddr, WritingExpected, WritingNew, Preparing, Checking, Inspecting, Holding, Deciding, Working, Nearing, Pinning, Fetching, Leaving, Freeing, Lowering, GivingUp, stage}
use Rattle.mw_world.specs.Definition.Counts.{pins_held}
use Rattle.mw_law_runs.specs.Obligations.{own_at, own_of}

-- the content of an option is unique
pub some_same : {A : Type 0} (one other : A) → Some one ≡ Some other → one ≡ other
some_same one other is = cc

pub none_some : {A : Type 0} (one : A) → None ≡ Some one → ⊥
none_some one is = cc

pub counted_once : (one slot : ℕ) → one ≡ slot → if_same one slot ≡ 1
counted_once one slot is = grind (arith, nat_tests, is)

pub own_counted : (one own : Slot) → Some one ≡ Some own → if_same one.slot own.slot ≡ 1
own_counted one own is = counted_once one.slot own.slot (ap (λ (found : Slot). found.slot) (some_same one own is))

-- a pin of the target
pub target_pinned : (task : Task) (slot : ℕ) → task.target.slot ≡ slot → 1 ≤ task_pins slot task
target_pinned task slot is = by_test (is_alone task) refl
  where
    by_test : (b : Bool) → is_alone task ≡ b → 1 ≤ task_pins slot task
    by_test true alone = omega (arith, counted_once task.own.slot slot (sym (both_same task.target.slot task.target.seq task.own.slot task.own.seq alone).0 ∙ is))
    by_test false other =
        subst (λ (b : Bool). 1 ≤ if_same task.own.slot slot + cond b 0 (if_same task.target.slot slot)) (sym other) (omega (arith, counted_once task.target.slot slot is))

pub own_in_task : (task : Task) (own : Slot) → Some task.own ≡ Some own → 1 ≤ task_pins own.slot task
own_in_task task own is = omega (arith, own_counted task.own own is)

-- a pin of the own change
pub own_pinned_at : (now : Stage) (own : Slot) → own_at now ≡ Some own → 1 ≤ pins_at own.slot now
own_pinned_at (WritingStatus one) own is = omega (arith, own_counted one own is)
own_pinned_at (WritingCount one) own is = omega (arith, own_counted one own is)
own_pinned_at (WritingAddr one entry) own is = omega (arith, own_counted one own is)
own_pinned_at (WritingExpected one entry) own is = omega (arith, own_counted one own is)
own_pinned_at (WritingNew one entry) own is = omega (arith, own_counted one own is)
own_pinned_at (Preparing one) own is = omega (arith, own_counted one own is)
own_pinned_at (GivingUp one) own is = omega (arith, own_counted one own is)
own_pinned_at (Checking task) own is = own_in_task task own is
own_pinned_at (Inspecting task entry) own is = own_in_task task own is
own_pinned_at (Holding task entry) own is = own_in_task task own is
own_pinned_at (Deciding task) own is = own_in_task task own is
own_pinned_at (Working task) own is = own_in_task task own is
own_pinned_at (Nearing task other) own is = own_in_task task own is
own_pinned_at (Pinning task other from to) own is = own_in_task task own is
own_pinned_at (Fetching task) own is = own_in_task task own is
own_pinned_at (Leaving slot (Work task)) own is = omega (arith, own_in_task task own is)
own_pinned_at (Leaving slot (ThenGiveUp one undecided)) own is = omega (arith, own_counted one own is)
own_pinned_at (Leaving slot (ThenReply reply)) own is = omega (arith, own_counted slot own is)
own_pinned_at (Freeing slot (Work task)) own is = own_in_task task own is
own_pinned_at (Freeing slot (ThenGiveUp one undecided)) own is = omega (arith, own_counted one own is)
own_pinned_at (Freeing slot (ThenReply reply)) own is = absurd (none_some own is)
own_pinned_at (Lowering (Work task)) own is = own_in_task task own is
own_pinned_at (Lowering (ThenGiveUp one undecided)) own is = omega (arith, own_counted one own is)
own_pinned_at (Lowering (ThenReply reply)) own is = absurd (none_some own is)
own_pinned_at now own is = absurd (none_some own is)

pub own_pinned : (point : Point) (own : Slot) → own_of point ≡ Some own → 1 ≤ pins_held own.slot point
own_pinned (Read look) own is = absurd (none_some own is)
own_pinned point own is = own_pinned_at (stage point) own is
