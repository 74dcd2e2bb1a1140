-- At each of its points, a request knows that its worker claimed the slot of its own change for it. Used by: mw_law_store.
use Rattle.std.specs.Prelude.{◌≡◌, Some}
use Rattle.std.proofs.Common.{subst}
use Rattle.mw_actor.specs.declared.points.After.TheVariants.{Work, GiveUp as ThenGiveUp, Reply as ThenReply}
use Rattle.mw_actor.specs.declared.points.Point.{Point}
use Rattle.mw_actor.specs.declared.points.Point.TheVariants.{FillStatus, FillCount, FillAddr, FillExpected, FillNew, Prepare, ReadTargetStatus, Inspect, AnnounceRow, Plant, ReadOtherRow, ConfirmAttempt, ReadDirtyGate, ConfirmDirty, DecideYes, DecideNo, CheckThenResolve, Resolve, ReadOtherGate, PinOther, ReadCount, ReadAddr, ReadExpected, ReadNew, Seal, SweepWord, Release, Clean, SweepRow, SweepConfirm, SweepResolve, Settle, Cancel, Unpin, FreeSlot, LowerDoor, GiveUp}
use Rattle.mw_actor.specs.declared.points.Slot.{Slot}
use Rattle.mw_actor.specs.declared.points.Task.{Task}
use Rattle.mw_actor.specs.ActorState.{ActorState}
use Rattle.mw_world.specs.Definition.State.{State}
use Rattle.mw_law_runs.specs.Knowledge.Facts.{IsOwn, IsAtWork}
use Rattle.mw_law_runs.specs.Knowledge.Points.{Knows, without_point}
use Rattle.mw_law_runs.specs.Obligations.{own_of}
use Rattle.mw_law_runs.proofs.Obligations.Pins.{some_same, none_some}

module _ (state : State) (actor : ActorState) (own : Slot) where
  is_own : (one : Slot) → IsOwn state (without_point actor) one → Some one ≡ Some own → IsOwn state (without_point actor) own
  is_own one knows mine = subst (λ (which : Slot). IsOwn state (without_point actor) which) (some_same one own mine) knows

  at_work : (task : Task) → IsAtWork state (without_point actor) task → Some task.own ≡ Some own → IsOwn state (without_point actor) own
  at_work task at mine = is_own task.own at.own.own mine

  pub own_known : (point : Point) → Knows state actor point → own_of point ≡ Some own → IsOwn state (without_point actor) own
  own_known (FillStatus one) knows mine = is_own one knows.own mine
  own_known (FillCount one) knows mine = is_own one knows.0.own mine
  own_known (FillAddr one entry) knows mine = is_own one knows.written.drafted.own mine
  own_known (FillExpected one entry) knows mine = is_own one knows.0.written.drafted.own mine
  own_known (FillNew one entry) knows mine = is_own one knows.0.written.drafted.own mine
  own_known (Prepare one) knows mine = is_own one knows.drafted.own mine
  own_known (ReadTargetStatus task) knows mine = at_work task knows.at_work mine
  own_known (Inspect task entry) knows mine = at_work task knows.0.works.at_work mine
  own_known (AnnounceRow task entry number) knows mine = at_work task knows.0.works.at_work mine
  own_known (Plant task entry number) knows mine = at_work task knows.0.works.at_work mine
  own_known (ReadOtherRow task entry attempt) knows mine = at_work task knows.0.works.at_work mine
  own_known (ConfirmAttempt task entry attempt other) knows mine = at_work task knows.0.works.at_work mine
  own_known (ReadDirtyGate task entry slot value) knows mine = at_work task knows.works.at_work mine
  own_known (ConfirmDirty task entry other value) knows mine = at_work task knows.0.works.at_work mine
  own_known (DecideYes task) knows mine = at_work task knows.0.at_work mine
  own_known (DecideNo task entry value) knows mine = at_work task knows.0.works.at_work mine
  own_known (CheckThenResolve task entry attempt) knows mine = at_work task knows.0.works.at_work mine
  own_known (Resolve task entry attempt was_open) knows mine = at_work task knows.0.works.at_work mine
  own_known (ReadOtherGate task other) knows mine = at_work task knows.0.at_work mine
  own_known (PinOther task other from to) knows mine = at_work task knows.0.at_work mine
  own_known (ReadCount task) knows mine = at_work task knows.0 mine
  own_known (ReadAddr task count) knows mine = at_work task knows.at_work mine
  own_known (ReadExpected task count addr) knows mine = at_work task knows.0.at_work mine
  own_known (ReadNew task count addr expected) knows mine = at_work task knows.0.at_work mine
  own_known (Seal task) knows mine = at_work task knows.0.at_work mine
  own_known (SweepWord task sweep entry) knows mine = at_work task knows.at.works.at_work mine
  own_known (Release task sweep entry) knows mine = at_work task knows.0.at.works.at_work mine
  own_known (Clean task entry value) knows mine = at_work task knows.0.at.works.at_work mine
  own_known (SweepRow task sweep entry attempt) knows mine = at_work task knows.0.at.works.at_work mine
  own_known (SweepConfirm task sweep entry attempt other) knows mine = at_work task knows.0.at.works.at_work mine
  own_known (SweepResolve task sweep entry attempt) knows mine = at_work task knows.0.at.works.at_work mine
  own_known (Settle task) knows mine = at_work task knows.0.at_work mine
  own_known (Cancel task) knows mine = at_work task knows.0.at_work mine
  own_known (Unpin slot (Work task)) knows mine = at_work task knows.1 mine
  own_known (Unpin slot (ThenGiveUp one undecided)) knows mine = is_own one knows.1.own mine
  own_known (Unpin slot (ThenReply reply)) knows mine = is_own slot knows.2.0.own mine
  own_known (FreeSlot slot (Work task)) knows mine = at_work task knows.1 mine
  own_known (FreeSlot slot (ThenGiveUp one undecided)) knows mine = is_own one knows.1.own mine
  own_known (FreeSlot slot (ThenReply reply)) knows mine = absurd (none_some own mine)
  own_known (LowerDoor (Work task)) knows mine = at_work task knows mine
  own_known (LowerDoor (ThenGiveUp one undecided)) knows mine = is_own one knows.own mine
  own_known (LowerDoor (ThenReply reply)) knows mine = absurd (none_some own mine)
  own_known (GiveUp one undecided) knows mine = is_own one knows.0 mine
  own_known point knows mine = absurd (none_some own mine)
