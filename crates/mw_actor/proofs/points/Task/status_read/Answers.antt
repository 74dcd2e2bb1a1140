-- Goals of `Task::status_read` (src/tasks.rt).
use Rattle.std.proofs.Common.{refl}
use Rattle.mw_actor.proofs.points.Task.status_read.Goals as goal

-- the work goes on by the status
pub returns-in-Draft : goal.returns-in-Draft
returns-in-Draft c = rw c.in-Draft.is refl

pub returns-in-Open : goal.returns-in-Open
returns-in-Open c = rw c.in-Open.is refl

pub returns-in-YesDirty : goal.returns-in-YesDirty
returns-in-YesDirty c = rw c.in-YesDirty.is refl

pub returns-in-Yes : goal.returns-in-Yes
returns-in-Yes c = rw c.in-Yes.is c.sweeps.ensures

pub returns-in-DoneYes : goal.returns-in-DoneYes
returns-in-DoneYes c = rw c.in-DoneYes.is c.sweeps-in-DoneYes.ensures

pub returns-in-No : goal.returns-in-No
returns-in-No c = rw c.in-No.is c.sweeps-in-No.ensures

pub returns-in-DoneNo : goal.returns-in-DoneNo
returns-in-DoneNo c = rw c.in-DoneNo.is c.sweeps-in-DoneNo.ensures
