-- Defines that a request is a read, wherever it is in its program. Used by: src/reading_tests.rt.
use Rattle.std.specs.Prelude.{◌≡◌}
use Rattle.mw_words.specs.declared.jobs.Job.TheVariants.{Get}
use Rattle.mw_look.specs.Program.{Reading}
use Rattle.mw_actor.specs.declared.points.Point.TheVariants.{Read}
use Rattle.mw_actor.specs.ActorState.{ActorState}

-- The request is a read of its tenant's word at the address that it asks for.
pub record IsReading (actor : ActorState) : Type 0 where
  pub read : Reading
  pub at : actor.point ≡ Read read
  pub tenant : read.tenant ≡ actor.tenant
  pub job : actor.job ≡ Get read.address
