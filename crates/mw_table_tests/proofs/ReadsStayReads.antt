-- A request that is a read is still one after each of its steps. Used by: turns_back.
use Rattle.std.specs.Prelude.{ℕ, ◌≡◌, Option, Some, None}
use Rattle.std.proofs.Common.{sym, ap, subst, ◌∙◌}
use Rattle.mw_words.specs.declared.replies.Reply.{Reply}
use Rattle.mw_look.specs.declared.observations.Observation.{Observation}
use Rattle.mw_look.specs.declared.points.Point.TheVariants.{ReadDoor}
use Rattle.mw_look.specs.Program.{tells as read_tells}
use Rattle.mw_actor.specs.declared.points.Point.{Point}
use Rattle.mw_actor.specs.declared.points.Point.TheVariants.{Read}
use Rattle.mw_actor.specs.ActorState.{ActorState}
use Rattle.mw_actor.specs.Program.{goes, replied, tells}
use Rattle.mw_world.specs.Definition.Calls.{Called, called_at}
use Rattle.mw_core.specs.FromTable.{Pass}
use Rattle.mw_core.specs.declared.calls.Advance.{Advance}
use Rattle.mw_core.specs.Steps.{Advances, Ends}
use Rattle.mw_core.specs.ReadRounds.{IsLook}
use Rattle.mw_table_tests.specs.ReadRequests.{IsReading}

told_so : (actor next : ActorState) (observation : Observation) (attempt : ℕ) → IsReading actor → next ≡ tells actor observation attempt → IsReading next
told_so actor next observation attempt reading is = subst IsReading (sym is) (record {
  read = read_tells reading.read observation;
  at = ap (λ (point : Point). goes actor attempt point observation) reading.at;
  tenant = reading.tenant;
  job = reading.job;
})

ends_so : (old new : Pass) (actor next : ActorState) (result : Advance) (reply : Option Reply) (called : Option Called) → IsReading actor → Ends old new actor next result reply called → IsReading next
ends_so old new actor next result (Some reply) called reading ends = subst IsReading (sym ends.1.same_request) reading
ends_so old new actor next result None (Some call) reading ends = subst IsReading (sym ends.1.same_request) reading
ends_so old new actor next result None None reading ends = told_so actor next _ new.attempt reading ends.1.told

pub reads_on : (old new : Pass) (actor next : ActorState) (result : Advance) → IsReading actor → Advances old new actor next result → IsReading next
reads_on old new actor next result reading advances = ends_so old new actor next result (replied actor) (called_at actor.point) reading advances

-- a read at its first step may be tried in one round
pub looks_at_first : (actor : ActorState) (reading : IsReading actor) → reading.read.point ≡ ReadDoor → IsLook actor
looks_at_first actor reading first = record {
  address = reading.read.address;
  job = reading.job;
  at_first = reading.at ∙ (λ i. Read (record { tenant = reading.tenant i; address = reading.read.address; point = first i }));
}
