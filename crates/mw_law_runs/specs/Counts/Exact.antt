-- States that an exchange of a door or gate, which compares bits, finds exactly the expected value, if all values are in
-- range.
-- Used by: src/count_laws.rt.
use Rattle.mw_look.specs.Program.{IsPointInRange as IsReadPointInRange}
use Rattle.mw_actor.specs.declared.points.Point.{Point}
use Rattle.mw_actor.specs.declared.points.Point.TheVariants.{Read}
use Rattle.mw_actor.specs.ActorState.{ActorState}
use Rattle.mw_actor.specs.Asks.{asks}
use Rattle.mw_actor.specs.Ranges.{IsInRange}
use Rattle.mw_world.specs.Definition.Cells.{Cells, AllFit}
use Rattle.mw_law_runs.specs.Counts.CountInvariant.{IsExact}

-- what a read has kept at its point is in range
abbrev pub IsLookInRange : Point → Type 0
IsLookInRange (Read look) = IsReadPointInRange look.point
IsLookInRange point = Unit {0}

-- Exchanges of requests in range are exact, if all shared words are in range.
abbrev pub ExchangesAreExact : Type 0
ExchangesAreExact = (cells : Cells) (actor : ActorState) → AllFit cells → IsInRange actor → IsLookInRange actor.point → IsExact cells (asks actor)
