-- An exchange of a door or gate that finds the expected bits finds the expected value: values in range with the same bits are
-- equal.
-- Used by: exchanges_are_exact.
use Rattle.std.specs.Prelude.{ℕ}
use Rattle.std.proofs.Common.{arith}
use Rattle.mw_words.specs.declared.places.At.TheVariants.{Door as AtDoor, Gate as AtGate}
use Rattle.mw_words.specs.Patterns.{IsDoorInRange, IsGateInRange}
use Rattle.mw_words.proofs.PatternLaws.{packed_door_injective, packed_gate_injective}
use Rattle.mw_look.specs.declared.points.Point.{Point as ReadPoint}
use Rattle.mw_look.specs.declared.points.Point.TheVariants.{Pin as PinOfRead, Unpin as UnpinOfRead, FreeSlot as FreeOfRead, LowerDoor as LowerOfRead}
use Rattle.mw_look.specs.Places.{nil}
use Rattle.mw_look.specs.Program.{slot_of, asks_at as look_asks, IsPointInRange as IsReadPointInRange}
use Rattle.mw_actor.specs.declared.points.Point.{Point}
use Rattle.mw_actor.specs.declared.points.Point.TheVariants.{Read, Admit, Claim, PinOther, Unpin, FreeSlot, LowerDoor}
use Rattle.mw_actor.specs.ActorState.{ActorState}
use Rattle.mw_actor.specs.Asks.{asks_at}
use Rattle.mw_actor.specs.Ranges.{IsPointInRange}
use Rattle.mw_world.specs.Definition.Cells.{Cells, AllFit}
use Rattle.mw_law_runs.specs.Counts.Exact.{IsLookInRange, ExchangesAreExact}
use Rattle.mw_law_runs.specs.Counts.CountInvariant.{IsExact}

no_gate_fits : IsGateInRange (nil (AtGate 0))
no_gate_fits = (omega arith, omega arith, λ is. omega arith)

no_door_fits : IsDoorInRange (nil (AtDoor 0))
no_door_fits = omega arith

module _ (cells : Cells) (fit : AllFit cells) where
  of_read : (tenant address : ℕ) (point : ReadPoint) → IsReadPointInRange point → IsExact cells (look_asks tenant address point)
  of_read tenant address (PinOfRead trail from to) range = λ same. packed_gate_injective (cells.gates (slot_of trail)) from (fit (AtGate (slot_of trail))) range.1 same
  of_read tenant address (UnpinOfRead slot seq next) range = λ same. packed_gate_injective (cells.gates slot) (nil (AtGate slot)) (fit (AtGate slot)) no_gate_fits same
  of_read tenant address (FreeOfRead slot seq next) range = λ same. packed_gate_injective (cells.gates slot) (nil (AtGate slot)) (fit (AtGate slot)) no_gate_fits same
  of_read tenant address (LowerOfRead next) range = λ same. packed_door_injective (cells.doors tenant) (nil (AtDoor tenant)) (fit (AtDoor tenant)) no_door_fits same
  of_read tenant address point range = tt

  of_point : (actor : ActorState) (point : Point) → IsPointInRange actor.others point → IsLookInRange point → IsExact cells (asks_at actor point)
  of_point actor (Read look) range look_range = of_read look.tenant look.address look.point look_range
  of_point actor (Admit from to) range look_range = λ same. packed_door_injective (cells.doors actor.tenant) from (fit (AtDoor actor.tenant)) range.0 same
  of_point actor (Claim slot saw_worn from to) range look_range = λ same. packed_gate_injective (cells.gates slot) from (fit (AtGate slot)) range.1 same
  of_point actor (PinOther task other from to) range look_range = λ same. packed_gate_injective (cells.gates other.slot) from (fit (AtGate other.slot)) range.2 same
  of_point actor (Unpin given onward) range look_range = λ same. packed_gate_injective (cells.gates given.slot) (nil (AtGate given.slot)) (fit (AtGate given.slot)) no_gate_fits same
  of_point actor (FreeSlot given onward) range look_range = λ same. packed_gate_injective (cells.gates given.slot) (nil (AtGate given.slot)) (fit (AtGate given.slot)) no_gate_fits same
  of_point actor (LowerDoor onward) range look_range = λ same. packed_door_injective (cells.doors actor.tenant) (nil (AtDoor actor.tenant)) (fit (AtDoor actor.tenant)) no_door_fits same
  of_point actor point range look_range = tt

pub exchanges-are-exact : ExchangesAreExact
exchanges-are-exact cells actor fit range look_range = of_point cells fit actor actor.point range.point look_range
