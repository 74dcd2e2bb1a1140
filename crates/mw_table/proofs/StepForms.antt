-- Only an exchange has expected bits, and no step of a request sets bits (`Way::Or`). Used by: next_step.rt.
use Rattle.std.specs.Prelude.{ℕ, ◌≡◌, None}
use Rattle.std.proofs.Common.{subst}
use Rattle.mw_words.specs.declared.places.At.TheVariants.{Door as AtDoor, Gate as AtGate, Row as AtRow, Status as AtStatus, Count, Addr, Expected, New}
use Rattle.mw_look.specs.declared.points.Point.{Point as ReadPoint}
use Rattle.mw_look.specs.declared.points.Point.TheVariants.{Unpin as UnpinOfRead, FreeSlot as FreeOfRead, LowerDoor as LowerOfRead}
use Rattle.mw_look.specs.declared.steps.Op.{Op}
use Rattle.mw_look.specs.declared.steps.Op.TheVariants.{Load as LoadBits, Change as ChangeBits, File as FileCall}
use Rattle.mw_look.specs.Program.{asks_at as read_asks_at}
use Rattle.mw_look.specs.Steps.{op_of}
use Rattle.mw_look.proofs.PlaceLaws.{nil_is_zero}
use Rattle.mw_actor.specs.declared.points.Point.{Point}
use Rattle.mw_actor.specs.declared.points.Point.TheVariants.{Read, FillStatus, FillCount, FillAddr, FillExpected, FillNew, Prepare, AnnounceRow, Seal, Settle, Cancel, Unpin, FreeSlot, LowerDoor}
use Rattle.mw_actor.specs.ActorState.{ActorState}
use Rattle.mw_actor.specs.Asks.{asks_at}
use Rattle.mw_world.specs.Definition.Calls.{called_at}
use Rattle.mw_rule.specs.declared.views.View.{View}
use Rattle.mw_rule.specs.declared.ways.Way.{Way}
use Rattle.mw_rule.specs.declared.ways.Way.TheVariants.{Exchange, Store, Sub, Or}
use Rattle.mw_rule.specs.Steps.{IsNextStep}
use Rattle.mw_rule.specs.Ways.{way_of}

abbrev pub IsAskedAs : Way → ℕ → ℕ → Type 0
IsAskedAs Exchange from to = Unit {0}
IsAskedAs Store from to = from ≡ 0
IsAskedAs (Sub number) from to = (from ≡ 0) × (to ≡ 0)
IsAskedAs (Or number) from to = ⊥

abbrev pub IsAsked : Op → Type 0
IsAsked (LoadBits at) = Unit {0}
IsAsked (ChangeBits kind at from to) = IsAskedAs (way_of kind) from to
IsAsked (FileCall call slot) = ⊥

read_asked : (tenant address : ℕ) (point : ReadPoint) → IsAsked (op_of (read_asks_at tenant address point))
read_asked tenant address (UnpinOfRead slot seq onward) = ((nil_is_zero (AtGate slot)).1, (nil_is_zero (AtGate slot)).1)
read_asked tenant address (FreeOfRead slot seq onward) = (nil_is_zero (AtGate slot)).1
read_asked tenant address (LowerOfRead onward) = ((nil_is_zero (AtDoor tenant)).1, (nil_is_zero (AtDoor tenant)).1)
read_asked tenant address point = tt

asked_at : (actor : ActorState) (point : Point) → called_at point ≡ None → IsAsked (op_of (asks_at actor point))
asked_at actor (Read look) none = read_asked look.tenant look.address look.point
asked_at actor (FillStatus own) none = (nil_is_zero (AtStatus own.slot)).1
asked_at actor (FillCount own) none = (nil_is_zero (Count own.slot)).1
asked_at actor (FillAddr own entry) none = (nil_is_zero (Addr own.slot entry)).1
asked_at actor (FillExpected own entry) none = (nil_is_zero (Expected own.slot entry)).1
asked_at actor (FillNew own entry) none = (nil_is_zero (New own.slot entry)).1
asked_at actor (Prepare own) none = absurd (cc)
asked_at actor (AnnounceRow task entry number) none = (nil_is_zero (AtRow actor.worker)).1
asked_at actor (Seal task) none = absurd (cc)
asked_at actor (Settle task) none = absurd (cc)
asked_at actor (Cancel task) none = absurd (cc)
asked_at actor (Unpin slot onward) none = ((nil_is_zero (AtGate slot.slot)).1, (nil_is_zero (AtGate slot.slot)).1)
asked_at actor (FreeSlot slot onward) none = (nil_is_zero (AtGate slot.slot)).1
asked_at actor (LowerDoor onward) none = ((nil_is_zero (AtDoor actor.tenant)).1, (nil_is_zero (AtDoor actor.tenant)).1)
asked_at actor point none = tt

pub drives_asked : (view : View) (worker : ℕ) (op : Op) → IsNextStep view worker op → IsAsked op
drives_asked view worker op drives = subst IsAsked drives.is (asked_at drives.actor drives.actor.point drives.no_call)
