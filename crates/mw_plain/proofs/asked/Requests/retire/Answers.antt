-- Goals of `Requests::retire` (src/asked.rt).
use Rattle.std.proofs.Common.{◌≡◌, ◌-◌, true, arith}
use Rattle.std.proofs.Math.ListN.{length-set}
use Rattle.mw_plain.specs.Asked.{holds_slot}
use Rattle.mw_plain.proofs.Numbered.{stands, if_found, written, slots-given, and_false}
use Rattle.mw_plain.proofs.asked.Requests.retire.Goals as goal

pub overflow_sub-i : goal.overflow_sub-i
overflow_sub-i c = (stands _ _ _ _ (rw (← c.self.view_is) at c.requires)).0

pub index_mut-requires : goal.index_mut-requires
index_mut-requires c = let h = (stands _ _ _ _ (rw (← c.self.view_is) at c.requires)).1 in omega arith

pub overflow_sub-self : goal.overflow_sub-self
overflow_sub-self c =
    let s = stands _ _ _ _ (rw (← c.self.view_is) at c.requires) in
    let x = c.index_mut.result.now in
    let held : holds_slot x ≡ true = grind (arith, s.2 x, c.index_mut.ensures.value) in
    omega (arith, slots-given c.self.inside.list.items _ x (record x { retired = true }) s.1 c.index_mut.ensures.value held (and_false x.admitted), c.self.invariant.slots)

pub invariant_of-self : goal.invariant_of-self
invariant_of-self c =
    let s = stands _ _ _ _ (rw (← c.self.view_is) at c.requires) in
    let x = c.index_mut.result.now in
    let y = record x { retired = true } in
    let held : holds_slot x ≡ true = grind (arith, s.2 x, c.index_mut.ensures.value) in
    let slots = slots-given c.self.inside.list.items (c.args.n - c.self.inside.first) x y s.1 c.index_mut.ensures.value held (and_false x.admitted) in
    let len = length-set c.self.inside.list.items (c.args.n - c.self.inside.first) y in
    record { numbers = omega (arith, c.self.invariant.numbers, len); slots = omega (arith, slots, c.self.invariant.slots) }

pub returns : goal.returns
returns c =
    let s = stands _ _ _ _ (rw (← c.self.view_is) at c.requires) in
    let x = c.index_mut.result.now in
    rw (← c.self.view_is) (if_found _ _ _ x _ c.index_mut.ensures.value (written _ _ _ _ (record x { retired = true }) s.0 s.1))
