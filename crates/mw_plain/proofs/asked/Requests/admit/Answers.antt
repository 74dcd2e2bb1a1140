-- Goals of `Requests::admit` (src/asked.rt).
use Rattle.std.proofs.Common.{◌-◌, true, arith}
use Rattle.std.proofs.Math.ListN.{length-set}
use Rattle.mw_plain.proofs.Numbered.{stands, if_found, written, slots-taken}
use Rattle.mw_plain.proofs.asked.Requests.admit.Goals as goal

pub overflow_sub-i : goal.overflow_sub-i
overflow_sub-i c = (stands _ _ _ _ (rw (← c.self.view_is) at c.requires.asked)).0

pub index_mut-requires : goal.index_mut-requires
index_mut-requires c = let h = (stands _ _ _ _ (rw (← c.self.view_is) at c.requires.asked)).1 in omega arith

pub invariant_of-self : goal.invariant_of-self
invariant_of-self c =
    let s = stands _ _ _ _ (rw (← c.self.view_is) at c.requires.asked) in
    let y = record c.index_mut.result.now { admitted = true } in
    let slots = slots-taken c.self.inside.list.items (c.args.n - c.self.inside.first) y s.1 in
    let len = length-set c.self.inside.list.items (c.args.n - c.self.inside.first) y in
    record { numbers = omega (arith, c.self.invariant.numbers, len); slots = omega (arith, slots, c.self.invariant.slots) }

pub returns : goal.returns
returns c =
    let s = stands _ _ _ _ (rw (← c.self.view_is) at c.requires.asked) in
    let x = c.index_mut.result.now in
    rw (← c.self.view_is) (if_found _ _ _ x _ c.index_mut.ensures.value (written _ _ _ _ (record x { admitted = true }) s.0 s.1))
