-- Goals of `Requests::place` (src/asked.rt).
use Rattle.std.proofs.Common.{Some, arith}
use Rattle.mw_plain.proofs.Numbered.{stands_there, if_found, written}
use Rattle.std.proofs.lemmas.Grind.{common_steps}
use Rattle.mw_plain.proofs.asked.Requests.place.Goals as goal

pub overflow_sub-i : goal.overflow_sub-i
overflow_sub-i c = (stands_there _ _ _ (rw (← c.self.view_is) at c.requires)).0

pub index_mut-requires : goal.index_mut-requires
index_mut-requires c = let h = (stands_there _ _ _ (rw (← c.self.view_is) at c.requires)).1 in omega arith

pub returns : goal.returns
returns c =
    let s = stands_there _ _ _ (rw (← c.self.view_is) at c.requires) in
    let x = c.index_mut.result.now in
    rw (← c.self.view_is) (if_found _ _ _ x _ c.index_mut.ensures.value (written _ _ _ _ (record x { placed = Some c.args.reply }) s.0 s.1))

pub invariant_of-self : goal.invariant_of-self
invariant_of-self c = grind (arith, common_steps)
