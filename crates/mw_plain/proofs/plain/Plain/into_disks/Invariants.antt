-- Loop invariants of `Plain::into_disks` (src/plain.rt).
use Rattle.std.proofs.Common.{◌≡◌, ◌≤◌, ◌+◌, ◌++◌, length, map, vec_len}
use Rattle.std.specs.Prelude.{vec_capacity}
use Rattle.std.specs.Vec.Iter.{into_iter_items}
use Rattle.mw_plain.specs.Quotas.{disk_in}
use Rattle.mw_plain.proofs.plain.Plain.into_disks.Given as goal

-- the disks so far, and those of the tenants that are left; there is room for these
abbrev pub invariant-loop-part : goal.invariant-loop-part
invariant-loop-part g l = record {
  goes : (goal.iterator-loop-part g).can_next l.part-iterator;
  ends : (goal.iterator-loop-part g).is_finite l.part-iterator;
  given : l.disks.items ++ map disk_in (into_iter_items l.part-iterator) ≡ map disk_in l.fn.self.parts.items;
  room : vec_len l.disks + length (into_iter_items l.part-iterator) ≤ vec_capacity l.disks;
}
