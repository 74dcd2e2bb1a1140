-- Loop invariants of `Plain::used` (src/plain.rt).
use Rattle.std.proofs.Common.{◌≡◌, take}
use Rattle.mw_plain.specs.Quotas.{used_by}
use Rattle.mw_plain.proofs.plain.Plain.used.Given as goal

-- the slots of the tenants so far are counted
abbrev pub invariant-loop-part : goal.invariant-loop-part
invariant-loop-part g l = record {
  counted : l.used ≡ used_by (take l.part-index l.self.parts.items);
}
