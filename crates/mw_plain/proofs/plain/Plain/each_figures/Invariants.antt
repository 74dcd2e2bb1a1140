-- Loop invariants of `Plain::each_figures` (src/plain.rt).
use Rattle.std.proofs.Common.{◌≡◌, take, map, length}
use Rattle.mw_plain.specs.Report.{figures_of}
use Rattle.mw_plain.proofs.plain.Plain.each_figures.Given as goal

-- the tenants so far are told, and no more
abbrev pub invariant-loop-part : goal.invariant-loop-part
invariant-loop-part g l = record {
  told : l.tenants.items ≡ map figures_of (take l.part-index l.self.parts.items);
  count : length l.tenants.items ≡ l.part-index;
}
