-- Loop invariants of `Plain::new` (src/plain.rt).
use Rattle.std.proofs.Common.{◌≤◌, ◌+◌, ◌++◌, List, length, drop}
use Rattle.std.specs.Vec.Iter.{into_iter_items}
use Rattle.mw_plain.specs.declared.tenant.Part.{Part}
use Rattle.mw_plain.specs.Quotas.{quotas_of}
use Rattle.mw_plain.specs.Lines.{FitLines, AreMadeOf, quotas_in}
use Rattle.mw_plain.proofs.plain.Plain.new.Given as goal

-- the lines and files that are left fit each other; the tenants made so far, with those made of them, are all
abbrev pub invariant-loop-file : goal.invariant-loop-file
invariant-loop-file g l = record {
  fit : FitLines (drop (length l.parts.items) l.lines) (into_iter_items l.file-iterator);
  made : (more : List (Part g.row.D.Denot)) → AreMadeOf (drop (length l.parts.items) l.lines) (into_iter_items l.file-iterator) more → AreMadeOf l.lines l.fn.files.items (l.parts.items ++ more);
  shared : quotas_of l.parts.items + quotas_in (drop (length l.parts.items) l.lines) ≤ l.pool;
  few : length l.parts.items ≤ length l.lines;
}
