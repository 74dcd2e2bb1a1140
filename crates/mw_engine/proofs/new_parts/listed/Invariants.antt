-- Loop invariants of `listed` (src/new_parts.rt).
use Rattle.std.proofs.Common.{◌≡◌, take, map}
use Rattle.mw_engine.specs.Lines.{HasFewPlaces, line_of, places_of}
use Rattle.mw_engine.specs.OpenedFiles.{line_read, places_found}
use Rattle.mw_engine.proofs.new_parts.listed.Given as goal

-- the lines so far, and the places
abbrev pub invariant-loop-tenant : goal.invariant-loop-tenant
invariant-loop-tenant l = record {
  lines : map line_of l.kept.items ≡ map line_read (take l.tenant l.lines);
  places : map places_of l.kept.items ≡ map places_found (take l.tenant l.openings);
  few : HasFewPlaces l.kept.items;
}
