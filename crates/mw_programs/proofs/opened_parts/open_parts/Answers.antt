-- Goals of `open_parts` (src/opened_parts.rt).
use Rattle.std.proofs.Common.{length, map, ap, ◌∙◌, arith}
use Rattle.std.specs.Prelude.{is_some}
use Rattle.mw_opening.proofs.FilesFitLines.{as_many}
use Rattle.mw_programs.proofs.opened_parts.open_parts.Goals as goal

-- there are no more files than lines
pub which_are_open-are_open-requires : goal.which_are_open-are_open-requires
which_are_open-are_open-requires g c =
    let many = as_many g.P.Device.Disk.facts c.args.lines.now c.in_ok-files.files.items c.in_ok-files.ensures.fit in
    record { few = omega (arith, many, ap length c.deref.ensures.value, c.requires.permitted.count) }

pub new-made-requires-clause-permitted : goal.new-made-requires-clause-permitted
new-made-requires-clause-permitted g c = c.requires.permitted

-- the parts are made of the files that were opened
pub returns-clause-opened : goal.returns-clause-opened
returns-clause-opened g c = record {
  files = c.in_ok-files.files.items;
  opened = c.in_ok-files.ensures.opened;
  told = c.which_are_open-are_open.ensures.each ∙ ap (map (λ file. is_some file)) c.deref.ensures.value;
  named = c.new-made.ensures.lines;
  start = c.new-made.ensures.start;
  held = c.new-made.ensures.files;
  disks = c.new-made.ensures.disks;
}
