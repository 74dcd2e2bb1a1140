-- Loop invariants of `which_are_open` (src/opened_parts.rt).
use Rattle.std.proofs.Common.{◌≡◌, take, map, length}
use Rattle.std.specs.Prelude.{is_some}
use Rattle.mw_programs.proofs.opened_parts.which_are_open.Given as goal

-- what is told of the files so far, and of no more
abbrev pub invariant-loop-file : goal.invariant-loop-file
invariant-loop-file g l = record {
  told : l.are_open.items ≡ map (λ file. is_some file) (take l.file-index l.files);
  count : length l.are_open.items ≡ l.file-index;
}
