-- Defines when a path still leads to the file that was opened.
-- Used by: src/replaced.rt. It may change with `is_replaced` there.
use Rattle.std.specs.Prelude.{◌≡◌, ◌≤◌, Option, MatchOption}
use Rattle.mw_opening.specs.declared.file_state.SeenFile.{SeenFile}

-- At the path is the file that was opened: the same file of the same device, as long as it was then, or longer.
abbrev pub LeadsTo : SeenFile → Option SeenFile → Type 0
LeadsTo opened now = MatchOption now ⊥ (λ file. (file.device ≡ opened.device) × (file.inode ≡ opened.inode) × (opened.size ≤ file.size))
