-- Loop invariants of `with_change` (src/changes.rt).
use Rattle.std.proofs.Common.{◌≡◌, drop}
use Rattle.mw_words.specs.Change.{put}
use Rattle.mw_world_file.proofs.changes.with_change.Given as goal

-- the words so far with the remaining entries put over them are the words to return
abbrev pub invariant-loop-entry : goal.invariant-loop-entry
invariant-loop-entry l = put l.changed.items (drop l.entry-index l.entries) ≡ put l.words l.entries
