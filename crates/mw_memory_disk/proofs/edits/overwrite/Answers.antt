-- Goals of `overwrite` (src/edits.rt).
use Rattle.std.proofs.Common.{◌≡◌, ℕ, ◌+◌, length, List, ap, ◌∙◌, arith}
use Rattle.std.proofs.lemmas.List.{take_at}
use Rattle.mw_disk.specs.Facts.{patched}
use Rattle.mw_memory_disk.specs.Memory.{padded}
use Rattle.mw_memory_disk.proofs.Remembered.{overwritten}
use Rattle.std.proofs.lemmas.Grind.{common_steps}
use Rattle.mw_memory_disk.proofs.edits.overwrite.Goals as goal

pub returns-clause-ok : goal.returns-clause-ok
returns-clause-ok c =
    let end : c.in-Some.end ≡ c.args.at + length c.args.block.now = omega arith in
    take_at c.paste.new.bytes _ _ (omega arith)
    ∙ (c.paste.ensures
    ∙ (ap (λ (l : List ℕ). patched l c.args.at c.args.block.now)
    (c.deref_mut.ensures.value ∙ (c.in_ok-lengthen.ensures.ok ∙ ap (λ (n : ℕ). padded c.args.bytes.now.items n) end))
    ∙ overwritten c.args.bytes.now.items c.args.at c.args.block.now))

pub paste-requires : goal.paste-requires
paste-requires c = grind (arith, common_steps)
