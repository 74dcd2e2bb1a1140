-- Goals of `MemDisk::put` (src/memory.rt).
use Rattle.std.proofs.Common.{ℕ, List, [], ◌∷◌, ◌++◌, ap, ◌∙◌, arith}
use Rattle.mw_memory_disk.specs.declared.event.Call.TheVariants.{Wrote}
use Rattle.mw_memory_disk.specs.declared.history.History.{History}
use Rattle.mw_memory_disk.proofs.Left.{goes_on}
use Rattle.std.proofs.lemmas.Grind.{common_steps}
use Rattle.mw_memory_disk.proofs.memory.MemDisk.put.Goals as goal

pub invariant_of-self-2 : goal.invariant_of-self-2
invariant_of-self-2 c =
    let old = c.self.inside.history in
    let with : List ℕ → History = λ block. record { first = old.first; log = old.log ++ record { missed = c.self.inside.missed; call = Wrote c.args.at block } ∷ [] } in
    goes_on old _ _ (Wrote c.args.at c.args.bytes.now) _ _ _ _ (c.after-self-inside.ensures ∙ ap with c.of.ensures) c.self.invariant c.in_default.ensures.ok c.in_ok-push.ensures.items

pub invariant_of-self-in-Err : goal.invariant_of-self-in-Err
invariant_of-self-in-Err c = grind (arith, common_steps)
