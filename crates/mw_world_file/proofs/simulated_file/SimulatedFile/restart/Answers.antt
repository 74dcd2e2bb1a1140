-- Goals of `SimulatedFile::restart` (src/restarts.rt).
use Rattle.std.proofs.Common.{◌∙◌, ap}
use Rattle.mw_world.specs.Files.Restarts.{takes}
use Rattle.mw_world_file.proofs.RestartedFiles.{restarted, not_restarted}
use Rattle.mw_world_file.proofs.simulated_file.SimulatedFile.restart.Goals as goal

pub returns-in_err-book : goal.returns-in_err-book
returns-in_err-book c =
    not_restarted c.args.self.now c.args.cut c.args.torn.now c.args.fails_at c.args.quota c.in_ok-left.left c.in_err-book.field-0.0 c.from_residual-in_err-book.result _ c.from.ensures c.requires.room
    c.from_residual-in_err-book.ensures.1 c.in_ok-left.ensures c.in_err-book.ensures

pub returns : goal.returns
returns c file shows =
    let old = c.args.self.now in let left = c.in_ok-left.left in let new = c.in_ok-book.book in
    restarted old file shows c.args.cut c.args.torn.now c.args.fails_at c.args.quota left new c.in_ok-taken.taken _ c.from.ensures c.requires.room (c.in_ok-left.ensures file shows) c.in_ok-book.ensures
    (c.in_ok-taken.ensures ∙ ap (λ ws. takes ws c.deref-2.result.now c.deref-3.result.now) c.deref.ensures.value ∙ ap (λ es. takes old.contents.items es c.deref-3.result.now) c.deref-2.ensures.0
    ∙ ap (λ ws. takes old.contents.items left.doubt.items ws) c.deref-3.ensures.value)
