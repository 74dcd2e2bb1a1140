-- Goals of `Book::call` (src/book.rt).
use Rattle.mw_look.specs.declared.steps.Call.TheVariants.{Prepare, Seal, Settle, Cancel}
use Rattle.mw_book.proofs.FiledCalls.{filed_as}
use Rattle.mw_book.proofs.book.Book.call.Goals as goal

pub returns-in-Prepare : goal.returns-in-Prepare
returns-in-Prepare g c = filed_as g.D.Disk.facts c.args.call Prepare c.args.slot c.args.entries.now.items c.args.waiting.now c.args.self.now c.prepare.new.self c.prepare.result c.in-Prepare.is c.prepare.ensures

pub returns-in-Seal : goal.returns-in-Seal
returns-in-Seal g c =
    filed_as g.D.Disk.facts c.args.call Seal c.args.slot c.args.entries.now.items c.args.waiting.now c.args.self.now c.seal.new.self c.seal.result c.in-Seal.is (c.seal.ensures c.args.entries.now.items)

pub returns-in-Settle : goal.returns-in-Settle
returns-in-Settle g c =
    filed_as g.D.Disk.facts c.args.call Settle c.args.slot c.args.entries.now.items c.args.waiting.now c.args.self.now c.settle.new.self c.settle.result c.in-Settle.is (c.settle.ensures c.args.entries.now.items)

pub returns-in-Cancel : goal.returns-in-Cancel
returns-in-Cancel g c =
    filed_as g.D.Disk.facts c.args.call Cancel c.args.slot c.args.entries.now.items c.args.waiting.now c.args.self.now c.cancel.new.self c.cancel.result c.in-Cancel.is
    (c.cancel.ensures c.args.entries.now.items c.args.waiting.now)
