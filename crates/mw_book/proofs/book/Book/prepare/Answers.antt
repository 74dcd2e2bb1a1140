-- Goals of `Book::prepare` (src/book.rt).
use Rattle.std.proofs.Common.{◌≡◌, refl, ap, subst, ◌∙◌}
use Rattle.mw_look.specs.declared.steps.Call.TheVariants.{Prepare as PrepareCall, Cancel as CancelCall}
use Rattle.mw_book.specs.CallOutcome.{IsFiled}
use Rattle.mw_book.specs.PreparedAhead.{has_written}
use Rattle.mw_book.proofs.FiledCalls.{refused}
use Rattle.mw_book.proofs.PreparesAfterRoom.{prepare_after}
use Rattle.mw_book.proofs.book.Book.prepare.Goals as goal

pub returns-then-self : goal.returns-then-self
returns-then-self g c =
    refused g.D.Disk.facts PrepareCall c.args.slot c.args.entries.now.items c.args.waiting.now c.args.self.now c.if-self.true (λ file. refl) (λ is. let e : PrepareCall ≡ CancelCall = is in cc)

pub returns-then-take_written : goal.returns-then-take_written
returns-then-take_written g c = c.take_written.ensures.taken c.if-take_written.true c.args.waiting.now

pub returns : goal.returns
returns g c =
    let slot = c.args.slot in
    let entries = c.args.entries.now.items in
    let waiting = c.args.waiting.now in
    let left = c.take_written.ensures.left c.if-take_written.false in
    let none = ap (λ b. has_written b slot entries) left ∙ c.take_written.ensures.none c.if-take_written.false in
    subst (λ b. IsFiled g.D.Disk.facts PrepareCall slot entries waiting b c.write_down.new.self c.write_down.result) left
    (prepare_after g.D.Disk.facts slot entries waiting c.take_written.new.self c.make_room-place.new.self c.write_down.new.self c.write_down.result c.make_room-place.ensures.same c.make_room-place.ensures.made
    c.write_down.ensures.tried none (c.make_room-place.ensures.made.fewer slot entries none) c.write_down.ensures.filed)
