-- Goals of `open_synced` (src/opening.rt).
use Rattle.std.proofs.Common.{Err, Ok, sym, ◌∙◌, arith}
use Rattle.mw_opening.specs.SyncedOpenings.{SizesDiffer}
use Rattle.mw_opening.proofs.DisksOpened.{opens_after_sync}
use Rattle.mw_opening.proofs.FilesFitLines.{is_fresh}
use Rattle.mw_opening.proofs.FilesRefused.{of_opening, of_sync}
use Rattle.mw_opening.proofs.opening.open_synced.Goals as goal
use Rattle.mw_opening.proofs.opening.open_synced.Goals.{then-len-line-via-then-len-line, then-len-line-via-else-len-line+then-places-from}

pub returns-then-is_err-clause-refused : goal.returns-then-is_err-clause-refused
returns-then-is_err-clause-refused g c = λ other.
    of_sync g.D.Disk.facts g.D.Disk.made c.args.line.now c.args.disk c.sync.new.self c.sync.result
    (sym c.is_err.ensures.value ∙ c.if-is_err.true) c.sync.ensures.made c.sync.ensures.call

pub returns-then-len-line-clause-refused : goal.returns-then-len-line-clause-refused
returns-then-len-line-clause-refused g c = λ other.
    SizesDiffer (c.in-Ok.file, c.in-Ok.words)
    (opens_after_sync g.D.Disk.facts g.D.Disk.made c.args.disk c.sync.new.self c.sync.result (Ok (c.in-Ok.file, c.in-Ok.words))
    (sym c.is_err.ensures.value ∙ c.if-is_err.false) c.sync.ensures.made c.sync.ensures.call c.sync.ensures.same c.sync.ensures.durable c.in-Ok.ensures.opens c.in-Ok.ensures.made)
    (λ sizes. elim c.then-len-line.branch [
      | then-len-line-via-then-len-line w ↦ omega (arith, c.len.ensures, w.if-len-line.true, sizes.0)
      | then-len-line-via-else-len-line+then-places-from w ↦ omega (arith, w.places.ensures, w.from.ensures, w.if-places-from.true, sizes.1)
    ])

pub returns-in-Ok-clause-opened : goal.returns-in-Ok-clause-opened
returns-in-Ok-clause-opened g c =
    opens_after_sync g.D.Disk.facts g.D.Disk.made c.args.disk c.sync.new.self c.sync.result (Ok (c.in-Ok.file, c.in-Ok.words))
    (sym c.is_err.ensures.value ∙ c.if-is_err.false) c.sync.ensures.made c.sync.ensures.call c.sync.ensures.same c.sync.ensures.durable c.in-Ok.ensures.opens c.in-Ok.ensures.made

pub returns-in-Ok-clause-fits : goal.returns-in-Ok-clause-fits
returns-in-Ok-clause-fits g c =
    let opened = returns-in-Ok-clause-opened g c in
    is_fresh g.D.Disk.facts c.args.line.now opened.synced c.in-Ok.file c.in-Ok.words opened.opens opened.rest
    (omega (arith, c.len.ensures, c.if-len-line.false)) (omega (arith, c.places.ensures, c.from.ensures, c.if-places-from.false))

pub returns-clause-refused : goal.returns-clause-refused
returns-clause-refused g c = λ other.
    let opens = opens_after_sync g.D.Disk.facts g.D.Disk.made c.args.disk c.sync.new.self c.sync.result (Err (c.in-Err.fault, c.in-Err.field-0-1))
    (sym c.is_err.ensures.value ∙ c.if-is_err.false) c.sync.ensures.made c.sync.ensures.call c.sync.ensures.same c.sync.ensures.durable c.in-Err.ensures.opens c.in-Err.ensures.made in
    of_opening g.D.Disk.facts g.D.Disk.made c.args.line.now c.args.disk c.in-Err.field-0-1 c.in-Err.fault c.of_opening.result opens c.of_opening.ensures.memory other
