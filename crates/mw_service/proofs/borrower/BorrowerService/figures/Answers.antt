-- Goals of `Borrower::figures` (src/borrower.rt).
use Rattle.std.specs.Prelude.{◌≡◌, Option, Some}
use Rattle.std.proofs.Common.{rules, subst, sym}
use Rattle.mw_report.specs.declared.figures.Figures.{Figures}
use Rattle.mw_engine.specs.Brand.{Identity}
use Rattle.mw_engine.specs.FromBelow.{Note}
use Rattle.mw_service.specs.Borrowed.{AreCountedWith}
use Rattle.mw_service.proofs.borrower.BorrowerService.figures.Goals.{in-Some, in-None}
use Rattle.mw_service.proofs.borrower.BorrowerService.figures.Goals as goal

-- what a pool counted, given by equal parts
counted_so : (identity : Identity) (note old : Option Note) (got figures : Figures × Note) → note ≡ old → figures ≡ got → AreCountedWith identity note got.0 (Some got.1)
    → AreCountedWith identity old figures.0 (Some figures.1)
counted_so identity note old got figures same_note is counted =
    subst (λ (one : Option Note). AreCountedWith identity one figures.0 (Some figures.1)) same_note
    (subst (λ (one : Figures × Note). AreCountedWith identity note one.0 (Some one.1)) (sym is) counted)

pub returns-clause-answered : goal.returns-clause-answered
returns-clause-answered g c = elim c.match-self.branch [
  | in-Some w ↦ (counted_so g.J.EngineBrand.identity c.take-note.result c.args.self.now.note w.figures.result c.match-self.figures c.take-note.ensures.value w.figures-is w.figures.ensures.counted, search rules)
  | in-None w ↦
      (counted_so g.J.EngineBrand.identity c.take-note.result c.args.self.now.note w.figures-in-None.result c.match-self.figures c.take-note.ensures.value w.figures-is w.figures-in-None.ensures.counted, search rules)
]
