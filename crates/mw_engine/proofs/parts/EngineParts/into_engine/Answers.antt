-- Goals of `EngineParts::into_engine` (src/start.rt).
use Rattle.std.proofs.Common.{sym, subst, ◌∙◌}
use Rattle.std.proofs.lemmas.List.{length-map}
use Rattle.mw_engine.specs.Brand.{Identity}
use Rattle.mw_engine.specs.DisksAtStart.{disks_in}
use Rattle.mw_engine.specs.GuardedFile.{AreKept}
use Rattle.mw_engine.specs.Lines.{line_of}
use Rattle.mw_engine.specs.TenantWords.{lines_told}
use Rattle.mw_engine.proofs.Branded.{with_own_disks}
use Rattle.mw_engine.proofs.parts.EngineParts.into_engine.Goals as goal

pub locked-requires-clause-kept : goal.locked-requires-clause-kept
locked-requires-clause-kept g c =
    subst (λ (identity : Identity). AreKept g.D.Disk.facts identity c.args.self.books.items c.args.self.file_passes.items) c.requires c.args.self.kept

-- there are as many file passes as books
pub locked-requires-clause-even : goal.locked-requires-clause-even
locked-requires-clause-even g c = c.args.self.a_file_pass_each ∙ sym c.args.self.a_book_each

-- the engine has the identity of its parts, and a lock for each line
pub invariant_of-result : goal.invariant_of-result
invariant_of-result g c =
    let parts = c.args.self in
    record {
      same = with_own_disks parts.words.core.shared (lines_told parts.words) (disks_in g.D.Disk.facts parts.books.items) g.J.EngineBrand.identity c.requires;
      a_book_each = c.in_ok-books.ensures ∙ (parts.a_book_each ∙ sym (length-map parts.words.lines.items line_of));
    }
