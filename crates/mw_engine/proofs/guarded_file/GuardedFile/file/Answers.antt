-- Goals of `GuardedFile::file` (src/file_calls.rt).
use Rattle.std.proofs.Common.{sym, ◌∙◌}
use Rattle.mw_engine.proofs.GuardedFileLaws.{keeps_some, kept_over, file_pass_of, there_of}
use Rattle.mw_engine.proofs.RequestAfterFileCall.{file_same}
use Rattle.mw_engine.proofs.guarded_file.GuardedFile.file.Goals as goal

pub file-file_pass-requires-clause-file_pass : goal.file-file_pass-requires-clause-file_pass
file-file_pass-requires-clause-file_pass g c =
    let old = c.args.self.now in
    let file_pass = c.in-Some.file_pass in
    file_pass_of g.D.Disk.facts c.args.core.now.shared g.J.EngineBrand.identity c.requires.engine old.book file_pass (old.kept.kept file_pass (sym c.take.ensures.value ∙ c.in-Some.is))

pub file-file_pass-requires-clause-agrees : goal.file-file_pass-requires-clause-agrees
file-file_pass-requires-clause-agrees g c =
    let old = c.args.self.now in
    let file_pass = c.in-Some.file_pass in
    there_of g.D.Disk.facts c.args.core.now.shared g.J.EngineBrand.identity c.requires.engine old.book file_pass (old.kept.kept file_pass (sym c.take.ensures.value ∙ c.in-Some.is))

pub invariant_of-self : goal.invariant_of-self
invariant_of-self g c =
    let old = c.args.self.now in
    let file_pass = c.in-Some.file_pass in
    let facts = g.D.Disk.facts in
    let identity = g.J.EngineBrand.identity in
    let made = c.file-file_pass in
    let taken = sym c.take.ensures.value ∙ c.in-Some.is in
    record {
      kept = keeps_some facts identity made.new.book made.result old.tenant
          (kept_over facts c.args.core.now.shared identity c.requires.engine _ c.args.pass.now made.new.pass c.args.actor.now made.new.actor old.book made.new.book file_pass made.result c.requires.own c.requires.carried
          (old.kept.its file_pass taken ∙ c.requires.whose) (old.kept.kept file_pass taken) made.ensures.files made.ensures.file_pass made.ensures.whose made.ensures.follows made.ensures.known made.ensures.agrees)
          (made.ensures.whose ∙ old.kept.its file_pass taken);
    }

pub returns-clause-files : goal.returns-clause-files
returns-clause-files g c =
    let old = c.args.self.now in
    let file_pass = c.in-Some.file_pass in
    let facts = g.D.Disk.facts in
    let identity = g.J.EngineBrand.identity in
    let made = c.file-file_pass in
    let taken = sym c.take.ensures.value ∙ c.in-Some.is in
    let its = old.kept.its file_pass taken ∙ c.requires.whose in
    let kept = old.kept.kept file_pass taken in
    record {
      before = old.book;
      after = made.new.book;
      file_pass = file_pass;
      returned = made.result;
      kept_before = kept;
      kept_after = kept_over facts c.args.core.now.shared identity c.requires.engine _ c.args.pass.now made.new.pass c.args.actor.now made.new.actor old.book made.new.book file_pass made.result c.requires.own c.requires.carried
          its kept made.ensures.files made.ensures.file_pass made.ensures.whose made.ensures.follows made.ensures.known made.ensures.agrees;
      its = its;
      its_still = made.ensures.whose ∙ its;
      follows = made.ensures.follows;
      known = made.ensures.known;
      waiting = _;
      once = made.ensures.files;
    }

pub returns-clause-whose : goal.returns-clause-whose
returns-clause-whose g c =
    let made = c.file-file_pass in
    c.requires.whose ∙ sym (file_same g.D.Disk.facts g.J.EngineBrand.identity c.args.pass.now made.new.pass c.args.actor.now made.new.actor (returns-clause-files g c)).same_tenant
