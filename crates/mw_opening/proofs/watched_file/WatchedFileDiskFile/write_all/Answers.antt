-- Goals of `write_all` (src/watched_file.rt).
use Rattle.std.specs.IoError.{error_kind}
use Rattle.std.proofs.Common.{◌≡◌, ◌∙◌, ap, false, refl, sym, true}
use Rattle.mw_disk.specs.FileCalls.{is_well, went_of}
use Rattle.mw_disk.proofs.Outcomes.{not_well}
use Rattle.mw_opening.specs.WatchedCalls.{AskedInVain, NotMade, OnceAsked}
use Rattle.mw_opening.proofs.watched_file.WatchedFileDiskFile.write_all.Goals as goal

pub returns-in-Err : goal.returns-in-Err
returns-in-Err g c = record { made = NotMade c.in-Err.ensures refl }

pub returns-then-must_be_asked : goal.returns-then-must_be_asked
returns-then-must_be_asked g c = record { made = OnceAsked c.ask.new.self.file tt c.in_default-ask.ensures (went_of c.write_once.result, refl, c.write_once.ensures) }

pub returns-in-Err-ask : goal.returns-in-Err-ask
returns-in-Err-ask g c = record {
  made = AskedInVain tt (λ well. let both : false ≡ true = sym (not_well (error_kind c.in-Err-ask.error)) ∙ ap is_well well in absurd (cc)) c.in-Err-ask.ensures;
}
