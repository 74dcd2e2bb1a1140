-- Goals of `write_report` (src/session.rt).
use Rattle.std.proofs.Common.{subst}
use Rattle.mw_session.specs.KnownStreams.{writes_of}
use Rattle.mw_session.specs.SessionParts.{Writes}
use Rattle.mw_session.proofs.session.write_report.Goals as goal

pub returns-clause-replies : goal.returns-clause-replies
returns-clause-replies g c =
    let sent = c.write_counted in (
      c.report-text.result.items,
      c.report-text.ensures.performs,
      subst (λ text. Writes (writes_of c.args.stream.now) (writes_of sent.new.stream) c.args.count.now sent.new.count text sent.result)
          c.deref.ensures.0 sent.ensures.writes,
    )
