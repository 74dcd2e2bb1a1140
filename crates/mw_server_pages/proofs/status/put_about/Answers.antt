-- Goals of `put_about` (src/status.rt): its parts are put one after the other.
use Rattle.std.proofs.Common.{codes, ◌++◌}
use Rattle.mw_server_pages.specs.Escapes.{escaped}
use Rattle.mw_server_pages.specs.Spans.{span}
use Rattle.mw_server_pages.specs.StatusPage.{about}
use Rattle.mw_server_pages.proofs.Parts.{before}
use Rattle.mw_server_pages.proofs.status.put_about.Goals as goal

pub returns-clause-about : goal.returns-clause-about
unfolding about
returns-clause-about c =
    before c.args.text.now.bytes.items (codes "<p>Version " ++ escaped c.args.version.now ++ codes ", up for " ++ span c.args.seconds) (codes ".</p>\n")
    (before c.args.text.now.bytes.items (codes "<p>Version " ++ escaped c.args.version.now ++ codes ", up for ") (span c.args.seconds)
    (before c.args.text.now.bytes.items (codes "<p>Version " ++ escaped c.args.version.now) (codes ", up for ")
    (before c.args.text.now.bytes.items (codes "<p>Version ") (escaped c.args.version.now)
    c.put.ensures.bytes c.put_escaped.ensures.escaped) c.put-2.ensures.bytes) c.put_span.ensures.span) c.put-3.ensures.bytes
