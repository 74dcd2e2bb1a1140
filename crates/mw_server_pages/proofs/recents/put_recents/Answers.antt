-- Goals of `put_recents` (src/recents.rt): its parts are put one after the other.
use Rattle.std.proofs.Common.{◌++◌, codes, flat_map}
use Rattle.mw_server_pages.specs.Recents.{recent, recents}
use Rattle.mw_server_pages.proofs.Parts.{before}
use Rattle.mw_server_pages.proofs.recents.put_recents.Goals as goal

pub returns-clause-recents : goal.returns-clause-recents
unfolding recents
returns-clause-recents c =
    before c.args.text.now.bytes.items (codes "<h2>The last quarter of an hour</h2>\n<p>Each curve goes from 15 minutes ago to now, and from 0 to its most.</p>\n<table class=\"recent\">\n<tr><th>Tenant</th><th>State</th><th>Changes a second</th><th>A change, in &micro;s</th><th>A sync, in &micro;s</th></tr>\n") (flat_map recent c.args.recents.now ++ codes "</table>\n") c.put.ensures.bytes
    (before c.put.new.self.bytes.items (flat_map recent c.args.recents.now) (codes "</table>\n") c.put_rows.ensures.rows
    c.put-2.ensures.bytes)
