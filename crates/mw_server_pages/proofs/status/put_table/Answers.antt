-- Goals of `put_table` (src/status.rt): its parts are put one after the other.
use Rattle.std.proofs.Common.{◌++◌, codes, flat_map}
use Rattle.mw_server_pages.specs.StatusPage.{row, table}
use Rattle.mw_server_pages.proofs.Parts.{before}
use Rattle.mw_server_pages.proofs.status.put_table.Goals as goal

pub returns-clause-table : goal.returns-clause-table
unfolding table
returns-clause-table c =
    before c.args.text.now.bytes.items (codes "<h2>Tenants</h2>\n<table class=\"tenants\">\n<tr><th>Tenant</th><th>State</th><th>Words</th><th>Changes under way</th><th>Record places</th></tr>\n") (flat_map row c.args.tenants.now ++ codes "</table>\n") c.put.ensures.bytes
    (before c.put.new.self.bytes.items (flat_map row c.args.tenants.now) (codes "</table>\n") c.put_rows.ensures.rows
    c.put-2.ensures.bytes)
