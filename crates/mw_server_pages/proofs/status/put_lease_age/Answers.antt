-- Goals of `put_lease_age` (src/status.rt): its parts are put one after the other.
use Rattle.std.proofs.Common.{codes, decimal, ◌++◌}
use Rattle.mw_server_pages.specs.StatusPage.{lease_line}
use Rattle.mw_server_pages.proofs.Parts.{before}
use Rattle.mw_server_pages.proofs.status.put_lease_age.Goals as goal

pub returns-clause-lease : goal.returns-clause-lease
unfolding lease_line
returns-clause-lease c =
    before c.args.text.now.bytes.items (codes "<p>Seconds since the last beat of the lease began: ") (decimal c.args.seconds ++ codes ".</p>\n")
    c.put.ensures.bytes
    (before c.put.new.self.bytes.items (decimal c.args.seconds) (codes ".</p>\n") c.put_number.ensures.number c.put-2.ensures.bytes)
