-- Goals of `put_used` (src/limits.rt): its parts are put one after the other.
use Rattle.std.proofs.Common.{◌++◌, codes, decimal}
use Rattle.mw_server_pages.specs.Limits.{used}
use Rattle.mw_server_pages.proofs.Parts.{before}
use Rattle.mw_server_pages.proofs.limits.put_used.Goals as goal

pub returns-clause-used : goal.returns-clause-used
unfolding used
returns-clause-used c =
    before c.args.text.now.bytes.items (codes "</td><td>" ++ decimal c.args.limit.now.used ++ codes " of " ++ decimal c.args.limit.now.most ++ codes "</td><td><meter max=\"" ++ decimal c.args.limit.now.most ++ codes "\" value=\"" ++ decimal c.args.limit.now.used) (codes "\"></meter></td><td>")
    (before c.args.text.now.bytes.items (codes "</td><td>" ++ decimal c.args.limit.now.used ++ codes " of " ++ decimal c.args.limit.now.most ++ codes "</td><td><meter max=\"" ++ decimal c.args.limit.now.most ++ codes "\" value=\"") (decimal c.args.limit.now.used)
    (before c.args.text.now.bytes.items (codes "</td><td>" ++ decimal c.args.limit.now.used ++ codes " of " ++ decimal c.args.limit.now.most ++ codes "</td><td><meter max=\"" ++ decimal c.args.limit.now.most) (codes "\" value=\"")
    (before c.args.text.now.bytes.items (codes "</td><td>" ++ decimal c.args.limit.now.used ++ codes " of " ++ decimal c.args.limit.now.most ++ codes "</td><td><meter max=\"") (decimal c.args.limit.now.most)
    (before c.args.text.now.bytes.items (codes "</td><td>" ++ decimal c.args.limit.now.used ++ codes " of " ++ decimal c.args.limit.now.most) (codes "</td><td><meter max=\"")
    (before c.args.text.now.bytes.items (codes "</td><td>" ++ decimal c.args.limit.now.used ++ codes " of ") (decimal c.args.limit.now.most)
    (before c.args.text.now.bytes.items (codes "</td><td>" ++ decimal c.args.limit.now.used) (codes " of ")
    (before c.args.text.now.bytes.items (codes "</td><td>") (decimal c.args.limit.now.used) c.put.ensures.bytes c.put_number.ensures.number)
    c.put-2.ensures.bytes)
    c.put_number-2.ensures.number)
    c.put-3.ensures.bytes)
    c.put_number-3.ensures.number)
    c.put-4.ensures.bytes)
    c.put_number-4.ensures.number)
    c.put-5.ensures.bytes
