-- Goals of `put_end` (src/status.rt): its parts are put one after the other.
use Rattle.std.proofs.Common.{codes, decimal, rules, ◌++◌, ◌≡◌}
use Rattle.mw_server_pages.specs.StatusPage.{end}
use Rattle.mw_server_pages.proofs.Parts.{before}
use Rattle.mw_server_pages.proofs.status.put_end.Goals as goal

pub returns : goal.returns
unfolding end
returns c =
    let number1 : c.put_number.new.self.bytes.items ≡ c.put.new.self.bytes.items ++ decimal c.args.pool_free = search rules in
    record {
      end = before c.args.text.now.bytes.items (codes "<p>Free slots of the pool: " ++ decimal c.args.pool_free) (codes ".</p>\n</div>\n<p><a href=\"metrics\">Figures for Prometheus</a>, <a href=\"healthz\">health</a></p>\n</body>\n</html>\n")
          (before c.args.text.now.bytes.items (codes "<p>Free slots of the pool: ") (decimal c.args.pool_free)
          c.put.ensures.bytes number1) c.put-2.ensures.bytes;
    }
