-- Goals of `put_limit` (src/limits.rt): its parts are put one after the other.
use Rattle.std.proofs.Common.{◌≡◌, ◌++◌, ◌∙◌, List, ℕ, ap, codes, rules}
use Rattle.mw_server_pages.specs.Escapes.{escaped}
use Rattle.mw_server_pages.specs.Limits.{kind, limit, nearness, remedy, used}
use Rattle.mw_server_pages.proofs.Parts.{before}
use Rattle.mw_server_pages.proofs.limits.put_limit.Goals as goal

pub returns-clause-limit : goal.returns-clause-limit
unfolding limit
returns-clause-limit c =
    let word : c.put-2.new.self.bytes.items ≡ c.put.new.self.bytes.items ++ nearness c.args.limit.now.near =
    c.put-2.ensures.bytes ∙ ap (λ (text : List ℕ). c.put.new.self.bytes.items ++ text) c.nearness.ensures.word in
    let name : c.put-4.new.self.bytes.items ≡ c.put-3.new.self.bytes.items ++ kind c.args.limit.now.kind =
    c.put-4.ensures.bytes ∙ ap (λ (text : List ℕ). c.put-3.new.self.bytes.items ++ text) c.name.ensures.name in
    let tenant : c.put_escaped.new.self.bytes.items ≡ c.put-4.new.self.bytes.items ++ escaped c.args.limit.now.tenant.items = search rules in
    let raises : c.put-5.new.self.bytes.items ≡ c.put_used.new.text.bytes.items ++ remedy c.args.limit.now.kind =
    c.put-5.ensures.bytes ∙ ap (λ (text : List ℕ). c.put_used.new.text.bytes.items ++ text) c.remedy.ensures.remedy in
    before c.args.text.now.bytes.items (codes "<tr class=\"" ++ nearness c.args.limit.now.near ++ codes "\"><td>" ++ kind c.args.limit.now.kind ++ escaped c.args.limit.now.tenant.items ++ used c.args.limit.now ++ remedy c.args.limit.now.kind) (codes "</td></tr>\n")
    (before c.args.text.now.bytes.items (codes "<tr class=\"" ++ nearness c.args.limit.now.near ++ codes "\"><td>" ++ kind c.args.limit.now.kind ++ escaped c.args.limit.now.tenant.items ++ used c.args.limit.now) (remedy c.args.limit.now.kind)
    (before c.args.text.now.bytes.items (codes "<tr class=\"" ++ nearness c.args.limit.now.near ++ codes "\"><td>" ++ kind c.args.limit.now.kind ++ escaped c.args.limit.now.tenant.items) (used c.args.limit.now)
    (before c.args.text.now.bytes.items (codes "<tr class=\"" ++ nearness c.args.limit.now.near ++ codes "\"><td>" ++ kind c.args.limit.now.kind) (escaped c.args.limit.now.tenant.items)
    (before c.args.text.now.bytes.items (codes "<tr class=\"" ++ nearness c.args.limit.now.near ++ codes "\"><td>") (kind c.args.limit.now.kind)
    (before c.args.text.now.bytes.items (codes "<tr class=\"" ++ nearness c.args.limit.now.near) (codes "\"><td>")
    (before c.args.text.now.bytes.items (codes "<tr class=\"") (nearness c.args.limit.now.near) c.put.ensures.bytes word)
    c.put-3.ensures.bytes)
    name)
    tenant)
    c.put_used.ensures.used)
    raises)
    c.put-6.ensures.bytes
