-- Goals of `put_row` (src/tenant_rows.rt): its parts are put one after the other.
use Rattle.std.proofs.Common.{◌≡◌, ◌++◌, ◌∙◌, List, ℕ, ap, codes}
use Rattle.mw_server_pages.specs.StatusPage.{cells, row, state_of}
use Rattle.mw_server_pages.proofs.Parts.{before}
use Rattle.mw_server_pages.proofs.tenant_rows.put_row.Goals as goal

pub returns-clause-row : goal.returns-clause-row
unfolding row
returns-clause-row c =
    let word : c.put-2.new.self.bytes.items ≡ c.put.new.self.bytes.items ++ state_of c.args.tenant.now =
    c.put-2.ensures.bytes ∙ ap (λ (state : List ℕ). c.put.new.self.bytes.items ++ state) c.state_of.ensures.word in
    before c.args.text.now.bytes.items (codes "<tr class=\"" ++ state_of c.args.tenant.now ++ codes "\"><td>" ++ cells c.args.tenant.now) (codes "</td></tr>\n")
    (before c.args.text.now.bytes.items (codes "<tr class=\"" ++ state_of c.args.tenant.now ++ codes "\"><td>") (cells c.args.tenant.now)
    (before c.args.text.now.bytes.items (codes "<tr class=\"" ++ state_of c.args.tenant.now) (codes "\"><td>")
    (before c.args.text.now.bytes.items (codes "<tr class=\"") (state_of c.args.tenant.now) c.put.ensures.bytes word)
    c.put-3.ensures.bytes)
    c.put_cells.ensures.cells)
    c.put-4.ensures.bytes
