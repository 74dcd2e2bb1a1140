-- Goals of `put_cell` (src/recents.rt): its parts are put one after the other.
use Rattle.std.proofs.Common.{◌≡◌, ◌++◌, codes, decimal, flat_map, rules}
use Rattle.mw_server_pages.specs.Recents.{cell, point}
use Rattle.mw_server_pages.proofs.Parts.{before}
use Rattle.mw_server_pages.proofs.recents.put_cell.Goals as goal

pub returns-clause-cell : goal.returns-clause-cell
unfolding cell
returns-clause-cell c =
    let drawn : c.put_points.new.text.bytes.items ≡ c.put-3.new.self.bytes.items ++ flat_map point c.args.curve.now.points.items = search rules in
    before c.args.text.now.bytes.items (codes "<td>" ++ decimal c.args.curve.now.last ++ codes " (most " ++ decimal c.args.curve.now.most ++ codes ") <svg viewBox=\"0 0 180 30\" aria-hidden=\"true\"><path d=\"M0 0V30H180\"/><polyline points=\"" ++ flat_map point c.args.curve.now.points.items) (codes "\"/></svg></td>")
    (before c.args.text.now.bytes.items (codes "<td>" ++ decimal c.args.curve.now.last ++ codes " (most " ++ decimal c.args.curve.now.most ++ codes ") <svg viewBox=\"0 0 180 30\" aria-hidden=\"true\"><path d=\"M0 0V30H180\"/><polyline points=\"") (flat_map point c.args.curve.now.points.items)
    (before c.args.text.now.bytes.items (codes "<td>" ++ decimal c.args.curve.now.last ++ codes " (most " ++ decimal c.args.curve.now.most) (codes ") <svg viewBox=\"0 0 180 30\" aria-hidden=\"true\"><path d=\"M0 0V30H180\"/><polyline points=\"")
    (before c.args.text.now.bytes.items (codes "<td>" ++ decimal c.args.curve.now.last ++ codes " (most ") (decimal c.args.curve.now.most)
    (before c.args.text.now.bytes.items (codes "<td>" ++ decimal c.args.curve.now.last) (codes " (most ")
    (before c.args.text.now.bytes.items (codes "<td>") (decimal c.args.curve.now.last) c.put.ensures.bytes c.put_number.ensures.number)
    c.put-2.ensures.bytes)
    c.put_number-2.ensures.number)
    c.put-3.ensures.bytes)
    drawn)
    c.put-4.ensures.bytes
