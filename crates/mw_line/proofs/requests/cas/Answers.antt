-- Goals of `cas` (src/requests.rt).
use Rattle.std.proofs.Common.{◌≡◌, ℕ, List, Bool, false, eqb, length, ap, sym, ◌∙◌}
use Rattle.std.proofs.lemmas.Bool.{eqb-false}
use Rattle.std.proofs.lemmas.Result.{err_from_is_err_and}
use Rattle.mw_line.specs.Grammar.{Cas}
use Rattle.mw_line.proofs.ChangeReader.{cas_read}
use Rattle.mw_line.proofs.requests.cas.Goals as goal

not_empty : (text : List ℕ) (b : Bool) → b ≡ false → b ≡ eqb (length text) 0 → length text ≡ 0 → ⊥
not_empty text b f e = eqb-false (length text) 0 (sym e ∙ f)

pub returns-in_err-entries : goal.returns-in_err-entries
returns-in_err-entries c =
    let some = not_empty c.args.text.now c.is_empty.result c.if-is_empty.false c.is_empty.ensures in
    let r = cas_read c.args.text.now c.in-Some.listing some c.in-Some.ensures in
    let p = err_from_is_err_and c.from_residual.result c.from_residual.ensures.1 in
    rw (p.1, p.2, r.read) (c.in_err-entries.ensures r.entries r.some r.lists)

pub returns : goal.returns
returns c =
    let some = not_empty c.args.text.now c.is_empty.result c.if-is_empty.false c.is_empty.ensures in
    let r = cas_read c.args.text.now c.in-Some.listing some c.in-Some.ensures in
    let h = c.in_ok-entries.ensures r.entries r.some r.lists in
    rw r.read (h.0, ap Cas h.1)
