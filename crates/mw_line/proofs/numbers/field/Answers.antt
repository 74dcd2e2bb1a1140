-- Goals of `field` (src/numbers.rt).
use Rattle.std.proofs.Common.{◌≡◌, ◌+◌, ◌-◌, ◌∙◌, ap, sym, List, ℕ, Some, length, take, drop, take_all, arith}
use Rattle.std.proofs.lemmas.List.{length-drop}
use Rattle.std.specs.Prelude.{option_map}
use Rattle.mw_line.proofs.Fronts.{field_by_place, cut_at}
use Rattle.mw_line.proofs.numbers.field.Goals as goal

pub returns-in_default-clause-read : goal.returns-in_default-clause-read
returns-in_default-clause-read c =
    field_by_place c.args.end c.args.bytes.now ∙ ap (option_map (cut_at c.args.bytes.now)) (sym c.in_default.ensures)

pub returns-clause-read : goal.returns-clause-read
returns-clause-read c =
    let bytes = c.args.bytes.now in
    let at = c.in-Some.at in
    let rest : take (length bytes - (at + 1)) (drop (at + 1) bytes) ≡ drop (at + 1) bytes = take_all (length bytes - (at + 1)) (drop (at + 1) bytes) (omega (arith, length-drop (at + 1) bytes)) in
    field_by_place c.args.end bytes ∙ ap (option_map (cut_at bytes)) (sym c.in-Some.ensures) ∙ ap (λ (x : List ℕ). Some (take at bytes, x)) (sym rest)
