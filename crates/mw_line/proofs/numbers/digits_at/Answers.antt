-- Goals of `digits_at` (src/numbers.rt).
use Rattle.std.proofs.Common.{inl, inr, refl, sym, ◌∙◌, ◌≡◌, ◌+◌, ◌-◌, ◌*◌, get_or, arith}
use Rattle.mw_line.proofs.Digits.{digit_in_front, capped_step, ended, no_digit_below, no_digit_above, seen_narrowly}
use Rattle.mw_line.specs.LineReader.{digits_at}
use Rattle.mw_line.proofs.numbers.digits_at.Goals as goal
use Rattle.mw_line.proofs.numbers.digits_at.Goals.{in_default, in_default-2, in_default-3}

pub loop-rest-init : goal.loop-rest-init
loop-rest-init c = (0, refl, refl)

pub loop-rest-preserved : goal.loop-rest-preserved
loop-rest-preserved c =
    let i = c.loop-rest.invariant in
    let rest = c.loop-rest.rest.now in
    (i.0 * 10 + (get_or rest 0 0 - 48), omega (arith, capped_step i.0 (get_or rest 0 0 - 48), i.1), sym (digit_in_front i.0 rest (omega arith) (omega arith) (omega arith)) ∙ i.2)

pub returns : goal.returns
returns c =
    let i = c.loop-rest.invariant in
    let rest = c.loop-rest.rest.now in
    let end : digits_at i.0 rest ≡ (i.0, rest) =
    elim c.if-rest-lt1.branch [
      | in_default w ↦ ended i.0 rest (inl (omega arith))
      | in_default-2 w ↦ ended i.0 rest (inr (no_digit_below (get_or rest 0 0) (omega arith)))
      | in_default-3 w ↦ ended i.0 rest (inr (no_digit_above (get_or rest 0 0) (omega arith)))
    ] in
    seen_narrowly c.loop-rest.number i.0 rest c.args.bytes.now i.1 i.2 end
