-- Goals of `address_at` (src/numbers.rt).
use Rattle.std.proofs.Common.{refl}
use Rattle.mw_line.proofs.Numerals.{address_by_value, converted}
use Rattle.mw_line.proofs.numbers.address_at.Goals as goal

pub returns-in_err-number : goal.returns-in_err-number
returns-in_err-number c = rw (c.from_residual.ensures, address_by_value c.args.bytes.now, c.in_err-number.ensures) refl

pub returns : goal.returns
returns c =
    let small = converted c.in_ok-number.number c.try_from.result c.try_from.ensures in
    rw (c.unwrap_or.ensures, small, address_by_value c.args.bytes.now, c.in_ok-number.ensures) refl
