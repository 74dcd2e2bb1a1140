-- Goals of `listing_of` (src/changes.rt).
use Rattle.std.proofs.Common.{◌≡◌, ◌<◌, ℕ, List, Bool, true, false, eqb, length, sym, ◌∙◌, arith}
use Rattle.std.proofs.lemmas.Bool.{eqb-false, eqb-true}
use Rattle.mw_line.specs.LineReader.{narrow}
use Rattle.mw_line.proofs.ChangeReader.{begins, goes_on, ends, shorter, stops_at_space, stops_at_entry}
use Rattle.mw_line.proofs.changes.listing_of.Goals as goal

some_left : (rest : List ℕ) (b : Bool) → b ≡ false → b ≡ eqb (length rest) 0 → 0 < length rest
some_left rest b f e =
    let h : length rest ≡ 0 → ⊥ = eqb-false (length rest) 0 (sym e ∙ f) in
    omega arith

none_left : (rest : List ℕ) (b : Bool) → b ≡ true → b ≡ eqb (length rest) 0 → length rest ≡ 0
none_left rest b f e = eqb-true (length rest) 0 (sym e ∙ f)

pub loop-rest-init : goal.loop-rest-init
loop-rest-init c = begins c.new-listing.result c.args.bytes.now c.new-listing.ensures

pub returns-in_err-behind : goal.returns-in_err-behind
returns-in_err-behind c =
    let some = some_left c.loop-rest.rest.now c.is_empty.result c.loop-rest-test.true c.is_empty.ensures in
    rw c.from_residual.ensures (stops_at_space c.loop-rest.listing c.loop-rest.rest.now c.args.bytes.now c.loop-rest.invariant some c.in_err-behind.ensures)

pub returns-in_err-entry : goal.returns-in_err-entry
returns-in_err-entry c =
    rw c.from_residual-in_err-entry.ensures (stops_at_entry c.loop-rest.listing c.loop-rest.rest.now c.in_ok-behind.field-0.now c.args.bytes.now c.loop-rest.invariant c.in_ok-behind.ensures c.in_err-entry.ensures)

pub loop-rest-smaller : goal.loop-rest-smaller
loop-rest-smaller c = shorter narrow c.loop-rest.rest.now c.in_ok-behind.field-0.now c.in_ok-entry.after.now c.in_ok-entry.entry c.in_ok-behind.ensures c.in_ok-entry.ensures

pub loop-rest-preserved : goal.loop-rest-preserved
loop-rest-preserved c =
    goes_on c.loop-rest.listing c.note.new.self c.loop-rest.rest.now c.in_ok-behind.field-0.now c.in_ok-entry.after.now c.args.bytes.now c.in_ok-entry.entry c.loop-rest.invariant c.in_ok-behind.ensures c.in_ok-entry.ensures c.note.ensures

pub returns : goal.returns
returns c =
    ends c.loop-rest.listing c.loop-rest.rest.now c.args.bytes.now c.loop-rest.invariant (none_left c.loop-rest.rest.now c.is_empty.result c.loop-rest-test.false c.is_empty.ensures)
