-- Goals of `address_len` (src/hosts.rt).
use Rattle.std.proofs.Common.{sym, ◌∙◌}
use Rattle.mw_http.specs.Hosts.{is_address_byte}
use Rattle.mw_http.proofs.Prefixes.{one_more, first, whole}
use Rattle.mw_http.proofs.hosts.address_len.Goals as goal

pub loop-at-preserved : goal.loop-at-preserved
loop-at-preserved c =
    one_more is_address_byte c.args.rest.now c.loop-at.at c.loop-at-test.true (sym c.is_address_byte.ensures ∙ c.if-not-is_address_byte.false) c.loop-at.invariant

pub returns-then-not-is_address_byte-clause-address : goal.returns-then-not-is_address_byte-clause-address
returns-then-not-is_address_byte-clause-address c =
    first is_address_byte c.args.rest.now c.loop-at.at c.loop-at-test.true (sym c.is_address_byte.ensures ∙ c.if-not-is_address_byte.true) c.loop-at.invariant

pub returns-clause-address : goal.returns-clause-address
returns-clause-address c = whole is_address_byte c.args.rest.now c.loop-at.at c.loop-at-test.false c.loop-at.invariant
