-- Goals of `name_len` (src/hosts.rt).
use Rattle.std.proofs.Common.{sym, ◌∙◌}
use Rattle.mw_http.specs.Hosts.{is_name_byte}
use Rattle.mw_http.proofs.Prefixes.{one_more, first, whole}
use Rattle.mw_http.proofs.hosts.name_len.Goals as goal

pub loop-at-preserved : goal.loop-at-preserved
loop-at-preserved c =
    one_more is_name_byte c.args.value.now c.loop-at.at c.loop-at-test.true (sym c.is_name_byte.ensures ∙ c.if-not-is_name_byte.false) c.loop-at.invariant

pub returns-then-not-is_name_byte-clause-name : goal.returns-then-not-is_name_byte-clause-name
returns-then-not-is_name_byte-clause-name c =
    first is_name_byte c.args.value.now c.loop-at.at c.loop-at-test.true (sym c.is_name_byte.ensures ∙ c.if-not-is_name_byte.true) c.loop-at.invariant

pub returns-clause-name : goal.returns-clause-name
returns-clause-name c = whole is_name_byte c.args.value.now c.loop-at.at c.loop-at-test.false c.loop-at.invariant
