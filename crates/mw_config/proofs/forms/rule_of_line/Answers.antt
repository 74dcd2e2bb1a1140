-- Goals of `rule_of_line` (src/forms.rt).
use Rattle.std.proofs.Common.{sym}
use Rattle.mw_config.specs.Forms.{as_fields}
use Rattle.mw_config.proofs.FormRules.{line_by_fields}
use Rattle.mw_config.proofs.forms.rule_of_line.Goals as goal

pub returns-in-Some : goal.returns-in-Some
returns-in-Some c = line_by_fields c.args.line.now (as_fields c.in-Some.name.now c.in-Some.words.now c.in-Some.quota.now c.in-Some.path.now) c.in-Some.ensures (sym c.if-not-are_line_bytes.ensures) _ c.rule_of_fields.ensures
