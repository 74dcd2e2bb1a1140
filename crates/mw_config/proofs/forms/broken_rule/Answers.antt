-- Goals of `broken_rule` (src/forms.rt).
use Rattle.std.proofs.Common.{Some}
use Rattle.mw_config.specs.declared.forms.FormRule.TheVariants as rule
use Rattle.mw_config.proofs.FormRules.{first_line, text_by_line, no_line_feed, begins}
use Rattle.mw_config.proofs.forms.broken_rule.Goals as goal

pub returns-in-Some-clause-first : goal.returns-in-Some-clause-first
returns-in-Some-clause-first c = text_by_line c.args.text.now c.in-Some.line.now (first_line c.args.text.now c.in-Some.line.now _ c.in-Some.ensures.read) _ c.rule_of_line.ensures

pub returns-in-Some-clause-line : goal.returns-in-Some-clause-line
returns-in-Some-clause-line c = begins c.args.text.now _ (returns-in-Some-clause-first c)

pub returns-in-None-clause-first : goal.returns-in-None-clause-first
returns-in-None-clause-first c = no_line_feed c.args.text.now c.in-None.ensures.read

pub returns-in-None-clause-line : goal.returns-in-None-clause-line
returns-in-None-clause-line c = begins c.args.text.now (Some rule.LineFeed) (returns-in-None-clause-first c)
