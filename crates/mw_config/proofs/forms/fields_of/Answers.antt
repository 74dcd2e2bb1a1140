-- Goals of `fields_of` (src/forms.rt).
use Rattle.std.proofs.Common.{sym}
use Rattle.mw_config.proofs.FormRules.{no_name, no_words, no_quota, no_fields, fields_are}
use Rattle.mw_config.proofs.forms.fields_of.Goals as goal

pub returns-in_default : goal.returns-in_default
returns-in_default c = no_name c.args.line.now c.in_default.ensures.read

pub returns-in_default-field : goal.returns-in_default-field
returns-in_default-field c = no_words c.args.line.now c.in-Some.name.now c.in-Some.rest.now c.in-Some.ensures.read c.in_default-field.ensures.read

pub returns-in_default-field-2 : goal.returns-in_default-field-2
returns-in_default-field-2 c = no_quota c.args.line.now c.in-Some.name.now c.in-Some.rest.now c.in-Some-field.words.now c.in-Some-field.rest.now c.in-Some.ensures.read c.in-Some-field.ensures.read c.in_default-field-2.ensures.read

pub returns-then-not-are_fields : goal.returns-then-not-are_fields
returns-then-not-are_fields c = no_fields c.args.line.now c.in-Some.name.now c.in-Some.rest.now c.in-Some-field.words.now c.in-Some-field.rest.now c.in-Some-field-2.quota.now c.in-Some-field-2.path.now c.in-Some.ensures.read c.in-Some-field.ensures.read c.in-Some-field-2.ensures.read (sym c.if-not-are_fields.ensures)

pub returns : goal.returns
returns c = fields_are c.args.line.now c.in-Some.name.now c.in-Some.rest.now c.in-Some-field.words.now c.in-Some-field.rest.now c.in-Some-field-2.quota.now c.in-Some-field-2.path.now c.in-Some.ensures.read c.in-Some-field.ensures.read c.in-Some-field-2.ensures.read (sym c.if-not-are_fields.ensures)
