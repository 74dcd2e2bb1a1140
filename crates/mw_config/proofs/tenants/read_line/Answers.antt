-- Goals of `read_line` (src/tenants.rt).
use Rattle.std.proofs.Common.{sym, arith}
use Rattle.mw_line.specs.LineReader.{narrow}
use Rattle.mw_config.specs.LineTexts.{lines_of}
use Rattle.mw_config.specs.LineReader.{line_of_fields}
use Rattle.mw_config.proofs.LineTextLaws.{none_there}
use Rattle.mw_config.proofs.FirstLines.{number_is, refused_words, refused_quota, refused_twice, refused_many, taken}
use Rattle.mw_config.proofs.tenants.read_line.Goals as goal

pub returns-in_default : goal.returns-in_default
returns-in_default c = (number_is c.args.earlier.now, none_there narrow.addr c.args.text.now c.in_default.ensures)

pub returns-then-not-is_within : goal.returns-then-not-is_within
returns-then-not-is_within c = (number_is c.args.earlier.now, refused_words (lines_of c.args.earlier.now) c.args.text.now (line_of_fields c.in-Some.told) c.in-Some.after.now _ c.in-Some.ensures (sym c.if-not-is_within.ensures))

pub returns-then-not-is_within-2 : goal.returns-then-not-is_within-2
returns-then-not-is_within-2 c = (number_is c.args.earlier.now, refused_quota (lines_of c.args.earlier.now) c.args.text.now (line_of_fields c.in-Some.told) c.in-Some.after.now _ c.in-Some.ensures (sym c.if-not-is_within.ensures) (sym c.if-not-is_within-2.ensures))

pub returns-then-not-is_new : goal.returns-then-not-is_new
returns-then-not-is_new c = (number_is c.args.earlier.now, refused_twice c.args.earlier.now c.args.text.now (line_of_fields c.in-Some.told) c.in-Some.after.now _ c.in-Some.ensures (sym c.if-not-is_within.ensures) (sym c.if-not-is_within-2.ensures) (sym c.if-not-is_new.ensures))

pub returns-then-earlier-ge-MAX_TENANTS : goal.returns-then-earlier-ge-MAX_TENANTS
returns-then-earlier-ge-MAX_TENANTS c = (number_is c.args.earlier.now, refused_many c.args.earlier.now c.args.text.now (line_of_fields c.in-Some.told) c.in-Some.after.now _ c.in-Some.ensures (sym c.if-not-is_within.ensures) (sym c.if-not-is_within-2.ensures) (sym c.if-not-is_new.ensures) (omega arith))

pub returns : goal.returns
returns c = taken c.args.earlier.now c.args.text.now (line_of_fields c.in-Some.told) c.in-Some.after.now c.in-Some.ensures (sym c.if-not-is_within.ensures) (sym c.if-not-is_within-2.ensures) (sym c.if-not-is_new.ensures) (omega arith)
