-- Goals of `read_path` (src/lines.rt).
use Rattle.std.proofs.Common.{sym}
use Rattle.std.specs.List.{list_all}
use Rattle.std.proofs.lemmas.Str.{IsUtf8-from_ascii}
use Rattle.mw_config.specs.LineTexts.{is_path_byte}
use Rattle.mw_config.proofs.LineTextLaws.{both_true}
use Rattle.mw_config.proofs.FirstLines.{path_is_ascii}
use Rattle.mw_config.proofs.lines.read_path.Goals as goal

pub returns-in_default : goal.returns-in_default
returns-in_default c =
    let text = c.args.text.now in
    let bytes = (both_true _ (list_all is_path_byte text) (sym c.if-not-is_path.ensures)).1 in
    absurd (c.in_default.ensures.cases.0 (IsUtf8-from_ascii text (path_is_ascii text bytes)))
