-- Proves the law `texts_are_lines`.
use Rattle.mw_frame.proofs.CutTexts.{each-is-cut, texts-are-lines, too-long-is-last}
use Rattle.mw_frame.proofs.laws.texts_are_lines.Goals as goal

pub returns : goal.returns
returns c = record { cut = each-is-cut; texts = texts-are-lines; too_long = too-long-is-last }
