-- Goals of `which_are_open` (src/opened_parts.rt).
use Rattle.std.proofs.Common.{◌++◌, ◌∷◌, [], map, take, ap, sym, ◌∙◌, arith}
use Rattle.std.proofs.lemmas.List.{map_more, take_all}
use Rattle.std.specs.Prelude.{is_some}
use Rattle.mw_programs.proofs.opened_parts.which_are_open.Goals as goal

pub loop-file-preserved : goal.loop-file-preserved
loop-file-preserved g c =
    let files = c.args.files.now in
    let k = c.loop-file.file-index in
    record {
      told = c.push.ensures.items ∙ ap (λ xs. xs ++ c.is_some.result ∷ []) c.loop-file.invariant.told
          ∙ ap (λ b. map (λ file. is_some file) (take k files) ++ b ∷ []) (c.is_some.ensures ∙ ap (λ file. is_some file) c.file-item.is)
          ∙ sym (map_more (λ file. is_some file) files k c.file-item.result c.loop-file-test.true);
      count = omega (arith, c.push.ensures.len, c.loop-file.invariant.count);
    }

pub returns : goal.returns
returns g c = record { each = c.loop-file.invariant.told ∙ ap (map (λ file. is_some file)) (take_all c.loop-file.file-index c.args.files.now c.loop-file-test.false) }
