-- Goals of `old_bytes` (src/unopened.rt).
use Rattle.mw_world_file.proofs.OldFiles.{made_old}
use Rattle.mw_world_file.proofs.unopened.old_bytes.Goals as goal

pub returns : goal.returns
returns c =
    made_old c.args.words c.args.places c.args.change.now.items c.laid_out.result c.requires.few
    (record { some_word = c.requires.some_word; words_fit = c.requires.words_fit; some_place = c.requires.some_place; places_fit = c.requires.places_fit }) c.requires.formed c.laid_out.ensures
