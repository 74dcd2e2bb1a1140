-- Goals of `write_head` (src/written.rt).
use Rattle.std.proofs.Common.{ap, sym, ◌∙◌, length}
use Rattle.std.proofs.lemmas.List.{length-take-le}
use Rattle.mw_record.specs.declared.layout.Layout.TheVariants.{Second}
use Rattle.mw_record.proofs.ReadAgain.{length-header}
use Rattle.mw_record.proofs.written.write_head.Goals as goal

pub copy_from_slice-requires : goal.copy_from_slice-requires
copy_from_slice-requires c =
    length-take-le 32 c.args.out.now c.requires.long ∙ sym (ap length c.header2.ensures ∙ length-header Second c.args.words c.args.places)
