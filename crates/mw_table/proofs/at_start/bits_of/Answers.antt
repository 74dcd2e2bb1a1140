-- Goals of `bits_of` (src/at_start.rt).
use Rattle.std.specs.Prelude.{not}
use Rattle.std.proofs.Common.{◌≡◌, Bool, ap, sym, subst, ◌∙◌}
use Rattle.mw_words.specs.declared.places.At.{At}
use Rattle.mw_words.specs.Patterns.{packed_door}
use Rattle.mw_look.specs.Places.{pack}
use Rattle.mw_world.specs.Definition.Cells.{read}
use Rattle.mw_table.specs.TableAtStart.{world_given}
use Rattle.mw_table.proofs.TableAtStartLaws.{opened_so, value_so}
use Rattle.mw_table.proofs.at_start.bits_of.Goals as goal

pub returns-in-Door : goal.returns-in-Door
returns-in-Door c =
    let config = c.args.config.now in
    let found = c.args.openings.now in
    subst (λ (at : At). c.door_of.result ≡ pack at (read (world_given config found).cells at)) (sym c.in-Door.is)
    (c.door_of.ensures ∙ ap (λ (up : Bool). packed_door (record { fault = not up; used = 0 })) (opened_so config.tenants.items found c.in-Door.tenant c.requires.one_each))

pub returns-in-Data : goal.returns-in-Data
returns-in-Data c =
    let config = c.args.config.now in
    let found = c.args.openings.now in
    subst (λ (at : At). c.value_of.result ≡ pack at (read (world_given config found).cells at)) (sym c.in-Data.is)
    (c.value_of.ensures ∙ value_so config.tenants.items found c.in-Data.tenant c.in-Data.address c.requires.one_each)
