-- Goals of `read_dump` (src/dump.rt).
use Rattle.mwinit.proofs.Dumps.{whole}
use Rattle.mwinit.proofs.dump.read_dump.Goals as goal

pub returns : goal.returns
returns c =
    let first = c.in_ok-has_second.ensures in
    whole c.args.text.now c.in_ok-has_second.sizes.now c.in_ok-number.after.now c.in_ok-places.entries.now c.in_ok-lines.lines.now c.in_ok-words.words.items
    c.in_ok-has_second.has_second c.in_ok-number.number c.in_ok-places.places first.0
    first.1 c.in_ok-number.ensures c.in_ok-places.ensures c.in_ok-lines.ensures c.in_ok-words.ensures.text c.in_ok-words.ensures.number
