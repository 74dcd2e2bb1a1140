-- Goals of `after_entry` (src/dump.rt).
use Rattle.std.proofs.Common.{◌≡◌, ◌∙◌}
use Rattle.mwinit.specs.Dump.{open_line}
use Rattle.mwinit.proofs.Dumps.{entry_found, entry_printed}
use Rattle.mwinit.proofs.dump.after_entry.Goals as goal

pub returns : goal.returns
returns c =
    let place = c.first_number-place.result.0 in
    let addr = c.first_number-addr.result.0 in
    let value = c.first_number-value.result.0 in
    let line : c.as_bytes.result.now ≡ open_line (place, addr, value) = entry_printed place addr value c.as_bytes.result.now (c.as_bytes.ensures.value ∙ c.in_ok-line.ensures.ok) in
    entry_found c.behind-2.result c.args.text.now c.as_bytes.result.now (place, addr, value) line c.behind-2.ensures
