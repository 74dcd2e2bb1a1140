-- Goals of `receive_more` (src/receiving.rt): what one more read came to.
use Rattle.std.proofs.Common.{ℕ, List, map, Option, sym, ap, ◌∙◌, subst}
use Rattle.std.specs.Prelude.{string_bytes}
use Rattle.mw_session.specs.KnownStreams.{reads_of}
use Rattle.mw_session.specs.StreamRecords.{with_read_fault}
use Rattle.mw_http.specs.declared.receiving.Came.{Came}
use Rattle.mw_http.specs.Hearing.{Hears}
use Rattle.mw_http.specs.Exchanges.{ComesTo}
use Rattle.mw_http.proofs.Receipts.{at_end, some_read}
use Rattle.mw_http.proofs.receiving.receive_more.Goals as goal

pub returns-in-Ok-eq0-clause-comes : goal.returns-in-Ok-eq0-clause-comes
returns-in-Ok-eq0-clause-comes g c start so need =
    at_end (map string_bytes c.args.names.now) start (reads_of c.args.stream.now) (reads_of c.read_more.new.stream) c.args.bytes.now.items c.read_more.new.bytes.items
    c.read_more.result c.in-Ok-eq0.field-0 c.read_more.ensures.takes c.in-Ok-eq0.is c.in-Ok-eq0.field-0-test so need

pub returns-in-Ok-clause-comes : goal.returns-in-Ok-clause-comes
returns-in-Ok-clause-comes g c start so need =
    let names = map string_bytes c.args.names.now in
    let new = reads_of c.read_more.new.stream in
    let before = c.args.bytes.now.items in
    let after = c.read_more.new.bytes.items in
    let hears = subst (λ (bytes : List ℕ). Hears names bytes c.hear.result) c.deref.ensures.0 c.hear.ensures.heard in
    subst (λ (came : Option Came). ComesTo names start new before after came) (sym c.came_of.ensures)
    (some_read names start (reads_of c.args.stream.now) new before after c.in-Ok.field-0 c.hear.result c.in-Ok.ensures.takes c.in-Ok.field-0-test.1 so hears)

pub returns-in-Err-clause-comes : goal.returns-in-Err-clause-comes
returns-in-Err-clause-comes g c start so need =
    record { bytes = c.args.bytes.now.items; holds = (c.in-Err.ensures.takes ∙ ap with_read_fault so, need) }

pub returns-in-Err-2-clause-comes : goal.returns-in-Err-2-clause-comes
returns-in-Err-2-clause-comes g c start so need =
    record { bytes = c.args.bytes.now.items; holds = (c.in-Err-2.ensures.takes ∙ ap with_read_fault so, need) }
