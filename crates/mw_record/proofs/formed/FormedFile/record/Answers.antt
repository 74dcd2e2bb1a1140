-- Goals of `FormedFile::record` (src/formed.rt).
use Rattle.std.proofs.Common.{Some, ap, sym, ◌∙◌, arith}
use Rattle.mw_record.specs.Records.{record_at, body_at}
use Rattle.mw_record.proofs.ReadBytes.{record_open, record_shut, length_body}
use Rattle.mw_record.proofs.TestsBelow.{few_entries, formed_at}
use Rattle.mw_record.proofs.formed.FormedFile.record.Goals as goal

pub new-requires-clause-few : goal.new-requires-clause-few
new-requires-clause-few c =
    let file = c.args.self.now in
    let is_open = record_open file.layout file.bytes.now file.words c.args.place c.place_at-at.result c.place_at-at.ensures c.if-self-at.true in
    let few = few_entries file.layout file.words (body_at file.bytes.now c.place_at-at.result) (formed_at file.layout file.words file.places c.args.place (record_at file.layout file.bytes.now file.words) _ file.formed c.requires is_open) in
    omega (arith, few, length_body file.bytes.now c.place_at-at.result)

pub returns-then-self-at : goal.returns-then-self-at
returns-then-self-at c =
    let file = c.args.self.now in
    ap Some c.new.ensures ∙ sym (record_open file.layout file.bytes.now file.words c.args.place c.place_at-at.result c.place_at-at.ensures c.if-self-at.true)

pub returns-else-self-at : goal.returns-else-self-at
returns-else-self-at c =
    let file = c.args.self.now in
    sym (record_shut file.layout file.bytes.now file.words c.args.place c.place_at-at.result c.place_at-at.ensures c.if-self-at.false)
