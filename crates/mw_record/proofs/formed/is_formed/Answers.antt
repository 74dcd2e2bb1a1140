-- Goals of `is_formed` (src/formed.rt).
use Rattle.std.proofs.Common.{◌≡◌, ◌&&◌, true, false, nat_le, length, ap, sym, ◌∙◌}
use Rattle.mw_record.specs.Layout.{most_entries}
use Rattle.mw_record.specs.Records.{Pairs, body_at, is_formed, rises_below}
use Rattle.mw_record.proofs.ReadBytes.{record_open, record_shut, length_body}
use Rattle.mw_record.proofs.formed.is_formed.Goals as goal

pub returns-then-bytes-at : goal.returns-then-bytes-at
returns-then-bytes-at c =
    sym (ap (is_formed c.args.layout c.args.words) (record_shut c.args.layout c.args.bytes.now c.args.words c.args.place c.place_at-at.result c.place_at-at.ensures c.if-bytes-at.true))

pub returns-then-is_record_len : goal.returns-then-is_record_len
returns-then-is_record_len c =
    let pairs : Pairs = body_at c.args.bytes.now c.place_at-at.result in
    let e = record_open c.args.layout c.args.bytes.now c.args.words c.args.place c.place_at-at.result c.place_at-at.ensures c.if-bytes-at.false in
    let few : (nat_le 1 (length pairs) && nat_le (length pairs) (most_entries c.args.layout)) ≡ true =
    ap (λ n. nat_le 1 n && nat_le n (most_entries c.args.layout)) (length_body c.args.bytes.now c.place_at-at.result) ∙ sym c.is_record_len.ensures ∙ c.if-is_record_len.true in
    c.rises_below.ensures ∙ ap (λ ps. rises_below c.args.words 0 ps) c.new.ensures
    ∙ sym (ap (λ b. b && rises_below c.args.words 0 pairs) few)
    ∙ sym (ap (is_formed c.args.layout c.args.words) e)

pub returns-else-is_record_len : goal.returns-else-is_record_len
returns-else-is_record_len c =
    let pairs : Pairs = body_at c.args.bytes.now c.place_at-at.result in
    let e = record_open c.args.layout c.args.bytes.now c.args.words c.args.place c.place_at-at.result c.place_at-at.ensures c.if-bytes-at.false in
    let few : (nat_le 1 (length pairs) && nat_le (length pairs) (most_entries c.args.layout)) ≡ false =
    ap (λ n. nat_le 1 n && nat_le n (most_entries c.args.layout)) (length_body c.args.bytes.now c.place_at-at.result) ∙ sym c.is_record_len.ensures ∙ c.if-is_record_len.false in
    c.if-is_record_len.false
    ∙ sym (ap (λ b. b && rises_below c.args.words 0 pairs) few)
    ∙ sym (ap (is_formed c.args.layout c.args.words) e)
