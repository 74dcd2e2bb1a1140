-- Goals of `body` (src/written.rt).
use Rattle.std.proofs.Common.{◌≡◌, ◌+◌, ◌*◌, ◌<◌, List, ◌∷◌, length, get_or, replicate, refl, ap, ◌∙◌, arith}
use Rattle.mw_words.specs.declared.limits.TheConstants.{MAX_ENTRIES}
use Rattle.mw_words.specs.declared.jobs.Entry.{Entry}
use Rattle.mw_record.specs.Layout.{number_bytes, patched}
use Rattle.mw_record.proofs.WrittenBytes.{written_more}
use Rattle.mw_record.proofs.written.body.Goals as goal

-- the entry of this turn goes after those that were written
pub loop-i-preserved : goal.loop-i-preserved
loop-i-preserved c =
    let es : List Entry = c.args.entries.now.items in
    let nothing : Entry = record { addr = 0; expected = 0; new = 0 } in
    let same : c.deref-entry-items.result.now ≡ es = c.deref-entry-items.ensures.0 in
    let e : Entry = get_or es c.loop-i.i nothing in
    let lt : c.loop-i.i < length es = omega (arith, ap length same) in
    let few : c.loop-i.i < MAX_ENTRIES = omega (arith, ap length same, c.deref-entry-items.ensures.1) in
    let addr : c.from.result ≡ e.addr = c.from.ensures ∙ ap (λ xs. (get_or xs c.loop-i.i nothing).addr) same in
    let new : (get_or c.deref-entry-items.result.now c.loop-i.i nothing).new ≡ e.new = ap (λ xs. (get_or xs c.loop-i.i nothing).new) same in
    let done = written_more MAX_ENTRIES (length es ∷ replicate 6 0) es c.loop-i.i nothing e c.loop-i.body refl lt few refl c.loop-i.invariant in
    c.write_number-in-loop-i.ensures
    ∙ ap (λ n. patched c.write_number.new.out ((7 + 16 * c.loop-i.i) + 8) (number_bytes 8 n)) new
    ∙ ap (λ xs. patched xs ((7 + 16 * c.loop-i.i) + 8) (number_bytes 8 e.new)) (c.write_number.ensures ∙ ap (λ n. patched c.loop-i.body (7 + 16 * c.loop-i.i) (number_bytes 8 n)) addr)
    ∙ done
