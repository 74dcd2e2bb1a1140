-- Goals of `Record::entry` (src/records.rt).
use Rattle.std.proofs.Common.{◌≡◌, ℕ, ◌+◌, ◌*◌, ◌<◌, Some, slice_get, ap, ◌∙◌, sym, length, arith, zero-add}
use Rattle.std.proofs.lemmas.Option.{slice_get-get_or}
use Rattle.mw_record.specs.Layout.{number_at}
use Rattle.mw_record.specs.Records.{pairs_at}
use Rattle.mw_record.proofs.ReadBytes.{length_pairs, pair_at}
use Rattle.mw_record.proofs.records.Record.entry.Goals as goal

-- the two numbers of an entry
pub returns : goal.returns
returns c =
    let bytes = c.self.inside.bytes.now in
    let n : ℕ = c.self.inside.count in
    let i : ℕ = c.args.i in
    let is : pairs_at bytes 0 n ≡ c.args.self.now = c.self.view_is in
    let lt : i < n = omega (arith, c.requires, ap length is, length_pairs bytes 0 n) in
    let within : i < length (pairs_at bytes 0 n) = omega (arith, lt, length_pairs bytes 0 n) in
    let read : (number_at bytes (16 * i) 8, number_at bytes (16 * i + 8) 8) ≡ (c.read_number.result, c.read_number-2.result) = cc in
    ap (λ xs. slice_get xs i) (sym is)
    ∙ slice_get-get_or (pairs_at bytes 0 n) i (0, 0) within
    ∙ ap Some (pair_at bytes 0 n i (0, 0) lt ∙ ap (λ a. (number_at bytes a 8, number_at bytes (a + 8) 8)) (zero-add (16 * i)) ∙ read)
