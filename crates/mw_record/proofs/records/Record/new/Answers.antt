-- Goals of `Record::new` (src/records.rt).
use Rattle.std.proofs.Common.{ℕ, ◌+◌, ◌-◌, length, slice_index, arith}
use Rattle.mw_record.specs.Records.{body_at}
use Rattle.mw_record.proofs.ReadBytes.{pairs_in_part}
use Rattle.mw_record.proofs.records.Record.new.Goals as goal

-- the entries in the part of the bytes that is kept are those of the place
pub returns : goal.returns
unfolding body_at
returns c =
    let bytes = c.args.bytes.now in
    let n : ℕ = slice_index bytes (c.args.at + 1) in
    pairs_in_part bytes (c.args.at + 8) (length bytes - (c.args.at + 8)) n (omega (arith, c.requires.whole, c.requires.few))
