-- Goals of `SizedFile::value_byte` (src/sized.rt).
use Rattle.std.proofs.Common.{ap, length, arith}
use Rattle.mwshow.proofs.Parts.{length-first_homes}
use Rattle.mwshow.proofs.sized.SizedFile.value_byte.Goals as goal

-- the file without its home words is as long
pub invariant_of-records : goal.invariant_of-records
invariant_of-records c =
    let file = c.args.self.now in
    let long = length-first_homes file.at file.words 0 file.bytes.now (omega arith) (omega (arith, file.sized.whole)) in
    record {
      sized = record {
        begins = file.sized.begins;
        sizes = file.sized.sizes;
        whole = omega (arith, file.sized.whole, long, ap length c.in_ok-records.ensures, ap length c.deref.ensures.value);
      };
    }
