-- Defines the facts of a disk of which only the number of its failed calls is known, as of a real file: contracts promise
-- nothing of its bytes.
-- Used by: src/file.rt. A new field of Facts needs its value here.
use Rattle.std.specs.Prelude.{ℕ, false, None, []}
use Rattle.mw_disk.specs.Facts.{Facts}

abbrev pub unknown : ℕ → Facts
unknown faults = record {
  reads = [];
  moment = 0;
  image = λ k c. ⊥;
  honest = false;
  outcomes = [];
  faults = faults;
  refused = 0;
  plan = λ k. None;
}
