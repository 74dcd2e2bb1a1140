-- The loop invariant of `are_formed` (src/formed.rt).
use Rattle.std.proofs.Common.{◌≡◌, true}
use Rattle.mw_record.specs.Records as spec
use Rattle.mw_record.proofs.formed.are_formed.Given as goal

-- the records of the places so far are well formed
abbrev pub invariant-loop-place : goal.invariant-loop-place
invariant-loop-place l = spec.are_formed l.layout l.words (spec.record_at l.layout l.bytes l.words) l.place ≡ true
