-- Loop invariants of `borrowers_for` (src/services.rt).
use Rattle.std.proofs.Common.{◌≡◌, length}
use Rattle.mw_programs.proofs.services.borrowers_for.Given as goal

-- there is a borrower for each client so far
abbrev pub invariant-loop : goal.invariant-loop
invariant-loop g l = record { count : length l.made.items ≡ l.counter }
