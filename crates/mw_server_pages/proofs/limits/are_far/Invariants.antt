-- Loop invariants of `are_far` (src/limits.rt).
use Rattle.std.proofs.Common.{◌≡◌, drop}
use Rattle.std.specs.List.{list_all}
use Rattle.mw_server_pages.specs.Limits.{is_far}
use Rattle.mw_server_pages.proofs.limits.are_far.Given as goal

-- those so far are so, hence all are if those that are left are
abbrev pub invariant-loop-limit : goal.invariant-loop-limit
invariant-loop-limit l = record { left : list_all is_far (drop l.limit-index l.limits) ≡ list_all is_far l.limits }
